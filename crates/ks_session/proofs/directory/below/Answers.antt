use Rattle.std.proofs.Common.{◌≡◌, ◌==◌, ◌∙◌, List, ℕ, ap, append_assoc, codes, false, length, nat_eq, rules, sym}
use Rattle.std.specs.List.{starts_with}
use Rattle.ks_session.proofs.directory.below.Goals as goal

pub returns : goal.returns
returns c =
    let inside : (length c.args.directory.now == 0) ≡ false = sym c.is_empty.ensures ∙ c.if-is_empty.false in
    let relative : starts_with nat_eq c.args.dir.now (codes "/") ≡ false
    = ap (λ (d : List ℕ). starts_with nat_eq d (codes "/")) (sym c.as_bytes.ensures.value) ∙ sym c.starts_with.ensures.value ∙ c.if-starts_with.false in
    rw (inside, relative, append_assoc) (search rules)
