use Rattle.std.proofs.Common.{◌≡◌, Some, arith, refl, rules}
use Rattle.std.proofs.lemmas.Grind.{common_steps}
use Rattle.ks_hidden.specs.Texts.{included_macro}
use Rattle.ks_hidden.proofs.TextLemmas.{noted}
use Rattle.ks_hidden.proofs.texts.note_include.Goals as goal

pub returns-then-not-is_computed_line-clause-noted : goal.returns-then-not-is_computed_line-clause-noted
unfolding included_macro
returns-then-not-is_computed_line-clause-noted c = λ name. grind (arith, common_steps, c.is_computed_line.ensures, c.if-not-is_computed_line.true)

pub returns-clause-noted : goal.returns-clause-noted
returns-clause-noted c = λ name.
    let all = noted name c.args.included.now.keys c.in_ok-to_vec.field-0 in
    let is : included_macro c.args.line.now ≡ Some c.in-Some.name.now = search rules in
    let items : c.in_ok-to_vec.field-0.items ≡ c.in-Some.name.now = search rules in
    rw (c.in_ok-insert.ensures.keys, all, is, items) refl
