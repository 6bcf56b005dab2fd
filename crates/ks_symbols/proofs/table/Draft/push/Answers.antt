use Rattle.ks_symbols.proofs.Prelude.{◌≡◌, ◌+◌, length, ◌++◌, List, ℕ, option_map, sym, ap, subst, ◌∙◌, arith, length-append, AreHeaded, stated_in, after_line, after_lines, rules}
use Rattle.std.proofs.Common.{map as map_list}
use Rattle.std.specs.FinMap as map
use Rattle.ks_symbols.proofs.LastOnes.{after_push}
use Rattle.ks_symbols.proofs.Records.{lie_more, lie_push, stated_pushed}
use Rattle.ks_symbols.proofs.Heads.{headed_more, headed_line, headed_push}
use Rattle.ks_symbols.proofs.table.Draft.push.Given as given
use Rattle.ks_symbols.proofs.table.Draft.push.Goals as goal
use Rattle.ks_symbols.proofs.table.Draft.push.Goals.{After-len-end}

-- what was appended, and the three places that were noted
module _ (g : given.Over) (c : After-len-end g) where
  bytes : c.extend_from_slice-2.new.self.items ≡ (c.self.inside.bytes.items ++ c.args.name.now) ++ c.args.text.now
  bytes = c.in_ok-extend_from_slice-2.ensures.items ∙ ap (λ (l : List ℕ). l ++ c.args.text.now) c.in_ok-extend_from_slice.ensures.items

  long : length c.extend_from_slice-2.new.self.items ≡ length c.self.inside.bytes.items + length c.args.name.now + length c.args.text.now
  long =
      ap length bytes
      ∙ length-append (c.self.inside.bytes.items ++ c.args.name.now) c.args.text.now
      ∙ ap (λ n. n + length c.args.text.now) (length-append c.self.inside.bytes.items c.args.name.now)

  start : c.len-start.result ≡ length c.self.inside.bytes.items
  start = search rules

  middle : c.len-middle.result ≡ length c.self.inside.bytes.items + length c.args.name.now
  middle = search (rules, length-append)

  end : c.len-end.result ≡ length c.self.inside.bytes.items + length c.args.name.now + length c.args.text.now
  end = search (rules, long)

pub invariant_of-self : goal.invariant_of-self
invariant_of-self g c = rw (c.in_err-extend_from_slice.ensures.items) c.self.invariant

pub invariant_of-self-in_err-extend_from_slice-2 : goal.invariant_of-self-in_err-extend_from_slice-2
invariant_of-self-in_err-extend_from_slice-2 g c =
    let old = c.self.inside.bytes.items in
    let name = c.args.name.now in
    let rs = c.self.inside.records.items in
    rw (c.in_err-extend_from_slice-2.ensures.items, c.in_ok-extend_from_slice.ensures.items) (
      lie_more (length old) _ rs (omega (arith, length-append old name)) c.self.invariant.0,
      headed_more old name rs c.self.invariant.0 c.self.invariant.1,
    )

pub invariant_of-self-in_err-push : goal.invariant_of-self-in_err-push
invariant_of-self-in_err-push g c =
    let old = c.self.inside.bytes.items in
    let rs = c.self.inside.records.items in
    let here = (goal.at.invariant_of-self-in_err-push g c).After-len-end in
    rw (c.in_err-push.ensures.items) (
      lie_more (length old) _ rs (omega (arith, long g here)) c.self.invariant.0,
      subst (λ (b : List ℕ). AreHeaded b rs) (sym (bytes g here))
          (headed_line old c.args.name.now c.args.text.now rs c.self.invariant.0 c.self.invariant.1),
    )

pub invariant_of-self-2 : goal.invariant_of-self-2
invariant_of-self-2 g c =
    let old = c.self.inside.bytes.items in
    let rs = c.self.inside.records.items in
    let n = length c.extend_from_slice-2.new.self.items in
    let here = (goal.at.invariant_of-self-2 g c).After-len-end in
    rw (c.in_ok-push.ensures.items) (
      lie_push n rs _ (lie_more (length old) n rs (omega (arith, long g here)) c.self.invariant.0)
          (omega (arith, long g here, middle g here)) (omega (arith, long g here, end g here)),
      headed_push old c.args.name.now c.args.text.now _ rs _ (bytes g here) c.self.invariant.0 c.self.invariant.1 (start g here) (middle g here)
          c.head_of.ensures,
    )

pub returns : goal.returns
returns g c =
    let old = c.self.inside.bytes.items in
    let name = c.args.name.now in
    let text = c.args.text.now in
    let rs = c.self.inside.records.items in
    let here = (goal.at.returns g c).After-len-end in
    rw (bytes g here, c.in_ok-push.ensures.items)
    (ap (after_lines map.empty) (stated_pushed old name text rs _ c.self.invariant.0 (start g here) (middle g here) (end g here))
    ∙ after_push map.empty (map_list (stated_in old) rs) (name, option_map (λ v. (v, text)) c.args.value)
    ∙ ap (λ m. after_line m name (option_map (λ v. (v, text)) c.args.value)) c.self.view_is)
