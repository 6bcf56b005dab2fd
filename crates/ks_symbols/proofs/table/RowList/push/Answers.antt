use Rattle.ks_symbols.proofs.Prelude.{◌≡◌, ◌+◌, length, ◌++◌, [], ◌∷◌, List, ℕ, ap, ◌∙◌, arith, length-append, rules}
use Rattle.ks_symbols.proofs.Records.{lie_more, lie_push, entry_pushed}
use Rattle.ks_symbols.proofs.table.RowList.push.Given as given
use Rattle.ks_symbols.proofs.table.RowList.push.Goals as goal
use Rattle.ks_symbols.proofs.table.RowList.push.Goals.{After-len-end}

-- what was appended, and the three places that were noted
module _ (g : given.Over) (c : After-len-end g) where
  bytes : c.extend_from_slice-2.new.self.items ≡ (c.self.inside.bytes.items ++ c.args.name.now) ++ c.args.text.now
  bytes = c.in_ok-extend_from_slice-2.ensures.items ∙ ap (λ (l : List ℕ). l ++ c.args.text.now) c.in_ok-extend_from_slice.ensures.items

  long : length c.extend_from_slice-2.new.self.items ≡ length c.self.inside.bytes.items + length c.args.name.now + length c.args.text.now
  long =
      ap length bytes
      ∙ length-append (c.self.inside.bytes.items ++ c.args.name.now) c.args.text.now
      ∙ ap (λ n. n + length c.args.text.now) (length-append c.self.inside.bytes.items c.args.name.now)

  start : c.len-start.result ≡ length c.self.inside.bytes.items
  start = search rules

  middle : c.len-middle.result ≡ length c.self.inside.bytes.items + length c.args.name.now
  middle = search (rules, length-append)

  end : c.len-end.result ≡ length c.self.inside.bytes.items + length c.args.name.now + length c.args.text.now
  end = search (rules, long)

pub invariant_of-self-in_err-extend_from_slice-2 : goal.invariant_of-self-in_err-extend_from_slice-2
invariant_of-self-in_err-extend_from_slice-2 g c =
    let old = c.self.inside.bytes.items in
    rw (c.in_err-extend_from_slice-2.ensures.items, c.in_ok-extend_from_slice.ensures.items)
    (lie_more (length old) _ c.self.inside.records.items (omega (arith, length-append old c.args.name.now)) c.self.invariant)

pub invariant_of-self-in_err-push : goal.invariant_of-self-in_err-push
invariant_of-self-in_err-push g c =
    let here = (goal.at.invariant_of-self-in_err-push g c).After-len-end in
    rw (c.in_err-push.ensures.items) (lie_more (length c.self.inside.bytes.items) _ c.self.inside.records.items (omega (arith, long g here)) c.self.invariant)

pub invariant_of-self-2 : goal.invariant_of-self-2
invariant_of-self-2 g c =
    let rs = c.self.inside.records.items in
    let n = length c.extend_from_slice-2.new.self.items in
    let here = (goal.at.invariant_of-self-2 g c).After-len-end in
    rw (c.in_ok-push.ensures.items)
    (lie_push n rs _ (lie_more (length c.self.inside.bytes.items) n rs (omega (arith, long g here)) c.self.invariant)
    (omega (arith, long g here, middle g here)) (omega (arith, long g here, end g here)))

pub returns : goal.returns
returns g c =
    let here = (goal.at.returns g c).After-len-end in
    rw (bytes g here, c.in_ok-push.ensures.items)
    (entry_pushed c.self.inside.bytes.items c.args.name.now c.args.text.now c.self.inside.records.items _ c.self.invariant (start g here) (middle g here) (end g here)
    ∙ ap (λ l. l ++ (c.args.name.now, (c.args.value, c.args.text.now)) ∷ []) c.self.view_is)
