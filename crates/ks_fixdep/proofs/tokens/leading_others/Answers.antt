use Rattle.ks_fixdep.proofs.Prelude.{◌+◌, ◌-◌, take, drop, length-drop, length-take-le, arith, cases_lt, AllPass-from_list_all, prefix_len_is, is_other, common_steps}
use Rattle.std.proofs.lemmas.List.{get_or-take, get_or-drop}
use Rattle.ks_fixdep.proofs.tokens.leading_others.Goals as goal

pub loop-end-preserved : goal.loop-end-preserved
loop-end-preserved c =
    let text = c.args.text.now in
    let end = c.loop-end.end in
    let passes = AllPass-from_list_all is_other (take (end + 16 - end) (drop end text)) (c.are_plain.ensures c.if-are_plain.true) in (
      omega (arith, c.loop-end-test.true, c.loop-end.invariant.0),
      λ k below. (let at = passes (k - end) 0 in grind (arith, common_steps, length-take-le, length-drop, get_or-take, get_or-drop, cases_lt, at)),
    )

pub returns-else-not-separates-clause-count : goal.returns-else-not-separates-clause-count
returns-else-not-separates-clause-count c = grind (arith, common_steps, prefix_len_is)

pub returns-after-loop-end-2-clause-count : goal.returns-after-loop-end-2-clause-count
returns-after-loop-end-2-clause-count c = let is = prefix_len_is is_other c.args.text.now c.loop-end-2.end 0 in grind (arith, common_steps, is)
