use Rattle.ks_fixdep.proofs.Prelude.{◌+◌, ◌++◌, ◌-◌, drop, take, arith, common_steps, length, drop_all, take_rest, option_copied, names_left, names_after, placed, ◌≡◌}
use Rattle.ks_fixdep.proofs.ScanLemmas.{names_after-none, names_after-turn, names_after-nowhere}
use Rattle.ks_fixdep.proofs.name_iter.NameIter.next_by.Goals as goal
use Rattle.ks_fixdep.proofs.name_iter.NameIter.next_by.Goals.{After-name_at}

-- a turn takes the name at the next place from what was left
turned : (c : After-name_at) → (let end = c.loop-skipped.self.next_place + c.in-Some.skipped + 7 + length c.leading_word-run.result.now in
    names_left c.loop-skipped.self
    ≡ placed (c.loop-skipped.self.next_place + c.in-Some.skipped) (option_copied c.name_at.result) ++ names_after 0 end (drop end c.loop-skipped.self.text.now))
turned c =
    let t = c.loop-skipped.self.text.now in
    let i = c.loop-skipped.self.next_place in
    let k = c.in-Some.skipped in
    names_after-turn t (take (length t - i) (drop i t)) (take (length t - (i + k + 7)) (drop (i + k + 7) t)) c.leading_word-run.result.now i k
    (option_copied c.name_at.result) (take_rest t i) (take_rest t (i + k + 7)) c.in-Some.ensures c.leading_word-run.ensures.word c.name_at.ensures

pub returns-in-Some-name_at : goal.returns-in-Some-name_at
returns-in-Some-name_at c = let turn = turned (goal.at.returns-in-Some-name_at c).After-name_at in grind (arith, common_steps, turn)

pub loop-skipped-preserved : goal.loop-skipped-preserved
loop-skipped-preserved c = let turn = turned (goal.at.loop-skipped-preserved c).After-name_at in grind (arith, common_steps, turn)

pub returns : goal.returns
returns c =
    let nowhere = names_after-nowhere _ c.loop-skipped.self.next_place c.in_default.ensures in
    grind (arith, common_steps, take_rest, drop_all, names_after-none, nowhere)
