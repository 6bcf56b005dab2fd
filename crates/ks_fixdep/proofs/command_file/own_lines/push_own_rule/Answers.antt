use Rattle.ks_fixdep.proofs.Prelude.{ap, ◌∙◌, ◌++◌, ended, take_more}
use Rattle.ks_fixdep.specs.OwnLines.{own_stamp_line}
use Rattle.ks_fixdep.proofs.CommandWriteLemmas.{one-line}
use Rattle.ks_fixdep.proofs.command_file.own_lines.push_own_rule.Goals as goal

pub loop-name-preserved : goal.loop-name-preserved
loop-name-preserved c =
    one-line own_stamp_line _ _ _ _ _ _ _ c.loop-name.invariant (take_more c.args.names.now c.loop-name.name-index c.name-item.result c.loop-name-test.true)
    (c.in_ok-push_own_stamp.ensures ∙ ap (λ x. c.loop-name.out.items ++ ended (own_stamp_line x)) (c.as_bytes.ensures.value ∙ c.name-item.is))
