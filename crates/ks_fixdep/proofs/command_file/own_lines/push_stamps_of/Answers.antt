use Rattle.ks_fixdep.proofs.Prelude.{ap, ◌∙◌, ◌++◌, [], ended, take_more}
use Rattle.ks_fixdep.specs.OwnLines.{stamp_line_of}
use Rattle.ks_fixdep.proofs.CommandWriteLemmas.{one-line}
use Rattle.ks_fixdep.proofs.command_file.own_lines.push_stamps_of.Goals as goal

pub loop-name-preserved : goal.loop-name-preserved
loop-name-preserved c =
    one-line (stamp_line_of c.args.tree.now) _ [] _ _ _ _ _ c.loop-name.invariant (take_more c.args.names.now c.loop-name.name-index c.name-item.result c.loop-name-test.true)
    (c.in_ok-push_stamp_of.ensures ∙ ap (λ x. c.loop-name.out.items ++ ended (stamp_line_of c.args.tree.now x)) (c.as_bytes.ensures.value ∙ c.name-item.is))
