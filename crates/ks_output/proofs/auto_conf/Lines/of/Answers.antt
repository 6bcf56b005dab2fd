use Rattle.ks_output.proofs.Prelude.{ap, remark}
use Rattle.std.proofs.Common.{map as map_list}
use Rattle.ks_output.proofs.auto_conf.Lines.of.Goals as goal

pub returns-clause-left : goal.returns-clause-left
returns-clause-left c = ap (map_list remark) c.lines_with_terminator.ensures.value
