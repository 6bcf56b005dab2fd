use Rattle.ks_output.proofs.BlockSteps.{named_statement}
use Rattle.ks_output.proofs.blocks.said.Goals as goal

pub returns-clause-named : goal.returns-clause-named
returns-clause-named c = named_statement _ _ c.parse_statement.ensures
