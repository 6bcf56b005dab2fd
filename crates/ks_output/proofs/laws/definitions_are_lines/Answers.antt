use Rattle.ks_output.proofs.Definitions.{definitions_are_lines}
use Rattle.ks_output.proofs.laws.definitions_are_lines.Goals as goal

pub returns : goal.returns
returns c = definitions_are_lines
