use Rattle.ks_output.proofs.BlocksAlike.{blocks_are_configuration, blocks_define_alike, entries_are_lines}
use Rattle.ks_output.proofs.laws.blocks_are_defined_alike.Goals as goal

pub returns : goal.returns
returns c = record { configuration = blocks_are_configuration; entries = entries_are_lines; alike = blocks_define_alike }
