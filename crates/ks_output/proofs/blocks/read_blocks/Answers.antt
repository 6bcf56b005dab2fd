use Rattle.ks_output.proofs.Prelude.{rules}
use Rattle.ks_output.specs.Blocks.{blocks_written}
use Rattle.ks_output.proofs.BlocksAlike.{blocks_are_configuration}
use Rattle.ks_output.proofs.blocks.read_blocks.Goals as goal

pub returns-clause-read : goal.returns-clause-read
unfolding blocks_written
returns-clause-read c = search rules

pub finish-requires : goal.finish-requires
unfolding blocks_written
finish-requires c = (blocks_are_configuration c.args.config.now c.args.header.now _ (search rules)).1
