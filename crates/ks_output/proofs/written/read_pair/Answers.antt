use Rattle.ks_output.proofs.Prelude.{rules}
use Rattle.ks_output.specs.Written.{written}
use Rattle.ks_output.proofs.WrittenAlike.{accepted_is_configuration}
use Rattle.ks_output.proofs.written.read_pair.Goals as goal

pub returns-clause-read : goal.returns-clause-read
unfolding written
returns-clause-read c = search rules

pub finish-requires : goal.finish-requires
unfolding written
finish-requires c = (accepted_is_configuration c.args.auto.now c.args.header.now _ (search rules)).1
