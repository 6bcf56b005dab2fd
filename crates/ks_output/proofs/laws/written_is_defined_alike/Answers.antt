use Rattle.ks_output.proofs.WrittenAlike.{accepted_is_configuration, headers_define_alike}
use Rattle.ks_output.proofs.laws.written_is_defined_alike.Goals as goal

pub returns : goal.returns
returns c = record { configuration = accepted_is_configuration; alike = headers_define_alike }
