use Rattle.ks_output.proofs.WrittenByConf.{conf_is_accepted, quoted_is_raw}
use Rattle.ks_output.proofs.laws.conf_is_accepted.Goals as goal

pub returns : goal.returns
returns c = record { accepted = conf_is_accepted; quoted = quoted_is_raw }
