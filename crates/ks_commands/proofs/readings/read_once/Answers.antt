use Rattle.ks_commands.proofs.Prelude.{◌∙◌, ap, map, sym}
use Rattle.ks_commands.proofs.readings.read_once.Goals as goal

pub returns-clause-reported : goal.returns-clause-reported
returns-clause-reported g c = rw (sym (ap (map (λ t. t.now)) c.as_slice-objects.ensures.keys ∙ c.in_ok-once.ensures)) c.read_objects.ensures.reported
