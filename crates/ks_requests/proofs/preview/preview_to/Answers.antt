use Rattle.ks_requests.proofs.Prelude.{rules}
use Rattle.ks_requests.proofs.preview.preview_to.Goals as goal

pub returns-in-Ok-clause-written : goal.returns-in-Ok-clause-written
returns-in-Ok-clause-written g c = search rules
