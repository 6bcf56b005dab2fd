use Rattle.ks_commands.proofs.Prelude.{Some, seen_texts, refl}
use Rattle.ks_requests.specs.Inputs.{source_at}
use Rattle.ks_commands.proofs.tree_status.named_inputs.Goals as goal

pub returns-clause-read : goal.returns-clause-read
returns-clause-read g c = λ honest. (
  Some (source_at c.args.dialect c.in-Some.config.form (seen_texts c.in_ok-texts.texts)),
  rw (c.in-Some.is, c.in_ok-texts.ensures.texts honest) refl,
  rw (← c.config.ensures) c.in_ok-read_inputs.ensures.read,
)
