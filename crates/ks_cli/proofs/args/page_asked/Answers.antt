use Rattle.ks_cli.proofs.Prelude.{subst, IsPageOf}
use Rattle.ks_cli.proofs.args.page_asked.Goals as goal

pub returns-in-Ok : goal.returns-in-Ok
returns-in-Ok c = (subst (λ arg. IsPageOf arg c.in-Ok.help) c.text_of.ensures c.in-Ok.ensures.page, c.in-Ok.ensures.text)
