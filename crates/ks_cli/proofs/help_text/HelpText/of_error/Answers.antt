use Rattle.ks_cli.proofs.Prelude.{◌∙◌, ap}
use Rattle.ks_cli.proofs.ArgLemmas.{page_visible}
use Rattle.ks_cli.specs.Args.{is_visible}
use Rattle.ks_cli.proofs.help_text.HelpText.of_error.Goals as goal

pub returns-in_ok-page_of-in-Some-clause-text : goal.returns-in_ok-page_of-in-Some-clause-text
returns-in_ok-page_of-in-Some-clause-text c = ap is_visible c.in_ok-page_of-in-Some.ensures ∙ page_visible _
