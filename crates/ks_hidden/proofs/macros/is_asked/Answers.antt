use Rattle.std.proofs.Common.{◌∙◌, ap}
use Rattle.ks_hidden.specs.Arguments.{ends_with_one}
use Rattle.ks_hidden.specs.Macros.{is_asked, questions}
use Rattle.ks_hidden.proofs.macros.is_asked.Goals as goal

pub returns : goal.returns
unfolding is_asked
returns c = c.ends_with_one.ensures ∙ ap (ends_with_one questions) c.trimmed.ensures
