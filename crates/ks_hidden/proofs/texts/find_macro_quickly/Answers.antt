use Rattle.std.proofs.Common.{subst}
use Rattle.std.specs.Prelude.{codes}
use Rattle.memchr.specs.Find.{OccursAt}
use Rattle.ks_hidden.specs.Texts.{IsLeast}
use Rattle.ks_hidden.proofs.TextLemmas.{no_macro}
use Rattle.ks_hidden.proofs.texts.find_macro_quickly.Goals as goal

pub returns-in-None : goal.returns-in-None
returns-in-None c = no_macro c.args.text.now (subst (IsLeast (OccursAt c.args.text.now (codes "__"))) c.in-None.is c.find.ensures)
