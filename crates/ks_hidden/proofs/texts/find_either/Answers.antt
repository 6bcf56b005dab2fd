use Rattle.std.proofs.Common.{subst}
use Rattle.memchr.specs.Find.{OccursAt}
use Rattle.ks_hidden.specs.Texts.{IsLeast}
use Rattle.ks_hidden.proofs.TextLemmas.{either_none, least_of_both}
use Rattle.ks_hidden.proofs.texts.find_either.Goals as goal

pub returns-in-Some : goal.returns-in-Some
returns-in-Some c = least_of_both _ _ _ _ _ c.lesser.ensures c.find-in-Some.ensures c.find-in-Some-2.ensures

pub returns-in-None : goal.returns-in-None
returns-in-None c =
    let text = c.args.text.now in
    either_none text _ _ _ c.requires.one c.requires.other (subst (IsLeast (OccursAt text c.args.front.now)) c.in-None.is c.find.ensures)
