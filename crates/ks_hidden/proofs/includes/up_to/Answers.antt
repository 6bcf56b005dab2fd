use Rattle.std.proofs.Common.{ap, arith, sym, take}
use Rattle.memchr.specs.Find.{is_byte2}
use Rattle.std.proofs.lemmas.Grind.{common_steps}
use Rattle.ks_hidden.proofs.IncludeLemmas.{first_ends, none_ends}
use Rattle.ks_hidden.proofs.includes.up_to.Goals as goal

pub returns-in-Some : goal.returns-in-Some
returns-in-Some c = let text = c.args.text.now in ap (λ n. take n text) (sym (first_ends (is_byte2 c.args.close 10) text c.in-Some.place c.in-Some.ensures))

pub returns-in-None : goal.returns-in-None
returns-in-None c = let ends = none_ends (is_byte2 c.args.close 10) c.args.text.now c.in-None.ensures in grind (arith, common_steps, ends)
