use Rattle.ks_fixdep.proofs.Prelude.{subst, FindsNeedle}
use Rattle.ks_fixdep.proofs.prefix_finder.PrefixFinder.find.Goals as goal

pub returns : goal.returns
returns c = subst (λ n. FindsNeedle c.args.text.now n 0 c.find.result) c.before.before.before.args.self.now.searches c.find.ensures
