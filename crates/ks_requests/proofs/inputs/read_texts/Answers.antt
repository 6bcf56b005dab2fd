use Rattle.ks_requests.proofs.Prelude.{[], inr, is_path, refl}
use Rattle.ks_requests.proofs.ReadingLemmas.{one_read}
use Rattle.ks_requests.proofs.inputs.read_texts.Goals as goal

pub returns-in_err-dotconfig-clause-no_other : goal.returns-in_err-dotconfig-clause-no_other
returns-in_err-dotconfig-clause-no_other g c = inr (
  c.read_given.new.tree,
  c.in_ok-kconfig.ensures.once,
  one_read g.T.Reading.reads (is_path c.args.dotconfig.now) c.read_given.new.tree c.read_given-2.new.tree c.args.dotconfig.now []
      c.read_given-2.ensures.asked,
)

pub returns-clause-once : goal.returns-clause-once
returns-clause-once g c = (c.read_given.new.tree, c.in_ok-kconfig.ensures.once, (c.read_given-2.new.tree, c.in_ok-dotconfig.ensures.once, refl))

pub returns-clause-no_other : goal.returns-clause-no_other
returns-clause-no_other g c =
    inr (c.read_given.new.tree, c.in_ok-kconfig.ensures.once, inr (c.read_given-2.new.tree, c.in_ok-dotconfig.ensures.once, refl))
