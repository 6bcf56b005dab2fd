use Rattle.ks_fixdep.proofs.Prelude.{arith, common_steps, fold-append, on_ok_weaker}
use Rattle.ks_fixdep.proofs.NameLemmas.{names-longer}
use Rattle.ks_fixdep.proofs.source_scan.SourceScan.feed.Goals as goal

pub returns-clause-stands : goal.returns-clause-stands
returns-clause-stands c = λ t stands.
    let longer = names-longer t c.args.piece.now _ _ (c.feed-fed.ensures.borrows t stands.word) in
    let word = c.feed-fed.follows.holds-at-none t stands.word in
    grind (arith, common_steps, longer, word, fold-append, on_ok_weaker)
