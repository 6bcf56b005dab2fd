use Rattle.ks_fixdep.proofs.Prelude.{arith, common_steps}
use Rattle.ks_fixdep.proofs.StreamLemmas.{head-whole, piece-fits, piece-prefix, piece-kept, piece-borrows, word-kept, word-borrows}
use Rattle.ks_fixdep.proofs.scanner.Scanner.feed.Goals as goal

pub returns-then-head-piece : goal.returns-then-head-piece
returns-then-head-piece c = grind (arith, common_steps, head-whole, word-kept, word-borrows)

pub starting_at-requires-2 : goal.starting_at-requires-2
starting_at-requires-2 c = grind (arith, common_steps, piece-prefix, piece-fits)

pub returns : goal.returns
returns c = grind (arith, common_steps, piece-prefix, piece-kept, piece-borrows)
