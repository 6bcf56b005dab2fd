use Rattle.ks_tree.proofs.Prelude.{rules}
use Rattle.ks_tree.proofs.PathLemmas.{border_slash, border_other}
use Rattle.ks_tree.proofs.paths.directory_len.Goals as goal
use Rattle.ks_tree.proofs.paths.directory_len.Goals.{then-byte-eq47, else-byte-eq47}

pub loop-i-preserved : goal.loop-i-preserved
loop-i-preserved c = search (rules, then-byte-eq47, border_slash, else-byte-eq47, border_other)
