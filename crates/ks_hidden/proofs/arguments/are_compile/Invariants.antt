use Rattle.std.proofs.Common.{◌≡◌, codes, drop}
use Rattle.ks_hidden.specs.Arguments.{is_one_of}
use Rattle.ks_hidden.specs.Words.{texts}
use Rattle.ks_hidden.proofs.arguments.are_compile.Given as goal

abbrev pub invariant-loop-word : goal.invariant-loop-word
invariant-loop-word l = is_one_of (texts (drop l.word-index l.words)) (codes "-c") ≡ is_one_of (texts l.words) (codes "-c")
