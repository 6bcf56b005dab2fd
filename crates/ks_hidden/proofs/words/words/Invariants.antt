use Rattle.std.proofs.Common.{◌≡◌, drop}
use Rattle.ks_hidden.specs.Words.{words_of, words_with}
use Rattle.ks_hidden.proofs.words.words.Given as goal

-- with the words of what is left they are all
abbrev pub invariant-loop-byte : goal.invariant-loop-byte
invariant-loop-byte l = words_with l.reader (drop l.byte-index l.command) ≡ words_of l.command
