use Rattle.std.proofs.Common.{◌≡◌, ◌≤◌, Some, drop}
use Rattle.ks_hidden.specs.Arguments.{unknown_from}
use Rattle.ks_hidden.specs.Words.{texts}
use Rattle.ks_hidden.proofs.arguments.first_unknown.Given as goal

-- the words that are left have the first such one of them all
abbrev pub invariant-loop-word : goal.invariant-loop-word
invariant-loop-word l = record {
  found : unknown_from l.number (Some l.expected) (texts (drop l.word-index l.words)) ≡ unknown_from 0 (Some l.fn.first) (texts l.words);
  numbers : l.number ≤ l.word-index;
}
