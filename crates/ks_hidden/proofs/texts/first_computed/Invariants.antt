use Rattle.std.proofs.Common.{◌≡◌, ◌+◌, ◌≤◌, ◌||◌, ℕ, List, bytes_eq, length}
use Rattle.std.specs.List.{filter_map, list_any}
use Rattle.ks_hidden.specs.Macros.{includes, is_in}
use Rattle.ks_hidden.specs.Texts.{computed_from, first_computed, included_macro}
use Rattle.ks_hidden.proofs.texts.first_computed.Given as goal

-- The lines that are left have the first such one of the whole. A name that the text includes is noted, or left.
abbrev pub invariant-loop-line : goal.invariant-loop-line
invariant-loop-line l = record {
  found : computed_from l.number l.line-iterator ≡ first_computed l.fn.text;
  numbers : l.number + length l.line-iterator ≤ 9223372036854775809;
  noted : (x : List ℕ) → (is_in l.included x || list_any (bytes_eq x) (filter_map included_macro l.line-iterator)) ≡ (is_in l.fn.included x || includes l.fn.text x);
}
