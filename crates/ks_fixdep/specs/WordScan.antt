-- A text that comes in pieces and is scanned by its words: what is known after a beginning of it.
use Rattle.std.specs.Prelude.{◌≡◌, ℕ, List, [], ◌∷◌, ◌++◌, if◌then◌else◌}
use Rattle.std.specs.List.{fold}
use Rattle.ks_symbols.specs.Names.{is_word_byte}
use Rattle.ks_fixdep.specs.FoundNames.{all_noted}
use Rattle.ks_fixdep.specs.SourceTable.{SourceNames}
use Rattle.ks_fixdep.specs.Stream.{within}
use Rattle.ks_fixdep.specs.SymbolPatterns.{SourcePatterns, arguments_of, after_word, nothing, passed, word_names}
use Rattle.ks_fixdep.specs.declared.pending_macro_args.PendingMacroArgs.{PendingMacroArgs}
use Rattle.ks_fixdep.specs.declared.word_scan.WordScan.{WordScan}

-- The word that ends the beginning and may go on, what is awaited in front of it, and the names that are complete.
pub record Known : Type 0 where
  pub word : List ℕ
  pub pending : PendingMacroArgs
  pub names : List (List ℕ)

abbrev pub at_start : Known
at_start = record { word = []; pending = nothing; names = [] }

-- the same where the word ends
abbrev pub ended_by : SourcePatterns → Known → List ℕ → Known
ended_by symbol_patterns k [] = k
ended_by symbol_patterns k (b ∷ w) = record {
  word = [];
  pending = after_word k.pending (arguments_of symbol_patterns.macros (b ∷ w));
  names = k.names ++ word_names symbol_patterns k.pending (b ∷ w);
}

abbrev pub word_ended : SourcePatterns → Known → Known
word_ended symbol_patterns k = ended_by symbol_patterns k k.word

-- one byte further on
abbrev pub next : SourcePatterns → Known → ℕ → Known
next symbol_patterns k b =
    if is_word_byte b then record { word = k.word ++ b ∷ []; pending = k.pending; names = k.names }
    else record { word = []; pending = passed (word_ended symbol_patterns k).pending b; names = (word_ended symbol_patterns k).names }

abbrev pub known_after : SourcePatterns → Known → List ℕ → Known
known_after symbol_patterns k t = fold (next symbol_patterns) k t

-- A scan knows this much: the word as far as a name can come of it, and each name once.
pub record Knows (s : WordScan) (table : SourceNames) (k : Known) : Type 0 where
  pub word : s.word ≡ within k.word
  pub pending : s.pending ≡ k.pending
  pub names : table.current ≡ all_noted [] k.names
