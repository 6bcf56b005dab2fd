use Rattle.ks_fixdep.proofs.Prelude.{◌≡◌, drop, map}
use Rattle.ks_fixdep.specs.SymbolPatterns.{arguments_of, seen_macro}
use Rattle.ks_fixdep.proofs.symbol_patterns.arguments_of.Given as goal

-- those so far are other words
abbrev pub invariant-loop-known : goal.invariant-loop-known
invariant-loop-known l = arguments_of (map seen_macro l.macros) l.word ≡ arguments_of (map seen_macro (drop l.known-index l.macros)) l.word
