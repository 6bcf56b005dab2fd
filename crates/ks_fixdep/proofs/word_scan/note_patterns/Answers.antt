use Rattle.ks_fixdep.proofs.Prelude.{◌≡◌, ◌+◌, ◌<◌, ◌∙◌, ℕ, List, [], all_noted, arith, at_drop_more, common_steps, drop, drop_all, false, flat_map, fold-append, get_or, length, map}
use Rattle.ks_fixdep.specs.SymbolPatterns.{named_by, seen_pattern}
use Rattle.ks_fixdep.specs.declared.symbol_patterns.Pattern.{Pattern}
use Rattle.ks_fixdep.proofs.word_scan.note_patterns.Goals as goal

turn : (xs : List (List ℕ)) (patterns : List Pattern) (w : List ℕ) (i : ℕ) (d : Pattern) → i < length patterns
    → all_noted xs (flat_map (λ pattern. named_by pattern w) (map seen_pattern (drop i patterns)))
    ≡ all_noted (all_noted xs (named_by (seen_pattern (get_or patterns i d)) w)) (flat_map (λ pattern. named_by pattern w) (map seen_pattern (drop (i + 1) patterns)))
turn xs patterns w i d fits =
    at_drop_more (λ l. all_noted xs (flat_map (λ pattern. named_by pattern w) (map seen_pattern l))) patterns i d fits
    ∙ grind (arith, fold-append)

abbrev none : Pattern
none = record { begin = record { ref_ptr = (0, 0); now = [] }; end = record { ref_ptr = (0, 0); now = [] }; has_modules = false }

pub loop-pattern-preserved : goal.loop-pattern-preserved
loop-pattern-preserved c = grind (arith, common_steps, (turn c.loop-pattern.table.current c.args.patterns.now c.args.word.now c.loop-pattern.pattern-index none c.loop-pattern-test.true))

pub returns : goal.returns
returns c = grind (arith, common_steps, drop_all)
