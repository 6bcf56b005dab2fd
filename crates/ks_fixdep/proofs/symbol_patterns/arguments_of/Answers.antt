use Rattle.ks_fixdep.proofs.Prelude.{◌≡◌, ◌+◌, ◌<◌, ℕ, List, [], arith, at_drop_more, bytes_eq, common_steps, drop, drop_all, get_or, length, map, if◌then◌else◌}
use Rattle.ks_fixdep.specs.SymbolPatterns.{seen_macro}
unfoldable use Rattle.ks_fixdep.specs.SymbolPatterns.{arguments_of}
use Rattle.ks_fixdep.specs.declared.symbol_patterns.Macro.{Macro}
use Rattle.ks_fixdep.proofs.symbol_patterns.arguments_of.Goals as goal

turn : (ms : List Macro) (w : List ℕ) (i : ℕ) (d : Macro) → i < length ms → arguments_of (map seen_macro (drop i ms)) w
    ≡ (if bytes_eq (get_or ms i d).word.now w then (get_or ms i d).arguments else arguments_of (map seen_macro (drop (i + 1) ms)) w)
unfolding arguments_of
turn ms w i d fits = at_drop_more (λ l. arguments_of (map seen_macro l) w) ms i d fits

pub returns-then-eq : goal.returns-then-eq
returns-then-eq c = grind (arith, common_steps, (turn c.args.macros.now c.args.word.now c.loop-known.known-index (record { word = record { ref_ptr = (0, 0); now = [] }; arguments = 0 }) c.loop-known-test.true))

pub loop-known-preserved : goal.loop-known-preserved
loop-known-preserved c = grind (arith, common_steps, (turn c.args.macros.now c.args.word.now c.loop-known.known-index (record { word = record { ref_ptr = (0, 0); now = [] }; arguments = 0 }) c.loop-known-test.true))

pub returns : goal.returns
unfolding arguments_of
returns c = grind (arith, common_steps, drop_all)
