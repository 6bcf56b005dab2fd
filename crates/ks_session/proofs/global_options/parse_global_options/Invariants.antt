use Rattle.std.proofs.Common.{length, ◌-◌, ◌≡◌, ◌≤◌, List, map, drop}
use Rattle.std.specs.List.{fold}
use Rattle.ks_session.specs.GlobalOptions.{SpellsAll, OptionView, nothing, stated, seen_settings}
use Rattle.ks_session.proofs.global_options.parse_global_options.Given as goal

abbrev pub invariant-loop-at : goal.invariant-loop-at
invariant-loop-at l = (l.at ≤ length l.args)
    × (options : List OptionView) × SpellsAll (map (λ w. w.now) l.args) options (map (λ w. w.now) (drop l.at l.args))
    × (seen_settings l.settings ≡ fold stated nothing options)

abbrev pub decreases-loop-at : goal.decreases-loop-at
decreases-loop-at l = length l.args - l.at
