use Rattle.ks_fixdep.proofs.Prelude.{◌≡◌, ◌++◌, map, option_map, take, flat_map, continued, stamp_of}
use Rattle.ks_fixdep.proofs.rule.push_stamps.Given as goal

abbrev pub invariant-loop-name : goal.invariant-loop-name
invariant-loop-name l = l.text.items ≡ l.fn.text.items ++ flat_map continued (map (stamp_of (option_map (λ t. t.now) l.tree)) (take l.name-index l.names))
