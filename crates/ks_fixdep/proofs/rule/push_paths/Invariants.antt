use Rattle.ks_fixdep.proofs.Prelude.{◌≡◌, ◌++◌, map, flat_map, continued}
use Rattle.ks_fixdep.proofs.rule.push_paths.Given as goal

-- with the lines that are left it is the whole
abbrev pub invariant-loop-path : goal.invariant-loop-path
invariant-loop-path l = l.text.items ++ flat_map continued (map (λ p. p.0) l.path-iterator) ≡ l.fn.text.items ++ flat_map continued (map (λ p. p.0) l.prerequisites)
