use Rattle.ks_symbols.proofs.Prelude.{◌≡◌, [], take, drop, option_map, seen, first_clash}
use Rattle.std.proofs.Common.{map as map_list}
use Rattle.std.specs.FinMap as map
use Rattle.ks_symbols.proofs.Clashes.{AreFirst}
use Rattle.ks_symbols.proofs.kconfig.first_clash.Given as goal

-- nothing has clashed so far
abbrev pub invariant-loop-declaration : goal.invariant-loop-declaration
invariant-loop-declaration l = record {
  clash : first_clash (map_list seen (take l.declaration-index l.fn.declared)) (map_list seen (drop l.declaration-index l.fn.declared))
      ≡ first_clash [] (map_list seen l.fn.declared);
  first : AreFirst (λ x. option_map (λ s. s.0) (map.get l.fn.kinds x)) (map_list seen (take l.declaration-index l.fn.declared))
      (map_list seen (drop l.declaration-index l.fn.declared));
}
