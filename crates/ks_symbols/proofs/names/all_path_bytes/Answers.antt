use Rattle.ks_symbols.proofs.Prelude.{◌≡◌, ◌+◌, ◌-◌, arith, length-drop, take-add, take_all, list_all-append, rules}
use Rattle.ks_symbols.proofs.Overlaps.{all-overlap}
use Rattle.ks_symbols.proofs.names.all_path_bytes.Goals as goal

pub loop-start-preserved : goal.loop-start-preserved
loop-start-preserved c =
    let size : c.loop-start.start + 16 - c.loop-start.start ≡ 16 = omega arith in
    record { all = search (rules, size, take-add, list_all-append); within = omega (arith, c.loop-start-test.true) }

pub returns : goal.returns
returns c = search (rules, length-drop, take_all, all-overlap)
