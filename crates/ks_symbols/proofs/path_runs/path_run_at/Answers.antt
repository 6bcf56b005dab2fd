use Rattle.ks_symbols.proofs.Prelude.{ℕ, ◌≤◌, cond, refl, arith, is_path_byte}
use Rattle.std.proofs.Common.{bit_or, leb}
use Rattle.std.proofs.lemmas.Simd.{zip2_splat, zip2_of_maps, splat_is_map, length-chunk}
use lib.Lanes.{chunk}
use Rattle.ks_symbols.proofs.WordRuns.{run_of_lanes}
use Rattle.ks_symbols.proofs.path_runs.path_run_at.Goals as goal

pub returns : goal.returns
returns c =
    let few : 16 ≤ 64 = omega arith in
    let v = chunk c.args.at 16 c.args.text.now in
    let long = length-chunk c.args.at 16 c.args.text.now c.requires in
    let no_print = zip2_of_maps (λ (a b : ℕ). cond {A = ℕ} (leb a b) 255 0) _ _ v (splat_is_map v 16 94 long) (zip2_splat {Y = ℕ} _ v 16 33 long) in
    let marks = zip2_of_maps bit_or _ _ v (zip2_splat {Y = ℕ} _ v 16 35 long) (zip2_splat {Y = ℕ} _ v 16 36 long) in
    let lanes = zip2_of_maps bit_or _ _ v no_print (zip2_of_maps bit_or _ _ v marks (zip2_splat {Y = ℕ} _ v 16 92 long)) in
    let run = run_of_lanes is_path_byte 16 few c.args.text.now c.args.at _ _ _ c.requires c.type_inv.text lanes c.first_set.ensures refl in
    record { fits = run.0; passes = run.1 }
