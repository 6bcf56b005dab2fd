use Rattle.ks_symbols.proofs.Prelude.{ℕ, ◌≤◌, cond, refl, arith, is_word_byte}
use Rattle.std.proofs.Common.{bit_and, eqb}
use Rattle.std.proofs.lemmas.Simd.{zip2_splat, zip2_of_maps, splat_is_map, length-chunk}
use lib.Lanes.{chunk}
use Rattle.ks_symbols.proofs.WordRuns.{min_of_maps, run_of_lanes}
use Rattle.ks_symbols.proofs.word_runs.run_at.Goals as goal

pub returns : goal.returns
returns c =
    let few : 16 ≤ 64 = omega arith in
    let v = chunk c.args.at 16 c.args.text.now in
    let long = length-chunk c.args.at 16 c.args.text.now c.requires in
    let letters = zip2_of_maps _ _ _ v (zip2_splat {Y = ℕ} _ v 16 32 long) (splat_is_map v 16 97 long) in
    let digits = zip2_of_maps _ _ _ v (min_of_maps _ _ v (zip2_splat {Y = ℕ} _ v 16 48 long) (splat_is_map v 16 10 long)) (splat_is_map v 16 16 long) in
    let others = zip2_of_maps (λ (a b : ℕ). cond {A = ℕ} (eqb a b) 255 0) _ _ v (min_of_maps _ _ v letters digits) (splat_is_map v 16 26 long) in
    let lanes = zip2_of_maps bit_and _ _ v others (zip2_splat {Y = ℕ} _ v 16 95 long) in
    let run = run_of_lanes is_word_byte 16 few c.args.text.now c.args.at _ _ _ c.requires c.type_inv.text lanes c.first_set.ensures refl in
    record { fits = run.0; passes = run.1; stops = run.2 }
