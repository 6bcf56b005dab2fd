use Rattle.ks_fixdep.proofs.Prelude.{◌≡◌, ◌<◌, ◌+◌, [], drop, take, length, drop-cons, get_or, Bor, List, ℕ, arith, flat_map, ◌&&◌, bytes_eq, common_steps}
use Rattle.ks_fixdep.proofs.CommandLineLemmas.{prefix-eq}
use Rattle.ks_fixdep.proofs.command_file.reading.is_joined.Goals as goal

abbrev none : Bor (List ℕ)
none = record { ref_ptr = (0, 0); now = [] }

step : (parts : List (Bor (List ℕ))) (i : ℕ) (rest : List ℕ) → i < length parts →
    let part = (get_or parts i none).now in
    bytes_eq rest (flat_map (λ p. p.now) (drop i parts)) ≡ (bytes_eq (take (length part) rest) part
    && bytes_eq (drop (length part) rest) (flat_map (λ p. p.now) (drop (i + 1) parts)))
step parts i rest below = grind (arith, common_steps, drop-cons, prefix-eq)

pub returns-in-None : goal.returns-in-None
returns-in-None c = grind (arith, common_steps, step)

pub loop-part-preserved : goal.loop-part-preserved
loop-part-preserved c = grind (arith, common_steps, step)
