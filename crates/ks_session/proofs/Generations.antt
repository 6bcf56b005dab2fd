-- What is read of the generation of an auto.conf.
use Rattle.std.specs.Prelude.{◌≡◌, ◌⊎◌, ℕ, false, List, Option, Ok, Err, Some, None, nat_lt, refl}
use Rattle.std.proofs.Common.{ap}
use Rattle.std.proofs.Math.Logic.{⊎_map}
use Rattle.ks_output.specs.AutoConf.{auto_generation, auto_refusal}
use Rattle.ks_engine.specs.declared.error.EngineError.{EngineError}
use Rattle.ks_engine.specs.LastSync.{old_auto}
use Rattle.ks_engine.specs.Refusals.{IsAborted, and_then}
use Rattle.ks_engine.proofs.Reading.{old_some}
use Rattle.ks_session.specs.Numbers.{has_generation}

pub of_none : (file : Option (List ℕ)) → file ≡ None → has_generation file ≡ Ok false
unfolding old_auto
of_none file at = rw at refl

pub of_some : (file : Option (List ℕ)) (b : List ℕ) (g : ℕ) → file ≡ Some b → auto_refusal b ≡ None → g ≡ auto_generation b → has_generation file ≡ Ok (nat_lt 0 g)
of_some file b g at fine is = rw (old_some file b None at fine, is) refl

-- what is refused of auto.conf
pub refused : (file : Option (List ℕ)) (e : EngineError) → IsAborted e ⊎ (old_auto file ≡ Err e) → IsAborted e ⊎ (has_generation file ≡ Err e)
refused file e = ⊎_map (λ given. given) (ap (λ old. and_then old (λ o. Ok (nat_lt 0 o.generation))))
