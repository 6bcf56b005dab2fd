-- The refusal of a part is that of the preview, where the parts before it are not refused.
use Rattle.ks_requests.proofs.Prelude.{◌≡◌, ◌∙◌, inl, inr, ◌≢◌, ◌-◌, ◌^◌, ℕ, List, Option, Some, None, option_map, ap, cond-true, cond-false, eq-eqb, ne_eqb, refl, Source, or_else, IsRefusal, AutoError, EngineError, of_auto, refusal_of, old_refusal, old_generation, full_refusal, preview_refusal, rules}
use Rattle.ks_output.specs.declared.auto_conf.AutoError.TheVariants as auto
use Rattle.ks_engine.specs.declared.error.EngineError.TheVariants.{GenerationFull, OutOfMemory}

-- want of memory stays that
part_refused : {E : Type 0} (engine_of : E → EngineError) (memory e : E) (r : Option E) (later : Option EngineError) → engine_of memory ≡ OutOfMemory
    → IsRefusal memory e r → IsRefusal OutOfMemory (engine_of e) (or_else (option_map engine_of r) later)
part_refused engine_of memory e r later is (inl h) = inl (ap engine_of h ∙ is)
part_refused engine_of memory e r later is (inr h) = inr (ap (λ o. or_else (option_map engine_of o) later) h)

pub auto_refused : (e : AutoError) (r : Option AutoError) (later : Option EngineError) → IsRefusal auto.OutOfMemory e r
    → IsRefusal OutOfMemory (of_auto e) (or_else (option_map of_auto r) later)
auto_refused e r later h = part_refused of_auto auto.OutOfMemory e r later refl h

pub texts_refused : (from : Source) (old : Option (List ℕ)) (e : EngineError) → IsRefusal OutOfMemory e (refusal_of from)
    → IsRefusal OutOfMemory e (preview_refusal from old)
unfolding preview_refusal
texts_refused from old e (inl h) = inl h
texts_refused from old e (inr h) = inr (ap (λ o. or_else o (or_else (option_map of_auto (old_refusal old)) (full_refusal (old_generation old)))) h)

-- where the texts are not refused
pub preview_refusal-old : (from : Source) (old : Option (List ℕ)) → refusal_of from ≡ None
    → preview_refusal from old ≡ or_else (option_map of_auto (old_refusal old)) (full_refusal (old_generation old))
unfolding preview_refusal
preview_refusal-old from old h = search rules

-- where the old auto.conf is not refused either
pub preview_refusal-full : (from : Source) (old : Option (List ℕ)) → refusal_of from ≡ None → old_refusal old ≡ None
    → preview_refusal from old ≡ full_refusal (old_generation old)
preview_refusal-full from old h k = search (rules, preview_refusal-old)

pub full_refusal-full : (generation : ℕ) → generation ≡ 2 ^ 64 - 1 → full_refusal generation ≡ Some GenerationFull
full_refusal-full generation h = cond-true _ _ _ (eq-eqb generation (2 ^ 64 - 1) h)

pub full_refusal-below : (generation : ℕ) → generation ≢ 2 ^ 64 - 1 → full_refusal generation ≡ None
full_refusal-below generation h = cond-false _ _ _ (ne_eqb generation (2 ^ 64 - 1) h)
