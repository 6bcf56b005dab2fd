-- What the calls of the layers below give for the definitions of auto.conf and of the two texts.
use Rattle.ks_engine.proofs.Prelude.{⊎_map, subst, sym, option_map, of_source, refusal_of, written_refusal, AreConfigInputs, AreInputs, Source, FromKconfig, FromConf, ◌≡◌, ◌⊎◌, inl, inr, ℕ, ◌+◌, ◌≤◌, List, Option, Some, None, Result, Ok, Err, ap, refl, length, lt-ltb, le-ltb, ne_eqb, cond-true, cond-false, get, empty, Kind, IsConfiguration, Configuration, max_bytes, declared, title_of, kconfig_refusal, setting, unknown_count, dotconfig_refusal, IsRefusal, AutoError, auto_text, auto_map, auto_generation, auto_refusal, OldTexts, HasNames, Files, content, IsTooLarge, auto_path, TreeFault, EngineError, NeverSynced, of_tree, of_auto, IsAborted, and_then, AreChanges, IsLegalSync, AreLegalChanges, OldAuto, read_unless, old_auto, synced_at, last_generation, ConfigInputs, Plan, plan_over, IsSyncPlan, old_of, KconfigText, rules, changes_are_legal, arith}
use Rattle.ks_symbols.specs.Lines.{lines}
use Rattle.ks_engine.specs.declared.error.EngineError.TheVariants.{OutOfMemory}
use Rattle.ks_output.specs.declared.auto_conf.AutoError.TheVariants as auto
use Rattle.ks_tree.specs.declared.fault.TreeFault.TheVariants as fault

-- ---- steps that may refuse

pub ok_ok : {A : Type 0} (a b : A) → ◌≡◌ {A = Result A EngineError} (Ok a) (Ok b) → a ≡ b
ok_ok a b e = cc

pub err_ok : {A : Type 0} (e : EngineError) (a : A) → ◌≡◌ {A = Result A EngineError} (Err e) (Ok a) → ⊥
err_ok e a q = cc

-- ---- the two texts

pub are_config_inputs : (kconfig : KconfigText) (dotconfig : List ℕ) (s : ConfigInputs) (kinds : List ℕ → Option Kind) → ((x : List ℕ) → kinds x ≡ declared kconfig x)
    → kconfig_refusal kconfig ≡ None → dotconfig_refusal kinds dotconfig ≡ None → s.title ≡ title_of kconfig
    → ((x : List ℕ) → get s.config x ≡ setting kinds (lines dotconfig) x) → s.unknown ≡ unknown_count kinds (lines dotconfig) → IsLegalSync s.title s.config
    → AreConfigInputs kconfig dotconfig s
are_config_inputs kconfig dotconfig s kinds same first second title settings unknown legal =
    let kinds_same : kinds ≡ declared kconfig = λ i x. same x i in
    let refused = rw kinds_same at second in
    record { accepted = rw (first, refused) refl; title = title; settings = rw kinds_same at settings; unknown = rw kinds_same at unknown; legal = legal }

-- ---- the names that changed

pub are_changed : (old : OldTexts) (new : Configuration) (names : List (List ℕ)) → HasNames old.texts → IsConfiguration new → AreChanges old.texts new names
    → AreLegalChanges old.texts new names
are_changed old new names legal config are = record { are = are; legal = changes_are_legal old.texts new names legal config are }

pub plan_made : (s : ConfigInputs) (a : OldAuto) → (a.generation ≡ 18446744073709551615 → ⊥) → length (auto_text s.title s.config (a.generation + 1)) ≤ max_bytes
    → plan_over s a ≡ Ok (record { title = s.title; config = s.config; unknown = s.unknown; old = a.texts; generation = a.generation })
plan_made s a headroom small = search (rules, cond-false, ne_eqb, le-ltb)

-- ---- auto.conf

pub old_some : (file : Option (List ℕ)) (b : List ℕ) (refusal : Option AutoError) → file ≡ Some b → auto_refusal b ≡ refusal → old_auto file
    ≡ read_unless refusal b
unfolding old_auto
old_some file b refusal at is = rw (at, is) refl

pub old_fault : (f : TreeFault) (file : Option (List ℕ)) → (f ≡ fault.TooLarge → IsTooLarge file) → IsAborted (of_tree f) ⊎ (old_auto file ≡ Err (of_tree f))
unfolding auto_refusal
old_fault fault.TooLarge file large = let is = large refl in inr (old_some file is.0 _ is.1 (cond-true _ _ _ (lt-ltb max_bytes (length is.0) is.2)))
old_fault f file large = inl tt

pub old_refused : (e : AutoError) (file : Option (List ℕ)) (b : List ℕ) → file ≡ Some b → IsRefusal auto.OutOfMemory e (auto_refusal b)
    → IsAborted (of_auto e) ⊎ (old_auto file ≡ Err (of_auto e))
old_refused e file b at = ⊎_map (λ memory. rw memory tt) (old_some file b _ at)

pub old_read : (old : OldTexts) (file : Option (List ℕ)) (b : List ℕ) → file ≡ Some b → auto_refusal b ≡ None → old.texts ≡ auto_map b
    → old.generation ≡ auto_generation b → old_auto file ≡ Ok (old_of old)
old_read old file b at fine texts generation = rw (old_some file b None at fine, texts, generation) refl

pub old_none : (old : OldTexts) (file : Option (List ℕ)) → file ≡ None → old.texts ≡ empty → old.generation ≡ 0 → old_auto file ≡ Ok (old_of old)
unfolding old_auto
old_none old file at none zero = search rules

-- what is read of an auto.conf where its texts are not
pub last_refused : (file : Option (List ℕ)) (e : EngineError) → IsAborted e ⊎ (old_auto file ≡ Err e) → IsAborted e ⊎ (last_generation file ≡ Err e)
last_refused file e = ⊎_map (λ given. given) (ap (λ o. and_then o synced_at))

pub last_none : (file : Option (List ℕ)) → file ≡ None → last_generation file ≡ Err NeverSynced
unfolding old_auto
last_none file at = rw at refl

pub last_zero : (file : Option (List ℕ)) (b : List ℕ) (g : ℕ) → file ≡ Some b → auto_refusal b ≡ None → g ≡ auto_generation b → g ≡ 0 → last_generation file
    ≡ Err NeverSynced
last_zero file b g at fine is zero = rw (old_some file b None at fine, ← is, zero) refl

pub last_some : (file : Option (List ℕ)) (b : List ℕ) (g : ℕ) → file ≡ Some b → auto_refusal b ≡ None → g ≡ auto_generation b → (g ≡ 0 → ⊥)
    → last_generation file ≡ Ok g
last_some file b g at fine is some = rw (old_some file b None at fine, ← is, ne_eqb g 0 some) refl

-- ---- the plan of a synchronisation, by its sources and by auto.conf

pub plan_of_old : (files : Files) (source : Source) (s : ConfigInputs) (e : EngineError) → AreInputs source s
    → old_auto (content files auto_path) ≡ Err e → IsSyncPlan files source (Err e)
plan_of_old files source s e are bad = inr (s, are, rw bad refl)

pub plan_of_over : (files : Files) (source : Source) (s : ConfigInputs) (a : OldAuto) (r : Result Plan EngineError)
    → AreInputs source s → old_auto (content files auto_path) ≡ Ok a → plan_over s a ≡ r → IsSyncPlan files source r
plan_of_over files source s a r are read over = inr (s, are, rw (read, over) refl)

-- what is read is not refused, and is legal
pub inputs_accepted : (source : Source) (s : ConfigInputs) → AreInputs source s → (refusal_of source ≡ None) × IsLegalSync s.title s.config
inputs_accepted (FromKconfig kconfig dotconfig) s are = (ap (option_map of_source) are.accepted, are.legal)
inputs_accepted (FromConf d first header) s are = (ap written_refusal are.settings, are.legal)

-- .. and a plan that is refused for it is refused so
pub source_refused : (files : Files) (source : Source) (e : EngineError) → IsRefusal OutOfMemory e (refusal_of source)
    → IsAborted e ⊎ IsSyncPlan files source (Err e)
source_refused files source e (inl memory) = inl (subst IsAborted (sym memory) tt)
source_refused files source e (inr is) = inr (inl (e, is, refl))

-- a fault that is no TooLarge gives up
pub given_fault : (f : TreeFault) → (f ≡ fault.TooLarge → ⊥) → IsAborted (of_tree f)
given_fault f small = grind arith
