-- A preview over the auto.conf of a tree, and a synchronisation of it; and that no refusal of a preview is the device's.
use Rattle.ks_engine.specs.Sources.{Source, FromConf, FromKconfig}
use Rattle.std.specs.Prelude.{if◌then◌else◌, nat_eq}
use Rattle.std.specs.Option.{is_some}
use Rattle.std.specs.Result.{is_err}
use Rattle.ks_commands.proofs.Prelude.{of_source, IsRefusal, ◌≡◌, ◌≢◌, ◌∙◌, ◌++◌, ◌+◌, inl, inr, refl, sym, ap, subst, ℕ, Bool, true, false, List, Option, Some, None, Ok, Err, Files, EngineError, GenerationFull, TooLarge, SourceError, OldAuto, Plan, ConfigInputs, AreChanges, IsSyncPlan, and_then, or_else, content, auto_path, plan_over, option_map, length, nat_lt}
use Rattle.ks_symbols.specs.Lines.{max_bytes}
use Rattle.ks_symbols.specs.Configuration.{Configuration}
use Rattle.std.specs.Prelude.{Result}
use Rattle.ks_output.specs.ConfTexts.{written_in}
use Rattle.ks_output.specs.declared.written.WrittenError.{WrittenError}
use Rattle.ks_output.specs.declared.written.WrittenError.TheVariants as written
use Rattle.ks_symbols.specs.declared.error.SourceError.TheVariants as source
use Rattle.ks_output.specs.declared.auto_conf.AutoError.TheVariants as auto
use Rattle.ks_engine.specs.Refusals.{of_auto, of_written}
use Rattle.ks_engine.specs.declared.error.EngineError.TheVariants.{Device, OutOfMemory}
use Rattle.ks_output.specs.AutoText.{auto_text}
use Rattle.ks_output.specs.declared.auto_conf.AutoError.{AutoError}
use Rattle.ks_compare.proofs.ChangeLemmas.{changes_are_one}
use Rattle.ks_engine.proofs.Beginnings.{one_plan}
use Rattle.ks_engine.proofs.Reading.{inputs_accepted, plan_of_over}
use Rattle.ks_engine.specs.LastSync.{read_unless}
unfoldable use Rattle.ks_engine.specs.LastSync.{old_auto}
use Rattle.ks_engine.specs.SyncPlan.{AreInputs, plan_of, refusal_of, source_refusal, written_refusal}
use Rattle.ks_requests.proofs.Refusing.{preview_refusal-old, preview_refusal-full}
unfoldable use Rattle.ks_requests.specs.Preview.{preview_refusal}
use Rattle.ks_requests.specs.declared.preview.PreviewError.{PreviewError}
use Rattle.ks_requests.specs.declared.preview.PreviewError.TheVariants.{Engine, Output}
use Rattle.ks_requests.specs.Preview.{IsNoPreview, old_texts, old_generation, full_refusal, old_refusal, touch_lines}
use Rattle.ks_commands.specs.PreviewLaws.{PreviewsReportSyncs, PreviewsAreRefusedAsSyncs}
use Rattle.std.specs.Prelude.{string_bytes}
use Rattle.ks_symbols.specs.declared.dialect.Dialect.{Dialect}
use Rattle.ks_engine.specs.Sources.{source_in}
use Rattle.ks_requests.specs.declared.refusal.Refusal.TheVariants as refusal
use Rattle.ks_requests.specs.declared.request.ConfigPaths.{ConfigPaths}
use Rattle.ks_requests.specs.Inputs.{Inputs, inputs_at}
use Rattle.ks_commands.specs.Performed.{EndsPreview}

-- what an auto.conf that isn't refused holds
abbrev auto_of : Option (List ℕ) → OldAuto
auto_of o = record { texts = old_texts o; generation = old_generation o }

old_read : (o : Option (List ℕ)) → old_refusal o ≡ None → old_auto o ≡ Ok (auto_of o)
unfolding old_auto
old_read None h = refl
old_read (Some b) h = ap (λ r. read_unless r b) h

first_none : {A B : Type 0} (f : A → B) (r : Option A) (l : Option B) → or_else (option_map f r) l ≡ None → r ≡ None
first_none f None l h = refl
first_none f (Some a) l h = absurd cc

first_some : {A B : Type 0} (f : A → B) (r : Option A) (a : A) (l : Option B) → r ≡ Some a → is_some (or_else (option_map f r) l) ≡ true
first_some f None a l h = absurd cc
first_some f (Some x) a l h = refl

old_fine : (k : Source) (o : Option (List ℕ)) → refusal_of k ≡ None → preview_refusal k o ≡ None → old_refusal o ≡ None
old_fine k o h p = first_none _ (old_refusal o) _ (sym (preview_refusal-old k o h) ∙ p)

-- a plan that is refused for neither of two reasons
planned_of : (full long : Bool) (p plan : Plan) → (if full then Err GenerationFull else (if long then Err TooLarge else Ok p)) ≡ Ok plan → plan ≡ p
planned_of true long p plan h = absurd cc
planned_of false true p plan h = absurd cc
planned_of false false p plan h = cc

plan_is : (files : Files) (k : Source) (s : ConfigInputs) (plan : Plan) → AreInputs k s → old_refusal (content files auto_path) ≡ None
    → IsSyncPlan files k (Ok plan) → plan ≡ plan_of s (auto_of (content files auto_path))
plan_is files k s plan are fine planned =
    let auto = auto_of (content files auto_path) in
    planned_of (nat_eq auto.generation 18446744073709551615) (nat_lt max_bytes (length (auto_text s.title s.config (auto.generation + 1)))) (plan_of s auto) plan
    (one_plan files k (plan_over s auto) (Ok plan) (plan_of_over files k s auto _ are (old_read _ fine) refl) planned)

pub previews_report_syncs : PreviewsReportSyncs
previews_report_syncs old new k text report p s =
    let same = plan_is old k p.sources s.plan p.are_inputs (old_fine k (content old auto_path) (inputs_accepted k p.sources p.are_inputs).0 p.accepted) s.planned in
    let auto = subst (λ q. content new auto_path ≡ Some (auto_text q.title q.config (q.generation + 1))) same s.done.auto in
    let changed = subst (λ q. AreChanges q.old q.config report.touched.items) same s.changed.are in
    let names = changes_are_one _ _ p.names report.touched.items p.changed.are changed in
    ap (option_map (λ a. touch_lines report.touched.items ++ a)) auto
    ∙ ap Some (ap (λ n. touch_lines n ++ auto_text p.sources.title p.sources.config (old_generation (content old auto_path) + 1)) (sym names) ∙ sym p.whole)

-- where the texts are not refused, a bad auto.conf refuses both, ..
bad_old : (r : Option AutoError) (e : AutoError) (b : List ℕ) (s : ConfigInputs) → r ≡ Some e → is_err (and_then (read_unless r b) (plan_over s)) ≡ true
bad_old None e b s h = absurd cc
bad_old (Some x) e b s h = refl

refused_by_auto : (k : Source) (o : Option (List ℕ)) (s : ConfigInputs) (e : AutoError) → refusal_of k ≡ None → old_refusal o ≡ Some e
    → is_some (preview_refusal k o) ≡ is_err (and_then (old_auto o) (plan_over s))
unfolding old_auto
refused_by_auto k None s e fine bad = absurd cc
refused_by_auto k (Some b) s e fine bad =
    ap is_some (preview_refusal-old k (Some b) fine) ∙ first_some _ (old_refusal (Some b)) e _ bad ∙ sym (bad_old (old_refusal (Some b)) e b s bad)

-- .. and after a good one its generation does. A preview doesn't ask how long the next auto.conf is.
full_alike : {X : Type 0} (x : X) (full long : Bool) (p : Plan) → (if full then Err GenerationFull else (if long then Err TooLarge else Ok p)) ≢ Err TooLarge
    → is_some (if full then Some x else None) ≡ is_err (if full then Err GenerationFull else (if long then Err TooLarge else Ok p))
full_alike x true long p small = refl
full_alike x false true p small = absurd (small refl)
full_alike x false false p small = refl

refused_by_plan : (k : Source) (o : Option (List ℕ)) (s : ConfigInputs) → refusal_of k ≡ None → old_refusal o ≡ None
    → plan_over s (auto_of o) ≢ Err TooLarge → is_some (preview_refusal k o) ≡ is_err (plan_over s (auto_of o))
refused_by_plan k o s fine read small =
    let auto = auto_of o in
    ap is_some (preview_refusal-full k o fine read)
    ∙ full_alike _ (nat_eq auto.generation 18446744073709551615) (nat_lt max_bytes (length (auto_text s.title s.config (auto.generation + 1)))) (plan_of s auto) small

refused_over : (k : Source) (o : Option (List ℕ)) (s : ConfigInputs) → refusal_of k ≡ None → and_then (old_auto o) (plan_over s) ≢ Err TooLarge
    → is_some (preview_refusal k o) ≡ is_err (and_then (old_auto o) (plan_over s))
refused_over k o s fine small =
    elim (old_refusal o) as (λ r. old_refusal o ≡ r → is_some (preview_refusal k o) ≡ is_err (and_then (old_auto o) (plan_over s))) [
      | None ↦ λ read. let is = ap (λ r. and_then r (plan_over s)) (old_read o read) in
          refused_by_plan k o s fine read (λ e. small (is ∙ e)) ∙ sym (ap is_err is)
      | Some e ↦ λ bad. refused_by_auto k o s e fine bad
    ] refl

refused_by_texts : (k : Source) (o : Option (List ℕ)) (e : EngineError) → refusal_of k ≡ Some e → is_some (preview_refusal k o) ≡ true
unfolding preview_refusal
refused_by_texts k o e bad = ap (λ r. is_some (or_else r (or_else (option_map of_auto (old_refusal o)) (full_refusal (old_generation o))))) bad

pub previews_are_refused_as_syncs : PreviewsAreRefusedAsSyncs
previews_are_refused_as_syncs files k result (inl bad) small = refused_by_texts k (content files auto_path) bad.0 bad.1 ∙ sym (ap is_err bad.2)
previews_are_refused_as_syncs files k result (inr plan) small =
    refused_over k (content files auto_path) plan.0 (inputs_accepted k plan.0 plan.1).0 (λ e. small (plan.2 ∙ e)) ∙ sym (ap is_err plan.2)

-- ---- no refusal of a preview is the device's

by_source : (e : SourceError) → of_source e ≢ Device
by_source (source.NotBare n) h = absurd cc
by_source (source.BadName n) h = absurd cc
by_source (source.ModuleName n) h = absurd cc
by_source (source.NoType n) h = absurd cc
by_source (source.TypeClash n) h = absurd cc
by_source (source.BadTitle n) h = absurd cc
by_source (source.NotAConfigLine n) h = absurd cc
by_source (source.BadValue n) h = absurd cc
by_source source.TooLarge h = absurd cc
by_source source.OutOfMemory h = absurd cc

by_written : (e : WrittenError) → of_written e ≢ Device
by_written written.TooLarge h = absurd cc
by_written written.OutOfMemory h = absurd cc
by_written written.BadHeading h = absurd cc
by_written (written.NotAnEntry n) h = absurd cc
by_written (written.ModuleSymbol n) h = absurd cc
by_written (written.Unexplained n) h = absurd cc
by_written (written.Undefined n) h = absurd cc
by_written (written.Undeclared n) h = absurd cc
by_written (written.Twice n) h = absurd cc

by_kconfig : (r : Option SourceError) → option_map of_source r ≢ Some Device
by_kconfig None h = absurd cc
by_kconfig (Some e) h = by_source e cc

by_pair : (r : Result Configuration WrittenError) → written_refusal r ≢ Some Device
by_pair (Ok config) h = absurd cc
by_pair (Err e) h = by_written e cc

by_input : (k : Source) → refusal_of k ≢ Some Device
by_input (FromKconfig k d) h = by_kconfig (source_refusal k d) h
by_input (FromConf d a b) h = by_pair (written_in d a b) h

by_auto : (e : AutoError) → of_auto e ≢ Device
by_auto (auto.BadAuto n) h = absurd cc
by_auto auto.TooLarge h = absurd cc
by_auto auto.OutOfMemory h = absurd cc

by_full : (full : Bool) → (if full then Some GenerationFull else None) ≢ Some Device
by_full true h = absurd cc
by_full false h = absurd cc

by_parts : (r : Option EngineError) (q : Option AutoError) (generation : ℕ) → r ≢ Some Device
    → or_else r (or_else (option_map of_auto q) (full_refusal generation)) ≢ Some Device
by_parts (Some e) q generation first h = first h
by_parts None (Some e) generation first h = by_auto e cc
by_parts None None generation first h = by_full (nat_eq generation 18446744073709551615) h

by_texts : (k : Source) (o : Option (List ℕ)) → preview_refusal k o ≢ Some Device
unfolding preview_refusal
by_texts k o h = by_parts (refusal_of k) (old_refusal o) (old_generation o) (by_input k) h

pub no_device : (e : EngineError) (k : Source) (o : Option (List ℕ)) → IsRefusal OutOfMemory e (preview_refusal k o) → e ≢ Device
no_device e k o (inl memory) h = absurd cc
no_device e k o (inr is) h = by_texts k o (is ∙ ap Some h)

pub no_preview_by_device : (p : PreviewError) (e : EngineError) (k : Source) (o before after : Option (List ℕ)) → p ≡ Engine e
    → IsNoPreview k o before after p → e ≢ Device
no_preview_by_device (Engine e') e k o before after is h = λ device. absurd (no_device e' k o h.0 cc)
no_preview_by_device Output e k o before after is h = λ device. absurd cc

-- ---- how a refused preview ends

pub preview_refused : (files : Files) (dialect : Dialect) (c : ConfigPaths) (o : Option (List ℕ)) (i : Inputs) (first second : List ℕ) (k : Source)
    (old before after : Option (List ℕ)) (p : PreviewError) (e : EngineError) → first ≡ string_bytes c.first → second ≡ string_bytes c.second
    → inputs_at files first second o ≡ Ok i → k ≡ source_in dialect c.form i.kconfig i.dotconfig → old ≡ i.old → p ≡ Engine e
    → IsNoPreview k old before after p → EndsPreview dialect files c o (Err (refusal.Engine e))
preview_refused files dialect c o i first second k old before after (Engine e') e f s there source was is refused =
    let same : e' ≡ e = cc in
    let seen = rw (source, was) at refused.0 in
    inr (i, rw (← f, ← s) there, inr (e, subst (λ x. IsRefusal OutOfMemory x (preview_refusal (source_in dialect c.form i.kconfig i.dotconfig) i.old)) same seen, refl))
preview_refused files dialect c o i first second k old before after Output e f s there source was is refused = absurd cc
