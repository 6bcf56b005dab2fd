-- What is said of a tree beside a configuration, and what that tells of synchronisations.
use Rattle.ks_commands.proofs.Prelude.{inl, inr, refl, sym, subst, ap, ◌≡◌, ◌⊎◌, ◌∙◌, ◌+◌, ◌<◌, ℕ, List, [], ◌∷◌, length, true, and_parts, Err, None, Ok, Option, Result, Some, Configuration, Texts, AreChanges, Dialect, Files, IsAborted, IsSyncPlan, IsSynced, IsTrue, OldAuto, Plan, ConfigInputs, EngineError, Report, and_then, arith, content, auto_path, plan_over, rules, IsRefusal}
use Rattle.std.specs.Prelude.{◌^◌}
use Rattle.ks_compare.proofs.ChangeLemmas.{changes_are_one, nothing_changes}
use Rattle.ks_engine.proofs.Beginnings.{one_input}
use Rattle.ks_engine.proofs.LowerLaws.{accepted, generation_back, small_generation, texts_back}
use Rattle.ks_engine.proofs.Reading.{err_ok, ok_ok, old_some}
use Rattle.ks_engine.proofs.Steps.{plan_stands}
use Rattle.ks_engine.specs.LastSync.{old_auto}
use Rattle.ks_engine.specs.Sources.{Source}
use Rattle.ks_engine.specs.SyncPlan.{AreInputs, refusal_of}
use Rattle.ks_engine.specs.declared.error.EngineError.TheVariants.{OutOfMemory}
use Rattle.ks_hidden.proofs.HeaderLines.{written_explained}
use Rattle.ks_hidden.proofs.WholeHeaders.{written_lacks_none}
use Rattle.ks_hidden.specs.HeaderLines.{foreign_line, lacks}
use Rattle.ks_output.specs.AutoConf.{auto_generation, auto_map, auto_refusal}
use Rattle.ks_output.specs.AutoText.{auto_text}
use Rattle.ks_output.specs.Header.{header_text}
use Rattle.ks_output.specs.OldConfig.{texts_of}
use Rattle.ks_symbols.proofs.Prelude.{eqb-true}
use Rattle.ks_symbols.specs.Configuration.{IsConfiguration}
use Rattle.ks_symbols.specs.Names.{header_path}
use Rattle.ks_symbols.specs.Titles.{is_title}
use Rattle.ks_commands.specs.TreeStatus.{Counts, IsTreeStatus, is_same, unchanged}
use Rattle.ks_commands.specs.TreeStatusLaws.{SameTreesTouchNothing, SynchronisedTreesAreSame, SynchronisedTreesAreWhole}
use Rattle.ks_commands.specs.declared.tree_status.HeaderState.{HeaderState}
use Rattle.ks_commands.specs.declared.tree_status.HeaderState.TheVariants.{Same}
use Rattle.ks_commands.specs.declared.tree_status.TreeStatus.{TreeStatus}

-- a plan has the configuration of its texts
config_of : (s : ConfigInputs) (auto : OldAuto) (plan : Plan) → plan_over s auto ≡ Ok plan → plan.config ≡ s.config
config_of s auto plan e = search (rules, err_ok, ok_ok)

config_made : (read : Result OldAuto EngineError) (s : ConfigInputs) (plan : Plan) → Ok plan ≡ and_then read (plan_over s) → plan.config ≡ s.config
config_made (Ok auto) s plan made = config_of s auto plan (sym made)
config_made (Err e) s plan made = absurd cc

same_config : (files : Files) (source : Source) (plan : Plan) (s : ConfigInputs) → IsSyncPlan files source (Ok plan) → AreInputs source s → plan.config ≡ s.config
same_config files source plan s (inl refused) are = absurd cc
same_config files source plan s (inr made) are =
    config_made (old_auto (content files auto_path)) made.0 plan made.2 ∙ ap (λ (i : ConfigInputs). i.config) (one_input source made.0 s made.1 are)

-- ---- a tree that was just synchronised

old_fits : (file : Option (List ℕ)) (auto : OldAuto) → old_auto file ≡ Ok auto → auto.generation < 2 ^ 64
unfolding old_auto
old_fits file auto is = grind (arith, small_generation)

written_reads : (file : Option (List ℕ)) (title : List ℕ) (config : Configuration) (g : ℕ) (auto : OldAuto) → file ≡ Some (auto_text title config g)
    → old_auto file ≡ Ok auto → auto_refusal (auto_text title config g) ≡ None → auto ≡ record { texts = auto_map (auto_text title config g); generation = auto_generation (auto_text title config g) }
written_reads file title config g auto at reads fine = ok_ok _ _ (sym reads ∙ old_some file (auto_text title config g) None at fine)

read_after : (old new : Files) (source : Source) (report : Report) (synced : IsSynced old new source report) (auto : OldAuto)
    → old_auto (content new auto_path) ≡ Ok auto
    → (auto.generation ≡ synced.plan.generation + 1) × (auto.texts ≡ texts_of synced.plan.config)
read_after old new source report synced auto there =
    let plan = synced.plan in
    let (before, read, facts) = plan_stands old source plan synced.planned in
    let fits = old_fits (content old auto_path) before read in
    let small : plan.generation + 1 < 2 ^ 64 = grind (arith, facts) in
    let reads = written_reads (content new auto_path) plan.title plan.config (plan.generation + 1) auto synced.done.auto there
    (accepted plan.title plan.config (plan.generation + 1) facts.source.title facts.source.config small facts.small) in (
      ap (λ (a : OldAuto). a.generation) reads
          ∙ generation_back plan.title plan.config (plan.generation + 1) facts.source.title facts.source.config small,
      ap (λ (a : OldAuto). a.texts) reads
          ∙ texts_back plan.title plan.config (plan.generation + 1) facts.source.title facts.source.config small,
    )

pub synchronised_are_whole : SynchronisedTreesAreWhole
synchronised_are_whole dialect old new source report beside s synced is =
    let plan = synced.plan in
    let (reads, texts) = read_after old new source report synced is.auto is.there in
    let facts = (plan_stands old source plan synced.planned).2 in
    record {
      generation = is.generation ∙ reads ∙ sym synced.generation;
      header = is.header ∙ rw (
        texts,
        synced.done.header,
        written_explained dialect plan.title plan.config facts.source.title facts.source.config,
        written_lacks_none plan.title plan.config facts.source.title facts.source.config,
      ) refl;
    }

counted_none : (inputs : ConfigInputs) (texts : Texts) (n : Option ℕ) → Counts (Some inputs) texts n → AreChanges texts inputs.config []
    → unchanged n ≡ true
counted_none inputs texts None counts none = absurd counts
counted_none inputs texts (Some n) (names, changes, is) none =
    rw (is, changes_are_one texts inputs.config names [] changes none) refl

pub synchronised_are_same : SynchronisedTreesAreSame
synchronised_are_same dialect old new source report inputs s synced are is =
    let plan = synced.plan in
    let (reads, texts) = read_after old new source report synced is.auto is.there in
    counted_none inputs is.auto.texts s.changed is.changed
    (rw (texts, ← same_config old source plan inputs synced.planned are) (nothing_changes plan.config))

-- ---- where all is the same

no_names : (names : List (List ℕ)) → 0 ≡ length names → names ≡ []
no_names [] none = refl
no_names (x ∷ xs) none = absurd cc

none_counted : (inputs : ConfigInputs) (texts : Texts) (n : Option ℕ) → Counts (Some inputs) texts n → unchanged n ≡ true → AreChanges texts inputs.config []
none_counted inputs texts None counts none = absurd counts
none_counted inputs texts (Some n) (names, changes, is) none =
    subst (λ (l : List (List ℕ)). AreChanges texts inputs.config l) (no_names names (sym (eqb-true n 0 none) ∙ is)) changes

none_changed : (s : TreeStatus) → is_same s ≡ true → unchanged s.changed ≡ true
none_changed s same = search (rules, and_parts)

pub same_touch_nothing : SameTreesTouchNothing
same_touch_nothing dialect files source inputs s plan names are is same planned changes =
    let (auto, read, facts) = plan_stands files source plan planned in
    let one : auto ≡ is.auto = ok_ok _ _ (sym read ∙ is.there) in
    let old : plan.old ≡ is.auto.texts = facts.same_old ∙ ap (λ (a : OldAuto). a.texts) one in
    let config = same_config files source plan inputs planned are in
    changes_are_one is.auto.texts inputs.config names [] (rw (← old, ← config) changes)
    (none_counted inputs is.auto.texts s.changed is.changed (none_changed s same))
