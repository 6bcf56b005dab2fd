-- A record goes on with each history that the files show.
use Rattle.ks_engine.proofs.Prelude.{Bool, true, false, subst, IsLegal, IsTrue, Option, None, and_parts, ◌&&◌, ◌++◌, if◌then◌else◌, is_path, reading, names_of, ◌≡◌, ◌⊎◌, inl, inr, ⊎_elim, ℕ, ◌<◌, ◌≤◌, List, [], Some, Result, Ok, Err, IfOk, IfErr, sym, ◌∙◌, ap, refl, length, ltb-false, eqb-false, max_bytes, Conventions, Dialect, Role, rules_for, CommandRecord, command_text, config_names, record_of, Files, content, SameButBoth, auto_path, command_path, command_temporary, EngineError, and_then, History, done, WasSynced, Shows, IsCommandFile, at, FollowsRecordUnder, IsRecordEvent, OldAuto, synced_at, last_generation, scanned_all, with_command, RecordPlan, numbered, drafted, record_plan_under, IsRecordPlanUnder, IsRecordedUnder, IsRecordRefusedUnder, rules}
use Rattle.std.specs.Prelude.{IfSome, flat_map}
use Rattle.std.proofs.Common.{append-nil}
use Rattle.ks_fixdep.specs.CommandFile.{ended}
use Rattle.ks_engine.specs.declared.recording.Recorded.{Recorded as Answer}
use Rattle.ks_engine.specs.Recording.{listed_without}
use Rattle.ks_engine.proofs.Heart.{synced_or_not}
use Rattle.ks_engine.specs.History.{Begun, Synced, Broken, Recorded}
use Rattle.ks_fixdep.specs.OwnLines.{further_lines}
use Rattle.ks_engine.specs.Places.{depfile_at, legal_at, legal_place, place_of}
use Rattle.ks_engine.specs.Recorded.{recorded_at, with_further_lines}
use Rattle.ks_engine.specs.Shows.{IsAuto}
use Rattle.ks_engine.proofs.LowerLaws.{further_lines_read, names_of_record, written_reads}
use Rattle.ks_engine.proofs.Reading.{ok_ok, err_ok}
use Rattle.ks_engine.proofs.Steps.{auto_read, recorded_shows, unclaimed_shows, untouched_shows}

-- ---- the parts of a plan

then_made : {A B : Type 0} (step : Result A EngineError) (next : A → Result B EngineError) (y : B) → and_then step next ≡ Ok y → (x : A) × (step ≡ Ok x)
    × (next x ≡ Ok y)
then_made step next y e = search rules

-- what a plan was made of
pub record Made (conventions : Conventions) (files : Files) (d t c : List ℕ) (plan : RecordPlan) : Type 0 where
  pub text : List ℕ
  pub ps : List (List ℕ × Role)
  pub g : ℕ
  pub found : List (List (List ℕ))
  pub place : legal_place conventions.options ≡ Ok tt
  pub at : depfile_at conventions.options d (content files d) ≡ Ok text
  pub listed : listed_without conventions.header text ≡ Ok ps
  pub synced : recorded_at conventions.options.before_sync (content files auto_path) ≡ Ok g
  pub all : scanned_all (rules_for conventions.dialect t) files ps ≡ Ok found
  pub draft : drafted conventions t c ps g (with_command conventions.scans_command (rules_for conventions.dialect t) c found) ≡ Ok plan

-- what is found of it
abbrev pub all_found : {conventions : Conventions} {files : Files} {d t c : List ℕ} {plan : RecordPlan} → Made conventions files d t c plan → List (List (List ℕ))
all_found {conventions} {files} {d} {t} {c} made = with_command conventions.scans_command (rules_for conventions.dialect t) c made.found

pub made_of : (conventions : Conventions) (files : Files) (d t c : List ℕ) (plan : RecordPlan) → record_plan_under conventions files d t c ≡ Ok plan
    → Made conventions files d t c plan
unfolding record_plan_under
made_of conventions files d t c plan e = search (rules, then_made)

-- the parts of what was drafted
pub record Drafted (conventions : Conventions) (t c : List ℕ) (ps : List (List ℕ × Role)) (g : ℕ) (found : List (List (List ℕ))) (plan : RecordPlan) : Type 0 where
  pub file : plan.file ≡ numbered (record_of t c ps found) g
  pub generation : plan.generation ≡ g
  pub names : plan.names ≡ names_of found
  pub text : plan.text ≡ with_further_lines conventions t plan.names (command_text plan.file)
  pub small : length plan.text ≤ max_bytes

pub drafted_of : (conventions : Conventions) (t c : List ℕ) (ps : List (List ℕ × Role)) (g : ℕ) (found : List (List (List ℕ))) (plan : RecordPlan)
    → drafted conventions t c ps g found ≡ Ok plan → Drafted conventions t c ps g found plan
drafted_of conventions t c ps g found plan e = search (rules, err_ok, ok_ok, ltb-false)

-- ---- the names of a plan are those of its command file

pub count_names : (conventions : Conventions) (files : Files) (d t c : List ℕ) (plan : RecordPlan) → IsRecordPlanUnder conventions files d t c plan → config_names plan.file.deps ≡ plan.names
count_names conventions files d t c plan is =
    let made = made_of conventions files d t c plan is.planned in
    let found = all_found made in
    let parts = drafted_of conventions t c made.ps made.g found plan made.draft in
    ap (λ (f : CommandRecord). config_names f.deps) parts.file ∙ names_of_record made.ps found ∙ sym parts.names

-- ---- the history goes on

-- a shown tree with a generation has a completed synchronisation
synced_at_shown : (auto : OldAuto) (h : History) (g : ℕ) → auto.generation ≡ done h → synced_at auto ≡ Ok g → (g ≡ done h) × (0 < done h)
synced_at_shown auto h g same e = search (rules, err_ok, ok_ok, eqb-false)

plan_synced : (files : Files) (h : History) (g : ℕ) → Shows files h → last_generation (content files auto_path) ≡ Ok g → (g ≡ done h) × (0 < done h)
plan_synced files h g shows is = search (rules, auto_read, synced_at_shown)

-- as long as there is no auto.conf nothing was synchronised
none_done : (h : History) → IsAuto h None → done h ≡ 0
none_done (Begun texts generation stamps) is = is.1
none_done (Synced title config past) is = absurd cc
none_done (Broken title config renewed past) is = none_done past is
none_done (Recorded object command names header past) is = none_done past is

plan_numbered_at : (before_sync : Bool) (files : Files) (h : History) (g : ℕ) (file : Option (List ℕ)) → Shows files h → file ≡ content files auto_path → recorded_at before_sync file ≡ Ok g
    → (g ≡ done h) × (before_sync ≡ false → 0 < done h)
plan_numbered_at true files h g None shows at is = (sym (ok_ok 0 g is) ∙ sym (none_done h (subst (IsAuto h) (sym at) shows.auto)), λ plain. absurd cc)
plan_numbered_at true files h g (Some b) shows at is = let synced = plan_synced files h g shows (ap last_generation (sym at) ∙ is) in (synced.0, λ plain. synced.1)
plan_numbered_at false files h g file shows at is = let synced = plan_synced files h g shows (ap last_generation (sym at) ∙ is) in (synced.0, λ plain. synced.1)

plan_numbered : (before_sync : Bool) (files : Files) (h : History) (g : ℕ) → Shows files h → recorded_at before_sync (content files auto_path) ≡ Ok g
    → (g ≡ done h) × (before_sync ≡ false → 0 < done h)
plan_numbered before_sync files h g shows is = plan_numbered_at before_sync files h g (content files auto_path) shows refl is

-- a command file reads as its record, whatever a build asks for behind it
ok_if : (b : Bool) (e : EngineError) (r : Result (Unit {0}) EngineError) → r ≡ (if b then Ok tt else Err e) → r ≡ Ok tt → b ≡ true
ok_if true e r is ok = refl
ok_if false e r is ok = absurd cc

tree_legal : (place : Option (List ℕ × List ℕ)) → legal_at place ≡ Ok tt → IfSome place (λ p. IsTrue (is_path p.1))
tree_legal None legal = tt
tree_legal (Some place) legal = (and_parts _ _ (ok_if (is_path place.0 && is_path place.1) _ (legal_at (Some place)) refl legal)).1

lines_read : (scans adds : Bool) (dialect : Dialect) (place : Option (List ℕ × List ℕ)) (f : CommandRecord) (names : List (List ℕ)) → IsLegal f → names ≡ config_names f.deps
    → legal_at place ≡ Ok tt
    → reading (command_text f ++ flat_map ended (if scans then [] else further_lines adds dialect place f.target names)) ≡ Ok f
lines_read true adds dialect place f names legal are at = ap reading (append-nil (command_text f)) ∙ written_reads f legal
lines_read false adds dialect place f names legal are at = rw are (further_lines_read adds dialect place f legal (tree_legal place at))

text_reads : (under : Conventions) (f : CommandRecord) (names : List (List ℕ)) → IsLegal f → names ≡ config_names f.deps → legal_place under.options ≡ Ok tt
    → reading (with_further_lines under f.target names (command_text f)) ≡ Ok f
text_reads under f names legal are at = lines_read under.scans_command under.options.adds_own_lines under.dialect (place_of under.options) f names legal are at

-- the command file of a plan says what is recorded
plan_records : (under : Conventions) (files : Files) (h : History) (d t c header : List ℕ) (plan : RecordPlan) → Shows files h → IsRecordPlanUnder under files d t c plan
    → (under.options.before_sync ≡ false → 0 < done h) × (plan.generation ≡ done h)
    × IsCommandFile t (record { command = c; names = plan.names; header = header; past = h }) plan.text
plan_records under files h d t c header plan shows is =
    let made = made_of under files d t c plan is.planned in
    let parts = drafted_of under t c made.ps made.g (all_found made) plan made.draft in
    let synced = plan_numbered under.options.before_sync files h made.g shows made.synced in
    let names = count_names under files d t c plan is in
    let target = ap (λ (f : CommandRecord). f.target) parts.file in
    let reads = text_reads under plan.file plan.names is.legal (sym names) made.place in (
      synced.1,
      parts.generation ∙ synced.0,
      record {
        small = parts.small;
        file = plan.file;
        reads = ap reading (parts.text ∙ ap (λ o. with_further_lines under o plan.names (command_text plan.file)) (sym target)) ∙ reads;
        target = target;
        command = ap (λ (f : CommandRecord). f.command) parts.file;
        names = names;
        generation = ap (λ (f : CommandRecord). f.generation) parts.file ∙ ap (λ g. Some g) synced.0;
      },
    )

module _ (under : Conventions) (old new : Files) (m : ℕ) (h : History) (d t c : List ℕ) (shows : Shows old h) where
  -- a command file that was written is the newest event, unless the history has no synchronisation yet
  added : (plan : RecordPlan) → IsRecordPlanUnder under old d t c plan → content new (command_path t) ≡ Some plan.text
      → SameButBoth (command_temporary t) (command_path t) old new
      → (next : History) × ((WasSynced h × IsRecordEvent (at old m h) t c plan.names next) ⊎ ((WasSynced h → ⊥) × (next ≡ h))) × Shows new next
  added plan is written others = ⊎_elim
      (λ some. let header = shows.header some in
      let shown = recorded_shows old new h t c plan.names header.0 plan.text shows some header.1 (plan_records under old h d t c header.0 plan shows is).2 written others in
      search rules)
      (λ none. (h, inr (none, refl), unclaimed_shows old new h t shows none others))
      (synced_or_not h)

pub record_follows_under : (under : Conventions) (old new : Files) (m n : ℕ) (h : History) (d t c : List ℕ) (r : Result Answer EngineError) → Shows old h
    → IfOk r (IsRecordedUnder under old new d t c) → IfErr r (IsRecordRefusedUnder under old new d t c)
    → (next : History) × FollowsRecordUnder under d t c r (at old m h) (at new n next) × Shows new next
record_follows_under under old new m n h d t c (Ok answer) shows ok err =
    let facts = plan_records under old h d t c [] ok.plan shows ok.planned in
    let next = added under old new m h d t c shows ok.plan ok.planned ok.written ok.others in
    (next.0, record { files = ok; generation = ok.generation ∙ facts.1; some = facts.0; history = next.1 }, next.2)
record_follows_under under old new m n h d t c (Err e) shows ok (inl plain) = search rules
record_follows_under under old new m n h d t c (Err e) shows ok (inr (given, inl same)) = search rules
record_follows_under under old new m n h d t c (Err e) shows ok (inr (given, inr is)) = ⊎_elim
    (λ kept. (h, inr (given, inr (is, inl refl)), untouched_shows old new h t shows kept is.others))
    (λ made. let next = added under old new m h d t c shows is.plan is.planned made is.others in
    (next.0, inr (given, inr (is, ⊎_elim (λ event. inr event.1) (λ none. inl none.1) next.1)), next.2))
    is.either
