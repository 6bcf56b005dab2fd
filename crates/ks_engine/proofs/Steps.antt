-- The files after each call show the history after it.
use Rattle.ks_engine.proofs.Prelude.{Header, AreLegalChanges, AutoConf, AutoTemporary, Begun, Bool, Broken, CommandFile, CommandTemporary, Err, Files, HasNumber, HeaderTemporary, History, IsAuto, IsCommandFile, IsHistory, IsLegalPlace, IsLegalSync, IsSyncPlan, IsTrue, Source, LastRecord, List, None, Ok, OldAuto, Option, Place, Plan, Recorded, SameButBoth, Shows, Some, ConfigInputs, Stamp, StampTemporary, SyncLeaves, Synced, Texts, WasSynced, and_then, ap, arith, auto_path, auto_text, before, both_ways, bytes_eq, bytes_eq-Decides, cases_Bool, command_path, command_temporary, cond, content, differs, done, eqb-false, false, header_path, header_text, inl, inr, is_in, is_name, last_record, length, ltb-false, max_bytes, old_auto, path_of, plan_over, refl, rules, stamp, stamp_path, stamp_text, subst, sym, ℕ, ⊎_elim, ◌+◌, ◌<◌, ◌^◌, ◌∙◌, ◌≡◌, ◌≤◌}
use Rattle.ks_engine.proofs.Heart.{record_cases, recorded_synced}
use Rattle.ks_engine.proofs.LowerLaws.{texts_back, generation_back, accepted, apart}
use Rattle.ks_engine.proofs.Reading.{inputs_accepted, old_some, ok_ok, err_ok}

pub done_le : (h : History) → IsHistory h → done h ≤ 18446744073709551615
done_le (Begun texts generation stamps) is = is.0
done_le (Synced t config past) is = omega arith
done_le (Broken t config renewed past) is = done_le past is.0
done_le (Recorded o command names header past) is = done_le past is.0

-- what a shown auto.conf reads as
pub record IsRead (b : Option (List ℕ)) (h : History) : Type 0 where
  pub auto : OldAuto
  pub reads : old_auto b ≡ Ok auto
  pub texts : auto.texts ≡ before h
  pub generation : auto.generation ≡ done h

pub auto_read : (h : History) (b : Option (List ℕ)) → IsHistory h → IsAuto h b → IsRead b h
unfolding old_auto
auto_read (Begun texts generation stamps) None legal is = record { auto = _; reads = refl; texts = sym is.0; generation = sym is.1 }
auto_read (Begun texts generation stamps) (Some b) legal is = record { auto = _; reads = old_some _ b None refl is.0; texts = is.2; generation = is.1 }
auto_read (Synced t config past) b legal is =
    let headroom = legal.2 in
    let small : done past + 1 < 2 ^ 64 = omega arith in
    record {
      auto = _;
      reads = old_some b _ None is.0 (accepted t config (done past + 1) legal.1.title legal.1.config small is.1);
      texts = texts_back t config (done past + 1) legal.1.title legal.1.config small;
      generation = generation_back t config (done past + 1) legal.1.title legal.1.config small;
    }
auto_read (Broken t config renewed past) b legal is = search (rules, (auto_read past b legal.0 is))
auto_read (Recorded o command names header past) b legal is = search (rules, (auto_read past b legal.0 is))

-- what stands where nothing was refused
pub record PlanFacts (old : Texts) (generation : ℕ) (plan : Plan) : Type 0 where
  pub source : IsLegalSync plan.title plan.config
  pub same_old : plan.old ≡ old
  pub same_generation : plan.generation ≡ generation
  pub headroom : plan.generation ≡ 18446744073709551615 → ⊥
  pub small : length (auto_text plan.title plan.config (plan.generation + 1)) ≤ max_bytes

pub plan_over_facts : (s : ConfigInputs) (auto : OldAuto) (plan : Plan) → IsLegalSync s.title s.config → plan_over s auto ≡ Ok plan
    → PlanFacts auto.texts auto.generation plan
plan_over_facts s auto plan legal e = search (rules, err_ok, ok_ok, eqb-false, ltb-false)

plan_of_inputs : (files : Files) (s : ConfigInputs) (plan : Plan) → IsLegalSync s.title s.config → Ok plan ≡ and_then (old_auto (content files auto_path)) (plan_over s)
    → (auto : OldAuto) × (old_auto (content files auto_path) ≡ Ok auto) × PlanFacts auto.texts auto.generation plan
plan_of_inputs files s plan legal made = elim (old_auto (content files auto_path)) as (λ r. Ok plan ≡ and_then r (plan_over s) → (auto : OldAuto) × (r ≡ Ok auto)
    × PlanFacts auto.texts auto.generation plan) [ Ok auto ↦ λ is. (auto, refl, plan_over_facts s auto plan legal (sym is)) | Err e ↦ λ is. absurd cc ] made

-- what stands where a plan was made, also over files that show no history
pub plan_stands : (files : Files) (k : Source) (plan : Plan) → IsSyncPlan files k (Ok plan) → (auto : OldAuto)
    × (old_auto (content files auto_path) ≡ Ok auto) × PlanFacts auto.texts auto.generation plan
plan_stands files source plan (inl refused) = absurd cc
plan_stands files source plan (inr made) = plan_of_inputs files made.0 plan (inputs_accepted source made.0 made.1).1 made.2

pub plan_facts : (files : Files) (h : History) (k : Source) (plan : Plan) → Shows files h → IsSyncPlan files k (Ok plan)
    → PlanFacts (before h) (done h) plan
plan_facts files h k plan shows planned = search (rules, auto_read, plan_stands, ok_ok)

-- ---- the stamps, the header and the command files of the next history

number_cond : (b : Bool) (file : Option (List ℕ)) (n g : ℕ) → g < 2 ^ 64 → HasNumber file n → HasNumber (cond b (Some (stamp_text g)) file) (cond b g n)
number_cond b file n g small has = search rules

-- A command file is neither a stamp nor another file of a synchronisation.
pub command_kept : (old new : Files) (plan : Plan) (changed renewed : List (List ℕ)) → AreLegalChanges plan.old plan.config changed
    → SyncLeaves old new plan changed renewed → (o : List ℕ) → content new (command_path o) ≡ content old (command_path o)
command_kept old new plan changed renewed are leaves o = leaves.others (command_path o)
    (λ x among. apart (CommandFile o) (Stamp x) tt (are.legal x among) (λ e. cc))
    (apart (CommandFile o) Header tt tt (λ e. cc))
    (apart (CommandFile o) AutoConf tt tt (λ e. cc))
    (apart (CommandFile o) StampTemporary tt tt (λ e. cc))
    (apart (CommandFile o) HeaderTemporary tt tt (λ e. cc))
    (apart (CommandFile o) AutoTemporary tt tt (λ e. cc))

module _ (old new : Files) (h : History) (plan : Plan) (changed renewed : List (List ℕ)) (shows : Shows old h) (facts : PlanFacts (before h) (done h) plan)
    (are : AreLegalChanges plan.old plan.config changed) (leaves : SyncLeaves old new plan changed renewed) where
  differs_now : (x : List ℕ) → is_in changed x ≡ differs (before h) plan.config x
  differs_now x = are.are.each x ∙ ap (λ (t : Texts). differs t plan.config x) facts.same_old

  headroom : done h < 18446744073709551615
  headroom = let le = done_le h shows.history in let other : done h ≡ 18446744073709551615 → ⊥ = λ e. facts.headroom (facts.same_generation ∙ e) in omega arith

  next_stamp : (x : List ℕ) → IsTrue (is_name x) → HasNumber (content new (stamp_path x)) (cond (is_in renewed x) (done h + 1) (stamp h x))
  next_stamp x name = search (rules, headroom, number_cond)

  next_commands : (o : List ℕ) (r : LastRecord) → last_record h o ≡ Some r → (b : List ℕ) × (content new (command_path o) ≡ Some b) × IsCommandFile o r b
  next_commands o r last = let was = shows.commands o r last in (was.0, command_kept old new plan changed renewed are leaves o ∙ was.1, was.2)

  pub broken_shows : content new auto_path ≡ content old auto_path → Shows new (Broken plan.title plan.config renewed h)
  broken_shows auto = record {
    history = (shows.history, facts.source, λ x in_it. sym (differs_now x) ∙ leaves.within x in_it);
    auto = subst (IsAuto h) (sym auto) shows.auto;
    header = λ some. ⊎_elim
        (λ kept. let was = shows.header some in (was.0, kept ∙ was.1, inr was.2))
        (λ made. (header_text plan.title plan.config, made.1, inl ((λ x d. ap (λ xs. is_in xs x) made.0 ∙ differs_now x ∙ d), λ x. refl)))
        leaves.header;
    stamps = next_stamp;
    commands = next_commands;
  }

  pub synced_shows : renewed ≡ changed → content new header_path ≡ Some (header_text plan.title plan.config)
      → content new auto_path ≡ Some (auto_text plan.title plan.config (plan.generation + 1)) → Shows new (Synced plan.title plan.config h)
  synced_shows all header auto = search (rules, headroom, differs_now, next_stamp, next_commands)

-- ---- files that show the same

pub same_shows : (old new : Files) (h : History) → Shows old h → content new auto_path ≡ content old auto_path → content new header_path ≡ content old header_path
    → ((x : List ℕ) → IsTrue (is_name x) → HasNumber (content old (stamp_path x)) (stamp h x) → HasNumber (content new (stamp_path x)) (stamp h x))
    → ((o : List ℕ) (r : LastRecord) → last_record h o ≡ Some r → content new (command_path o) ≡ content old (command_path o)) → Shows new h
same_shows old new h shows auto header stamps commands = search (rules, auto, header, stamps, commands, shows)

-- ---- a record: all but a command file and its temporary file is as before

module _ (old new : Files) (o : List ℕ) (others : SameButBoth (command_temporary o) (command_path o) old new) where
  kept : (q : Place) → IsLegalPlace q → (q ≡ CommandFile o → ⊥) → (q ≡ CommandTemporary o → ⊥) → content new (path_of q) ≡ content old (path_of q)
  kept q legal file temporary = others (path_of q) (apart q (CommandTemporary o) legal tt temporary) (apart q (CommandFile o) legal tt file)

  kept_command : (p : List ℕ) → bytes_eq o p ≡ false → content new (command_path p) ≡ content old (command_path p)
  kept_command p other = kept (CommandFile p) tt (λ e. let same : p ≡ o = cc in both_ways _ other ((bytes_eq-Decides o p).1 (sym same))) (λ e. cc)

  kept_shows : (h : History) → Shows old h → ((p : List ℕ) (r : LastRecord) → last_record h p ≡ Some r → content new (command_path p) ≡ content old (command_path p))
      → Shows new h
  kept_shows h shows commands = same_shows old new h shows (kept AutoConf tt (λ e. cc) (λ e. cc)) (kept Header tt (λ e. cc) (λ e. cc))
      (λ x name. subst (λ file. HasNumber file (stamp h x)) (sym (kept (Stamp x) name (λ e. cc) (λ e. cc)))) commands

pub recorded_shows : (old new : Files) (h : History) (o command : List ℕ) (names : List (List ℕ)) (header b : List ℕ) → Shows old h → WasSynced h
    → content old header_path ≡ Some header → IsCommandFile o (record { command = command; names = names; header = header; past = h }) b
    → content new (command_path o) ≡ Some b → SameButBoth (command_temporary o) (command_path o) old new → Shows new (Recorded o command names header h)
recorded_shows old new h o command names header b shows some at is written others = record {
  history = search rules;
  auto = search (rules, (kept old new o others AutoConf tt (λ e. cc) (λ e. cc)));
  header = search (rules, (kept old new o others Header tt (λ e. cc) (λ e. cc)));
  stamps = λ x name. search (rules, (kept old new o others (Stamp x) name (λ e. cc) (λ e. cc)));
  commands = search (rules, (kept_command old new o others), record_cases, bytes_eq-Decides);
}

-- before the first synchronisation of a history there are no recorded objects
pub unclaimed_shows : (old new : Files) (h : History) (o : List ℕ) → Shows old h → (WasSynced h → ⊥)
    → SameButBoth (command_temporary o) (command_path o) old new → Shows new h
unclaimed_shows old new h o shows none others = kept_shows old new o others h shows (λ p r last. absurd (none (recorded_synced h p r shows.history last).1))

-- a call that leaves all but the temporary files of a record
pub untouched_shows : (old new : Files) (h : History) (o : List ℕ) → Shows old h → content new (command_path o) ≡ content old (command_path o)
    → SameButBoth (command_temporary o) (command_path o) old new → Shows new h
untouched_shows old new h o shows same others = kept_shows old new o others h shows (λ p r last. ⊎_elim
    (λ here. subst (λ q. content new (command_path q) ≡ content old (command_path q)) ((bytes_eq-Decides o p).0 here) same)
    (kept_command old new o others p) (cases_Bool (bytes_eq o p)))
