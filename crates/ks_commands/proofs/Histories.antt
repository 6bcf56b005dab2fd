-- Each history that the files show goes on with a request, by what is said of it by the files.
use Rattle.ks_commands.proofs.Prelude.{Dialect, ◌≡◌, ℕ, List, Option, Result, inl, inr, refl, sym, subst, ⊤, option_map, string_bytes, Files, FileState, History, Shows, at, EngineError, Report, Reply, Action, calls_of, Run, RunsOn, Runs, LeavesStamps, FollowsStamps, Stamps, Ending, EndsDepfile, EndsSync, by_files, by_histories, RequestsGoOn}
use Rattle.ks_engine.specs.Actions.{SyncFrom, SyncAllStamps, Record, Depfile, Synced, Recorded}
use Rattle.ks_requests.specs.declared.request.Request.TheVariants as request
use Rattle.ks_requests.specs.declared.request.Stamps.TheVariants as stamps
use Rattle.ks_engine.specs.Sources.{FromConf, FromKconfig, Source}
use Rattle.ks_requests.specs.Inputs.{source_at}
use Rattle.ks_requests.specs.declared.request.ConfigPaths.{ConfigPaths}
use Rattle.ks_requests.specs.declared.request.ElsewherePaths.{ElsewherePaths}
use Rattle.ks_requests.specs.declared.request.StrictPaths.{StrictPaths}
use Rattle.ks_engine.proofs.FileRunning.{goes_on, step_goes_on}

-- ---- each call of the engine

stamps_follow : (dialect : Dialect) (which : Stamps) (old new : FileState) (h : History) (source : Source) (r : Result Report EngineError) → Shows old.files h
    → LeavesStamps old.files new.files which source r
    → (next : History) × FollowsStamps which source r (at old.files old.failures h) (at new.files new.failures next) × Shows new.files next
stamps_follow dialect stamps.Touched old new h source r shows is = step_goes_on dialect old (SyncFrom source) (Synced r) new h shows is
stamps_follow dialect stamps.Declared old new h (FromKconfig k d) r shows is = step_goes_on dialect old (SyncAllStamps k d) (Synced r) new h shows is
stamps_follow dialect stamps.Declared old new h (FromConf d a b) r shows is = step_goes_on dialect old (SyncFrom (FromConf d a b)) (Synced r) new h shows is

run_follows : (dialect : Dialect) (old new : FileState) (h : History) (actions : List Action) (replies : List Reply) → Shows old.files h
    → RunsOn dialect ⊤ old new actions replies
    → (next : History) × Runs dialect (at old.files old.failures h) (at new.files new.failures next) actions replies × Shows new.files next
run_follows dialect old new h actions replies shows ran =
    let same = ran.read tt in
    let calls = calls_of actions replies in
    let next = goes_on dialect ⊤ ran.first calls new h tt (subst (λ (f : Files). Shows f h) (sym same) shows) ran.run in
    let from = λ (f : Files). at f ran.first.failures h in (
      next.0,
      (ran.first.failures, ran.later, subst (λ (f : Files). Run dialect (from f) calls (at new.files new.failures next.0)) same next.1),
      next.1.shown,
    )

-- ---- each request

-- nothing has changed
stays : (old new : FileState) (h : History) → Shows old.files h → new.files ≡ old.files → Shows new.files h
stays old new h shows same = subst (λ (f : Files). Shows f h) (sym same) shows

sync_goes_on : (dialect : Dialect) (which : Stamps) (c : ConfigPaths) (ended : Ending) (old new : FileState) (h : History) → Shows old.files h
    → EndsSync old.files (by_files dialect ⊤ old new) which c ended
    → (next : History) × EndsSync old.files (by_histories dialect (at old.files old.failures h) (at new.files new.failures next)) which c ended × Shows new.files next
sync_goes_on dialect which c ended old new h shows (inl (same, stopped)) = (h, inl ((same, refl), stopped), stays old new h shows same)
sync_goes_on dialect which c ended old new h shows (inr (t, there, answer, is, reported)) =
    let next = stamps_follow dialect which old new h (source_at dialect c.form t) answer shows is in
    (next.0, inr (t, there, answer, next.1, reported), next.2)

rule_goes_on : (dialect : Dialect) (end : Option (List ℕ)) (strict : Option StrictPaths) (elsewhere : Option ElsewherePaths) (d t c : List ℕ) (ended : Ending) (old new : FileState) (h : History) → Shows old.files h
    → EndsDepfile old.files (by_files dialect ⊤ old new) end strict elsewhere d t c ended
    → (next : History) × EndsDepfile old.files (by_histories dialect (at old.files old.failures h) (at new.files new.failures next)) end strict elsewhere d t c ended × Shows new.files next
rule_goes_on dialect end strict elsewhere d t c ended old new h shows (inl (same, stopped)) = (h, inl ((same, refl), stopped), stays old new h shows same)
rule_goes_on dialect end strict elsewhere d t c ended old new h shows (inr (header, named, options, are, allowed, answer, is, reported)) =
    let next = step_goes_on dialect old (Depfile header options d t c) (Recorded answer) new h shows is in
    (next.0, inr (header, named, options, are, allowed, answer, next.1, reported), next.2)

pub requests_go_on : RequestsGoOn
requests_go_on dialect (request.Sync c which) ended old new h told shows ends =
    let next = sync_goes_on dialect which c ended old new h shows (ends tt) in
    (next.0, (old.backdated, new.backdated, λ t. next.1), next.2)
requests_go_on dialect (request.Record d t c after words) ended old new h told shows ends =
    let is = ends tt in
    let next = step_goes_on dialect old (Record is.0 (string_bytes d) (string_bytes t) (string_bytes c)) (Recorded is.2) new h shows is.3 in
    (next.0, (old.backdated, new.backdated, λ u. (is.0, is.1, is.2, next.1, is.4)), next.2)
requests_go_on dialect (request.Depfile end strict elsewhere d t c) ended old new h told shows ends =
    let next = rule_goes_on dialect (option_map (λ p. string_bytes p) end) strict elsewhere (string_bytes d) (string_bytes t) (string_bytes c) ended old new h shows (ends tt) in
    (next.0, (old.backdated, new.backdated, λ u. next.1), next.2)
requests_go_on dialect (request.Batch script) ended old new h told shows (inl (r, why, is)) =
    (h, (old.backdated, new.backdated, inl (r, λ t. (((why t).0, refl), (why t).1), is)), stays old new h shows (why tt).0)
requests_go_on dialect (request.Batch script) ended old new h told shows (inr (text, actions, spelled, there, inl (same, memory))) =
    (h, (old.backdated, new.backdated, inr (text, actions, spelled, there, inl (λ t. (same t, refl), memory))), stays old new h shows (same tt))
requests_go_on dialect (request.Batch script) ended old new h told shows (inr (text, actions, spelled, there, inr (replies, ran, reported))) =
    let next = run_follows dialect old new h actions replies shows ran in
    (next.0, (old.backdated, new.backdated, inr (text, actions, spelled, there, inr (replies, next.1, reported))), next.2)
requests_go_on dialect (request.Repair s t k) ended old new h told shows ends = absurd told
requests_go_on dialect (request.Mark which ts) ended old new h told shows ends = absurd told
requests_go_on dialect (request.Preview c o) ended old new h told shows ends =
    (h, (old.backdated, new.backdated, λ t. (((ends t).0, refl), (ends t).1)), stays old new h shows (ends tt).0)
requests_go_on dialect (request.Diff c report_style) ended old new h told shows ends =
    (h, (old.backdated, new.backdated, λ t. (((ends t).0, refl), (ends t).1)), stays old new h shows (ends tt).0)
requests_go_on dialect (request.Status c) ended old new h told shows ends =
    (h, (old.backdated, new.backdated, λ t. (((ends t).0, refl), (ends t).1)), stays old new h shows (ends tt).0)
requests_go_on dialect (request.Fixdep d o c) ended old new h told shows ends =
    (h, (old.backdated, new.backdated, λ t. (((ends t).0, refl), (ends t).1)), stays old new h shows (ends tt).0)
requests_go_on dialect asked ended old new h told shows ends =
    (h, (old.backdated, new.backdated, (λ t. (ends.0 t, refl), ends.1)), stays old new h shows (ends.0 tt))
