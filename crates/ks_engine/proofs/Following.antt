-- A synchronisation goes on with each history that the files show.
use Rattle.ks_engine.proofs.Prelude.{inl, inr, ◌≡◌, ◌⊎◌, ⊎_elim, ℕ, ◌+◌, Result, Ok, Err, IfOk, IfErr, ◌∙◌, ap, refl, Files, EngineError, IsAborted, Report, History, Synced, Shows, IsSynced, IsSyncPlan, IsSyncRefused, at, FollowsSync, Source, rules}
use Rattle.ks_engine.proofs.Steps.{plan_facts, broken_shows, synced_shows}

-- A synchronisation that stops before its first write is refused or given up.
pub unwritten : (old new : Files) (k : Source) (e : EngineError) → new ≡ old → IsAborted e ⊎ IsSyncPlan old k (Err e) → IsSyncRefused old new k e
unwritten old new k e same (inl given) = inr (given, inl same)
unwritten old new k e same (inr bad) = inl (bad, same)

pub sync_follows : (old new : Files) (m n : ℕ) (h : History) (k : Source) (r : Result Report EngineError) → Shows old h → IfOk r (IsSynced old new k)
    → IfErr r (IsSyncRefused old new k)
    → (next : History) × FollowsSync k r (at old m h) (at new n next) × Shows new next
sync_follows old new m n h k (Ok report) shows ok err =
    let facts = plan_facts old h k ok.plan shows ok.planned in (
      Synced ok.plan.title ok.plan.config h,
      record { files = ok; history = refl; generation = ok.generation ∙ ap (λ g. g + 1) facts.same_generation; changed = search (rules, facts.same_old) },
      synced_shows old new h ok.plan report.touched.items report.touched.items shows facts ok.changed ok.done.leaves refl ok.done.header ok.done.auto,
    )
sync_follows old new m n h k (Err e) shows ok (inl plain) = search rules
sync_follows old new m n h k (Err e) shows ok (inr (given, inl same)) = search rules
sync_follows old new m n h k (Err e) shows ok (inr (given, inr is)) =
    let facts = plan_facts old h k is.plan shows is.planned in ⊎_elim
    (λ kept. (_, inr (given, inr (is, inl refl)), broken_shows old new h is.plan is.names is.some.0 shows facts is.changed is.some.1 kept))
    (λ made. (_, inr (given, inr (is, inr refl)), synced_shows old new h is.plan is.names is.some.0 shows facts is.changed is.some.1 made.0 made.1 made.2))
    is.some.1.auto
