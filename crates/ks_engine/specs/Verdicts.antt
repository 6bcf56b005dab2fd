-- What the verdicts in a run say.
use Rattle.std.specs.Prelude.{◌≡◌, ℕ, List, Option, Some, None, Result, Err, IfOk, IfSome}
use Rattle.ks_engine.specs.declared.error.EngineError.{EngineError}
use Rattle.ks_engine.specs.declared.staleness.Verdict.{Verdict}
use Rattle.ks_engine.specs.declared.staleness.Verdict.TheVariants.{Fresh}
use Rattle.ks_engine.specs.Actions.{Action, Reply, Sync, SyncFrom, SyncAllStamps, Stale, Why, Backdate, Synced, Evaluated, Explained}
use Rattle.ks_engine.specs.Asked.{reported}
use Rattle.ks_engine.specs.Refusals.{IsAborted}
use Rattle.ks_engine.specs.History.{History, LastRecord, last_record}
use Rattle.ks_engine.specs.Staleness.{first_changed, first_suspect, verdict}
use Rattle.ks_engine.specs.Evaluated.{HasSameDefinitions, IsEvaluated}
use Rattle.ks_engine.specs.Follows.{TreeState}

-- the object that is asked about, and what is answered: whether it is stale
abbrev pub verdict_on : Action → Reply → Option (List ℕ × Result Verdict EngineError)
verdict_on (Stale o) (Evaluated r) = Some (o, r)
verdict_on (Stale o) (Explained r spelling) = Some (o, reported r)
verdict_on (Why o) (Explained r spelling) = Some (o, reported r)
verdict_on (Backdate which o) (Explained r spelling) = Some (o, reported r)
verdict_on action reply = None

-- Of a recorded object it is judged by the last record.
abbrev pub IsEvaluatedReply : TreeState → Action → Reply → Type 0
IsEvaluatedReply s a r = IfSome (verdict_on a r) (λ p. (w : LastRecord) → last_record s.history p.0 ≡ Some w → IsEvaluated s.files s.history p.0 w p.1)

-- A verdict on a recorded object is the first of its names that is suspect, ..
abbrev pub IsSuspectVerdict : History → Action → Reply → Type 0
IsSuspectVerdict h a r = IfSome (verdict_on a r) (λ p. (w : LastRecord) → last_record h p.0 ≡ Some w → IfOk p.1 (λ v. v ≡ verdict (first_suspect h p.0)))

-- .. or the first that a completed synchronisation changed since the record.
abbrev pub IsChangedVerdict : History → Action → Reply → Type 0
IsChangedVerdict h a r = IfSome (verdict_on a r) (λ p. (w : LastRecord) → last_record h p.0 ≡ Some w → IfOk p.1 (λ v. v ≡ verdict (first_changed h p.0)))

-- Where a recorded object is called fresh, the header defines each of its names in the same lines as at its record.
abbrev pub IsSafeVerdict : TreeState → Action → Reply → Type 0
IsSafeVerdict s a r =
    IfSome (verdict_on a r) (λ p. (w : LastRecord) → last_record s.history p.0 ≡ Some w → IfOk p.1 (λ v. v ≡ Fresh → HasSameDefinitions s.files w))

-- A synchronisation that was given up may have been broken off.
abbrev pub IsAbortedSync : Action → Reply → Type 0
IsAbortedSync (Sync kconfig dotconfig) (Synced (Err e)) = IsAborted e
IsAbortedSync (SyncFrom source) (Synced (Err e)) = IsAborted e
IsAbortedSync (SyncAllStamps kconfig dotconfig) (Synced (Err e)) = IsAborted e
IsAbortedSync action reply = ⊥
