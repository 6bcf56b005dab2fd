-- The stamps that are made after a synchronisation.
use Rattle.ks_engine.proofs.Prelude.{FromKconfig, IsStamped, IsStampedRefused, IsSyncRefused, IsSynced, IsSyncPlan, FollowsSyncAllStamps, ◌≡◌, ◌∙◌, inl, inr, ℕ, true, List, Option, Some, None, Ok, Err, Result, IfOk, IfErr, IsTrue, refl, sym, and_parts, is_some, declared, kconfig_refusal, is_name, Files, EngineError, Kind, Plan, Report, History, Shows, at, KconfigText}
unfoldable use Rattle.ks_symbols.specs.Kinds.{is_symbol_name}
use Rattle.ks_symbols.proofs.Configured.{declares_names}
use Rattle.ks_symbols.proofs.Story.{none_both}
use Rattle.ks_engine.proofs.DepfileLemmas.{made_stamps_show}
use Rattle.ks_engine.proofs.Following.{sync_follows}

-- ---- what a synchronisation declares

symbol_named : (x : List ℕ) (o : Option Kind) → ((k : Kind) → o ≡ Some k → IsTrue (is_symbol_name k x)) → is_some o ≡ true → IsTrue (is_name x)
unfolding is_symbol_name
symbol_named x None names is = absurd cc
symbol_named x (Some k) names is = (and_parts _ _ (names k refl)).0

accepted : (files : Files) (k : KconfigText) (d : List ℕ) (plan : Plan) → IsSyncPlan files (FromKconfig k d) (Ok plan) → kconfig_refusal k ≡ None
accepted files k d plan (inl (e, refused, same)) = absurd cc
accepted files k d plan (inr (s, sources, same)) = (none_both _ _ sources.accepted).0

-- the symbols of a Kconfig by which it was synchronised have names
declared_named : (old new : Files) (k : KconfigText) (d : List ℕ) (report : Report) → IsSynced old new (FromKconfig k d) report
    → (x : List ℕ) → is_some (declared k x) ≡ true → IsTrue (is_name x)
declared_named old new k d report synced x is =
    symbol_named x (declared k x) (λ kind there. declares_names k (accepted old k d synced.plan synced.planned) x kind there) is

-- ---- the history that goes on with it

-- Each history that the files show goes on with a synchronisation that was refused or given up.
pub refused_follows : (old new : Files) (m n : ℕ) (h : History) (k : KconfigText) (d : List ℕ) (e : EngineError) → Shows old h → IsSyncRefused old new (FromKconfig k d) e
    → (next : History) × FollowsSyncAllStamps k d (Err e) (at old m h) (at new n next) × Shows new next
refused_follows old new m n h k d e shows refused =
    let next = sync_follows old new m n h (FromKconfig k d) (Err e) shows tt refused in (next.0, inl next.1, next.2)

-- Each history that the files show goes on with a synchronisation and the stamps after it.
pub stamped_follows : (old new : Files) (m n : ℕ) (h : History) (k : KconfigText) (d : List ℕ) (r : Result Report EngineError)
    → Shows old h → IfOk r (IsStamped old new k d) → IfErr r (IsStampedRefused old new k d)
    → (next : History) × FollowsSyncAllStamps k d r (at old m h) (at new n next) × Shows new next
stamped_follows old new m n h k d (Ok report) shows is refused =
    let next = sync_follows old is.between m n h (FromKconfig k d) (Ok report) shows is.synced tt in (
      next.0,
      record { between = at is.between n next.0; synced = next.1; history = refl; names = is.names; declared = is.declared; stamps = is.stamps },
      made_stamps_show is.between new is.names next.0 (λ x among. declared_named old is.between k d report is.synced x (sym (is.declared x) ∙ among)) is.stamps next.2,
    )
stamped_follows old new m n h k d (Err e) shows ok (inl refused) = refused_follows old new m n h k d e shows refused
stamped_follows old new m n h k d (Err e) shows ok (inr (given, is)) =
    let next = sync_follows old is.between m n h (FromKconfig k d) (Ok is.report) shows is.synced tt in (
      next.0,
      inr (given, record { report = is.report; between = at is.between n next.0; synced = next.1; history = refl; names = is.names; declared = is.declared; stamps = is.stamps }),
      made_stamps_show is.between new is.names next.0 (λ x among. declared_named old is.between k d is.report is.synced x (is.declared x among)) is.stamps next.2,
    )
