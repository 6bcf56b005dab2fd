-- A suspicion has a cause.
use Rattle.ks_engine.proofs.Prelude.{◌≡◌, List, ℕ, true, arith, History, Begun, Synced, Broken, Recorded, done, renewed_since_sync, IsHistory, HasChangeAfter, SuspicionsHaveCauses, common_steps}
use Rattle.ks_engine.proofs.Heart.{recorded_synced}

-- a renewed stamp, by the synchronisation that was broken off
renewals : (h : History) (x : List ℕ) → IsHistory h → renewed_since_sync h x ≡ true → HasChangeAfter (done h) x h
renewals (Begun texts generation stamps) x is renewed = absurd cc
renewals (Synced title config past) x is renewed = absurd cc
renewals (Broken title config names past) x is renewed = grind (arith, common_steps, (is.2 x), (renewals past x is.0))
renewals (Recorded object command names header past) x is renewed = renewals past x is.0 renewed

pub suspicions : SuspicionsHaveCauses
suspicions (Begun texts generation stamps) o x r is last suspect = absurd cc
suspicions (Synced title config past) o x r is last suspect
    = grind (arith, common_steps, (recorded_synced past o r is.0 last), (suspicions past o x r is.0 last))
suspicions (Broken title config names past) o x r is last suspect
    = grind (arith, common_steps, (recorded_synced past o r is.0 last), (is.2 x), (suspicions past o x r is.0 last))
suspicions (Recorded object command names header past) o x r is last suspect = grind (arith, common_steps, (renewals past x is.0), (suspicions past o x r is.0))
