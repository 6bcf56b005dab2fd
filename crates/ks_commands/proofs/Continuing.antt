-- What a call of the engine leaves, after reads that changed no file.
use Rattle.ks_commands.proofs.Prelude.{Dialect, ◌≡◌, ◌⊎◌, ◌≤◌, ℕ, List, Result, Ok, Err, subst, Files, Reply, EngineError, Report, Action, calls_of, FileRun, FileState, IfOk, IfErr, IsAborted, Refusal, Engine, Ending, given, RunsAll, RunsOn, IsAbortedRefusal, script_actions, script_at, KconfigText, rules}
use Rattle.ks_engine.specs.FileRuns.{LeavesStamped, LeavesSync}
use Rattle.ks_engine.specs.AllStamps.{IsStamped, IsStampedRefused}
use Rattle.ks_engine.specs.Sources.{Source}
use Rattle.ks_engine.specs.Synchronised.{IsSynced, IsSyncRefused}

-- what a synchronisation leaves is what the one or the other call leaves
pub sync_printed : (old new : Files) (source : Source) (r : Result Report EngineError)
    → IfOk r (IsSynced old new source) → IfErr r (IsSyncRefused old new source) → LeavesSync old new source r
sync_printed old new source (Ok report) ok err = ok
sync_printed old new source (Err e) ok err = err

pub stamped_printed : (old new : Files) (k : KconfigText) (d : List ℕ) (r : Result Report EngineError)
    → IfOk r (IsStamped old new k d) → IfErr r (IsStampedRefused old new k d) → LeavesStamped old new k d r
stamped_printed old new k d (Ok report) ok err = ok
stamped_printed old new k d (Err e) ok err = err

-- a script that is refused where it is read
pub script_missing : (files : Files) (path : List ℕ) (e : EngineError) → IsAborted e ⊎ (given files path ≡ Err e) → IsAbortedRefusal (Engine e)
    ⊎ (script_at files path ≡ Err (Engine e))
unfolding script_at
script_missing files path e is = search rules

-- what its text asks for is what the script at the path asks for
pub script_there : (files mid : Files) (path text : List ℕ) (r : Result (List Action) Refusal) → mid ≡ files → given files path ≡ Ok text
    → script_actions mid text ≡ r → script_at files path ≡ r
unfolding script_at
script_there files mid path text r same there is = search rules

pub runs_all : (A B : Type 0) (P Q : List Reply → Type 0) (asked actions : List Action) (ended : Ending) → (A → B)
    → ((replies : List Reply) → P replies → Q replies) → asked ≡ actions
    → RunsAll A P asked ended → RunsAll B Q actions ended
runs_all A B P Q asked actions ended f g are runs = search rules

-- a run after the reads of its script
pub file_run_follows : (dialect : Dialect) (honest : Type 0) (old mid : FileState) (asked actions : List Action) (replies : List Reply) (new : FileState)
    → (honest → mid.files ≡ old.files) → old.failures ≤ mid.failures → asked ≡ actions
    → FileRun dialect honest mid (calls_of asked replies) new → RunsOn dialect honest old new actions replies
file_run_follows dialect honest old mid asked actions replies new same later are run =
    record { first = mid; read = same; later = later; run = subst (λ (acts : List Action). FileRun dialect honest mid (calls_of acts replies) new) are run }

-- a script whose text or files are refused
pub script_stopped : (files mid : Files) (path text : List ℕ) (r : Refusal) → mid ≡ files → given files path ≡ Ok text → IsAbortedRefusal r
    ⊎ (script_actions mid text ≡ Err r)
    → IsAbortedRefusal r ⊎ (script_at files path ≡ Err r)
script_stopped files mid path text r same there is = search (rules, script_there)
