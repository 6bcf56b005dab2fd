-- What was done before a command runs, call by call.
use Rattle.std.specs.Prelude.{◌≡◌, ◌&&◌, ◌||◌, ℕ, Bool, true, false, not, List, Option, Some, None, Result, Ok, Err, string_bytes, ⊤}
use Rattle.std.specs.Bool.{MatchBool}
use Rattle.std.specs.declared.fs.locks.TryLockError.{TryLockError}
use Rattle.ks_tree.specs.Paths.{auto_path}
use Rattle.ks_tree.specs.declared.tree.Tree.{Ghosts}
use Rattle.ks_requests.specs.declared.request.Request.{Request}
use Rattle.ks_requests.specs.declared.request.Request.TheVariants.{Mark, Repair}
use Rattle.ks_cli.specs.declared.args.WordsError.{WordsError}
use Rattle.ks_session.specs.Calls.{Drew, Event, Found, Held, Locked, Looked, Opened}
use Rattle.ks_session.specs.Lock.{LooksAt, LooksAtScript, Readings, lock_needed, text_of}
use Rattle.ks_session.specs.Numbers.{begins_anew}
use Rattle.ks_session.specs.declared.global_options.Settings.{Settings}
use Rattle.ks_session.specs.declared.lock.DirectoryLock.{DirectoryLock}
use Rattle.ks_session.specs.declared.lock.DirectoryLock.TheVariants.{Exclusive}
use Rattle.ks_session.specs.declared.lock.FoundFile.{FoundFile}
use Rattle.ks_session.specs.declared.start.Ready.{Ready}
use Rattle.ks_session.specs.declared.start.Stop.{Stop}
use Rattle.ks_session.specs.declared.start.Stop.TheVariants as stop

-- which calls are known to have been made
abbrev pub Calls : Type 0 → Type 0 → Type 1
Calls P L = Event P L → Type 0

-- The directory is there, and its tree was opened under a number that the system drew; or why it wasn't.
abbrev pub Opens : {P L : Type 0} → Calls P L → Settings → Result P Stop → Type 0
Opens did settings (Ok tree) = did (Looked (string_bytes settings.directory) (Ok tt)) × (seed : ℕ) × did (Drew (Some seed))
    × did (Opened (string_bytes settings.directory) seed tree)
Opens did settings (Err (stop.NoDirectory why)) = did (Looked (string_bytes settings.directory) (Err why))
Opens did settings (Err stop.NoSeed) = did (Drew None)
Opens did settings (Err stop.OutOfMemory) = ⊤
Opens did settings (Err why) = ⊥

-- The lock that is needed was asked for; where none is, nothing was.
abbrev pub Locks : {P L : Type 0} → Calls P L → Settings → Option DirectoryLock → P → Result (Option L) TryLockError → P → Type 0
Locks did settings None old answer new = (new ≡ old) × (answer ≡ Ok None)
Locks did settings (Some lock) old answer new = did (Locked (string_bytes settings.directory) lock settings.seconds old answer new)

-- The tree was opened, the script of a `batch` read, and nothing else; and then the lock was asked for that the request needs.
pub record AsksForLock {P L : Type 0} (tree : Ghosts P) (did : Calls P L) (reads : Readings P) (settings : Settings) (asked : Result Request WordsError)
    (script : Option FoundFile) (answer : Result (Option L) TryLockError) (work_tree : P) : Type 0 where
  pub first : P
  pub opened : Opens did settings (Ok first)
  pub second : P
  pub looked : LooksAtScript tree reads asked first second script
  pub asked_for : Locks did settings (lock_needed asked script) second answer work_tree

-- ---- lost numbers

abbrev pub is_alone : Option DirectoryLock → Bool
is_alone (Some Exclusive) = true
is_alone lock = false

abbrev pub needs_no_numbers : Request → Bool
needs_no_numbers (Repair stamps targets kept) = true
needs_no_numbers (Mark which targets) = true
needs_no_numbers request = false

-- what is asked for begins no numbers
abbrev pub begins_none : Result Request WordsError → Bool
begins_none (Ok request) = needs_no_numbers request
begins_none (Err e) = false

-- a command that synchronises, where nobody said that numbers may begin again
abbrev pub needs_look : Settings → Result Request WordsError → Option DirectoryLock → Bool
needs_look settings asked lock = is_alone lock && not (settings.may_begin || begins_none asked)

-- Where auto.conf begins them anew the directory is searched for numbers, and only there; and what was found of it is kept.
abbrev pub Searches : {P L : Type 0} → Calls P L → List ℕ → Option FoundFile → P → Result (Option FoundFile) Stop → P → Type 0
Searches did directory auto read (Ok kept) new = (kept ≡ auto) × MatchBool (begins_anew auto) (did (Found directory read None new)) (new ≡ read)
Searches did directory auto read (Err (stop.Lost loss)) new = (begins_anew auto ≡ true) × did (Found directory read (Some loss) new)
Searches did directory auto read (Err why) new = ⊥

-- Auto.conf was read, once, and the directory searched where that begins the numbers anew.
abbrev pub Looks : {P L : Type 0} → Ghosts P → Calls P L → Readings P → List ℕ → P → Result (Option FoundFile) Stop → P → Type 0
Looks tree did reads directory old (Err stop.OutOfMemory) new = ⊤
Looks {P} tree did reads directory old answer new =
    (auto : Option FoundFile) × (read : P) × LooksAt tree reads auto_path old read auto × Searches did directory auto read answer new

abbrev pub LooksIf : {P L : Type 0} → Bool → Ghosts P → Calls P L → Readings P → List ℕ → P → Result (Option FoundFile) Stop → P → Type 0
LooksIf true tree did reads directory old answer new = Looks tree did reads directory old answer new
LooksIf false tree did reads directory old answer new = (new ≡ old) × (answer ≡ Ok None)

-- ---- all of it

-- the script that was looked at is held, or else auto.conf
abbrev pub HoldsFirst : {P L : Type 0} → Calls P L → Option FoundFile → Option FoundFile → P → P → Type 0
HoldsFirst did (Some script) auto old new = did (Held old script.path.items (text_of script) new)
HoldsFirst did None (Some auto) old new = did (Held old auto.path.items (text_of auto) new)
HoldsFirst did None None old new = new ≡ old

-- The lock was had; then it was looked for numbers, where the command could lose some.
pub record LooksLocked {P L : Type 0} (tree : Ghosts P) (did : Calls P L) (reads : Readings P) (settings : Settings) (asked : Result Request WordsError)
    (script : Option FoundFile) (lock : Option L) (answer : Result (Option FoundFile) Stop) (work_tree : P) : Type 0 where
  pub before : P
  pub locked : AsksForLock tree did reads settings asked script (Ok lock) before
  pub looks : LooksIf (needs_look settings asked (lock_needed asked script)) tree did reads (string_bytes settings.directory) before answer work_tree

-- A command that is to run has its lock and its dialect, and none of its numbers would be lost; the script, or auto.conf, is held as it was read.
pub record IsReady {P L : Type 0} (tree : Ghosts P) (did : Calls P L) (reads : Readings P) (settings : Settings) (asked : Result Request WordsError)
    (ready : Ready P L) : Type 0 where
  pub dialect : ready.dialect ≡ settings.dialect
  pub script : Option FoundFile
  pub auto : Option FoundFile
  pub work_tree : P
  pub looked : LooksLocked tree did reads settings asked script ready.lock (Ok auto) work_tree
  pub holds : HoldsFirst did script auto work_tree ready.work_tree

-- Each other answer comes of the call that gave it.
abbrev pub Starts : {P L : Type 0} → Ghosts P → Calls P L → Readings P → Settings → Result Request WordsError → Result (Ready P L) Stop → Type 0
Starts tree did reads settings asked (Ok ready) = IsReady tree did reads settings asked ready
Starts tree did reads settings asked (Err (stop.NoDirectory why)) = did (Looked (string_bytes settings.directory) (Err why))
Starts tree did reads settings asked (Err stop.NoSeed) = did (Drew None)
Starts {P} tree did reads settings asked (Err (stop.NoLock why)) =
    (script : Option FoundFile) × (work_tree : P) × AsksForLock tree did reads settings asked script (Err why) work_tree
Starts {P} {L} tree did reads settings asked (Err (stop.Lost loss)) =
    (script : Option FoundFile) × (lock : Option L) × (work_tree : P) × LooksLocked tree did reads settings asked script lock (Err (stop.Lost loss)) work_tree
Starts tree did reads settings asked (Err stop.OutOfMemory) = ⊤
