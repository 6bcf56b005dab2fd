-- The lock that a command needs, and the script that is looked at to know it.
use Rattle.std.specs.Prelude.{◌≡◌, ◌⊎◌, ℕ, Bool, false, List, Option, Some, None, Result, Ok, Err, option_map, string_bytes, if◌then◌else◌}
use Rattle.ks_requests.specs.ScriptSyncs.{script_syncs}
use Rattle.ks_tree.specs.Files.{HasRisen, IsTooLarge, content}
use Rattle.ks_tree.specs.declared.tree.Tree.{Ghosts}
use Rattle.ks_requests.specs.declared.request.Request.{Request}
use Rattle.ks_requests.specs.declared.request.Request.TheVariants as request
use Rattle.ks_cli.specs.declared.args.WordsError.{WordsError}
use Rattle.ks_session.specs.declared.lock.DirectoryLock.{DirectoryLock}
use Rattle.ks_session.specs.declared.lock.DirectoryLock.TheVariants.{Exclusive, Shared}
use Rattle.ks_session.specs.declared.lock.FoundFile.{FoundFile}

-- what was found of a file
abbrev pub text_of : FoundFile → Option (List ℕ)
text_of file = option_map (λ v. v.items) file.text

-- ---- what is looked at

-- what a reading is known to do
abbrev pub Readings : Type 0 → Type 1
Readings P = P → List ℕ → P → Type 0

-- What is held of a file is what an honest tree has there. Nothing is held only where that is too large, or the tree, honest or not, has failed.
abbrev pub Holds : {P : Type 0} → Ghosts P → List ℕ → P → P → Option FoundFile → Type 0
Holds tree path old new (Some file) = (file.path.items ≡ path) × (tree.is_honest → text_of file ≡ content (tree.files old) path)
Holds tree path old new None = (tree.is_honest → IsTooLarge (content (tree.files old) path)) ⊎ HasRisen (tree.failures old) (tree.failures new)

-- A file was read, once, and nothing else asked of the tree. What one reading does is the tree's to say.
abbrev pub LooksAt : {P : Type 0} → Ghosts P → Readings P → List ℕ → P → P → Option FoundFile → Type 0
LooksAt tree reads path old new found = reads old path new × Holds tree path old new found

-- so the script of a `batch`; of any other request nothing is
abbrev pub LooksAtScript : {P : Type 0} → Ghosts P → Readings P → Result Request WordsError → P → P → Option FoundFile → Type 0
LooksAtScript tree reads (Ok (request.Batch script)) old new found = LooksAt tree reads (string_bytes script) old new found
LooksAtScript tree reads asked old new found = (new ≡ old) × (found ≡ None)

-- ---- locks

-- there is a script that has a line `sync`, and isn't refused
abbrev pub found_syncs : Option (List ℕ) → Bool
found_syncs None = false
found_syncs (Some text) = script_syncs text

-- a synchronisation has its directory for itself, as a repair, and as what marks
abbrev pub lock_for : Bool → DirectoryLock
lock_for syncs = if syncs then Exclusive else Shared

-- .. and so has a script that has a line `sync`; one that the system doesn't give is taken for such a script
abbrev pub lock_of_script : Option FoundFile → DirectoryLock
lock_of_script None = Exclusive
lock_of_script (Some script) = lock_for (found_syncs (text_of script))

-- Every other command shares it.
abbrev pub lock_of_request : Request → Option FoundFile → DirectoryLock
lock_of_request (request.Sync config stamps) script = Exclusive
lock_of_request (request.Repair stamps targets kept) script = Exclusive
lock_of_request (request.Mark which targets) script = Exclusive
lock_of_request (request.Batch path) script = lock_of_script script
lock_of_request _ script = Shared

-- Where the arguments make no request nothing is locked.
abbrev pub lock_needed : Result Request WordsError → Option FoundFile → Option DirectoryLock
lock_needed (Ok request) script = Some (lock_of_request request script)
lock_needed (Err e) script = None
