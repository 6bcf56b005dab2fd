-- What marking leaves: at the end of the command file of an object that is due stands the path of what made it so as its command, or the file is
-- empty.
use Rattle.std.specs.Prelude.{◌≡◌, ◌⊎◌, ◌&&◌, ◌+◌, ◌++◌, ℕ, Bool, true, false, List, [], ◌∷◌, Option, Some, None, Result, Ok, Err, codes, is_some, nat_eq, slice_get, take, if◌then◌else◌}
use Rattle.std.specs.List.{ends_with}
use Rattle.ks_fixdep.specs.CommandFile.{CommandRecord}
use Rattle.ks_tree.specs.Files.{Files, SameButBoth, content}
use Rattle.ks_tree.specs.Paths.{auto_path, command_path, command_temporary, stamp_path}
use Rattle.ks_engine.specs.declared.backdating.BackdateScope.{BackdateScope}
use Rattle.ks_engine.specs.declared.error.EngineError.{EngineError}
use Rattle.ks_engine.specs.declared.marking.Marking.{Marking}
use Rattle.ks_engine.specs.declared.marking.Marking.TheVariants.{Done, Missing, Text}
use Rattle.ks_engine.specs.declared.staleness.Verdict.{Verdict}
use Rattle.ks_engine.specs.declared.staleness.Verdict.TheVariants.{Fresh, Changed, NoCommandFile, Unnumbered, Ahead}
use Rattle.ks_engine.specs.Asked.{IsAnswer, asked, command_file}
use Rattle.ks_engine.specs.Backdated.{backdates}
use Rattle.ks_engine.specs.Costs.{one_if}

-- ---- what is due

-- What is refused has no record that counts.
abbrev pub or_unnumbered : Result Verdict EngineError → Verdict
or_unnumbered (Ok verdict) = verdict
or_unnumbered (Err e) = Unnumbered

-- The path of what made it so: the stamp of the first name that changed, or auto.conf. An object without a command file has nothing to be marked.
abbrev pub cause_path : Verdict → Option (List ℕ)
cause_path Fresh = None
cause_path (Changed x) = Some (stamp_path x)
cause_path Ahead = Some auto_path
cause_path NoCommandFile = None
cause_path Unnumbered = Some auto_path

abbrev pub due_by : BackdateScope → Verdict → Option (List ℕ)
due_by which verdict = if backdates which verdict then cause_path verdict else None

-- by what an object is due in a tree, or that it isn't; one without a command file never is
abbrev pub IsDueBy : BackdateScope → Files → List ℕ → Option (List ℕ) → Type 0
IsDueBy which files o due = (answer : Result Verdict EngineError) × IsAnswer files (asked files o) answer
    × (due ≡ (if is_some (content files (command_path o)) then due_by which (or_unnumbered answer) else None))

-- ---- what a mark leaves

abbrev pub assignment : List ℕ → List ℕ → List ℕ → List ℕ
assignment variable o path = variable ++ o ++ codes " := " ++ path ++ codes "\n"

-- Make takes the last line in which a variable gets its value. The command of an object has one of these two. An empty line comes first, since
-- the last one may be cut off behind a backslash.
unfoldable pub mark : List ℕ → List ℕ → List ℕ
mark o path = codes "\n" ++ assignment (codes "savedcmd_") o path ++ assignment (codes "cmd_") o path

-- a text that ends with it, which it may do already
abbrev pub with_mark : List ℕ → List ℕ → List ℕ
with_mark text mark = if ends_with nat_eq text mark then text else text ++ mark

abbrev pub is_record : Result (Option CommandRecord) EngineError → Bool
is_record (Ok (Some file)) = true
is_record other = false

-- Behind the lines of a record stands the mark. What is no record of this object, or was cut off, is emptied: that make takes for none.
abbrev pub marked_in : List ℕ → List ℕ → Option (List ℕ) → Option (List ℕ)
marked_in o path None = None
marked_in o path (Some b) =
    Some (if is_record (command_file o (Some b)) && ends_with nat_eq b (codes "\n") then with_mark b (mark o path) else [])

-- what the code makes of a command file: there is none, or it is marked already, or it is to have a text
abbrev pub ComesTo : Marking → List ℕ → List ℕ → Option (List ℕ) → Type 0
ComesTo Missing o path file = file ≡ None
ComesTo Done o path file = (is_some file ≡ true) × (file ≡ marked_in o path file)
ComesTo (Text text) o path file = (is_some file ≡ true) × (Some text.items ≡ marked_in o path file)

-- The temporary file is gone where the command file was written.
pub record IsMarked (old new : Files) (o path : List ℕ) : Type 0 where
  pub text : content new (command_path o) ≡ marked_in o path (content old (command_path o))
  pub gone : (new ≡ old) ⊎ (content new (command_temporary o) ≡ None)
  pub others : SameButBoth (command_temporary o) (command_path o) old new

-- The mark was given up: the command file is the old one or marked.
pub record MayBeMarked (old new : Files) (o path : List ℕ) : Type 0 where
  pub text : (content new (command_path o) ≡ content old (command_path o)) ⊎ (content new (command_path o) ≡ marked_in o path (content old (command_path o)))
  pub others : SameButBoth (command_temporary o) (command_path o) old new

abbrev pub WritesMark : Files → Files → List ℕ → List ℕ → Bool → Type 0
WritesMark old new o path false = (content old (command_path o) ≡ None) × (new ≡ old)
WritesMark old new o path true = (is_some (content old (command_path o)) ≡ true) × IsMarked old new o path

abbrev pub LeavesMark : Files → Files → List ℕ → Option (List ℕ) → Type 0
LeavesMark old new o None = new ≡ old
LeavesMark old new o (Some path) = IsMarked old new o path

-- An object is marked if it is due.
abbrev pub MarksOne : BackdateScope → List ℕ → Files → Files → Bool → Type 0
MarksOne which o old new done = (due : Option (List ℕ)) × IsDueBy which old o due × LeavesMark old new o due × (done ≡ is_some due)

abbrev pub GivesUpMark : BackdateScope → List ℕ → Files → Files → Type 0
GivesUpMark which o old new = (new ≡ old) ⊎ ((path : List ℕ) × IsDueBy which old o (Some path) × MayBeMarked old new o path)

-- One object after the other is marked if it is due, and so many are.
abbrev pub MarksAll : BackdateScope → List (List ℕ) → Files → Files → ℕ → Type 0
MarksAll which [] old new count = (new ≡ old) × (count ≡ 0)
MarksAll which (o ∷ os) old new count = (between : Files) × (done : Bool) × (later : ℕ) × MarksOne which o old between done
    × MarksAll which os between new later × (count ≡ one_if done + later)

-- The first n of them are, and then the next one was given up.
pub record MarksSome (which : BackdateScope) (targets : List (List ℕ)) (old new : Files) : Type 0 where
  pub n : ℕ
  pub between : Files
  pub count : ℕ
  pub first : MarksAll which (take n targets) old between count
  pub o : List ℕ
  pub here : slice_get targets n ≡ Some o
  pub given_up : GivesUpMark which o between new
