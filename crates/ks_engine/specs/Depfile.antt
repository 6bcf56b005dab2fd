-- What recording an object leaves of its dependency file, for a build that goes by that file.
use Rattle.std.specs.Prelude.{◌≡◌, ◌≢◌, ◌⊎◌, ◌||◌, ◌++◌, ◌∷◌, ℕ, Bool, true, false, List, [], Option, Some, None, Result, Ok, Err, codes, bytes_eq, nat_eq}
use Rattle.std.specs.List.{starts_with, ends_with}
use Rattle.ks_symbols.specs.Names.{is_in, header_path}
use Rattle.ks_symbols.specs.declared.dialect.Dialect.{Dialect}
use Rattle.ks_fixdep.specs.declared.dependency_file.Header.{Header}
use Rattle.ks_fixdep.specs.CommandFile.{CommandRecord, command_text}
use Rattle.ks_fixdep.specs.DependencyFile.{prerequisites_without}
use Rattle.ks_fixdep.specs.Dialects.{names_in_as, rules_for}
use Rattle.ks_fixdep.specs.FoundNames.{names_of}
use Rattle.ks_fixdep.specs.Record.{config_names}
use Rattle.ks_fixdep.specs.Rule.{rule_text}
use Rattle.ks_tree.specs.Files.{Files, content, kept_or}
use Rattle.ks_tree.specs.Paths.{command_path, stamp_path, temporary}
use Rattle.ks_engine.specs.declared.conventions.Conventions.{Conventions}
use Rattle.ks_engine.specs.declared.error.EngineError.{EngineError}
use Rattle.ks_engine.specs.declared.error.EngineError.TheVariants.{BadPath}
use Rattle.ks_engine.specs.declared.recording.Recorded.{Recorded as RecordAnswer}
use Rattle.ks_engine.specs.declared.depfile.Ruled.{Ruled}
use Rattle.ks_engine.specs.Refusals.{IsAborted}
use Rattle.ks_engine.specs.Places.{placed_by, tree_of}
use Rattle.ks_engine.specs.Recording.{scanned_all}
use Rattle.ks_engine.specs.declared.conventions.RecordOptions.{RecordOptions}
use Rattle.ks_engine.specs.Recorded.{RecordPlan, IsRecordedUnder, IsRecordRefusedUnder}
use Rattle.ks_engine.specs.Drafts.{IsDraft}
use Rattle.ks_engine.specs.Follows.{TreeState, IsSame, FollowsRecordedUnder, FollowsRecordUnder}

-- A file that the commands write for themselves, by its path: a rule in its place would end what the tree says.
unfoldable pub is_own_file : List ℕ → Bool
is_own_file path =
    starts_with nat_eq path (codes "include/config/") || bytes_eq path header_path || ends_with nat_eq path (codes ".cmd")
    || ends_with nat_eq path (codes ".tmp")

-- How an object is read that is recorded so: by this header, and with the words of its command.
abbrev pub ruled_by : Header → RecordOptions → Dialect → Conventions
ruled_by header options dialect = record { header = header; dialect = dialect; scans_command = true; options = options }

-- the rule that is left of a dependency file
abbrev pub rule_by : Conventions → List ℕ → List (List ℕ) → List ℕ
rule_by conventions was names = rule_text (tree_of conventions.options) conventions.header (placed_by conventions.options was) names

-- ---- after the record

-- Some of the missing stamps are made. Where all are, the dependency file may hold the text. All else but its temporary file is as before.
pub record RuleLeaves (old new : Files) (depfile : List ℕ) (names : List (List ℕ)) (text : List ℕ) (made : List (List ℕ)) : Type 0 where
  pub within : (x : List ℕ) → is_in made x ≡ true → is_in names x ≡ true
  pub stamps : (x : List ℕ) → is_in made x ≡ true → content new (stamp_path x) ≡ Some (kept_or (content old (stamp_path x)) [])
  pub depfile_is : (content new depfile ≡ content old depfile) ⊎ ((made ≡ names) × (content new depfile ≡ Some text))
  pub others : (q : List ℕ) → ((x : List ℕ) → is_in made x ≡ true → q ≢ stamp_path x) → q ≢ depfile → q ≢ temporary depfile → content new q ≡ content old q

-- All of it is done, and its temporary file is gone.
pub record RuleDone (old new : Files) (depfile : List ℕ) (names : List (List ℕ)) (text : List ℕ) : Type 0 where
  pub leaves : RuleLeaves old new depfile names text names
  pub text_is : content new depfile ≡ Some text
  pub gone : content new (temporary depfile) ≡ None

-- It was given up on the way.
abbrev pub RuleTried : Files → Files → List ℕ → List (List ℕ) → List ℕ → Type 0
RuleTried old new depfile names text = (made : List (List ℕ)) × RuleLeaves old new depfile names text made

-- the names of a plan, and the rule that is made of the dependency file, before either is used
pub record IsRuled (conventions : Conventions) (files : Files) (depfile : List ℕ) (plan : RecordPlan) (r : Ruled) : Type 0 where
  pub draft : IsDraft plan r.draft
  pub names : r.names.items ≡ plan.names
  pub was : List ℕ
  pub was_there : content files depfile ≡ Some was
  pub rule : r.rule.items ≡ rule_by conventions was plan.names

-- ---- the whole, by the files

-- The object was recorded, then its missing stamps were made, and then the dependency file was replaced by one rule.
pub record IsDepfileRecorded (conventions : Conventions) (old new : Files) (depfile target command : List ℕ) (answer : RecordAnswer) : Type 0 where
  pub free : is_own_file depfile ≡ false
  pub between : Files
  pub recorded : IsRecordedUnder conventions old between depfile target command answer
  pub was : List ℕ
  pub was_there : content old depfile ≡ Some was
  pub rule : RuleDone between new depfile recorded.plan.names (rule_by conventions was recorded.plan.names)

-- The command file that is left names what was found in the prerequisites, in their order, and then what the words of the command do.
pub record NamesCommand (header : Header) (options : RecordOptions) (dialect : Dialect) (old new : Files) (depfile target command : List ℕ) : Type 0 where
  pub was : List ℕ
  pub was_there : content old depfile ≡ Some was
  pub found : List (List (List ℕ))
  pub scanned : scanned_all (rules_for dialect target) old (prerequisites_without header (placed_by options was)) ≡ Ok found
  pub file : CommandRecord
  pub written : content new (command_path target) ≡ Some (command_text file)
  pub names : config_names file.deps ≡ names_of (found ++ names_in_as (rules_for dialect target) command ∷ [])

-- It was recorded, and given up after that.
pub record IsDepfileBroken (conventions : Conventions) (old new : Files) (depfile target command : List ℕ) : Type 0 where
  pub free : is_own_file depfile ≡ false
  pub answer : RecordAnswer
  pub between : Files
  pub recorded : IsRecordedUnder conventions old between depfile target command answer
  pub was : List ℕ
  pub was_there : content old depfile ≡ Some was
  pub rule : RuleTried between new depfile recorded.plan.names (rule_by conventions was recorded.plan.names)

-- It was refused for the path, or as a record is, or given up after the record.
abbrev pub IsDepfileRefused : Conventions → Files → Files → List ℕ → List ℕ → List ℕ → EngineError → Type 0
IsDepfileRefused conventions old new depfile target command e =
    ((is_own_file depfile ≡ true) × (e ≡ BadPath 0) × (new ≡ old))
    ⊎ (((is_own_file depfile ≡ false) × IsRecordRefusedUnder conventions old new depfile target command e)
    ⊎ (IsAborted e × IsDepfileBroken conventions old new depfile target command))

-- The dependency file is the old one, or whole by its rule.
abbrev pub IsOldOrRule : Conventions → Option (List ℕ) → Option (List ℕ) → Type 0
IsOldOrRule conventions old new = (new ≡ old) ⊎ ((was : List ℕ) × (names : List (List ℕ)) × (old ≡ Some was) × (new ≡ Some (rule_by conventions was names)))

-- ---- the whole, by histories

-- The record is the event, and nothing after it is one.
pub record FollowsRuleDone (conventions : Conventions) (old : TreeState) (depfile target command : List ℕ) (answer : RecordAnswer) (new : TreeState) : Type 0 where
  pub between : TreeState
  pub recorded : FollowsRecordedUnder conventions old depfile target command answer between
  pub history : new.history ≡ between.history
  pub was : List ℕ
  pub was_there : content old.files depfile ≡ Some was
  pub rule : RuleDone between.files new.files depfile recorded.files.plan.names (rule_by conventions was recorded.files.plan.names)

pub record FollowsRuleTried (conventions : Conventions) (old : TreeState) (depfile target command : List ℕ) (new : TreeState) : Type 0 where
  pub answer : RecordAnswer
  pub between : TreeState
  pub recorded : FollowsRecordedUnder conventions old depfile target command answer between
  pub history : new.history ≡ between.history
  pub was : List ℕ
  pub was_there : content old.files depfile ≡ Some was
  pub rule : RuleTried between.files new.files depfile recorded.files.plan.names (rule_by conventions was recorded.files.plan.names)

abbrev pub FollowsDepfile : Conventions → List ℕ → List ℕ → List ℕ → Result RecordAnswer EngineError → TreeState → TreeState → Type 0
FollowsDepfile conventions depfile target command (Ok answer) old new = FollowsRuleDone conventions old depfile target command answer new
FollowsDepfile conventions depfile target command (Err e) old new =
    ((is_own_file depfile ≡ true) × (e ≡ BadPath 0) × IsSame old new)
    ⊎ (FollowsRecordUnder conventions depfile target command (Err e) old new ⊎ (IsAborted e × FollowsRuleTried conventions old depfile target command new))
