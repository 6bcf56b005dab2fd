-- A command file as the code has it before it is written.
use Rattle.std.specs.Prelude.{◌≡◌, ℕ, List, Ok, Result, length}
use Rattle.ks_fixdep.specs.DependencyFile.{prerequisites_without}
use Rattle.ks_fixdep.specs.Record.{config_names}
use Rattle.ks_fixdep.specs.declared.dependency_file.Role.{Role}
use Rattle.ks_fixdep.specs.declared.dialect.ScanRules.{ScanRules}
use Rattle.ks_tree.specs.Files.{Files, content}
use Rattle.ks_tree.specs.Paths.{auto_path}
use Rattle.ks_engine.specs.declared.conventions.Conventions.{Conventions}
use Rattle.ks_engine.specs.declared.error.EngineError.{EngineError}
use Rattle.ks_engine.specs.declared.recording.Draft.{Draft}
use Rattle.ks_engine.specs.declared.recording.Prepared.{Prepared}
use Rattle.ks_engine.specs.Places.{depfile_at}
use Rattle.ks_engine.specs.Recorded.{RecordPlan, drafted, recorded_at}
use Rattle.ks_engine.specs.Recording.{scanned_all, with_command}
use Rattle.ks_engine.specs.Refusals.{and_then}

-- what is planned once the prerequisites are known: with the names that are found by such rules
abbrev pub drafted_by : ScanRules → Conventions → Files → List ℕ → List ℕ → List (List ℕ × Role) → Result RecordPlan EngineError
drafted_by r conventions files target command ps =
    and_then (recorded_at conventions.options.before_sync (content files auto_path)) (λ g.
    and_then (scanned_all r files ps) (λ found. drafted conventions target command ps g (with_command conventions.scans_command r command found)))

-- the text of a plan, and its answer
pub record IsDraft (plan : RecordPlan) (draft : Draft) : Type 0 where
  pub text : draft.text.items ≡ plan.text
  pub generation : draft.answer.generation ≡ plan.generation
  pub names : draft.answer.names ≡ length (config_names plan.file.deps)

-- what stands ready of a plan: its draft, the names that are listed in it, and the dependency file that it was made of, with its prerequisites
pub record IsPrepared (conventions : Conventions) (files : Files) (depfile : List ℕ) (plan : RecordPlan) (listed : List (List ℕ)) (p : Prepared) : Type 0 where
  pub draft : IsDraft plan p.draft
  pub text : depfile_at conventions.options depfile (content files depfile) ≡ Ok p.depfile.items
  pub prerequisites : p.prerequisites ≡ prerequisites_without conventions.header p.depfile.items
  pub names : plan.names ≡ listed
