-- Values of the code as the definitions have them.
use Rattle.std.specs.Prelude.{◌≡◌, ◌≢◌, ◌+◌, Option, Some, None, Ok}
use Rattle.ks_engine.specs.Sources.{Source}
use Rattle.ks_output.specs.AutoText.{auto_text}
use Rattle.ks_output.specs.Header.{header_text}
use Rattle.ks_output.specs.OldConfig.{OldTexts}
use Rattle.ks_tree.specs.Files.{Files}
use Rattle.ks_engine.specs.declared.planning.ConfigInputs.{ConfigInputs as SourceValues}
use Rattle.ks_engine.specs.declared.planning.Planned.{Planned}
use Rattle.ks_engine.specs.declared.synchronise.Report.{Report}
use Rattle.ks_engine.specs.declared.synchronise.Work.{Work}
use Rattle.ks_engine.specs.Synchronised.{AreLegalChanges}
use Rattle.ks_engine.specs.SyncPlan.{ConfigInputs, Plan, IsSyncPlan}
use Rattle.ks_engine.specs.LastSync.{OldAuto}

abbrev pub old_of : OldTexts → OldAuto
old_of old = record { texts = old.texts; generation = old.generation }

abbrev pub sources_of : SourceValues → ConfigInputs
sources_of s = record { title = s.title.items; config = s.settings.entries; unknown = s.settings.unknown }

-- what is reported over an old auto.conf
pub record Reports (s : ConfigInputs) (old : OldAuto) (report : Report) : Type 0 where
  pub headroom : old.generation ≢ 18446744073709551615
  pub generation : report.generation ≡ old.generation + 1
  pub unknown : report.unknown ≡ s.unknown
  pub changed : AreLegalChanges old.texts s.config report.touched.items

abbrev pub PlansOver : ConfigInputs → OldAuto → Option Report → Type 0
PlansOver s old None = old.generation ≡ 18446744073709551615
PlansOver s old (Some report) = Reports s old report

-- the report of a plan
pub record IsReport (plan : Plan) (report : Report) : Type 0 where
  pub generation : report.generation ≡ plan.generation + 1
  pub unknown : report.unknown ≡ plan.unknown
  pub changed : AreLegalChanges plan.old plan.config report.touched.items

-- a plan, and what was read for it
pub record IsPlannedBy (plan : Plan) (planned : Planned) : Type 0 where
  pub title : planned.sources.title.items ≡ plan.title
  pub config : planned.sources.settings.entries ≡ plan.config
  pub old : planned.old.texts ≡ plan.old
  pub report : IsReport plan planned.report

-- the plan for these files and texts
abbrev pub IsPlanned : Files → Source → Planned → Type 0
IsPlanned files source planned = (plan : Plan) × IsSyncPlan files source (Ok plan) × IsPlannedBy plan planned

-- the work of a plan: its report and its texts
pub record IsWork (plan : Plan) (work : Work) : Type 0 where
  pub report : IsReport plan work.report
  pub header : work.header.items ≡ header_text plan.title plan.config
  pub auto : work.auto.items ≡ auto_text plan.title plan.config (plan.generation + 1)
