-- What a synchronisation would do: the trees that it leaves, and what is answered and judged over them.
use Rattle.std.specs.Prelude.{◌≡◌, ℕ, List, Some, Result, Ok, true, false, IsTrue}
use Rattle.std.specs.Ordering.{nat_cmp}
use Rattle.std.specs.Cmp.Lexicographic.{slice_cmp}
use Rattle.std.specs.List.Sorted.{IsStrictlySortedBy}
use Rattle.ks_engine.specs.Sources.{Source}
use Rattle.ks_symbols.specs.Names.{is_name, is_in}
use Rattle.ks_tree.specs.Files.{Files, content}
use Rattle.ks_tree.specs.Paths.{auto_path, stamp_path, command_path}
use Rattle.ks_tree.specs.Stamps.{HasNumber}
use Rattle.ks_engine.specs.declared.error.EngineError.{EngineError}
use Rattle.ks_engine.specs.declared.impact.Impact.{Impact}
use Rattle.ks_engine.specs.declared.staleness.Verdict.{Verdict}
use Rattle.ks_engine.specs.declared.synchronise.Report.{Report}
use Rattle.ks_engine.specs.History.{History, Synced, LastRecord, last_record}
use Rattle.ks_engine.specs.Shows.{Shows}
use Rattle.ks_engine.specs.LastSync.{last_generation}
use Rattle.ks_engine.specs.Synchronised.{IsSynced}
use Rattle.ks_engine.specs.Asked.{IsAnswerOn}
use Rattle.ks_engine.specs.Evaluated.{IsEvaluated}

-- There is a tree that a completed synchronisation of these texts leaves, with this report.
abbrev pub IsImpactOf : Files → Source → Impact → Type 0
IsImpactOf files source impact = (after : Files) × IsSynced files after source impact.report

-- It is an answer of `stale` over each tree that a completed synchronisation of these texts leaves.
abbrev pub IsAnswerAfter : Files → Source → List ℕ → Result Verdict EngineError → Type 0
IsAnswerAfter files source o answer = (after : Files) (report : Report) → IsSynced files after source report → IsAnswerOn after o answer

-- Of each object that is recorded in a history that the files show, it is judged by that history with the synchronisation added.
abbrev pub EvaluatesAfter : Files → Source → List ℕ → Result Verdict EngineError → Type 0
EvaluatesAfter files source o answer =
    (after : Files) (report : Report) (synced : IsSynced files after source report) (h : History) (r : LastRecord) → Shows files h
    → last_record h o ≡ Some r → IsEvaluated after (Synced synced.plan.title synced.plan.config h) o r answer

-- What a question asks of such a tree: its generation and the touched stamps are of the report, all else is as before.
pub record IsAfter (files after : Files) (report : Report) : Type 0 where
  pub rising : IsStrictlySortedBy (slice_cmp nat_cmp) report.touched.items
  pub generation : last_generation (content after auto_path) ≡ Ok report.generation
  pub touched : (x : List ℕ) → IsTrue (is_name x) → is_in report.touched.items x ≡ true → HasNumber (content after (stamp_path x))
      report.generation
  pub others : (x : List ℕ) → IsTrue (is_name x) → is_in report.touched.items x ≡ false → content after (stamp_path x)
      ≡ content files (stamp_path x)
  pub commands : (o : List ℕ) → content after (command_path o) ≡ content files (command_path o)
