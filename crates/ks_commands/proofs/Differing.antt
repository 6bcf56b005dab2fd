-- What is printed of a comparison, and what its status says.
use Rattle.ks_commands.proofs.Prelude.{◌≡◌, ◌↔◌, ◌∙◌, ℕ, List, [], ◌∷◌, true, ◌||◌, cond, Ok, refl, sym, ap, bytes_eq-Decides, Configuration, is_in, Texts, AreChanges, differs, ReportStyle, Outcome, IsUnknown, ReportsUnknown, code_of, Files, IsDiff, asks_status, difference_status, lines_asked, StatusesReportDifferences, rules}
use Rattle.ks_engine.specs.Sources.{Source}
use Rattle.ks_commands.specs.Differences.{unknown_of}

-- an outcome tells what it holds
pub reported_of : (report_style : ReportStyle) (files : Files) (source : Source) (o : Outcome)
    → IsDiff report_style files source o.text.items (code_of o.status) × IsUnknown (lines_asked report_style (unknown_of source)) o.count
    → (text : List ℕ) × (status : ℕ) × IsDiff report_style files source text status
    × ReportsUnknown text status (lines_asked report_style (unknown_of source)) (Ok o)
reported_of report_style files source o both = (o.text.items, code_of o.status, both.0, (refl, refl, both.1))

first_is_in : (x : List ℕ) (xs : List (List ℕ)) → is_in (x ∷ xs) x ≡ true
first_is_in x xs = ap (λ b. b || is_in xs x) ((bytes_eq-Decides x x).1 refl)

reported_by : (report_style : ReportStyle) (old : Texts) (new : Configuration) (names : List (List ℕ)) (status : ℕ) → asks_status report_style ≡ true → AreChanges old new names
    → status ≡ difference_status report_style names → (status ≡ 1) ↔ ((x : List ℕ) × (differs old new x ≡ true))
reported_by report_style old new [] status asked are is = search rules
reported_by report_style old new (x ∷ xs) status asked are is = (λ one. (x, sym (are.each x) ∙ first_is_in x xs), λ found. is ∙ ap (λ b. cond b 1 0) asked)

pub statuses_report_differences : StatusesReportDifferences
statuses_report_differences report_style old new text status asked reports = reported_by report_style old new reports.names status asked reports.changed reports.status_of
