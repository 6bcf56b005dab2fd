-- Each history goes on with a story, and what the runs of one without a break print is what changed.
use Rattle.ks_commands.proofs.Prelude.{ℕ, List, [], ◌∷◌, refl, subst, Bool, true, false, cond, Shows, History, at, TreeState, NoneBroken, IsShown}
use Rattle.ks_commands.proofs.Headline.{none_before_program, program_reports}
use Rattle.ks_commands.proofs.Histories.{requests_go_on}
use Rattle.ks_engine.specs.FileRuns.{FileState}
use Rattle.ks_engine.specs.History.{Begun, Synced, Broken, Recorded}
use Rattle.ks_parallel.specs.Views.{without}
use Rattle.ks_builds.specs.Stories.{Happening, Leaves, LeavesFiles, Ran, Repaired, StoriesAreShown, StoriesReportChanges, Story, ReportsBy, Written}
use Rattle.ks_builds.proofs.Between.{lost_records_are_left_out, repairs_are_breaks}

one_happens : (e : Happening) (old new : FileState) (h : History) → Shows old.files h → LeavesFiles e old new
    → (next : History) × Leaves e (at old.files old.failures h) (at new.files new.failures next) × Shows new.files next
one_happens (Ran dialect request ended) old new h shows ends = requests_go_on dialect request ended old new h ends.0 shows ends.1
one_happens (Written gone) old new h shows same = (without gone h, (same, refl), lost_records_are_left_out h gone old.files new.files shows same)
one_happens (Repaired gone title config renewed) old new h shows is =
    (Broken title config renewed (without gone h), (is, refl), repairs_are_breaks h gone title config renewed old.files new.files shows is)

pub stories_are_shown : StoriesAreShown
stories_are_shown first [] last h shows same = rw same (h, refl, shows)
stories_are_shown first (e ∷ es) last h shows (next, leaves, rest) =
    let one = one_happens e first next h shows leaves in
    let more = stories_are_shown next es last one.0 one.2 rest in
    (more.0, (at next.files next.failures one.0, one.1, one.2, more.1), more.2)

-- ---- no break before where there is none after

none_without : (h : History) (gone : List ℕ → Bool) → NoneBroken (without gone h) → NoneBroken h
none_without (Begun texts generation stamps) gone none = none
none_without (Synced title config past) gone none = none_without past gone none
none_without (Broken title config renewed past) gone none = none
none_without (Recorded o command names header past) gone none = none_without past gone (kept (gone o) none)
  where
    kept : (b : Bool) → NoneBroken (cond b (without gone past) (Recorded o command names header (without gone past))) → NoneBroken (without gone past)
    kept true none = none
    kept false none = none

none_before : (e : Happening) (old new : TreeState) → Leaves e old new → NoneBroken new.history → NoneBroken old.history
none_before (Ran dialect request ended) old new is none = none_before_program dialect request ended old new is none
none_before (Written gone) old new is none = none_without old.history gone (subst NoneBroken is.1 none)
none_before (Repaired gone title config renewed) old new is none = absurd (subst NoneBroken is.1 none)

none_at_first : (first : TreeState) (es : List Happening) (last : TreeState) → Story first es last → NoneBroken last.history → NoneBroken first.history
none_at_first first [] last same none = subst (λ (s : TreeState). NoneBroken s.history) same none
none_at_first first (e ∷ es) last (next, leaves, shown, rest) none = none_before e first next leaves (none_at_first next es last rest none)

reports_by : (e : Happening) (old new : TreeState) → IsShown old → NoneBroken old.history → NoneBroken new.history → Leaves e old new → ReportsBy e old new
reports_by (Ran dialect request ended) old new shown none later is = program_reports dialect request ended old new shown none later is
reports_by (Written gone) old new shown none later is = tt
reports_by (Repaired gone title config renewed) old new shown none later is = tt

pub stories_report_changes : StoriesReportChanges
stories_report_changes first [] last shown same none = same
stories_report_changes first (e ∷ es) last shown (next, leaves, is, rest) none =
    let later = none_at_first next es last rest none in
    (next, leaves, is, reports_by e first next shown (none_before e first next leaves later) later leaves, stories_report_changes next es last is rest none)
