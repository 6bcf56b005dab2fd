-- What each request comes to, by the files of a tree.
use Rattle.std.specs.Prelude.{◌≡◌, ◌⊎◌, ◌≤◌, ℕ, List, Option, None, Some, Result, Ok, Err, false, map, option_map, string_bytes, true, IfOk, ⊤}
use Rattle.ks_fixdep.specs.declared.dependency_file.Header.{Header}
use Rattle.ks_symbols.specs.declared.dialect.Dialect.{Dialect}
use Rattle.ks_symbols.specs.Refusals.{IsRefusal}
use Rattle.ks_tree.specs.declared.tree.Tree.{Ghosts}
use Rattle.ks_tree.specs.Files.{Files, HasRisen}
use Rattle.ks_engine.specs.declared.backdating.BackdateScope.{BackdateScope}
use Rattle.ks_engine.specs.declared.conventions.RecordOptions.{RecordOptions}
use Rattle.ks_engine.specs.declared.error.EngineError.{EngineError}
use Rattle.ks_engine.specs.declared.error.EngineError.TheVariants.{BadPath, OutOfMemory, Device}
use Rattle.ks_engine.specs.declared.commands.Reply.{Reply}
use Rattle.ks_engine.specs.declared.explaining.Explanation.{Explanation}
use Rattle.ks_engine.specs.declared.query.Limit.TheVariants.{First, All as Every}
use Rattle.ks_engine.specs.declared.recording.Recorded.{Recorded as RecordAnswer}
use Rattle.ks_engine.specs.declared.repairing.Repaired.{Repaired}
use Rattle.ks_engine.specs.declared.synchronise.Report.{Report}
use Rattle.ks_engine.specs.declared.staleness.BuildState.{BuildState}
use Rattle.ks_engine.specs.declared.staleness.Verdict.{Verdict}
use Rattle.ks_engine.specs.Actions.{Action, calls_of}
use Rattle.ks_engine.specs.Asked.{IsAnswerOn, reported}
use Rattle.ks_engine.specs.BuildStates.{IsStateOn}
use Rattle.ks_engine.specs.Depfile.{ruled_by}
use Rattle.ks_engine.specs.Explained.{IsExplanationOn}
use Rattle.ks_engine.specs.Impact.{IsAnswerAfter}
use Rattle.ks_engine.specs.Marks.{MarksAll, MarksSome}
use Rattle.ks_engine.specs.Recorded.{usual_with}
use Rattle.ks_engine.specs.Refusals.{Answers, IsAborted}
use Rattle.ks_engine.specs.FileRuns.{FileRun, FileState, LeavesDepfile, LeavesRecord, state}
use Rattle.ks_engine.specs.Sources.{Source, source_in}
use Rattle.ks_engine.specs.SyncPlan.{ConfigInputs, IsSyncPlan}
use Rattle.ks_engine.specs.Synchronised.{IsSynced}
use Rattle.ks_requests.specs.declared.refusal.Refusal.{Refusal}
use Rattle.ks_requests.specs.declared.refusal.Refusal.TheVariants.{Engine}
use Rattle.ks_requests.specs.declared.request.ConfigPaths.{ConfigPaths}
use Rattle.ks_requests.specs.declared.request.KeptPaths.{KeptPaths}
use Rattle.ks_requests.specs.declared.request.ElsewherePaths.{ElsewherePaths}
use Rattle.ks_requests.specs.declared.request.RecordWords.{RecordWords}
use Rattle.ks_requests.specs.declared.request.StrictPaths.{StrictPaths}
use Rattle.ks_requests.specs.declared.request.OutputFormat.{OutputFormat}
use Rattle.ks_requests.specs.declared.request.OutputFormat.TheVariants.{Text}
use Rattle.ks_requests.specs.declared.request.Request.{Request}
use Rattle.ks_requests.specs.declared.request.Stamps.{Stamps}
use Rattle.ks_requests.specs.declared.request.Targets.{Targets}
use Rattle.ks_requests.specs.declared.request.Request.TheVariants.{Backdate, Batch, Cost, Depfile, Diff, Fixdep, Impact, Mark, Outdated, Preview, Record, Repair, Stale, Status, Sync, Users, Why}
use Rattle.ks_requests.specs.declared.report_style.ReportStyle.{ReportStyle}
use Rattle.ks_requests.specs.declared.status.Status.TheVariants.{Done}
use Rattle.ks_requests.specs.Endings.{Answered, Ending, Stopped, Reports, ReportsUnknown}
use Rattle.ks_requests.specs.Inputs.{Inputs, Texts, config_at, inputs_at, source_at}
use Rattle.ks_requests.specs.Preview.{IsPreview, preview_refusal}
use Rattle.ks_requests.specs.Replies.{answer_line, build_line, depfile_line, marked_line, recorded_line, repair_line, reply_lines, report_lines}
use Rattle.ks_requests.specs.Requests.{IsNoQuery, IsOneStep}
use Rattle.ks_requests.specs.Statuses.{build_status, reply_status, status_unless_refused, worst}
use Rattle.ks_requests.specs.Symbols.{symbols_of}
use Rattle.ks_requests.specs.Targets.{targets_at}
use Rattle.ks_commands.specs.Depfiles.{AreOptions, AreRuleOptions, IsHeaderOf, IsNoHeader}
use Rattle.ks_commands.specs.Differences.{IsDiff, lines_asked, unknown_of}
use Rattle.ks_commands.specs.Fixdep.{command_file_at}
use Rattle.ks_commands.specs.Looking.{AllowsRecord, RefusesRecord}
use Rattle.ks_commands.specs.Queries.{explaining, no_count, stale_count, reports}
use Rattle.ks_commands.specs.Stamps.{LeavesStamps}
use Rattle.ks_commands.specs.Records.{reading, reports_cost, unread_lines, user_count, uses_lines}
use Rattle.ks_commands.specs.Scripts.{AreSpelled, IsAbortedRefusal, script_at}
use Rattle.ks_commands.specs.Repairing.{LeavesRepair, RepairInputs, repair_at}
use Rattle.ks_commands.specs.TreeStatus.{AreInputsOf, IsRefusedSource, IsStatusRefused, IsTreeStatus, source_named, status_code, status_lines}
use Rattle.ks_commands.specs.declared.tree_status.TreeStatus.{TreeStatus}
use Rattle.ks_commands.specs.Walks.{EndsWalk, IsCounted, StoppedBy}

-- What the engine's calls answer and leave. It is said by the files here, and by histories in the laws of this crate.
pub record Effects : Type 1 where
  -- in which sources and Kconfigs are read
  pub dialect : Dialect
  -- all is as before
  pub same : Type 0
  pub sync : Stamps → Source → Result Report EngineError → Type 0
  pub recording : RecordOptions → (depfile target command : List ℕ) → Result RecordAnswer EngineError → Type 0
  pub ruling : Header → RecordOptions → (depfile target command : List ℕ) → Result RecordAnswer EngineError → Type 0
  pub repair : RepairInputs → Result Repaired EngineError → Type 0
  pub mark : BackdateScope → List (List ℕ) → Result ℕ EngineError → Type 0
  pub stale : (target : List ℕ) → Result Verdict EngineError → Type 0
  pub why : (target : List ℕ) → Result Explanation EngineError → Type 0
  pub impact : Source → (target : List ℕ) → Result Verdict EngineError → Type 0
  pub outdated : (target command : List ℕ) → Result BuildState EngineError → Type 0
  pub run : List Action → List Reply → Type 0

-- Nothing has changed where the two files can't be read. Else it ends as the engine answers.
abbrev pub EndsSync : Files → Effects → Stamps → ConfigPaths → Ending → Type 0
EndsSync files effects stamps c ended =
    (effects.same × Stopped (config_at files c) ended)
    ⊎ ((t : Texts) × (config_at files c ≡ Ok t)
    × (answer : Result Report EngineError) × effects.sync stamps (source_at effects.dialect c.form t) answer × Answered report_lines answer ended)

-- The engine looks at the arguments of a record itself.
abbrev pub EndsRecord : Effects → RecordWords → List ℕ → List ℕ → List ℕ → Ending → Type 0
EndsRecord effects words d t c ended = (options : RecordOptions) × AreOptions words options
    × (answer : Result RecordAnswer EngineError) × effects.recording options d t c answer × Answered (recorded_line t) answer ended

-- It is refused for the argument that names the header, or for what may matter beside names; or it ends as the engine answers.
abbrev pub StopsDepfile : Files → Dialect → Option (List ℕ) → Option StrictPaths → Option ElsewherePaths → List ℕ → List ℕ → Ending → Type 0
StopsDepfile files dialect end strict elsewhere d c ended =
    (IsNoHeader end × (ended ≡ Err (Engine (BadPath 0))))
    ⊎ ((header : Header) × IsHeaderOf dialect end header × (options : RecordOptions) × AreRuleOptions elsewhere options
    × RefusesRecord files dialect header options strict d c ended)

abbrev pub EndsDepfile : Files → Effects → Option (List ℕ) → Option StrictPaths → Option ElsewherePaths → List ℕ → List ℕ → List ℕ → Ending → Type 0
EndsDepfile files effects end strict elsewhere d t c ended =
    (effects.same × StopsDepfile files effects.dialect end strict elsewhere d c ended)
    ⊎ ((header : Header) × IsHeaderOf effects.dialect end header × (options : RecordOptions) × AreRuleOptions elsewhere options
    × AllowsRecord files effects.dialect header options strict d c
    × (answer : Result RecordAnswer EngineError) × effects.ruling header options d t c answer × Answered (depfile_line t) answer ended)

-- Nothing has changed where the lists or what was kept can't be read. Else it ends as the engine answers.
abbrev pub EndsRepair : Files → Effects → List ℕ → List ℕ → Option KeptPaths → Ending → Type 0
EndsRepair files effects stamps targets kept ended =
    (effects.same × Stopped (repair_at files stamps targets kept) ended)
    ⊎ ((i : RepairInputs) × (repair_at files stamps targets kept ≡ Ok i)
    × (answer : Result Repaired EngineError) × effects.repair i answer × Answered repair_line answer ended)

-- Nothing has changed where the file of the objects can't be read. Else it ends as the engine answers.
abbrev pub EndsMark : Files → Effects → BackdateScope → Targets → Ending → Type 0
EndsMark files effects which targets ended =
    (effects.same × Stopped (targets_at files targets) ended)
    ⊎ ((objects : List (List ℕ)) × (targets_at files targets ≡ Ok objects)
    × (answer : Result ℕ EngineError) × effects.mark which objects answer × Answered marked_line answer ended)

-- A preview of what the files hold, or the refusal that their texts have, or want of memory.
abbrev pub EndsPreview : Dialect → Files → ConfigPaths → Option (List ℕ) → Ending → Type 0
EndsPreview dialect files c o ended =
    Stopped (inputs_at files (string_bytes c.first) (string_bytes c.second) o) ended
    ⊎ ((i : Inputs) × (inputs_at files (string_bytes c.first) (string_bytes c.second) o ≡ Ok i)
    × (((text : List ℕ) × IsPreview (source_in dialect c.form i.kconfig i.dotconfig) i.old text × Reports text 0 ended)
    ⊎ ((e : EngineError) × IsRefusal OutOfMemory e (preview_refusal (source_in dialect c.form i.kconfig i.dotconfig) i.old) × (ended ≡ Err (Engine e)))))

-- A synchronisation of these texts is refused before its first write, or memory or the device fails before that.
abbrev pub StoppedSync : Files → Source → Ending → Type 0
StoppedSync files source ended = (e : EngineError) × (IsAborted e ⊎ IsSyncPlan files source (Err e)) × (ended ≡ Err (Engine e))

-- What a synchronisation would touch, printed; or the refusal that it would have before its first write.
abbrev pub EndsDiff : Dialect → ReportStyle → Files → ConfigPaths → Ending → Type 0
EndsDiff dialect report_style files c ended =
    Stopped (config_at files c) ended
    ⊎ ((t : Texts) × (config_at files c ≡ Ok t)
    × (((text : List ℕ) × (status : ℕ) × IsDiff report_style files (source_at dialect c.form t) text status
    × ReportsUnknown text status (lines_asked report_style (unknown_of (source_at dialect c.form t))) ended)
    ⊎ StoppedSync files (source_at dialect c.form t) ended))

-- What the tree is beside these inputs, printed; or why auto.conf or the header is refused.
abbrev pub EndsTreeStatus : Files → Dialect → Option ConfigInputs → Ending → Type 0
EndsTreeStatus files dialect inputs ended =
    ((e : EngineError) × (IsAborted e ⊎ IsStatusRefused files e) × (ended ≡ Err (Engine e)))
    ⊎ ((s : TreeStatus) × IsTreeStatus files dialect inputs s × Reports (status_lines s) (status_code s) ended)

-- The configuration is refused, where one is named; or it ends as the tree beside it is.
abbrev pub EndsStatus : Dialect → Files → Option ConfigPaths → Ending → Type 0
EndsStatus dialect files config ended =
    ((e : EngineError) × (IsAborted e ⊎ IsRefusedSource dialect files config e) × (ended ≡ Err (Engine e)))
    ⊎ ((source : Option Source) × (source_named dialect files config ≡ Ok source) × (inputs : Option ConfigInputs) × AreInputsOf source inputs
    × EndsTreeStatus files dialect inputs ended)

abbrev pub EndsFixdep : Dialect → Files → List ℕ → List ℕ → List ℕ → Ending → Type 0
EndsFixdep dialect files d t c ended =
    (answer : Result (List ℕ) EngineError) × Answers (command_file_at dialect files d t c) (λ text. text) answer × Answered (λ text. text) answer ended

-- There is a tree that a completed synchronisation of these texts leaves.
abbrev pub CanBeSynced : Files → Source → Type 0
CanBeSynced files source = (after : Files) × (report : Report) × IsSynced files after source report

-- What would be stale after a synchronisation, printed; or the refusal that it would have before its first write, or the file of its targets has.
abbrev pub EndsImpact : Type 0 → Dialect → (Source → List ℕ → Result Verdict EngineError → Type 0) → FileState → ConfigPaths → OutputFormat
    → Targets → Ending → FileState → Type 0
EndsImpact honest dialect impact old c format targets ended new =
    StoppedBy honest (λ e. config_at old.files c ≡ Err e) old ended new
    ⊎ ((t : Texts) × (honest → config_at old.files c ≡ Ok t)
    × (StoppedBy honest (λ e. IsSyncPlan old.files (source_at dialect c.form t) (Err e)) old ended new
    ⊎ ((honest → CanBeSynced old.files (source_at dialect c.form t))
    × EndsWalk (explaining honest old.files None format First (λ o answer. impact (source_at dialect c.form t) o (reported answer))) false (reports stale_count) honest old targets ended new)))

abbrev pub EndsOutdated : Type 0 → (List ℕ → List ℕ → Result BuildState EngineError → Type 0) → FileState → List ℕ → List ℕ → Ending → FileState → Type 0
EndsOutdated honest outdated old o c ended new =
    (answer : Result BuildState EngineError) × (honest → outdated o c answer) × IsCounted old.failures answer new.failures
    × Reports (answer_line build_line o answer) (status_unless_refused build_status answer) ended

-- Memory is refused before the first command; else each command has its reply and its line.
abbrev pub RunsAll : Type 0 → (List Reply → Type 0) → List Action → Ending → Type 0
RunsAll same run actions ended =
    (same × (ended ≡ Err (Engine OutOfMemory)))
    ⊎ ((replies : List Reply) × run replies × Reports (reply_lines actions replies) (worst (map reply_status replies)) ended)

-- The script or its files can't be read; or its commands run, which on an honest tree are those of the file at its path.
abbrev pub EndsBatch : Type 0 → Effects → Files → List ℕ → Ending → Type 0
EndsBatch honest effects files path ended =
    ((r : Refusal) × (honest → effects.same × (IsAbortedRefusal r ⊎ (script_at files path ≡ Err r))) × (ended ≡ Err r))
    ⊎ ((script : List ℕ) × (actions : List Action) × AreSpelled script actions × (honest → script_at files path ≡ Ok actions)
    × RunsAll (honest → effects.same) (effects.run actions) actions ended)

-- The request ended so. What the device is blamed for was counted on any tree; all else is said of honest ones.
abbrev pub Ends : Type 0 → Effects → FileState → Request → Ending → FileState → Type 0
Ends honest effects old (Sync c stamps) ended new = honest → EndsSync old.files effects stamps c ended
Ends honest effects old (Preview c o) ended new =
    honest → effects.same × EndsPreview effects.dialect old.files c (option_map (λ path. string_bytes path) o) ended
Ends honest effects old (Diff c report_style) ended new = honest → effects.same × EndsDiff effects.dialect report_style old.files c ended
Ends honest effects old (Status c) ended new = honest → effects.same × EndsStatus effects.dialect old.files c ended
Ends honest effects old (Fixdep d t c) ended new =
    honest → effects.same × EndsFixdep effects.dialect old.files (string_bytes d) (string_bytes t) (string_bytes c) ended
Ends honest effects old (Record d t c after options) ended new = honest → EndsRecord effects options (string_bytes d) (string_bytes t) (string_bytes c) ended
Ends honest effects old (Depfile end strict elsewhere d t c) ended new =
    honest → EndsDepfile old.files effects (option_map (λ path. string_bytes path) end) strict elsewhere (string_bytes d)
    (string_bytes t) (string_bytes c) ended
Ends honest effects old (Repair stamps targets kept) ended new =
    honest → EndsRepair old.files effects (string_bytes stamps) (string_bytes targets) kept ended
Ends honest effects old (Stale targets format) ended new = (honest → effects.same)
    × EndsWalk (explaining honest old.files None format First (λ o answer. effects.stale o (reported answer))) false (reports no_count) honest old targets ended new
Ends honest effects old (Why targets format) ended new =
    (honest → effects.same) × EndsWalk (explaining honest old.files None format Every effects.why) false (reports no_count) honest old targets ended new
Ends honest effects old (Impact c targets format) ended new =
    (honest → effects.same) × EndsImpact honest effects.dialect effects.impact old c format targets ended new
Ends honest effects old (Backdate which targets) ended new = (honest → effects.same)
    × EndsWalk (explaining honest old.files (Some which) Text First (λ o answer. effects.stale o (reported answer))) false (reports no_count) honest old targets ended new
Ends honest effects old (Mark which targets) ended new = honest → EndsMark old.files effects which targets ended
Ends honest effects old (Outdated t c) ended new =
    (honest → effects.same) × EndsOutdated honest effects.outdated old (string_bytes t) (string_bytes c) ended new
Ends honest effects old (Batch script) ended new = EndsBatch honest effects old.files (string_bytes script) ended
Ends honest effects old (Users symbols targets) ended new = (honest → effects.same)
    × EndsWalk (reading honest old.files (uses_lines (symbols_of symbols.items))) true (reports (user_count (symbols_of symbols.items))) honest old targets ended new
Ends honest effects old (Cost top targets) ended new =
    (honest → effects.same) × EndsWalk (reading honest old.files unread_lines) true (reports_cost top) honest old targets ended new

-- ---- what the calls of the engine leave

-- an object is recorded by a header that is known, and its dependency file left as a rule
abbrev pub RecordsRule : Dialect → Files → Files → Header → RecordOptions → List ℕ → List ℕ → List ℕ → Ending → Type 0
RecordsRule dialect old new header options d t c ended =
    (answer : Result RecordAnswer EngineError) × LeavesDepfile (ruled_by header options dialect) old new d t c answer × Answered (depfile_line t) answer ended

abbrev pub LeavesMarks : Files → Files → BackdateScope → List (List ℕ) → Result ℕ EngineError → Type 0
LeavesMarks old new which targets (Ok count) = MarksAll which targets old new count
LeavesMarks old new which targets (Err e) = IsAborted e × MarksSome which targets old new

-- The files of a script are read before its run begins.
pub record RunsOn (dialect : Dialect) (honest : Type 0) (old new : FileState) (actions : List Action) (replies : List Reply) : Type 0 where
  pub first : FileState
  pub read : honest → first.files ≡ old.files
  pub later : old.failures ≤ first.failures
  pub run : FileRun dialect honest first (calls_of actions replies) new

abbrev pub by_files : Dialect → Type 0 → FileState → FileState → Effects
by_files dialect honest old new = record {
  dialect = dialect;
  same = new.files ≡ old.files;
  sync = LeavesStamps old.files new.files;
  recording = λ options. LeavesRecord (usual_with options dialect) old.files new.files;
  ruling = λ header options. LeavesDepfile (ruled_by header options dialect) old.files new.files;
  repair = LeavesRepair old.files new.files;
  mark = LeavesMarks old.files new.files;
  stale = IsAnswerOn old.files;
  why = IsExplanationOn old.files;
  impact = IsAnswerAfter old.files;
  outdated = IsStateOn old.files;
  run = RunsOn dialect honest old new;
}

-- ---- all of it

-- a request that asks about no objects, one after the other: it ages none
abbrev pub IsNoWalk : Request → Type 0
IsNoWalk (Stale targets format) = ⊥
IsNoWalk (Why targets format) = ⊥
IsNoWalk (Impact config targets format) = ⊥
IsNoWalk (Backdate which targets) = ⊥
IsNoWalk (Users symbols targets) = ⊥
IsNoWalk (Cost top targets) = ⊥
IsNoWalk _ = ⊤

-- It ended so, by the files and by what the tree has counted.
pub record Performs {T : Type 0} (tree : Ghosts T) (dialect : Dialect) (old new : T) (request : Request) (ended : Ending) : Type 0 where
  pub done : IsNoQuery request → IfOk ended (λ o. o.status ≡ Done)
  pub ends : Ends tree.is_honest (by_files dialect tree.is_honest (state tree old) (state tree new)) (state tree old) request ended (state tree new)
  pub cause : ended ≡ Err (Engine Device) → HasRisen (tree.failures old) (tree.failures new)
  pub memory : IsOneStep request → ended ≡ Err (Engine OutOfMemory) → tree.failures new ≡ tree.failures old
  pub kept : IsNoWalk request → tree.backdated new ≡ tree.backdated old
