-- What the proofs of this crate import: one name for each thing.
pub use Rattle.ks_engine.proofs.Prelude.{Action, All, All-append, All-cons, All-nil, All-weaker, AreChanges, AreCosts, AreTallies, Bool, CommandRecord, Configuration, Err, FileRun, FileState, Files, FollowsDepfile, FollowsRecord, FollowsRecordUnder, FollowsSync, HasRisen, History, IfErr, IfOk, IsAnswerAfter, IsAnswerOn, IsAnswerTo, IsBinarySearchResult, IsExplanationOn, IsAborted, IsAbortedAnswer, IsAbortedSync, IsImpactOf, IsCacheOf, IsPermutation-map, IsRefusal, IsSearchInRange, IsShown, IsSortedByKey, IsStateOn, IsSyncPlan, IsSynced, IsTrue, KconfigText, LastRecord, Leads, Leaves, List, None, NoneBroken, Ok, OldAuto, OnOk, Option, Plan, Result, Run, SameBut, Shows, Some, ConfigInputs, Step, Sync, Texts, TreeState, [], action, all_noted, and_parts, and_then, ap, append-nil, append_assoc, ap₂, arith, at, auto_path, borrowed_view, bytes_eq, bytes_eq-Decides, cases_lt, changed_since, command_file, common_steps, cond, config_names, content, cost_of, count_by, declared, differs, drop, drop-cons, err_from_is_err_and, false, filter-append, followed, found, get_or, inl, inr, is_command, is_eq, is_eq-slice_cmp, is_in, is_name, is_ok, is_some, kconfig_refusal, last_record, length, length-append, length-map, limit_of, list_any_at, lt-ltb, map, map-append, names_by, names_placed, of_source, old_auto, one_if, option_map, or_else, placed, plan_over, prerequisites_without, read_in, refl, refusal_without, rules, rules_for, scanned_all, searchable_from_sorted, seen_cost, seen_dep, slice_cmp, state, string_bytes, subst, subst₂, sum_by-cons, suspect_since, sym, take, take_all, take_more, tallies_of, reported, true, true≢false, unknown_count, ℕ, ⊎_elim, ⊤, ◌++◌, ◌+◌, ◌<◌, ◌||◌, ◌∙◌, ◌∷◌, ◌≡◌, ◌≢◌, ◌≤◌, ◌⊎◌}
pub use Rattle.ks_requests.proofs.Prelude.{Bor, Ending, IsSiteLine, IsUnknown, Line, Site, ReportsUnknown, answer_in, answer_line, code_of, cost_line, excerpt_at, explanation_status, file_of, flat_map, flat_map-append, fold-append, given, given_if_named, lines, map_more, max, reply_lines, reply_status, seen_inputs, seen_line, seen_site, seen_texts, site_of, stale_among, statement, status_unless_refused, symbols_of, targets_at, unknown_in, unknown_line, unknown_names, use_line, with_file, args_of}
unfoldable pub use Rattle.ks_requests.proofs.Prelude.{unknown_lines}
pub use Rattle.ks_symbols.proofs.Prelude.{All-from_get_or, IsSome, Statement, YieldsList-from_slice_split, bytes_decides, flat_map-map, fold, fun_ext, is_of_unknown, list_any-IsPermutation, list_any_none, lit≤, map_from_collect, min_comm, nat_cmp, sum_by-append, take-map, take_min, tests, ◌↔◌}
pub use Rattle.ks_fixdep.proofs.Prelude.{nat_lt}
pub use Rattle.ks_tree.proofs.Prelude.{Reads}
pub use Rattle.std.proofs.Common.{length-take, filter}
pub use Rattle.std.proofs.lemmas.Cmp.{eq_by_cmp_equiv, nat_list_cmp_total}
pub use Rattle.ks_engine.proofs.Querying.{borrowed_next}
pub use Rattle.ks_engine.proofs.Drafting.{depfile_listed}
pub use Rattle.ks_engine.proofs.FileRunning.{on_honest}
pub use Rattle.ks_engine.proofs.Heart.{suspect_since-changed_since}
pub use Rattle.ks_engine.specs.Actions.{Call, call_of, calls_of, reply_to}
pub use Rattle.ks_engine.specs.Runs.{call_in}
pub use Rattle.ks_engine.specs.declared.conventions.Conventions.{Conventions}
pub use Rattle.ks_engine.specs.declared.commands.Reply.{Reply}
pub use Rattle.ks_engine.specs.declared.commands.Reply.TheVariants.{Refused}
pub use Rattle.ks_engine.specs.declared.costs.Costs.{Costs}
pub use Rattle.ks_engine.specs.declared.error.EngineError.{EngineError}
pub use Rattle.ks_engine.specs.declared.error.EngineError.TheVariants.{GenerationFull, OutOfMemory, TooLarge}
pub use Rattle.ks_engine.specs.declared.explaining.Explanation.{Explanation}
pub use Rattle.ks_engine.specs.declared.query.Limit.{Limit}
pub use Rattle.ks_engine.specs.declared.query.Query.{Query}
pub use Rattle.ks_engine.specs.declared.staleness.BuildState.{BuildState}
pub use Rattle.ks_engine.specs.declared.synchronise.Report.{Report}
pub use Rattle.ks_fixdep.specs.declared.command_file.Dep.{Dep}
pub use Rattle.ks_fixdep.specs.declared.command_file.Dep.TheVariants.{Config}
pub use Rattle.ks_fixdep.specs.declared.command_file.borrowed.BorrowedDep.{BorrowedDep}
pub use Rattle.ks_symbols.specs.declared.dialect.Dialect.{Dialect}
pub use Rattle.ks_requests.specs.declared.refusal.Refusal.{Refusal}
pub use Rattle.ks_requests.specs.declared.refusal.Refusal.TheVariants.{Engine}
pub use Rattle.ks_requests.specs.declared.request.OutputFormat.{OutputFormat}
pub use Rattle.ks_requests.specs.declared.request.Request.{Request}
pub use Rattle.ks_requests.specs.declared.request.Stamps.{Stamps}
pub use Rattle.ks_requests.specs.declared.request.Targets.{Targets}
pub use Rattle.ks_requests.specs.declared.status.Count.{Count}
pub use Rattle.ks_requests.specs.declared.status.Outcome.{Outcome}
pub use Rattle.ks_requests.specs.declared.status.Status.{Status}
pub use Rattle.ks_requests.specs.declared.report_style.ReportStyle.{ReportStyle}
pub use Rattle.ks_symbols.proofs.Faults.{unknown-cons}
pub use Rattle.ks_symbols.specs.declared.error.SourceError.{SourceError}
pub use Rattle.ks_symbols.specs.declared.kinds.Kind.{Kind}
pub use Rattle.ks_tree.proofs.Stored.{none_some, some_same}
pub use Rattle.ks_tree.specs.declared.tree.Tree.{Ghosts}
pub use Rattle.ks_commands.specs.AskedSymbols.{symbols_in}
pub use Rattle.ks_commands.specs.Differences.{IsDiff, asks_status, difference_line, difference_status, lines_asked}
unfoldable pub use Rattle.ks_commands.specs.Fixdep.{command_file_at}
pub use Rattle.ks_commands.specs.Histories.{Continues, FollowsStamps, Runs, by_histories, state_of}
pub use Rattle.ks_commands.specs.Kept.{AreGiven, AreKept, IsKept}
pub use Rattle.ks_commands.specs.Laws.{BatchReportsChanges, PreviewsArePerformed, RefusalsChangeNothing, RequestsGoOn, StatusesAreAtMostTwo, StatusesReportDifferences}
pub use Rattle.ks_commands.specs.Walks.{AreAsked, Querying, EndsWalk, IsCounted, IsStep, Part, ReportsAll, ReportsOne, ReportedAll, Walks, each_of, objects_of, statuses, text_of}
pub use Rattle.ks_commands.specs.Performed.{Ends, EndsDepfile, EndsImpact, EndsSync, Performs, RunsAll, RunsOn, by_files}
pub use Rattle.ks_commands.specs.Programs.{ProgramRun, ProgramReportsChanges, StepsReportChanges, ReportsAfter, ReportsBuild, ReportsCauses, ReportsChange}
pub use Rattle.ks_commands.specs.Queries.{BackdatesFor, IsExplainedIn, IsSpelled, MayBackdate, querying_by, explained, counted_of, explaining, no_count, stale_count, reports}
pub use Rattle.ks_commands.specs.Readings.{Adds, AreRead, HasCosts, record_in, records_in}
pub use Rattle.ks_commands.specs.Records.{IsReadIn, cost_among, is_user, names_it, reading, user_count, uses_in, uses_lines}
pub use Rattle.ks_commands.specs.Scripts.{AreSpelled, IsAbortedRefusal, action_at, actions_at, line_of, of_engine, script_actions, without_files}
unfoldable pub use Rattle.ks_commands.specs.Scripts.{script_at}
pub use Rattle.ks_commands.specs.Stamps.{LeavesStamps}
pub use Rattle.ks_commands.specs.Spelling.{IsLine, spelled_in, spelling_line, spelling_reported}
pub use Rattle.ks_engine.specs.Costs.{IsRead}
pub use Rattle.ks_engine.specs.Spelling.{spelling_of, step}
pub use Rattle.ks_engine.specs.Evaluated.{IsEvaluated}
pub use Rattle.std.proofs.lemmas.List.Elements.{filter_agree}
