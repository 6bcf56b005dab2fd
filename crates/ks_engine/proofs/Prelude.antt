-- What the proofs of this crate import: one name for each thing.
pub use Rattle.ks_symbols.proofs.Prelude.{All, All-append, All-cons, All-filter, All-head, All-map, All-map-IsPermutation, All-nil, All-push, All-same, All-tail, All-weaker, Bool, Configuration, Decides-eqb, Equal, Err, Global, HashMap, IfErr, IfOk, IsBinarySearchResult, IsConfiguration, IsPermutation, IsPermutation-map, IsRefusal, IsSearchInRange, IsSortedBy, IsSortedByKey, IsStrictlySortedBy, IsTotalOrder, IsTrue, KconfigText, Less-from_sorted, List, None, Ok, OnErr, OnOk, Option, Ordering, Result, Some, [], always_returns_same, and_from, and_parts, ap, append_assoc, ap₂, arith, back_total, both_ways, bytes_eq, bytes_eq-Decides, cases_Bool, cases_lt, codes, common_steps, cond, cond-false, cond-true, cond_both, count_by, declared, dotconfig_refusal, drop, drop-cons, drop-take, drop_all, empty, ends_is, ends_with, eqb-false, err_from_is_err_and, false, false_from_ne_true, filter-append, filter_passes, get, get-empty, get-insert, get-remove, get_or, get_or-append_seam, get_or-map, get_or_append_left, get_or_from_slice_get, if◌then◌else◌, inl, inr, insert, is_eq, is_eq-slice_cmp, is_in, is_lt, is_name, is_ok, is_path, is_target, is_title, kconfig_refusal, le-ltb, length, length-append, length-map, length-take, list_all, list_all-append, list_any, list_any-append, list_any_at, lookup, ltb-false, ltb-true, map, map-append, max_bytes, min, nat_cmp-IsAntisymmetric, nat_cmp_total, nat_eq, nat_list_cmp_total, nat_lt, ne_eqb, not-true, on_total, option_map, or_cases, or_else, or_from, or_left, or_parts, or_right, ranks_by, read_in, refl, rules, same_map, searchable_from_sorted, set_value, setting, slice_cmp, slice_cmp-IsAntisymmetric, slice_get, slice_get-map, slice_get_within, string_bytes, subst, subst₂, suc, sum_by-IsPermutation, sum_by-cons, sym, take, take-append-drop, take-append_seam, take_more, then_total, tied_itself, title_of, true, true≢false, unknown_count, vec_capacity, vec_len, zero, ℕ, ⊤, ◌&&◌, ◌++◌, ◌+◌, ◌-◌, ◌<◌, ◌==◌, ◌^◌, ◌||◌, ◌∙◌, ◌∷◌, ◌≡◌, ◌≢◌, ◌≤◌, ◌⊎◌}
unfoldable pub use Rattle.ks_symbols.proofs.Prelude.{header_path}
pub use Rattle.ks_fixdep.proofs.Prelude.{CommandRecord, IsLegal, ReadFits, ReadsBack, StandsAfterAs, all_noted, append-nil, borrowed_view, command_text, config_names, deps_after, filter, found_of, insert_entry, is_command, is_dep, lines, lt-ltb, names_by, names_in_as, new_names, not, noted, picked, prerequisites_without, record_of, refusal_without, rules_for, seen_dep, source_of, usual_header, ⊎_elim}
unfoldable pub use Rattle.ks_fixdep.proofs.Prelude.{rule_text}
pub use Rattle.ks_tree.proofs.Prelude.{AutoConf, AutoTemporary, CommandFile, CommandTemporary, Files, HasNumber, HasRisen, HeaderTemporary, IsLegalPlace, IsPieceRead, IsStampRefusal, IsTooLarge, MakesStamps, Place, SameBut, SameButBoth, Stamp, StampTemporary, Touches, auto_temporary, content, dotted, header_temporary, kept_or, left_over, nat_cmp, path_of, reads_back, stamp_temporary, stamp_text, take-take, temporary}
unfoldable pub use Rattle.ks_tree.proofs.Prelude.{auto_path, command_path, command_temporary, stamp_path}
pub use Rattle.ks_output.proofs.Prelude.{HasNames, OldTexts, Texts, about, auto_generation, auto_map, auto_text, definitions, header_text, texts_of}
unfoldable pub use Rattle.ks_output.proofs.Prelude.{auto_refusal}
pub use Rattle.ks_compare.proofs.Prelude.{AreChanges, alike_is_defined_alike, differs}
pub use Rattle.std.proofs.Common.{add-one, find, is_some, take_all, vec_items}
pub use Rattle.std.proofs.lemmas.List.{length-drop}
pub use Rattle.std.specs.FinMap.{remove}
pub use Rattle.std.specs.Prelude.{Vec}
pub use Rattle.ks_compare.proofs.ChangeLemmas.{changes_are_legal, unchanged_is_kept}
pub use Rattle.ks_fixdep.proofs.CommandFitLemmas.{lines-fit, lines-read}
pub use Rattle.ks_fixdep.proofs.CommandTextLemmas.{written-reads}
pub use Rattle.ks_fixdep.proofs.NameLemmas.{list_all-drop}
pub use Rattle.ks_fixdep.specs.declared.command_file.Dep.{Dep}
pub use Rattle.ks_fixdep.specs.declared.command_file.Dep.TheVariants.{Config, File}
pub use Rattle.ks_fixdep.specs.declared.command_file.borrowed.BorrowedDep.{BorrowedDep}
pub use Rattle.ks_symbols.specs.declared.dialect.Dialect.{Dialect}
pub use Rattle.ks_fixdep.specs.declared.dialect.ScanRules.{ScanRules}
pub use Rattle.ks_fixdep.specs.declared.dependency_file.Role.{Role}
pub use Rattle.ks_symbols.specs.declared.seed.Seed.{Seed}
pub use Rattle.ks_output.proofs.SmallNumbers.{generation_fits}
pub use Rattle.ks_output.specs.declared.auto_conf.AutoError.{AutoError}
pub use Rattle.ks_symbols.specs.declared.kinds.Kind.{Kind}
pub use Rattle.ks_tree.proofs.PathLemmas.{apart, ending-auto, ending-command, ending-header, ending-stamp, ending-temporary, stamp-injective}
pub use Rattle.ks_tree.proofs.Places.{paths_never_meet}
pub use Rattle.ks_tree.specs.declared.fault.TreeError.{TreeError}
pub use Rattle.ks_tree.specs.declared.fault.TreeFault.{TreeFault}
pub use Rattle.ks_engine.specs.Actions.{Action, Call, Record, Reply, Sync, action, call_of, calls_of, reply_to}
pub use Rattle.ks_engine.specs.Asked.{Asked, AtOnce, ByStamps, IsAnswer, IsAnswerOn, IsExplained, IsExplainedBy, asked_of, asked_since, command_file, listed, reported, verdict_by}
unfoldable pub use Rattle.ks_engine.specs.Asked.{asked}
pub use Rattle.ks_engine.specs.BuildStates.{Asks, BuildAsked, IsBuildState, IsStateOn, build_asked_of, evaluated}
unfoldable pub use Rattle.ks_engine.specs.BuildStates.{build_asked}
pub use Rattle.ks_engine.specs.Causes.{AreCauses, AreEnough, AreTooFew, EndsAt, IsByStamps, cause, names_placed, placed, verdict_of}
pub use Rattle.ks_engine.specs.Costs.{AreCosts, AreOnce, AreTallies, IsTally, by_cost, cost_of, counted, number_in, one_if, seen_cost, tallies_of, tally_cost, tally_pairs}
pub use Rattle.ks_engine.specs.Depfile.{FollowsDepfile, IsDepfileRecorded, IsDepfileRefused, IsOldOrRule, RuleDone, RuleLeaves, RuleTried}
unfoldable pub use Rattle.ks_engine.specs.Depfile.{is_own_file}
pub use Rattle.ks_engine.specs.Drafts.{IsDraft}
pub use Rattle.ks_engine.specs.Explained.{IsExplanationEvaluated, IsExplanationOn, PlacesAreFirst, PlacesAreTheirs, first_with, is_listed, last_path, listed_last}
pub use Rattle.ks_engine.specs.FileRuns.{BackdateScope, FileRun, FileState, LeavesDepfile, LeavesFiles, LeavesRecord, LeavesStamped, LeavesSync, StepsTo, state}
pub use Rattle.ks_engine.specs.Follows.{FollowsRecordedUnder, FollowsRecord, FollowsRecordUnder, FollowsSync, IsRecordEvent, TreeState, at}
pub use Rattle.ks_engine.specs.History.{Begun, Broken, History, LastRecord, NoneBroken, Recorded, Synced, WasSynced, before, done, last_record}
pub use Rattle.ks_engine.specs.Impact.{IsAfter, IsAnswerAfter, IsImpactOf, EvaluatesAfter}
pub use Rattle.ks_engine.specs.Evaluated.{HasSameDefinitions, IsBuildEvaluated, IsEvaluated}
pub use Rattle.ks_engine.specs.LastSync.{OldAuto, last_generation, read_unless, synced_at}
unfoldable pub use Rattle.ks_engine.specs.LastSync.{old_auto}
pub use Rattle.ks_engine.specs.Laws.{AreNotNumbered, EmptyTreeShows, HasChangeAfter, MadeStampsShow, NotNumberedTreeShows, PlansAreOne, SuspicionsHaveCauses, UntypedTreeShows, UsualTreeShows}
pub use Rattle.ks_engine.specs.Legal.{AreAllRenewed, Defines, IsHistory, IsLegalSync, MayBeHeader}
pub use Rattle.ks_engine.specs.Caches.{AreScanned, Grows, IsCached, IsCacheOf, IsNoSource, IsStamp, are_placed, pairs_of, value_of, with_pair}
pub use Rattle.ks_engine.specs.OtherRecords.{OtherRecordsDoNotMatter, own_history}
pub use Rattle.ks_engine.specs.Queries.{IsAnswerTo, IsSeen, limit_of}
pub use Rattle.ks_engine.specs.Recorded.{IsRecordPlanUnder, IsRecordRefused, IsRecordRefusedUnder, IsRecordTried, IsRecordTriedUnder, IsRecorded, IsRecordedUnder, RecordPlan, drafted, numbered, record_plan, usual}
unfoldable pub use Rattle.ks_engine.specs.Recorded.{record_plan_under}
pub use Rattle.ks_engine.specs.Recording.{followed, listed_unless, scanned, there, with_command, args}
unfoldable pub use Rattle.ks_engine.specs.Recording.{scanned_all}
pub use Rattle.ks_engine.specs.Refusals.{IsAborted, IsAbortedAnswer, and_then, of_auto, of_source, of_stamp, of_tree, of_written}
pub use Rattle.ks_engine.specs.Runs.{Follows, FollowsQuery, IsShown, Leads, Leaves, Run, Step}
pub use Rattle.ks_engine.specs.Shows.{IsFirstAuto, IsAuto, IsCommandFile, Shows, stamp}
pub use Rattle.ks_engine.specs.Staleness.{changed_since, first_suspect, found, renewed_since_sync, suspect_since, verdict}
pub use Rattle.ks_engine.specs.Sources.{FromConf, FromKconfig, Source, config_source}
pub use Rattle.ks_engine.specs.SyncPlan.{AreConfigInputs, AreInputs, AreWritten, IsSyncPlan, Plan, ConfigInputs, plan_over, refusal_of, source_refusal, written_refusal}
pub use Rattle.ks_engine.specs.Synchronised.{AreCleared, AreLegalChanges, IsSyncRefused, IsSynced, SyncDone, SyncLeaves}
pub use Rattle.ks_engine.specs.Verdicts.{IsChangedVerdict, IsAbortedSync, IsEvaluatedReply, IsSafeVerdict, IsSuspectVerdict}
pub use Rattle.ks_engine.specs.Views.{IsWork, IsPlanned, PlansOver, Reports, old_of, sources_of}
pub use Rattle.ks_engine.specs.declared.commands.Command.{Command}
pub use Rattle.ks_engine.specs.declared.commands.Reply.{Reply as CommandReply}
pub use Rattle.ks_engine.specs.declared.conventions.Conventions.{Conventions}
pub use Rattle.ks_engine.specs.declared.costs.Cost.{Cost}
pub use Rattle.ks_engine.specs.declared.costs.Costs.{Costs}
pub use Rattle.ks_engine.specs.declared.costs.Tally.{Tally}
pub use Rattle.ks_engine.specs.declared.error.EngineError.{EngineError}
pub use Rattle.ks_engine.specs.declared.error.EngineError.TheVariants.{BadCommand, BadPath, Device, NeverSynced, TooLarge}
pub use Rattle.ks_engine.specs.declared.explaining.Cause.{Cause}
pub use Rattle.ks_engine.specs.declared.explaining.Explanation.{Explanation}
pub use Rattle.ks_engine.specs.declared.impact.Impact.{Impact}
pub use Rattle.ks_engine.specs.declared.caches.Cache.{Cache}
pub use Rattle.ks_engine.specs.declared.planning.Planned.{Planned}
pub use Rattle.ks_engine.specs.declared.query.Limit.{Limit}
pub use Rattle.ks_engine.specs.declared.query.Limit.TheVariants.{First}
pub use Rattle.ks_engine.specs.declared.query.Query.{Query}
pub use Rattle.ks_engine.specs.declared.query.Query.TheVariants.{Predicted, Stale, Why}
pub use Rattle.ks_engine.specs.declared.recording.Draft.{Draft}
pub use Rattle.ks_engine.specs.declared.staleness.BuildState.{BuildState}
pub use Rattle.ks_engine.specs.declared.staleness.Verdict.{Verdict}
pub use Rattle.ks_engine.specs.declared.staleness.Verdict.TheVariants.{Fresh}
pub use Rattle.ks_engine.specs.declared.synchronise.Report.{Report}
pub use Rattle.ks_engine.specs.AllStamps.{FollowsSyncAllStamps, IsStampedRefused, IsStamped}
pub use Rattle.ks_fixdep.specs.FoundNames.{names_of}
pub use Rattle.std.proofs.Math.Logic.{⊎_map}
pub use Rattle.ks_tree.specs.Paths.{Header}
pub use Rattle.std.proofs.lemmas.List.Folds.{list_any_none}
pub use Rattle.std.proofs.lemmas.Map.Lookups.{exact_bytes}
pub use Rattle.std.proofs.lemmas.Result.{IfErr-weaker, on_err_weaker, on_ok_weaker}
pub use Rattle.ks_fixdep.specs.CommandReading.{reading}
pub use Rattle.std.proofs.lemmas.List.Elements.{All-take}
pub use Rattle.std.proofs.lemmas.Map.Entries.{place_from_lookup}
pub use Rattle.std.proofs.lemmas.Option.{slice_get_cases}
pub use Rattle.std.proofs.lemmas.Bool.{eq-eqb}
