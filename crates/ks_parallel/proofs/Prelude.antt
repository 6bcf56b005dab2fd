-- What the proofs of this crate import: one name for each thing.
pub use Rattle.ks_engine.proofs.Prelude.{All-cons, All-nil, AreAllRenewed, Defines, AutoConf, Begun, Bool, Broken, CommandFile, CommandTemporary, Err, Files, HasNumber, History, IsAuto, IsCommandFile, IsHistory, IsLegalPlace, IsRecordEvent, IsRecordTried, IsRecorded, LastRecord, List, MayBeHeader, None, Ok, Option, Place, RecordPlan, Recorded, Result, SameBut, Shows, Some, Stamp, Synced, Texts, WasSynced, [], and_from, and_parts, and_then, ap, append-nil, ap₂, arith, at, auto_path, auto_text, before, bytes_eq, bytes_eq-Decides, cases_Bool, command_path, command_temporary, common_steps, cond, cond-false, cond-true, content, differs, done, drop, drop-cons, eqb-false, err_from_is_err_and, false, false_from_ne_true, followed, get-empty, get-insert, get_or, header_path, header_text, inl, inr, is_eq-slice_cmp, is_in, last_generation, last_record, length, length-append, list_any, listed_unless, map, max_bytes, nat_cmp, nat_cmp-IsAntisymmetric, nat_eq, nat_list_cmp_total, ne_eqb, option_map, or_cases, or_from, or_left, or_parts, or_right, own_history, path_of, paths_never_meet, record_plan, refl, rules, rules_for, same_map, scanned, slice_cmp, slice_cmp-IsAntisymmetric, stamp, subst, subst₂, suc, sym, take, take_more, there, true, true≢false, args, zero, ℕ, ⊎_elim, ◌&&◌, ◌++◌, ◌+◌, ◌<◌, ◌∙◌, ◌∷◌, ◌≡◌, ◌≢◌, ◌≤◌, ◌⊎◌, HasRisen, IsAborted, IsRecordRefused, IsTooLarge, count_by, list_any-append, lt-ltb, min, synced_at, vec_items, read_unless, both_ways, IfErr, All-push, take_all, IsTrue, is_name, kept_or, IsRecordedUnder, RuleLeaves, drafted, temporary, with_command, ◌||◌}
unfoldable pub use Rattle.ks_engine.proofs.Prelude.{old_auto, record_plan_under, scanned_all, auto_refusal, stamp_path}
pub use Rattle.ks_symbols.proofs.Prelude.{add-one, bytes_decides, cases_eq, eq_by_cmp, eqb-true, get-remove, get-retain_keys, get_or-set_other, get_or-set_same, length-set, not, not_from_false, not_from_true, set}
pub use Rattle.ks_tree.proofs.Prelude.{Header, IsMoved}
pub use Rattle.ks_compare.proofs.Prelude.{eq-eqb}
pub use Rattle.std.proofs.Common.{filter, decimal}
pub use Rattle.ks_engine.proofs.OtherRecords.{others_do_not_matter}
pub use Rattle.ks_engine.proofs.RecordSteps.{record_follows_under}
pub use Rattle.ks_engine.proofs.Steps.{untouched_shows, same_shows}
pub use Rattle.ks_engine.specs.Recording.{listed}
pub use Rattle.ks_engine.specs.declared.conventions.Conventions.{Conventions}
pub use Rattle.ks_engine.specs.declared.error.EngineError.{EngineError}
pub use Rattle.ks_engine.specs.declared.error.EngineError.TheVariants.{Device, MissingFile, NeverSynced, OutOfMemory, TooLarge}
pub use Rattle.ks_fixdep.specs.declared.dep_error.DepError.{DepError}
pub use Rattle.ks_fixdep.specs.declared.dependency_file.Role.{Role}
pub use Rattle.ks_symbols.specs.declared.dialect.Dialect.{Dialect}
pub use Rattle.ks_fixdep.specs.declared.dialect.ScanRules.{ScanRules}
pub use Rattle.ks_tree.proofs.Stored.{none_some}
pub use Rattle.ks_parallel.specs.Calls.{AllFind, Call, Finds, Leaves, Moves, Nothing, Reads, after_all, put, uses, view, writes}
unfoldable pub use Rattle.ks_parallel.specs.Calls.{after}
pub use Rattle.ks_parallel.specs.Frames.{RecordsGoByWhatTheyRead, RecordsWriteTwoPaths, DepfilesWriteTheirPaths, IsMadeStamp}
pub use Rattle.ks_parallel.specs.Orders.{EachOf, KeepsApart, OrdersLeaveTheSame, ViewsAreHonest, all, own, IsOrderOf}
pub use Rattle.ks_parallel.specs.Shuffles.{IsOfJob, RecordEvent, ShufflesAreShown, ShufflesSayTheSame, SideBySide, with_record, with_records}
pub use Rattle.ks_parallel.specs.Views.{AreApart, Jobs, ViewsShow, is_others_job, is_own_job, is_written_for, sees, without, AllPlacesAreSeen, SeesPlaces, target_of}
pub use Rattle.std.proofs.lemmas.Bool.{not-true, cases_lt}
pub use Rattle.std.proofs.lemmas.List.{map_push, get_or_default}
pub use Rattle.std.proofs.lemmas.List.Elements.{All-append}
pub use Rattle.std.proofs.lemmas.List.Folds.{list_any-from_Any, Any-from_list_any}
pub use Rattle.std.proofs.lemmas.List.Sums.{sum_by-append}
pub use Rattle.std.proofs.lemmas.Result.{IfOk-weaker}
pub use Rattle.ks_engine.proofs.DepfileLemmas.{depfile_follows, legal_names}
pub use Rattle.ks_parallel.specs.Stamping.{Act, AllActsFind, Calls, IsOrMade, KeepsOff, MakeStampsApart, Makes, StampersAreApart, StampersSideBySide, StampOrdersLeaveTheSame, StampsStay, after_act, after_acts, call_of, is_stamp_of}
pub use Rattle.ks_parallel.specs.Runs.{AddsBy, IsRecordOf, LeavesBy, LeavesRun, Process, RunsApart, RunsAreShown, RunsSideBySide, Way, targets_from, targets_of}
