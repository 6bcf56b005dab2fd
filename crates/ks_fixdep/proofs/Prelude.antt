-- What the proofs of this crate import: one name for each thing.
pub use Rattle.ks_symbols.proofs.Prelude.{All-take, AllPass-from_list_all, Bool, Contains, Contains-append_cases, Contains-append_right, Err, IfSome, IsAscii, IsErr, IsErrAnd, IsRefusal, IsStrictlyIncreasing, IsTrue, IsUtf8-from_ascii, List, None, Ok, Option, RefusedBy, Result, Some, String, Vec, YieldsList-end, YieldsList-from_first, YieldsList-from_range, YieldsList-so_far, YieldsList-turn, [], after_last, and_from, and_parts, and_right, ap, append_assoc, append_cancel_left, ap₂, arith, bytes_eq-Decides, cases_Bool, cases_lt, common_steps, cond-false, cond-true, cond_both, cons_option, count_by-le-length, decimal_value, drop, drop-append-add, drop-append-le, drop-append_seam, drop-cons, drop-drop, drop-nil, drop_all, ends_with, eqb-true, false, false_from_ne_true, false≢true, fill_by_all, filter-append, filter_map, filter_map-append, flat_map-append, fold-append, get_or, get_or_from_slice_get, get_or_past, inl, inr, is_path_byte, is_word_byte, items_from_collect, length, length-append, length-drop, length-filter, length-prefix_len, length-slice_split, length-take, length-take-le, list_all, list_all-append, list_all-from_AllPass, list_all-map, list_all_at, list_any, list_any-append, list_any_at, lookup, ltb-true, map, map-append, module_end, nat_tests, nil_from_length, not-false, not-true, nth_from_yields_List, on_ok_weaker, onto_first, option_copied, option_map, option_or, or_cases, or_else, or_left, or_right, prefix_len, prefix_len-le-length, prefix_len_is, prefix_len_passes, prefix_len_stops, refl, reverse-append, rules, slice_get, slice_get-map, slice_get_within, slice_split, string_bytes, subst, suc, sym, take, take-append_seam, take-put_mid, take-take, take_all, take_more, take_rest, take_while-cons, true, without_module, zero, ℕ, ◌++◌, ◌+◌, ◌-◌, ◌<◌, ◌^◌, ◌∙◌, ◌∷◌, ◌≡◌, ◌≤◌}
unfoldable pub use Rattle.ks_symbols.proofs.Prelude.{header_path, is_name, is_path, is_target}
pub use Rattle.std.proofs.Common.{Bor, append-nil, get_or-drop, get_or-take, take-append-drop, ⊎_elim}
pub use Rattle.std.proofs.lemmas.Bool.{cases_order, true_from_ne_false, eq-eqb, lt-ltb}
pub use Rattle.std.specs.List.{find, take_while}
pub use Rattle.std.specs.Prelude.{codes, decimal, filter, flat_map, if◌then◌else◌, nat_eq, nat_lt, not, option_and_then, slice_index, unwrap_or, ◌&&◌, ◌==◌, ◌||◌, ◌⊎◌}
pub use Rattle.std.specs.Str.{bytes_eq}
pub use Rattle.indexmap.specs.IndexMap.{insert_entry}
pub use Rattle.indexmap.specs.IndexSet.{insert_key}
pub use Rattle.memchr.specs.Find.{FindsNeedle, OccursAt}
unfoldable pub use Rattle.memchr.specs.Find.{first_of, last_of, matches_from}
unfoldable pub use Rattle.ks_fixdep.specs.CommandExamples.{example, example_front, example_lines}
pub use Rattle.ks_fixdep.specs.CommandFile.{CommandRecord, IsLegal, back_lines, command_text, dep_line, ended, front_lines, generation_line, is_dep, layout}
unfoldable pub use Rattle.ks_fixdep.specs.CommandFile.{is_command}
pub use Rattle.ks_fixdep.specs.CommandPatterns.{checked, either_dep, split_once}
unfoldable pub use Rattle.ks_fixdep.specs.CommandPatterns.{dep_in, name_in, path_in, saved_command, source_in}
pub use Rattle.ks_fixdep.specs.CommandLaws.{ReadFits, ReadsBack}
pub use Rattle.ks_fixdep.specs.CommandLayout.{assignment, deps_begin, deps_end, file_end, file_line, file_mark, generation_mark, name_end, name_line, name_mark, saved_line, saved_mark, source_line, target_line}
pub use Rattle.ks_fixdep.specs.CommandLines.{before, between, following, line_feed}
unfoldable pub use Rattle.ks_fixdep.specs.CommandLines.{content, lines}
pub use Rattle.ks_fixdep.specs.CommandReading.{onto_deps, or_fault, reading, ◌>>=◌}
unfoldable pub use Rattle.ks_fixdep.specs.CommandReading.{deps_in, end_from, fixed_at, pattern_at, generation_from, record_in, stated}
pub use Rattle.ks_fixdep.specs.CommandReads.{CommandReads, IsFirstMisfit, LinesRead, generation_in, is_sound}
pub use Rattle.ks_fixdep.specs.CommandWriting.{deps_text}
pub use Rattle.ks_fixdep.specs.DependencyFile.{added, fault_after, first_fault, is_header, is_kept, is_target_token, paths_of, role_after, usual_header, with_roles}
unfoldable pub use Rattle.ks_fixdep.specs.DependencyFile.{prerequisites_without, refusal_without, token_refusal}
pub use Rattle.ks_fixdep.specs.FoundNames.{AreFoundNames, all_noted, names_in, names_of, noted}
pub use Rattle.ks_fixdep.specs.Borrowed.{borrowed_view, seen_dep}
pub use Rattle.ks_fixdep.specs.NameIter.{names_left}
pub use Rattle.ks_fixdep.specs.Pieces.{PiecesGiveTheWhole, BorrowedInTurn, is_followed, joined}
pub use Rattle.ks_fixdep.specs.PlaceSet.{ArePointedAt, with_place}
pub use Rattle.ks_fixdep.specs.Places.{IsRun, IsTaken, ListsTaken}
pub use Rattle.ks_fixdep.specs.Progress.{Stands, after_target}
pub use Rattle.ks_fixdep.specs.Record.{config_names, deps_after, new_names, own_line, record_of, record_text, source_of}
pub use Rattle.ks_fixdep.specs.Rule.{FirstTokensAreTokens, RulesReadBack, continued, is_token, stamp_of}
pub use Rattle.ks_fixdep.specs.Scan.{NameAt, bare_name, begun, byte_before, placed, prefix, taken}
unfoldable pub use Rattle.ks_fixdep.specs.Scan.{name_of, name_of_word, names_after}
pub use Rattle.ks_fixdep.specs.SourceScan.{StandsAfter, StandsAfterAs, found_of, names_by, picked}
pub use Rattle.ks_fixdep.specs.SourceTable.{SourceNames, are_within, lists_at, names_at}
pub use Rattle.ks_fixdep.specs.Stream.{borrowed_after, further, kept, kept_name, lengthened, list_of, within}
unfoldable pub use Rattle.ks_fixdep.specs.Stream.{before_last_word, last_word}
pub use Rattle.ks_fixdep.specs.Tokens.{is_other, is_separator, is_some_token}
unfoldable pub use Rattle.ks_fixdep.specs.Tokens.{tokens}
pub use Rattle.ks_fixdep.specs.declared.command_file.Dep.{Dep}
pub use Rattle.ks_fixdep.specs.declared.command_file.Dep.TheVariants.{Config, File}
pub use Rattle.ks_fixdep.specs.declared.dep_error.DepError.{DepError}
pub use Rattle.ks_fixdep.specs.declared.dependency_file.Header.{Header}
pub use Rattle.ks_fixdep.specs.declared.dependency_file.Role.{Role}
pub use Rattle.ks_fixdep.specs.Dialects.{names_in_as, rules_for}
pub use Rattle.ks_fixdep.specs.SymbolPatterns.{Word, word_names, passed, nothing, after_word}
unfoldable pub use Rattle.ks_fixdep.specs.Rule.{rule_text}
pub use Rattle.std.proofs.lemmas.Option.{cond_some, slice_get_cases, none-some}
pub use Rattle.ks_fixdep.specs.WordScan.{word_ended, next, known_after, ended_by, at_start, Knows, Known}
pub use Rattle.std.proofs.lemmas.List.Elements.{All-drop, All-head}
pub use Rattle.std.proofs.lemmas.List.Folds.{Any-from_list_any}
pub use Rattle.std.proofs.lemmas.List.Sums.{prefix_len-drop_no, prefix_len-drop_all}
pub use Rattle.std.proofs.Math.Seq.{take-add}
pub use Rattle.std.proofs.lemmas.List.{at_drop_more, take_at, get_or-append_right, get_or_append_left}
pub use Rattle.std.proofs.lemmas.List.Prefix.{front_fits, at_reads}
