-- What the proofs of this crate import: one name for each thing.
pub use Rattle.std.specs.Prelude.{Contains, IfSome, String, is_some}
pub use Rattle.std.proofs.Common.{Bool, Err, Global, HashMap, IfErr, IfOk, IsSome, IsTrue, List, None, Ok, OnErr, OnOk, Option, Result, Some, T, Vec, [], add-one, ap, append_assoc, ap₂, arith, bytes_eq, codes, cond, decimal, drop, drop-cons, false, flat_map, fold, get_or, get_or-set_other, get_or-set_same, if◌then◌else◌, inl, inr, length, length-append, length-drop, length-set, length-take-le, lit≤, lt-ltb, map, max, min, nat_eq, nat_lt, not, option_and_then, option_map, refl, reverse, rules, set, slice_get, slice_index, slice_range, string_bytes, subst, subst₂, suc, sym, take, take-take, take_while, tests, true, true≢false, unwrap_or, vec_capacity, vec_len, zero, zero-add, ℕ, ◌%◌, ◌&&◌, ◌++◌, ◌+◌, ◌-◌, ◌/◌, ◌<◌, ◌==◌, ◌^◌, ◌||◌, ◌↔◌, ◌∙◌, ◌∷◌, ◌≡◌, ◌≢◌, ◌≤◌, ◌⊎◌}
pub use Rattle.std.proofs.Math.Seq.{drop-append-add, drop-append_seam, drop-nil, get_or-append_seam, take-add, take-append_seam, take-length}
pub use Rattle.std.proofs.lemmas.Bool.{eq-eqb, and_from, and_parts, and_right, both_ways, cases_Bool, cases_eq, cases_lt, cond-false, cond-true, cond_both, eqb-false, eqb-true, false_from_ne_true, false≢true, le-ltb, lt-leb, ltb-false, ltb-true, ne_eqb, not-false, not-true, not_from_false, not_from_true, or_cases, or_from, or_left, or_parts, or_right}
pub use Rattle.std.proofs.lemmas.Bool.Decides.{Decides-eqb, eqb_tells, nat_tests}
pub use Rattle.std.proofs.lemmas.Fmt.{IsAscii-from_digits, decimal-digits_value, decimal_digit, decimal_injective, decimal_nonempty, digits_decimal, digits_value-decimal, first_decimal, length-decimal-le}
pub use Rattle.std.proofs.lemmas.Fn.{always_returns_same}
pub use Rattle.std.proofs.lemmas.Grind.{common_steps, flat_map-append, fold-append, reverse_onto}
pub use Rattle.std.proofs.lemmas.List.{at_drop_more, append-nil, append_cancel_left, append_cancel_right, drop-append-le, drop-drop, drop-take, drop_all, get_or-drop, get_or-map, get_or-take, get_or_append_left, get_or_past, length-map, length-take, map-append, map_more, nil_from_length, reverse-append, take-append-drop, take-append-le, take-map, take_all, take_at, take_min, take_more, take_rest}
pub use Rattle.std.proofs.lemmas.List.Elements.{All-rest, All-append, All-cons, All-filter, All-from_get_or, All-head, All-map, All-nil, All-push, All-same, All-tail, All-take, All-weaker, Contains-append_cases, Contains-append_right, filter-append, filter_agree, filter_map-append, filter_passes}
pub use Rattle.std.proofs.lemmas.List.Folds.{find-append, flat_map-map, length-prefix_len, list_all-append, list_all-map, list_all_at, list_any-append, list_any_at, list_any_none}
pub use Rattle.std.proofs.lemmas.List.Sorted.{All-permutation, IsPermutation-map, list_any-IsPermutation, ranks_by, searchable_from_sorted, sum_by-IsPermutation}
pub use Rattle.std.proofs.lemmas.List.Sums.{AllPass-from_list_all, count_by-le-length, length-filter, list_all-from_AllPass, position_or_len_is, prefix_len-le-length, prefix_len_is, prefix_len_passes, prefix_len_stops, sum_by-append, sum_by-cons, take_while-cons}
pub use Rattle.std.proofs.lemmas.Map.Text.{is_eq-slice_cmp}
pub use Rattle.std.proofs.lemmas.Option.{option_and_then_some, cond_some, get_or_from_slice_get, same_Some, slice_get-map, slice_get_within}
pub use Rattle.std.proofs.lemmas.Result.{err_from_is_err_and, on_ok_weaker}
pub use Rattle.std.proofs.lemmas.Str.{IsUtf8-from_ascii, digit_value-digit_char, encode_ascii, encodes_same}
pub use Rattle.std.proofs.lemmas.Str.Parse.{IsNumeralModel, numerals_by_value, parse_digits}
pub use Rattle.std.specs.Char.{digit_char, encode_utf8, is_ascii_digit}
pub use Rattle.std.specs.Cmp.{IsTotalOrder, back_total, eq_by_cmp_equiv, nat_cmp_is, nat_cmp_total, on_total, then_total, tied_itself}
pub use Rattle.std.specs.Cmp.Lexicographic.{bytes_decides, nat_list_cmp_total, nat_list_eq_equiv, slice_cmp}
pub use Rattle.std.specs.FinMap.{empty, entries, entries-from_sorted, find, from_sorted, get, get-empty, get-from_entries, get-from_sorted, get-insert, get-remove, get-retain_keys, insert, is_sorted, nat_cmp-IsAntisymmetric, same_map, slice_cmp-IsAntisymmetric}
pub use Rattle.std.specs.FinMap.Entries.{below_all}
pub use Rattle.std.specs.List.{All, AllByRecursion, after_last, cons_option, count_by, ends_with, filter, filter_map, list_all, list_any, onto_first, position_from, position_or_len, prefix_len, slice_split, starts_with}
pub use Rattle.std.specs.List.Sorted.{IsBinarySearchResult, IsNonDecreasingBy, IsPartitionPoint, IsPermutation, IsSearchInRange, IsSortedBy, IsSortedByKey, IsStableBy, IsStableByKey, IsStrictlyIncreasing, ties}
pub use Rattle.std.specs.Map.{keys_of, lookup, set_value}
pub use Rattle.std.specs.Ordering.{eq_by_cmp, is_eq, is_lt, nat_cmp, ordering_index, ordering_reverse, ordering_then}
pub use Rattle.std.specs.Result.{IsErr, IsErrAnd, is_ok, result_ok}
pub use Rattle.std.specs.Str.Parse.{ParsesUnsigned, digits_value}
pub use Rattle.std.specs.declared.cmp.Ordering.{Ordering}
pub use Rattle.std.specs.declared.cmp.Ordering.TheVariants.{Equal, Greater, Less}
pub use Rattle.bstr.proofs.lemmas.RestLemmas.{concat-lines_of}
pub use Rattle.bstr.specs.Text.{no_cr, without_terminator}
unfoldable pub use Rattle.bstr.specs.Text.{line_len, lines_from}
pub use borrow.Author.Count.{below_more}
pub use mathlib.Core.Logic.{⊎_elim}
pub use Rattle.ks_symbols.specs.Configuration.{Configuration, Declarations, HasSymbolNames, IsConfiguration, IsEntry, NameMap, SettingsView, borrowed_entry}
unfoldable pub use Rattle.ks_symbols.specs.Configuration.{kinds_in}
pub use Rattle.ks_symbols.specs.Decimal.{decimal_value, is_canonical, starts_well}
pub use Rattle.ks_symbols.specs.DotConfig.{is_about, is_of_unknown, last_about, unknown_count}
unfoldable pub use Rattle.ks_symbols.specs.DotConfig.{dotconfig_refusal, first_fault, gives, line_fault, setting}
pub use Rattle.ks_symbols.specs.LineKinds.{Entry, LineKind, HasKind, Title, is_blank, is_no_blank, is_no_quote}
unfoldable pub use Rattle.ks_symbols.specs.LineKinds.{after_quote, line_kind, kind_line_kind, title_line_kind, word_line_kind}
pub use Rattle.ks_symbols.specs.Dialects.{KconfigText, read_in}
pub use Rattle.ks_symbols.specs.Kconfig.{clashes, declares, entry_of, line_kind_fault, line_kinds, goes_on, kind_fault, kind_in, lacks_kind, opens, says, story}
unfoldable pub use Rattle.ks_symbols.specs.Kconfig.{declarations, declared, first_line_kind_fault, kconfig_refusal, title_in, title_of}
pub use Rattle.ks_symbols.specs.Kinds.{class_again, class_of, fits, is_hexadecimal, is_off, is_string_byte}
unfoldable pub use Rattle.ks_symbols.specs.Kinds.{is_symbol_name, is_text}
pub use Rattle.ks_symbols.specs.Laws.{NoLineHoldsALineFeed, ReadsAreTexts, SettingsAreConfigurations, StatementsAreSpelled}
pub use Rattle.ks_symbols.specs.Lines.{is_no_line_feed, max_bytes}
unfoldable pub use Rattle.ks_symbols.specs.Lines.{lines}
pub use Rattle.ks_symbols.specs.Names.{is_in, is_path_byte, is_word_byte, module_end, without_module}
unfoldable pub use Rattle.ks_symbols.specs.Names.{header_path, is_name, is_path, is_target}
pub use Rattle.ks_symbols.specs.Progress.{Declared, Progress, clash_fault, no_kinds, no_progress, progress_after, seen, step_fault, waiting_fault, without_text}
unfoldable pub use Rattle.ks_symbols.specs.Progress.{first_clash, first_kind, last_kind}
pub use Rattle.ks_symbols.specs.Refusals.{IsRefusal, RefusedBy, or_else}
pub use Rattle.ks_symbols.specs.Settling.{after_statement}
pub use Rattle.ks_symbols.specs.Statements.{Assigns, Says, Statement, name_of}
unfoldable pub use Rattle.ks_symbols.specs.Statements.{assignment, statement, unsetting}
pub use Rattle.ks_symbols.specs.Table.{AreHeaded, LieIn, after_line, begins_with, by_heads, entry_in, head_of, name_in, stated_in}
unfoldable pub use Rattle.ks_symbols.specs.Table.{after_lines, last_ones}
pub use Rattle.ks_symbols.specs.Titles.{ends_comment}
unfoldable pub use Rattle.ks_symbols.specs.Titles.{is_title}
pub use Rattle.ks_symbols.specs.Values.{escape, is_escaped}
unfoldable pub use Rattle.ks_symbols.specs.Values.{text_of, unquoted, unquoted_rest}
pub use Rattle.ks_symbols.specs.declared.error.SourceError.{SourceError}
pub use Rattle.ks_symbols.specs.declared.kconfig.Declaration.{Declaration}
pub use Rattle.ks_symbols.specs.declared.kinds.Kind.{Kind}
pub use Rattle.ks_symbols.specs.declared.table.Record.{Record}
pub use Rattle.std.specs.Borrow.{Bor}
unfoldable pub use Rattle.std.specs.List.Sorted.{IsStrictlySortedBy}
pub use Rattle.std.specs.Map.Iter.{TakesFirst}
pub use Rattle.std.proofs.lemmas.Iterator.{YieldsList-from_range, items_from_collect}
pub use Rattle.std.proofs.lemmas.Iterator.Consumers.{YieldsList-end, YieldsList-from_first, YieldsList-from_rest, YieldsList-so_far, YieldsList-turn, map_from_collect, nth_from_yields_List}
pub use Rattle.std.proofs.lemmas.List.FromFn.{fill_by_all}
pub use Rattle.std.proofs.lemmas.List.Splits.{length-slice_split}
pub use Rattle.std.proofs.lemmas.Slice.{take-put_mid}
pub use Rattle.std.proofs.lemmas.Slice.Eq.{bytes_eq-Decides, ends_is}
pub use Rattle.std.specs.Option.{option_copied, option_or}
pub use Rattle.std.specs.Str.{IsAscii}
pub use Rattle.std.specs.BTreeMap.{BTreeMap, UpdatesBy}
pub use Rattle.std.specs.Io.KnownBytes.{Consumes, Keeps, prepend_known}
unfoldable pub use Rattle.std.specs.Map.{KeepsOthers}
pub use borrow.Rule.Slice.PartMut.{put_mid}
pub use Rattle.std.proofs.lemmas.Map.Keys.{Less-from_sorted}
pub use Rattle.std.proofs.lemmas.Map.Views.{All-map-IsPermutation}
pub use Rattle.std.specs.Bool.{⊤}
unfoldable pub use lib.Utf8.{encode}
pub use Rattle.std.proofs.Math.Nat.{min_comm}
pub use Rattle.std.proofs.Math.Path.{fun_ext}
pub use Rattle.std.proofs.lemmas.Iterator.Splits.{YieldsList-from_slice_split}
