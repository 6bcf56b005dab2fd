-- What the proofs of this crate import: one name for each thing.
pub use Rattle.ks_symbols.proofs.Prelude.{Assigns, Bool, Bor, Configuration, Equal, IsConfiguration, IsEntry, IsTrue, List, NameMap, None, Ok, Option, Ordering, Says, Some, Statement, T, [], and_parts, ap, append-nil, append_assoc, ap₂, arith, below_all, bytes_decides, bytes_eq, cases_Bool, class_of, codes, common_steps, cond, cond-false, cond-true, decimal, decimal_value, digits_decimal, drop, drop-append_seam, ends_with, escape, false, false_from_ne_true, false≢true, filter, filter_map, filter_map-append, find, get_or, is_ascii_digit, is_eq, is_eq-slice_cmp, is_hexadecimal, is_sorted, is_string_byte, is_word_byte, length, length-append, list_all, list_all-append, lt-ltb, min, module_end, nat_cmp-IsAntisymmetric, nat_eq, nat_list_cmp_total, nat_list_eq_equiv, nat_tests, ne_eqb, not, not-true, option_map, or_cases, or_right, refl, reverse, reverse_onto, rules, slice_cmp-IsAntisymmetric, slice_index, starts_with, subst, suc, sym, take, take-append_seam, tied_itself, true, without_module, without_terminator, ℕ, ⊎_elim, ◌&&◌, ◌++◌, ◌+◌, ◌<◌, ◌^◌, ◌∙◌, ◌∷◌, ◌≡◌, ◌≤◌, ◌⊎◌}
unfoldable pub use Rattle.ks_symbols.proofs.Prelude.{assignment, is_name, is_symbol_name, is_text, is_title, line_len, lines, statement, unsetting}
pub use Rattle.std.proofs.lemmas.Bool.{and_from, eq-eqb}
pub use Rattle.std.specs.List.{flat_map}
pub use Rattle.std.specs.Option.{option_and_then}
pub use Rattle.bstr.proofs.lemmas.LineLemmas.{lines-nil, lines-step}
pub use Rattle.bstr.specs.Text.{lines_of}
pub use mathlib.Core.Logic.{inl, inr}
pub use Rattle.ks_symbols.proofs.Digits.{own, reads_back, reads_only_written}
pub use Rattle.ks_symbols.proofs.LastOnes.{first, order, second}
pub use Rattle.ks_symbols.proofs.LineFeeds.{byte_at_end}
pub use Rattle.ks_symbols.proofs.Records.{not_equal}
pub use Rattle.ks_symbols.proofs.Spellings.{run_split, opened, run_is, statements_are_spelled, word_bytes}
pub use Rattle.ks_symbols.specs.declared.kinds.Class.{Class}
pub use Rattle.ks_symbols.specs.declared.kinds.Kind.{Kind}
pub use Rattle.ks_output.specs.Appending.{Keeps, definitions_capacity}
pub use Rattle.ks_output.specs.AutoConf.{class_by, given, last_number, number}
unfoldable pub use Rattle.ks_output.specs.AutoConf.{auto_fault, auto_generation, auto_map, auto_refusal, first_faulty, heard, is_typed, neighbours, texts_given}
pub use Rattle.ks_output.specs.AutoLines.{AreWhole, Gives, Marks, Numbers, Remark, CommentOrBlank, Types, assigned, classed, numbered, remark, remarks, seen_remark, spelled_class}
unfoldable pub use Rattle.ks_output.specs.AutoLines.{class_remark, stated_by}
pub use Rattle.ks_output.specs.AutoText.{class_end, class_line, entry_line, entry_lines, generation_line, heading}
unfoldable pub use Rattle.ks_output.specs.AutoText.{auto_text}
pub use Rattle.ks_output.specs.Definitions.{Defines, DefinesMacro, defines, defines_macro, is_of_module, run_of}
unfoldable pub use Rattle.ks_output.specs.Definitions.{definitions, lf_lines, modules_last}
pub use Rattle.ks_output.specs.Examples.{FaultsFound, FilesOfSwitches}
pub use Rattle.ks_output.specs.Header.{defined_as, definition_lines, front, header_heading, switch_value}
unfoldable pub use Rattle.ks_output.specs.Header.{header_text}
pub use Rattle.ks_output.specs.HeaderLaws.{AlikeIsDefinedAlike, DefinitionsAreLines, DefinitionsAreOfEntries, companion_of, definition_of, is_companion}
pub use Rattle.ks_output.specs.Laws.{GenerationFits, GenerationReadsBack, HasNoFault, IsAccepted, LastLineCounts, TextsAreOfEntries, TextsHaveNames, TextsReadBack, UntypedHasNoClass, beginning}
pub use Rattle.ks_output.specs.OldConfig.{HasNames, OldTexts, Texts, as_companion, borrowed_old_entry, kept}
unfoldable pub use Rattle.ks_output.specs.OldConfig.{about, texts_of}
pub use Rattle.ks_output.specs.Positions.{AreLeftOf, AreRefused, Entry, Front, Evaluated, IsWantedAfter, Passed, PassedEntries, Position, RanOut, Typed, Untyped, before_class, blamed, class_at, following, refusal_with, stated_left, seen_position, wants_entry}
unfoldable pub use Rattle.ks_output.specs.Positions.{fault_left}
pub use Rattle.ks_output.specs.declared.auto_conf.Lines.{Lines}
pub use Rattle.ks_output.specs.declared.auto_conf.AutoError.{AutoError}
pub use Rattle.ks_output.specs.declared.auto_scan.AutoScan.{AutoScan}
pub use Rattle.ks_output.specs.AutoScan.{StandsAfter, refusal_after}
pub use Rattle.std.proofs.lemmas.List.{map-append}
pub use Rattle.std.proofs.lemmas.Option.{cond_some}
pub use Rattle.ks_symbols.proofs.WordRuns.{run_passes}
