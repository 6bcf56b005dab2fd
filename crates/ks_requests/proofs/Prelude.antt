-- What the proofs of this crate import: one name for each thing.
pub use Rattle.ks_symbols.proofs.Prelude.{All, All-head, All-tail, Bool, Err, IsRefusal, IsTrue, KconfigText, List, None, Ok, Option, Some, YieldsList-from_rest, [], and_from, and_parts, ap, append_assoc, ap₂, arith, bytes_eq, cases_Bool, cases_lt, codes, common_steps, cond, cond-false, cond-true, cond_some, cons_option, drop, drop-append_seam, drop-cons, drop_all, encodes_same, err_from_is_err_and, false, false_from_ne_true, false≢true, filter, filter_map, flat_map, flat_map-append, get_or, inl, inr, is_path_byte, length, list_all, list_any, map, map-append, map_more, max, max_bytes, nat_lt, nat_tests, ne_eqb, nil_from_length, not, not-false, not-true, nth_from_yields_List, option_and_then, option_map, or_cases, or_else, or_parts, position_from, position_or_len, position_or_len_is, refl, rules, slice_get, statement, string_bytes, subst, suc, sym, take, take_while, take_while-cons, true, unwrap_or, ℕ, ◌&&◌, ◌++◌, ◌+◌, ◌-◌, ◌<◌, ◌==◌, ◌^◌, ◌||◌, ◌∙◌, ◌∷◌, ◌≡◌, ◌≢◌, ◌≤◌, ◌⊎◌}
unfoldable pub use Rattle.ks_symbols.proofs.Prelude.{is_path, line_len, lines, lines_from}
pub use Rattle.ks_engine.proofs.Prelude.{AreLegalChanges, Files, PlansOver, Reports, Texts, action, all_noted, append-nil, auto_text, is_some, noted, old_of, refusal_of, Source, sources_of}
pub use Rattle.ks_streams.proofs.Prelude.{Bor, Breaks, Prints, PrintsOrBreaks, state_of}
pub use Rattle.ks_output.proofs.Prelude.{eq-eqb, opened, run_is}
pub use Rattle.ks_fixdep.proofs.Prelude.{insert_key}
pub use Rattle.ks_tree.proofs.Prelude.{IfSome}
pub use Rattle.std.proofs.Common.{nat_le, tests}
pub use Rattle.std.proofs.lemmas.Iterator.Search.{any_from_yields_List}
pub use Rattle.std.specs.Prelude.{IsUtf8, is_none}
pub use Rattle.ks_symbols.specs.Statements.{is_comment_or_blank}
pub use Rattle.std.proofs.lemmas.List.Sums.{fold-append}
pub use Rattle.bstr.specs.Find.{IsFirstByte, is_byte}
pub use Rattle.json.proofs.Printed.Decimals.{IsNumber-decimal}
pub use Rattle.json.proofs.Printed.Numbers.{in_word-ended, lex-number}
pub use Rattle.json.proofs.Printed.Strings.{content-escape, lex-escape}
pub use Rattle.json.proofs.Printed.Trees.{ArePrintable-json_tokens, document-print}
pub use Rattle.json.proofs.Printed.Utf8.{IsUtf8-are_ascii}
pub use Rattle.json.specs.Json.{Items, Json, document, if_last, max_depth, value}
pub use Rattle.json.specs.Lex.{Lexeme, between, colon, comma, fresh, punctuate, string_token, token}
unfoldable pub use Rattle.json.specs.Lex.{lex}
pub use Rattle.json.specs.Print.{IsPrintable, begins, ends, escape, print, quoted, separator, token_text}
unfoldable pub use Rattle.json.specs.Print.{ArePrintable, print_from}
pub use Rattle.json.specs.Token.{Token}
pub use Rattle.json.specs.Tree.{HasNumbers, ItemsHaveNumbers, depth, items_depth, items_tokens, json_tokens}
pub use Rattle.json.specs.Value.{items_of}
pub use Rattle.json.specs.Word.{ends_word}
unfoldable pub use Rattle.json.specs.Word.{word}
pub use Rattle.std.proofs.lemmas.List.{take_all}
pub use Rattle.std.proofs.lemmas.Result.{IfOk-equal}
pub use Rattle.std.proofs.lemmas.Str.{IsUtf8-append}
pub use Rattle.ks_engine.specs.declared.commands.Command.{Command}
pub use Rattle.ks_engine.specs.declared.commands.Reply.{Reply}
pub use Rattle.ks_engine.specs.declared.error.EngineError.{EngineError}
pub use Rattle.ks_engine.specs.declared.explaining.Cause.{Cause}
pub use Rattle.ks_engine.specs.declared.explaining.Explanation.{Explanation}
pub use Rattle.ks_engine.specs.declared.query.Limit.{Limit}
pub use Rattle.ks_engine.specs.declared.staleness.Verdict.{Verdict}
pub use Rattle.ks_engine.specs.Refusals.{of_auto, of_source}
pub use Rattle.ks_output.specs.declared.auto_conf.AutoError.{AutoError}
pub use Rattle.ks_streams.proofs.Writing.{reported, reported_first, reported_more}
pub use Rattle.ks_symbols.proofs.Configured.{chain}
pub use Rattle.ks_symbols.proofs.Spellings.{run_split}
pub use Rattle.ks_symbols.specs.declared.error.SourceError.{SourceError}
unfoldable pub use Rattle.ks_errors.specs.Errors.{hint}
unfoldable pub use Rattle.ks_requests.specs.Faults.{complaint, hint_of}
unfoldable pub use Rattle.ks_requests.specs.Faults.{counted, fault_text, known_error, refusal_text, source_text}
pub use Rattle.ks_requests.specs.JsonLines.{answer_in, asked_values, cause_value, first_values}
unfoldable pub use Rattle.ks_requests.specs.JsonLines.{json_answer}
pub use Rattle.ks_requests.specs.Laws.{CharactersTellApart, LinesAreObjects}
pub use Rattle.ks_requests.specs.Preview.{full_refusal, old_generation, old_refusal, touch_lines}
unfoldable pub use Rattle.ks_requests.specs.Preview.{preview_refusal}
pub use Rattle.ks_requests.specs.Replies.{answer_line, cause_line, reply_line}
unfoldable pub use Rattle.ks_requests.specs.Replies.{reply_lines, report_lines, synced_line}
pub use Rattle.ks_requests.specs.Script.{Line, Record, Says, Stale, Sync, begins_sync, is_word, is_word_byte, seen_line}
unfoldable pub use Rattle.ks_requests.specs.Script.{first_word, record_line, script_line, script_lines, stale_line, sync_line}
pub use Rattle.ks_requests.specs.ScriptLaws.{LinesAreSpelled}
pub use Rattle.ks_requests.specs.ScriptRefusals.{is_faulty}
unfoldable pub use Rattle.ks_requests.specs.ScriptRefusals.{line_fault, script_refusal}
pub use Rattle.ks_requests.specs.ScriptSyncs.{is_sync, script_syncs}
pub use Rattle.ks_requests.specs.Sites.{IsSiteLine, IsThere, Site, excerpt, excerpt_at, excerpt_in, part_text, site_line, site_of}
pub use Rattle.ks_requests.specs.Statuses.{code_of, explanation_status, reply_status, stale_among, status_unless_refused, worst}
pub use Rattle.ks_requests.specs.Symbols.{cost_line, symbol_of, symbols_of, use_line}
unfoldable pub use Rattle.ks_requests.specs.Targets.{targets_in}
pub use Rattle.ks_requests.specs.Unknown.{unknown_in, unknown_line, unknown_names}
unfoldable pub use Rattle.ks_requests.specs.Unknown.{unknown_lines}
pub use Rattle.ks_requests.specs.Views.{seen_inputs, seen_site, seen_texts}
pub use Rattle.ks_requests.specs.declared.script_error.ScriptError.{ScriptError}
pub use Rattle.ks_requests.specs.declared.sites.Part.{Part}
pub use Rattle.ks_requests.specs.Endings.{Complains, Ending, IsUnknown, ReportsUnknown}
pub use Rattle.ks_requests.specs.Requests.{IsBatchOf, IsPreviewOf}
pub use Rattle.ks_requests.specs.Inputs.{given, given_if_named}
pub use Rattle.ks_requests.specs.Targets.{file_of, targets_at, with_file, args_of}
