-- What the proofs of this crate import: one name for each thing.
pub use Rattle.ks_requests.proofs.Prelude.{Complains, IsBatchOf, IsPreviewOf, List, None, Option, Some, [], ap, ap₂, arith, codes, common_steps, false, fold-append, get_or, inl, inr, length, map, map_more, nat_tests, option_map, refl, rules, state_of, string_bytes, subst, sym, take, true, ℕ, ◌+◌, ◌<◌, ◌==◌, ◌∙◌, ◌∷◌, ◌≡◌, ◌≢◌}
pub use Rattle.std.proofs.Common.{IsSomeAnd, fold, slice_index}
pub use Rattle.std.proofs.lemmas.Bool.{true≢false}
pub use Rattle.std.proofs.lemmas.List.{take_all}
pub use Rattle.std.proofs.lemmas.Option.{same_Some}
pub use Rattle.std.specs.Prelude.{Err, IfErr, IfOk, IsErrAnd, Ok, Result, is_some}
pub use Rattle.std.specs.Str.{bytes_eq}
pub use Rattle.std.specs.Str.Parse.{ParsesUnsigned}
unfoldable pub use Rattle.clap.proofs.OnLiterals.{clap_on_literals}
pub use Rattle.clap.proofs.WalkLemmas.{first_value-rows, one_text-rows, raw_values-rows}
pub use Rattle.clap.specs.Lexer.{strip_byte}
pub use Rattle.clap.specs.Walk.{texts}
pub use Rattle.clap.specs.Words.{AddsSubcommand, App, HasKind, IsAmong, Kinds, ReadsOne, Row, Text, app_of, fault_of, first_of, first_value, is_simple, is_simple_and_free, kind_of, reading_of, rows_of, subcommand_name_of, subcommand_of, subcommand_rows_of, takes, with_subcommand}
pub use Rattle.clap.specs.declared.builder.command.Command.{Command}
pub use Rattle.clap.specs.declared.builder.command.Command.TheViews.{out-Command}
pub use Rattle.clap.specs.declared.error.Error.{Error}
pub use Rattle.clap.specs.declared.parser.matches.ArgMatches.{ArgMatches}
pub use Rattle.clap.specs.declared.parser.matches.Found.{Found}
pub use Rattle.clap.specs.declared.parser.matches.ValueSource.TheVariants.{CommandLine}
pub use Rattle.ks_requests.specs.declared.request.Request.{Request}
pub use Rattle.ks_cli.specs.CommandLine.{bare_app, command_line_app, taking, usage_app, with_all, arg_rule}
pub use Rattle.ks_cli.specs.Laws.{BatchArgs, PreviewArgs}
pub use Rattle.ks_cli.specs.Meaning.{IsPageFor, IsPageNamed, IsPageOf, IsPageReported, IsReason, IsTakenAs, Makes}
pub use Rattle.ks_cli.specs.Args.{IsNumberOf, IsRequestOf, HasText, IsReported, IsWantOfMemory, is_no_memory}
pub use Rattle.ks_cli.specs.declared.args.WordsError.{WordsError}
