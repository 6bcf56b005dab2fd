-- What the arguments mean: a request, a mistake, or that help is asked for.
use Rattle.std.specs.Prelude.{◌≡◌, ◌⊎◌, ℕ, List, [], IsSomeAnd, codes, false, string_bytes, true, ⊤}
use Rattle.std.specs.Option.{MatchOption}
use Rattle.std.specs.Bool.{MatchBool}
use Rattle.clap.specs.Words.{IsAmong, Row, Text, fault_of, subcommand_of, takes}
use Rattle.ks_streams.specs.Streams.{Breaks, Prints, PrintsOrBreaks, State}
use Rattle.ks_errors.specs.Errors.{error_of, known_errors, page}
use Rattle.ks_requests.specs.declared.refusal.Refusal.TheVariants.{Output}
use Rattle.ks_requests.specs.declared.request.Request.{Request}
use Rattle.ks_requests.specs.Endings.{Complains}
use Rattle.ks_cli.specs.CommandLine.{command_line_app}
use Rattle.ks_cli.specs.Args.{IsRequestOf, asks_both, is_help, is_visible, arg_at}
use Rattle.ks_cli.specs.declared.help_text.HelpText.{HelpText}
use Rattle.ks_cli.specs.declared.args.WordsError.{WordsError}
use Rattle.ks_cli.specs.declared.args.WordsError.TheVariants.{OutOfMemory, Refused}

-- The request is that of the command that `clap` finds in the arguments, with what it finds for each of them.
abbrev pub Makes : List Text → Request → Type 0
Makes args request = IsSomeAnd (subcommand_of command_line_app args) (λ command. IsRequestOf command.0 command.1 request)

-- The page of the error of this number or name, printed as help; or of none, and the list of errors, printed as a mistake.
abbrev pub IsPageOf : Text → HelpText → Type 0
IsPageOf arg help = MatchOption (error_of arg)
    ((is_help help.kind ≡ false) × (string_bytes help.text ≡ known_errors))
    (λ error. (is_help help.kind ≡ true) × (string_bytes help.text ≡ page error))

-- .. or memory was refused for it
abbrev pub IsPageReported : Text → WordsError → Type 0
IsPageReported arg (Refused help) = IsPageOf arg help × (is_visible (string_bytes help.text) ≡ true)
IsPageReported arg OutOfMemory = ⊤

-- What is said of two options that exclude each other, as `clap` says it; or memory was refused for it.
unfoldable pub both_text : List ℕ
both_text = codes "error: the argument '--stamps' cannot be used with '--written'\n\nUsage: confstamp sync [--stamps | --written] <KCONFIG> <DOTCONFIG>\n\nFor more information, try '--help'.\n"

abbrev pub IsBothReported : WordsError → Type 0
IsBothReported (Refused help) = (is_help help.kind ≡ false) × (string_bytes help.text ≡ both_text) × (is_visible (string_bytes help.text) ≡ true)
IsBothReported OutOfMemory = ⊤

-- What a command and its arguments get in place of a request: `explain` a page, and `sync` that two options exclude each other.
abbrev pub IsReportedInstead : Text → List Row → HelpText → Type 0
IsReportedInstead name rows help = ((name ≡ codes "explain") × IsPageOf (arg_at (codes "NUMBER") rows) help)
    ⊎ ((name ≡ codes "sync") × (asks_both rows ≡ true) × (is_help help.kind ≡ false) × (string_bytes help.text ≡ both_text))

abbrev pub IsPageNamed : Text → List Row → WordsError → Type 0
IsPageNamed name rows (Refused help) = IsReportedInstead name rows help
IsPageNamed name rows OutOfMemory = ⊤

-- The arguments get such a text: they ask `explain` about an error, or `sync` for both.
abbrev pub IsPageFor : List Text → HelpText → Type 0
IsPageFor args help = IsSomeAnd (subcommand_of command_line_app args) (λ command. IsReportedInstead command.0 command.1 help)

-- Why arguments that `clap` accepts make no request: they get such a text, or memory was refused.
abbrev pub IsTakenAs : List Text → WordsError → Type 0
IsTakenAs args (Refused help) = IsPageFor args help
IsTakenAs args OutOfMemory = ⊤

-- Why any arguments make none: it is of a kind that these arguments have, or they get such a text.
abbrev pub IsReason : List Text → WordsError → Type 0
IsReason args (Refused help) = IsAmong help.kind (fault_of command_line_app args) ⊎ IsPageFor args help
IsReason args OutOfMemory = ⊤

-- A text was printed to the output, with the status 0; or a write to it failed, and that is refused.
abbrev pub IsShown : List ℕ → State → State → State → State → ℕ → Type 0
IsShown text before after err_before err_after status =
    (Prints text before after × (err_after ≡ err_before) × (status ≡ 0)) ⊎ (Breaks text before after × Complains Output [] err_before err_after × (status ≡ 2))

-- A text goes to standard error, with the status 2.
abbrev pub IsBlamed : List ℕ → State → State → State → State → ℕ → Type 0
IsBlamed text before after err_before err_after status = (after ≡ before) × (status ≡ 2) × PrintsOrBreaks text err_before err_after

-- The whole text of an explanation is printed: help and the version are shown, and any other kind is a mistake.
abbrev pub IsHelp : HelpText → State → State → State → State → ℕ → Type 0
IsHelp help before after err_before err_after status = MatchBool (is_help help.kind)
    (IsShown (string_bytes help.text) before after err_before err_after status) (IsBlamed (string_bytes help.text) before after err_before err_after status)

-- `clap` does not accept the arguments, for a reason of a kind that they have, or they ask for a page or for both options; there is something to see in what is said
-- of it, and that is printed.
pub record Explains (args : List Text) (help : HelpText) (before after err_before err_after : State) (status : ℕ) : Type 0 where
  pub refused : takes command_line_app args ≡ true → IsPageFor args help
  pub reason : IsAmong help.kind (fault_of command_line_app args) ⊎ IsPageFor args help
  pub visible : is_visible (string_bytes help.text) ≡ true
  pub printed : IsHelp help before after err_before err_after status
