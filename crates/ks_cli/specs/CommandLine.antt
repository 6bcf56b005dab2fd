-- The command line as `clap` sees it. The names are this project's.
use Rattle.std.specs.Prelude.{List, [], ◌∷◌, codes, true, fold, map, Some}
use Rattle.clap.specs.Words.{App, Rule, Text, new_app, new_rule, with_rule, with_subcommand}
use Rattle.clap.specs.Simple.{on_top}
use Rattle.clap.specs.Lexer.{usize_max}
use Rattle.clap.specs.declared.builder.action.ArgAction.TheVariants.{SetTrue}
use Rattle.ks_cli.specs.declared.usage.NumArgs.{NumArgs}
use Rattle.ks_cli.specs.declared.usage.NumArgs.TheVariants.{Once, AtMostOnce, AnyNumber, Following, Flag, AtLeastOnce, OnceAfter, NumberAfter, AnyAfter}
use Rattle.clap.specs.declared.builder.value_parser.ValueParser.TheVariants as vp
use Rattle.ks_cli.specs.declared.usage.Usage.{Usage}
use Rattle.ks_cli.specs.declared.usage.ArgUsage.{ArgUsage}

-- a word that stands once, that may be left out, that may stand any number of times, that stands after an option, or that is an option
abbrev pub once : Text → Rule
once name = record (new_rule name) { required = true }

abbrev pub at_most_once : Text → Rule
at_most_once name = new_rule name

abbrev pub any_number : Text → Rule
any_number name = record (new_rule name) { range = Some (record { start_inclusive = 1; end_inclusive = usize_max }) }

abbrev pub following : Text → Text → Rule
following option name = record (new_rule name) { long = Some option }

abbrev pub flag : Text → Rule
flag name = record (new_rule name) { long = Some name; action = Some SetTrue }

-- .. at least once, once after an option, or as a number after one
abbrev pub at_least_once : Text → Rule
at_least_once name = record (any_number name) { required = true }

abbrev pub once_after : Text → Text → Rule
once_after option name = record (following option name) { required = true }

abbrev pub number_following : Text → Text → Rule
number_following option name = record (following option name) { parser = Some (vp.Unsigned 0 18446744073709551615) }

-- or any number of them after one
abbrev pub any_following : Text → Text → Rule
any_following option name = record (any_number name) { long = Some option }

abbrev pub rule_for : Text → NumArgs → Rule
rule_for name Once = once name
rule_for name AtMostOnce = at_most_once name
rule_for name AnyNumber = any_number name
rule_for name (Following option) = following option.now name
rule_for name Flag = flag name
rule_for name AtLeastOnce = at_least_once name
rule_for name (OnceAfter option) = once_after option.now name
rule_for name (NumberAfter option) = number_following option.now name
rule_for name (AnyAfter option) = any_following option.now name

-- the rule of a word of the program's table
abbrev pub arg_rule : ArgUsage → Rule
arg_rule arg = rule_for arg.name.now arg.num_args

-- a command that takes these arguments
abbrev pub taking : Text → List Rule → App
taking name rules = fold with_rule (new_app name) rules

-- a command that needs one of its arguments
abbrev pub needing_one : App → App
needing_one app = on_top (λ s. record s { arg_required_else_help = true }) app

-- the command of a row of the program's table
abbrev pub usage_app : Usage → App
usage_app usage = on_top (λ s. record s { arg_required_else_help = usage.needs_args }) (taking usage.name.now (map arg_rule usage.args.now))

-- a command line with these commands below it
abbrev pub with_all : App → List App → App
with_all app subs = fold (λ a sub. with_subcommand a sub.top) app subs

-- the program without its commands
abbrev pub bare_app : App
bare_app =
    on_top (λ s. record s { has_version = true; subcommand_required = true; no_binary_name = true }) (new_app (codes "confstamp"))

-- the commands that write a configuration or a record, or show what they would write
abbrev pub writing_apps : List App
writing_apps =
    (needing_one (taking (codes "sync") (flag (codes "stamps") ∷ flag (codes "written") ∷ once (codes "KCONFIG") ∷ once (codes "DOTCONFIG") ∷ []))
    ∷ needing_one (taking (codes "preview") (flag (codes "written") ∷ once (codes "KCONFIG") ∷ once (codes "DOTCONFIG") ∷ at_most_once (codes "OLDAUTO") ∷ []))
    ∷ needing_one (taking (codes "diff") (flag (codes "exit-code") ∷ flag (codes "quiet") ∷ flag (codes "written") ∷ once (codes "KCONFIG")
    ∷ once (codes "DOTCONFIG") ∷ []))
    ∷ taking (codes "status") (flag (codes "written") ∷ at_most_once (codes "KCONFIG") ∷ at_most_once (codes "DOTCONFIG") ∷ [])
    ∷ taking (codes "fixdep") (once (codes "DEPFILE") ∷ once (codes "TARGET") ∷ once (codes "COMMAND") ∷ [])
    ∷ needing_one (taking (codes "record") (flag (codes "remove-depfile") ∷ flag (codes "cmd") ∷ flag (codes "before-sync") ∷ following (codes "in") (codes "DIR")
    ∷ following (codes "tree") (codes "TREE") ∷ once (codes "DEPFILE") ∷ once (codes "TARGET") ∷ once (codes "COMMAND") ∷ []))
    ∷ needing_one (taking (codes "depfile") (following (codes "header") (codes "SUFFIX") ∷ following (codes "strict") (codes "PATH")
    ∷ any_following (codes "tools") (codes "TOOL") ∷ following (codes "in") (codes "DIR") ∷ following (codes "tree") (codes "TREE") ∷ once (codes "DEPFILE") ∷ once (codes "TARGET") ∷ once (codes "COMMAND") ∷ []))
    ∷ needing_one (taking (codes "repair") (once_after (codes "stamps") (codes "STAMPS") ∷ once_after (codes "targets") (codes "TARGETS")
    ∷ at_most_once (codes "AUTO") ∷ at_most_once (codes "HEADER") ∷ []))
    ∷ [])

-- .. and those about objects, the scripts and the errors
abbrev pub asking_apps : List App
asking_apps =
    (needing_one (taking (codes "stale") (any_number (codes "TARGET") ∷ following (codes "from") (codes "FILE") ∷ flag (codes "json") ∷ []))
    ∷ needing_one (taking (codes "why") (any_number (codes "TARGET") ∷ following (codes "from") (codes "FILE") ∷ flag (codes "json") ∷ []))
    ∷ needing_one (taking (codes "impact") (flag (codes "written") ∷ once (codes "KCONFIG") ∷ once (codes "DOTCONFIG") ∷ any_number (codes "TARGET")
    ∷ following (codes "from") (codes "FILE") ∷ flag (codes "json") ∷ []))
    ∷ needing_one (taking (codes "backdate") (flag (codes "unrecorded") ∷ any_number (codes "TARGET") ∷ following (codes "from") (codes "FILE") ∷ []))
    ∷ needing_one (taking (codes "age") (flag (codes "unrecorded") ∷ any_number (codes "TARGET") ∷ following (codes "from") (codes "FILE") ∷ []))
    ∷ needing_one (taking (codes "mark") (flag (codes "unrecorded") ∷ any_number (codes "TARGET") ∷ following (codes "from") (codes "FILE") ∷ []))
    ∷ taking (codes "batch") (once (codes "SCRIPT") ∷ [])
    ∷ taking (codes "outdated") (once (codes "TARGET") ∷ once (codes "COMMAND") ∷ [])
    ∷ needing_one (taking (codes "users") (once_after (codes "from") (codes "FILE") ∷ at_least_once (codes "SYMBOL") ∷ []))
    ∷ needing_one (taking (codes "cost") (any_number (codes "TARGET") ∷ following (codes "from") (codes "FILE")
    ∷ number_following (codes "top") (codes "N") ∷ []))
    ∷ taking (codes "explain") (at_most_once (codes "NUMBER") ∷ [])
    ∷ [])

-- the whole command line
abbrev pub command_line_app : App
command_line_app = with_all (with_all bare_app writing_apps) asking_apps
