-- Arguments of the command line, the requests that they make, and why they make none.
use Rattle.std.specs.Prelude.{◌≡◌, ◌≢◌, ◌⊎◌, ℕ, Bool, false, true, nat_lt, List, [], ◌∷◌, bytes_eq, codes, option_map, slice_index, string_bytes, unwrap_or, ⊤, ◌&&◌, if◌then◌else◌, ◌<◌, ◌^◌, Option, Some, None, map}
use Rattle.std.specs.List.{All, list_any}
use Rattle.std.specs.Option.{option_map_or}
use Rattle.clap.specs.Words.{Row, Text, all_of, first_of, one_of}
use Rattle.ks_engine.specs.declared.backdating.BackdateScope.{BackdateScope}
use Rattle.ks_engine.specs.declared.backdating.BackdateScope.TheVariants as backdates
use Rattle.ks_engine.specs.declared.planning.ConfigForm.{ConfigForm}
use Rattle.ks_engine.specs.declared.planning.ConfigForm.TheVariants as form
use Rattle.ks_requests.specs.declared.request.ConfigPaths.{ConfigPaths}
use Rattle.ks_requests.specs.declared.request.ElsewherePaths.{ElsewherePaths}
use Rattle.ks_requests.specs.declared.request.RecordWords.{RecordWords}
use Rattle.ks_requests.specs.declared.request.DepfileAfter.{DepfileAfter}
use Rattle.ks_requests.specs.declared.request.DepfileAfter.TheVariants as depfile
use Rattle.ks_requests.specs.declared.request.KeptPaths.{KeptPaths}
use Rattle.ks_requests.specs.declared.request.StrictPaths.{StrictPaths}
use Rattle.ks_requests.specs.declared.request.OutputFormat.{OutputFormat}
use Rattle.ks_requests.specs.declared.request.OutputFormat.TheVariants as format
use Rattle.std.specs.Str.Parse.{IsNumeral, digits_value, without_leading_plus}
use Rattle.ks_requests.specs.declared.request.Request.{Request}
use Rattle.ks_requests.specs.declared.request.Stamps.{Stamps}
use Rattle.ks_requests.specs.declared.request.Stamps.TheVariants as stamps
use Rattle.ks_requests.specs.declared.request.Targets.{Targets}
use Rattle.ks_requests.specs.declared.request.Request.TheVariants as request
use Rattle.ks_requests.specs.Targets.{file_of, args_of}
use Rattle.ks_requests.specs.declared.report_style.ReportStyle.{ReportStyle}
use Rattle.ks_requests.specs.declared.report_style.ReportStyle.TheVariants.{Lines, LinesAndStatus, Status}
use Rattle.ks_cli.specs.declared.args.WordsError.{WordsError}
use Rattle.ks_cli.specs.declared.args.WordsError.TheVariants.{OutOfMemory, Refused}
use Rattle.clap.specs.Words.{kind_of}
use Rattle.clap.specs.declared.error.Error.{Error}
use Rattle.clap.specs.declared.error.kind.ErrorKind.{ErrorKind}
use Rattle.clap.specs.declared.error.kind.ErrorKind.TheVariants.{DisplayHelp, DisplayVersion, OutOfMemory as NoMemory}

-- the argument does not begin with `-`
abbrev pub IsPlainArg : List ℕ → Type 0
IsPlainArg arg = slice_index arg 0 ≢ 45

-- memory was refused
abbrev pub IsWantOfMemory : WordsError → Type 0
IsWantOfMemory OutOfMemory = Unit {0}
IsWantOfMemory _ = ⊥

-- help, or the version
abbrev pub is_help : ErrorKind → Bool
is_help DisplayHelp = true
is_help DisplayVersion = true
is_help kind = false

abbrev pub is_no_memory : ErrorKind → Bool
is_no_memory NoMemory = true
is_no_memory kind = false

-- there is something to see in it
abbrev pub is_visible : List ℕ → Bool
is_visible text = list_any (nat_lt 32) text

-- An explanation of a mistake, of help or of the version has a text.
abbrev pub HasText : WordsError → Type 0
HasText (Refused help) = is_visible (string_bytes help.text) ≡ true
HasText OutOfMemory = ⊤

-- An error of `clap` is reported as one of its kind, but want of memory, or memory is refused for the text.
abbrev pub IsReported : Error → WordsError → Type 0
IsReported e (Refused help) = (help.kind ≡ kind_of e) × (is_no_memory (kind_of e) ≡ false) × (is_visible (string_bytes help.text) ≡ true)
IsReported e OutOfMemory = ⊤

-- the argument of this name, and all arguments of it
abbrev pub arg_at : Text → List Row → Text
arg_at name rows = unwrap_or (first_of name rows) []

abbrev pub args_at : Text → List Row → List Text
args_at name rows = unwrap_or (all_of name rows) []

-- whether this option stands there
abbrev pub is_set : Text → List Row → Bool
is_set name rows = option_map_or (λ text. bytes_eq text (codes "true")) (first_of name rows) false

-- what `diff` is to tell; `--quiet` says more than `--exit-code`
abbrev pub report_style_of : List Row → ReportStyle
report_style_of rows = if is_set (codes "quiet") rows then Status else (if is_set (codes "exit-code") rows then LinesAndStatus else Lines)

-- which stamps `sync` is to leave
abbrev pub stamps_of : List Row → Stamps
stamps_of rows = if is_set (codes "stamps") rows then stamps.Declared else stamps.Touched

-- what the two files of a configuration are, and which they are
abbrev pub form_of : List Row → ConfigForm
form_of rows = if is_set (codes "written") rows then form.Written else form.Kconfig

abbrev pub AreConfig : List Row → ConfigPaths → Type 0
AreConfig rows c = (c.form ≡ form_of rows) × (string_bytes c.first ≡ arg_at (codes "KCONFIG") rows) × (string_bytes c.second ≡ arg_at (codes "DOTCONFIG") rows)

-- .. where they are named; a second one that isn't there is a path of no bytes, which is none
abbrev pub AreNamedConfig : List Row → Option ConfigPaths → Type 0
AreNamedConfig rows None = first_of (codes "KCONFIG") rows ≡ None
AreNamedConfig rows (Some c) = (c.form ≡ form_of rows) × (first_of (codes "KCONFIG") rows ≡ Some (string_bytes c.first))
    × (string_bytes c.second ≡ arg_at (codes "DOTCONFIG") rows)

-- whether `sync` is asked for a stamp of each declared symbol by what conf wrote, which doesn't say what is declared
abbrev pub asks_both : List Row → Bool
asks_both rows = is_set (codes "stamps") rows && is_set (codes "written") rows

-- what `record` is to leave of the dependency file
abbrev pub depfile_after : List Row → DepfileAfter
depfile_after rows = if is_set (codes "remove-depfile") rows then depfile.Removed else depfile.Kept

-- where the compiler ran; the tree's name that isn't there is a path of no bytes, which is none
abbrev pub IsElsewhere : List Row → Option ElsewherePaths → Type 0
IsElsewhere rows None = first_of (codes "DIR") rows ≡ None
IsElsewhere rows (Some e) = (first_of (codes "DIR") rows ≡ Some (string_bytes e.directory)) × (string_bytes e.tree ≡ arg_at (codes "TREE") rows)

-- how `record` is asked for
abbrev pub AreRecordWords : List Row → RecordWords → Type 0
AreRecordWords rows words =
    (words.adds_own_lines ≡ is_set (codes "cmd") rows) × (words.before_sync ≡ is_set (codes "before-sync") rows) × IsElsewhere rows words.elsewhere

-- which stale objects `backdate` and `mark` are about
abbrev pub scope_of : List Row → BackdateScope
scope_of rows = if is_set (codes "unrecorded") rows then backdates.Unrecorded else backdates.Recorded

-- the name is that of no command but `stale`
abbrev pub IsNoOther : Text → Type 0
IsNoOther name = All (λ other. name ≢ other)
    (codes "sync" ∷ codes "preview" ∷ codes "diff" ∷ codes "fixdep" ∷ codes "record" ∷ codes "depfile" ∷ codes "batch" ∷ codes "outdated"
    ∷ codes "why" ∷ codes "impact" ∷ codes "age" ∷ codes "users" ∷ codes "cost" ∷ codes "backdate" ∷ codes "explain" ∷ codes "repair" ∷ codes "mark" ∷ codes "status" ∷ [])

-- what was kept is named by both words; a header that isn't there is a path of no bytes, which is none
abbrev pub AreKept : List Row → Option KeptPaths → Type 0
AreKept rows None = first_of (codes "AUTO") rows ≡ None
AreKept rows (Some k) = (first_of (codes "AUTO") rows ≡ Some (string_bytes k.auto)) × (string_bytes k.header ≡ arg_at (codes "HEADER") rows)

-- what makes a record strict; without the path of the header it isn't
abbrev pub AreStrict : List Row → Option StrictPaths → Type 0
AreStrict rows None = first_of (codes "PATH") rows ≡ None
AreStrict rows (Some s) = (first_of (codes "PATH") rows ≡ Some (string_bytes s.alias))
    × (map (λ tool. string_bytes tool) s.tools.items ≡ args_at (codes "TOOL") rows)

-- the objects of a question
abbrev pub AreTargets : List Row → Targets → Type 0
AreTargets rows targets = (args_of targets ≡ args_at (codes "TARGET") rows) × (file_of targets ≡ first_of (codes "FILE") rows)

-- the form of its answers
abbrev pub format_of : List Row → OutputFormat
format_of rows = if is_set (codes "json") rows then format.Json else format.Text

-- the number that a word spells, with a + in front or without; `clap` takes no word that spells none
abbrev pub IsNumberOf : Option Text → Option ℕ → Type 0
IsNumberOf None number = number ≡ None
IsNumberOf (Some arg) (Some n) = IsNumeral 10 (without_leading_plus arg) × (n ≡ digits_value 10 (without_leading_plus arg))
IsNumberOf (Some arg) None = (IsNumeral 10 (without_leading_plus arg) × (digits_value 10 (without_leading_plus arg) < 2 ^ 64)) → ⊥

-- the request is that of the command, and holds what `clap` found for each of its arguments
abbrev pub IsRequestOf : Text → List Row → Request → Type 0
IsRequestOf command rows (request.Sync c stamps) = (command ≡ codes "sync") × AreConfig rows c × (stamps ≡ stamps_of rows) × (asks_both rows ≡ false)
IsRequestOf command rows (request.Preview c o) = (command ≡ codes "preview") × AreConfig rows c
    × (option_map (λ path. string_bytes path) o ≡ first_of (codes "OLDAUTO") rows)
IsRequestOf command rows (request.Diff c report_style) = (command ≡ codes "diff") × AreConfig rows c × (report_style ≡ report_style_of rows)
IsRequestOf command rows (request.Status c) = (command ≡ codes "status") × AreNamedConfig rows c
IsRequestOf command rows (request.Fixdep d t c) = (command ≡ codes "fixdep")
    × (string_bytes d ≡ arg_at (codes "DEPFILE") rows) × (string_bytes t ≡ arg_at (codes "TARGET") rows)
    × (string_bytes c ≡ arg_at (codes "COMMAND") rows)
IsRequestOf command rows (request.Record d t c after options) = (command ≡ codes "record")
    × (string_bytes d ≡ arg_at (codes "DEPFILE") rows) × (string_bytes t ≡ arg_at (codes "TARGET") rows)
    × (string_bytes c ≡ arg_at (codes "COMMAND") rows) × (after ≡ depfile_after rows) × AreRecordWords rows options
IsRequestOf command rows (request.Depfile end strict elsewhere d t c) = (command ≡ codes "depfile")
    × (option_map (λ path. string_bytes path) end ≡ first_of (codes "SUFFIX") rows)
    × AreStrict rows strict × IsElsewhere rows elsewhere × (string_bytes d ≡ arg_at (codes "DEPFILE") rows)
    × (string_bytes t ≡ arg_at (codes "TARGET") rows) × (string_bytes c ≡ arg_at (codes "COMMAND") rows)
IsRequestOf command rows (request.Repair s t k) = (command ≡ codes "repair") × (string_bytes s ≡ arg_at (codes "STAMPS") rows)
    × (string_bytes t ≡ arg_at (codes "TARGETS") rows) × AreKept rows k
IsRequestOf command rows (request.Stale ts f) =
    IsNoOther command × AreTargets rows ts × (f ≡ format_of rows)
IsRequestOf command rows (request.Why ts f) = (command ≡ codes "why") × AreTargets rows ts × (f ≡ format_of rows)
IsRequestOf command rows (request.Impact c ts f) = (command ≡ codes "impact") × AreConfig rows c × AreTargets rows ts × (f ≡ format_of rows)
IsRequestOf command rows (request.Backdate which ts) = ((command ≡ codes "backdate") ⊎ (command ≡ codes "age")) × (which ≡ scope_of rows) × AreTargets rows ts
IsRequestOf command rows (request.Mark which ts) = (command ≡ codes "mark") × (which ≡ scope_of rows) × AreTargets rows ts
IsRequestOf command rows (request.Batch s) =
    (command ≡ codes "batch") × (string_bytes s ≡ arg_at (codes "SCRIPT") rows)
IsRequestOf command rows (request.Outdated t c) = (command ≡ codes "outdated")
    × (string_bytes t ≡ arg_at (codes "TARGET") rows) × (string_bytes c ≡ arg_at (codes "COMMAND") rows)
IsRequestOf command rows (request.Users symbols ts) = (command ≡ codes "users")
    × (map (λ s. string_bytes s) symbols.items ≡ args_at (codes "SYMBOL") rows) × AreTargets rows ts
IsRequestOf command rows (request.Cost top ts) = (command ≡ codes "cost") × IsNumberOf (one_of (codes "N") rows) top × AreTargets rows ts
