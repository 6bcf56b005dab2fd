-- What differs between auto.conf and what a synchronisation would write, printed with the texts of both. The form is this project's.
use Rattle.std.specs.Prelude.{◌≡◌, ◌++◌, ℕ, Bool, true, false, List, [], ◌∷◌, codes, bytes_eq, flat_map, Ok, Option, Some, None, option_map, if◌then◌else◌}
use Rattle.std.specs.FinMap as map
use Rattle.ks_symbols.specs.declared.kinds.Class.{Class}
use Rattle.ks_symbols.specs.declared.kinds.Class.TheVariants as class
use Rattle.ks_symbols.specs.Configuration.{Configuration}
use Rattle.ks_engine.specs.Sources.{FromConf, FromKconfig, Source}
use Rattle.ks_symbols.specs.Values.{quoted}
use Rattle.ks_output.specs.OldConfig.{Texts}
use Rattle.ks_compare.specs.Changes.{AreChanges, compared, entry_differs}
use Rattle.ks_tree.specs.Files.{Files}
use Rattle.ks_engine.specs.SyncPlan.{IsSyncPlan, Plan}
use Rattle.ks_requests.specs.Unknown.{unknown_lines}
use Rattle.ks_requests.specs.declared.report_style.ReportStyle.{ReportStyle}
use Rattle.ks_requests.specs.declared.report_style.ReportStyle.TheVariants.{Lines, LinesAndStatus, Status}

-- how the class of an entry is called; an entry of the untyped form has none
abbrev pub class_word : Option Class → List ℕ
class_word None = codes "untyped"
class_word (Some class.Switch) = codes "bool/tristate"
class_word (Some class.Text) = codes "string"
class_word (Some class.Int) = codes "int"
class_word (Some class.Hex) = codes "hex"
class_word (Some class.Raw) = codes "raw string"
class_word (Some class.Flag) = codes "flag"

-- what a name has, with its class: a string as in a `.config`, all else as in auto.conf, and n where there is nothing
abbrev pub shown_value : Option (Option Class × List ℕ) → List ℕ
shown_value None = codes "n"
shown_value (Some (Some class.Text, text)) = quoted text
shown_value (Some (k, text)) = text

-- both classes, where the texts are alike
abbrev pub shown_classes : Option (Option Class × List ℕ) → Option (Option Class × List ℕ) → List ℕ
shown_classes (Some t) (Some u) =
    if bytes_eq t.1 u.1 then codes " (" ++ class_word t.0 ++ codes " -> " ++ class_word u.0 ++ codes ")" else []
shown_classes t u = []

-- the line of a name
unfoldable pub change_line : List ℕ → Option (Option Class × List ℕ) → Option (Option Class × List ℕ) → List ℕ
change_line name old new = name ++ codes " " ++ shown_value old ++ codes " -> " ++ shown_value new ++ shown_classes old new ++ codes "\n"

-- .. if it differs itself: with its companion alone it has none
abbrev pub difference_line : Texts → Configuration → List ℕ → List ℕ
difference_line old new name =
    if entry_differs old new name then change_line name (map.get old name) (option_map compared (map.get new name)) else []

-- the lines, unless the status alone is asked for
abbrev pub lines_asked : ReportStyle → List ℕ → List ℕ
lines_asked Status lines = []
lines_asked _ lines = lines

-- whether the status is to say that a name differs
abbrev pub asks_status : ReportStyle → Bool
asks_status Lines = false
asks_status LinesAndStatus = true
asks_status Status = true

-- then it is 1 where one does; else it is 0
abbrev pub difference_status : ReportStyle → List (List ℕ) → ℕ
difference_status report_style [] = 0
difference_status report_style (name ∷ names) = if asks_status report_style then 1 else 0

-- a line for each of the names that differ, by rising names, each once; and their status
pub record ReportsChanges (report_style : ReportStyle) (old : Texts) (new : Configuration) (text : List ℕ) (status : ℕ) : Type 0 where
  pub names : List (List ℕ)
  pub changed : AreChanges old new names
  pub lines : text ≡ lines_asked report_style (flat_map (difference_line old new) names)
  pub status_of : status ≡ difference_status report_style names

-- what a synchronisation of these two texts would touch, printed
abbrev pub IsDiff : ReportStyle → Files → Source → List ℕ → ℕ → Type 0
IsDiff report_style files source text status =
    (plan : Plan) × IsSyncPlan files source (Ok plan) × ReportsChanges report_style plan.old plan.config text status

-- a line for each line of a `.config` whose name is not declared; what conf wrote has none
abbrev pub unknown_of : Source → List ℕ
unknown_of (FromKconfig kconfig dotconfig) = unknown_lines kconfig dotconfig
unknown_of (FromConf dialect first header) = []
