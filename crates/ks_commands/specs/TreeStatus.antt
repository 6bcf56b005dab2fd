-- What a tree is: whether its files are those of the last completed synchronisation, and what one of a configuration would touch. The form is
-- this project's.
use Rattle.std.specs.Prelude.{◌≡◌, ◌⊎◌, ◌==◌, ◌&&◌, ◌++◌, ℕ, Bool, false, true, nat_lt, List, [], codes, length, Option, None, Some, Result, Ok, Err, option_and_then, if◌then◌else◌, ⊤}
use Rattle.ks_symbols.specs.declared.dialect.Dialect.{Dialect}
use Rattle.ks_symbols.specs.Names.{header_path}
use Rattle.ks_output.specs.OldConfig.{Texts}
use Rattle.ks_compare.specs.Changes.{AreChanges}
use Rattle.ks_hidden.specs.HeaderLines.{foreign_line, lacks}
use Rattle.ks_tree.specs.Files.{Files, IsTooLarge, content}
use Rattle.ks_tree.specs.Paths.{auto_path}
use Rattle.ks_engine.specs.declared.error.EngineError.{EngineError}
use Rattle.ks_engine.specs.declared.error.EngineError.TheVariants.{TooLarge}
use Rattle.ks_engine.specs.LastSync.{OldAuto, old_auto}
use Rattle.ks_engine.specs.Refusals.{and_then}
use Rattle.ks_engine.specs.Sources.{Source}
use Rattle.ks_engine.specs.SyncPlan.{AreInputs, ConfigInputs, refusal_of}
use Rattle.ks_requests.specs.declared.request.ConfigPaths.{ConfigPaths}
use Rattle.ks_requests.specs.Faults.{counted}
use Rattle.ks_requests.specs.Inputs.{config_at, source_at}
use Rattle.ks_commands.specs.declared.tree_status.HeaderState.{HeaderState}
use Rattle.ks_commands.specs.declared.tree_status.HeaderState.TheVariants.{Foreign, Lacking, Missing, Same}
use Rattle.ks_commands.specs.declared.tree_status.TreeStatus.{TreeStatus}

-- what the files of a configuration say, where they are named
abbrev pub source_named : Dialect → Files → Option ConfigPaths → Result (Option Source) EngineError
source_named dialect files None = Ok None
source_named dialect files (Some c) = and_then (config_at files c) (λ t. Ok (Some (source_at dialect c.form t)))

abbrev pub AreInputsOf : Option Source → Option ConfigInputs → Type 0
AreInputsOf None None = ⊤
AreInputsOf (Some source) (Some inputs) = AreInputs source inputs
AreInputsOf source inputs = ⊥

-- The files can't be read, or their texts are refused.
abbrev pub IsRefusedSource : Dialect → Files → Option ConfigPaths → EngineError → Type 0
IsRefusedSource dialect files config e = (source_named dialect files config ≡ Err e)
    ⊎ ((source : Option Source) × (source_named dialect files config ≡ Ok source) × (option_and_then refusal_of source ≡ Some e))

-- the first line of a header that the entries don't explain, or else whether it lacks a definition
abbrev pub found_in : Option ℕ → Bool → HeaderState
found_in (Some line) lacking = Foreign line
found_in None lacking = if lacking then Lacking else Same

-- what a header is beside the entries of an auto.conf
abbrev pub header_state : Dialect → Texts → Option (List ℕ) → HeaderState
header_state dialect texts None = Missing
header_state dialect texts (Some header) = found_in (foreign_line dialect texts header) (lacks texts header)

-- how many names differ from auto.conf, where there are inputs
abbrev pub Counts : Option ConfigInputs → Texts → Option ℕ → Type 0
Counts None old None = ⊤
Counts (Some inputs) old (Some n) = (names : List (List ℕ)) × AreChanges old inputs.config names × (n ≡ length names)
Counts inputs old n = ⊥

-- the generation of auto.conf, what the header is beside its entries, and how many names differ from them
pub record IsTreeStatus (files : Files) (dialect : Dialect) (inputs : Option ConfigInputs) (s : TreeStatus) : Type 0 where
  pub auto : OldAuto
  pub there : old_auto (content files auto_path) ≡ Ok auto
  pub generation : s.generation ≡ auto.generation
  pub header : s.header ≡ header_state dialect auto.texts (content files header_path)
  pub changed : Counts inputs auto.texts s.changed

-- Auto.conf is refused, or else the header is too large.
abbrev pub IsStatusRefused : Files → EngineError → Type 0
IsStatusRefused files e = (old_auto (content files auto_path) ≡ Err e)
    ⊎ ((auto : OldAuto) × (old_auto (content files auto_path) ≡ Ok auto) × IsTooLarge (content files header_path) × (e ≡ TooLarge))

-- ---- how it is printed

unfoldable pub generation_line : ℕ → List ℕ
generation_line n = if n == 0 then codes "auto.conf: not synchronised\n" else counted (codes "auto.conf: generation ") n ++ codes "\n"

unfoldable pub header_line : HeaderState → List ℕ
header_line Missing = codes "header: missing\n"
header_line Same = codes "header: same\n"
header_line (Foreign line) = counted (codes "header: differs in line ") line ++ codes "\n"
header_line Lacking = codes "header: lacks a definition\n"

unfoldable pub changed_line : Option ℕ → List ℕ
changed_line None = []
changed_line (Some n) = if n == 0 then codes "configuration: same\n" else counted (codes "configuration: changed ") n ++ codes "\n"

abbrev pub status_lines : TreeStatus → List ℕ
status_lines s = generation_line s.generation ++ header_line s.header ++ changed_line s.changed

abbrev pub is_same_header : HeaderState → Bool
is_same_header Same = true
is_same_header state = false

abbrev pub unchanged : Option ℕ → Bool
unchanged None = true
unchanged (Some n) = n == 0

-- auto.conf has a generation, the header is the same, and no name differs
abbrev pub is_same : TreeStatus → Bool
is_same s = nat_lt 0 s.generation && is_same_header s.header && unchanged s.changed

-- the status is 0 then, and else 1
abbrev pub status_code : TreeStatus → ℕ
status_code s = if is_same s then 0 else 1
