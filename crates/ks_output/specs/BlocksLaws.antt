-- Laws of what BusyBox's conf wrote: the header that confstamp writes of it has of each name just those definitions that the header that
-- was read has, but for ENABLE_X of what is no bool and CONFIG_X of a bool; and each entry is a line of .config.
use Rattle.std.specs.Prelude.{◌≡◌, Contains, ℕ, Bool, true, false, not, nat_eq, List, ◌++◌, codes, filter, IsTrue, Ok, Option, Some, None, if◌then◌else◌}
use Rattle.std.specs.List.{starts_with}
use Rattle.std.specs.FinMap as map
use Rattle.bstr.specs.Text.{lines_of}
use Rattle.ks_symbols.specs.declared.kinds.Kind.{Kind}
use Rattle.ks_symbols.specs.declared.kinds.Kind.TheVariants as kind
use Rattle.ks_symbols.specs.Titles.{is_title}
use Rattle.ks_symbols.specs.Configuration.{IsConfiguration, Configuration}
use Rattle.ks_output.specs.Header.{header_text}
use Rattle.ks_output.specs.Definitions.{definitions, run_of}
use Rattle.ks_output.specs.Blocks.{block_title, blocks_written}

-- What holds of each pair that is accepted
abbrev pub OfBlocks : (List ℕ → List ℕ → Configuration → Type 0) → Type 0
OfBlocks P = (config header : List ℕ) (settings : Configuration) → blocks_written config header ≡ Ok settings → P config header settings

-- It means a configuration, and has a title.
abbrev pub BlocksAreConfiguration : Type 0
BlocksAreConfiguration = OfBlocks (λ config header settings. IsTrue (is_title (block_title config)) × IsConfiguration settings)

-- Each entry is a line of .config.
abbrev pub EntriesAreLines : Type 0
EntriesAreLines =
    OfBlocks
    (λ config header settings.
    (x : List ℕ) (k : Kind) (value : List ℕ) → map.get settings x ≡ Some (k, value)
    → Contains (lines_of config) (codes "CONFIG_" ++ x ++ codes "=" ++ value ++ codes "\n"))

-- whether a name is that of a bool that is on
abbrev pub is_flag_kind : Kind → Bool
is_flag_kind kind.Flag = true
is_flag_kind k = false

abbrev pub is_flag : Option (Kind × List ℕ) → Bool
is_flag None = false
is_flag (Some s) = is_flag_kind s.0

-- A definition counts that is ENABLE_X of such a bool, or CONFIG_X of anything else.
abbrev pub counts : Configuration → List ℕ → Bool
counts settings line =
    if starts_with nat_eq line (codes "#define ENABLE_") then is_flag (map.get settings (run_of line)) else not (is_flag (map.get settings (run_of line)))

-- The header that is written of it has of each name the definitions that count in the header that was read.
abbrev pub BlocksDefineAlike : Type 0
BlocksDefineAlike =
    OfBlocks
    (λ config header settings. (x : List ℕ) → definitions x (header_text (block_title config) settings) ≡ filter (counts settings) (definitions x header))
