-- The words of four projects: of Linux (scripts/basic/fixdep.c); of U-Boot (its include/linux/kconfig.h); of BusyBox
-- (scripts/basic/fixdep.c and scripts/kconfig/confdata.c there); and of coreboot (its src/include/kconfig.h). That all five prefixes of
-- U-Boot are known is a rule of this project: U-Boot's own scripts/basic/fixdep.c misses names.
use Rattle.std.specs.Prelude.{ℕ, List, [], ◌∷◌, codes, false, nat_eq, true, if◌then◌else◌}
use Rattle.std.specs.List.{starts_with}
use Rattle.ks_fixdep.specs.FoundNames.{all_noted}
use Rattle.ks_fixdep.specs.SymbolPatterns.{SourcePatterns, WordPattern, WordMacro, names_by_patterns}
use Rattle.ks_symbols.specs.declared.dialect.Dialect.{Dialect}
use Rattle.ks_symbols.specs.declared.dialect.Dialect.TheVariants as dialect
use Rattle.ks_fixdep.specs.declared.dialect.Phase.{Phase}
use Rattle.ks_fixdep.specs.declared.dialect.Phase.TheVariants as phase
use Rattle.ks_fixdep.specs.declared.dialect.ScanRules.{ScanRules}
use Rattle.ks_fixdep.specs.declared.dialect.ScanRules.TheVariants as rules

-- ---- the rules for an object

-- the phase of a target, by its first directory
abbrev pub phase_of : List ℕ → Phase
phase_of target =
    if starts_with nat_eq target (codes "spl/") then phase.Spl
    else (if starts_with nat_eq target (codes "tpl/") then phase.Tpl
    else (if starts_with nat_eq target (codes "vpl/") then phase.Vpl
    else (if starts_with nat_eq target (codes "tools/") then phase.HostTools
    else phase.Proper)))

-- what the symbols of a phase begin with
abbrev pub phase_prefix : Phase → List ℕ
phase_prefix phase.Proper = []
phase_prefix phase.Spl = codes "SPL_"
phase_prefix phase.Tpl = codes "TPL_"
phase_prefix phase.Vpl = codes "VPL_"
phase_prefix phase.HostTools = codes "TOOLS_"

abbrev pub rules_for : Dialect → List ℕ → ScanRules
rules_for dialect.Linux target = rules.Linux
rules_for dialect.UBoot target = rules.UBoot (phase_of target)
rules_for dialect.BusyBox target = rules.BusyBox
rules_for dialect.Coreboot target = rules.Coreboot

-- ---- the words of each

-- `CONFIG_N` names N, and `CONFIG_N_MODULE` does
abbrev pub config_pattern : WordPattern
config_pattern = record { begin = codes "CONFIG_"; end = []; has_modules = true }

-- a beginning alone, and no modules
abbrev pub begun_by : List ℕ → WordPattern
begun_by prefix = record { begin = prefix; end = []; has_modules = false }

abbrev pub takes : List ℕ → ℕ → WordMacro
takes word arguments = record { word = word; arguments = arguments }

-- In U-Boot two macros take one argument and one takes two. In BusyBox `CONFIG_N`, `ENABLE_N`, `IF_N` and `IF_NOT_N` name N; `IF_NOT_N` names
-- NOT_N too, as it may be the `IF_` of that symbol. In coreboot `CONFIG(N)` names N.
unfoldable pub patterns_of : ScanRules → SourcePatterns
patterns_of rules.Linux = record { patterns = config_pattern ∷ []; macros = []; prefix = [] }
patterns_of (rules.UBoot phase) = record {
  patterns = config_pattern ∷ [];
  macros = takes (codes "CONFIG_IS_ENABLED") 1 ∷ takes (codes "CONFIG_VAL") 1 ∷ takes (codes "CONFIG_IF_ENABLED_INT") 2 ∷ [];
  prefix = phase_prefix phase;
}
patterns_of rules.BusyBox = record {
  patterns = begun_by (codes "CONFIG_") ∷ begun_by (codes "ENABLE_") ∷ begun_by (codes "IF_NOT_") ∷ begun_by (codes "IF_") ∷ [];
  macros = [];
  prefix = [];
}
patterns_of rules.Coreboot = record { patterns = config_pattern ∷ []; macros = takes (codes "CONFIG") 1 ∷ []; prefix = [] }

-- the names of a text, in their order
abbrev pub names_as : ScanRules → List ℕ → List (List ℕ)
names_as rules t = names_by_patterns (patterns_of rules) t

-- the same, each once, by its first place there
abbrev pub names_in_as : ScanRules → List ℕ → List (List ℕ)
names_in_as rules t = all_noted [] (names_as rules t)
