-- The text of the C header (print_symbol_for_c of scripts/kconfig/confdata.c; rising names are a rule of this project).
use Rattle.std.specs.Prelude.{ℕ, Bool, ◌||◌, nat_eq, List, [], ◌++◌, codes, bytes_eq, flat_map, if◌then◌else◌}
use Rattle.std.specs.List.{starts_with}
use Rattle.std.specs.FinMap as map
use Rattle.ks_symbols.specs.declared.kinds.Kind.{Kind}
use Rattle.ks_symbols.specs.declared.kinds.Kind.TheVariants as kind
use Rattle.ks_symbols.specs.Names.{module_end}
use Rattle.ks_symbols.specs.Values.{quoted}
use Rattle.ks_symbols.specs.Configuration.{Configuration}

-- a C comment, the third line with the title
abbrev pub header_heading : List ℕ → List ℕ
header_heading title = codes "/*\n * Automatically generated file; DO NOT EDIT.\n * " ++ title ++ codes "\n */\n"

abbrev pub has_radix : List ℕ → Bool
has_radix text = starts_with nat_eq text (codes "0x") || starts_with nat_eq text (codes "0X")

-- a module's macro has a name of its own
abbrev pub switch_value : List ℕ → List ℕ
switch_value text = if bytes_eq text (codes "m") then module_end ++ codes " 1" else codes " 1"

-- what stands in front of the name: BusyBox has a macro ENABLE_N for a bool that is on (its scripts/kconfig/confdata.c)
abbrev pub front : Kind → List ℕ
front kind.Flag = codes "#define ENABLE_"
front k = codes "#define CONFIG_"

-- what stands after the name: the end of the macro's name, a space and its value
abbrev pub defined_as : Kind → List ℕ → List ℕ
defined_as kind.Bool text = switch_value text
defined_as kind.Tristate text = switch_value text
defined_as kind.Text text = codes " " ++ quoted text
defined_as kind.Int text = codes " " ++ text
defined_as kind.Hex text = codes " " ++ (if has_radix text then [] else codes "0x") ++ text
defined_as kind.Raw text = codes " " ++ text
defined_as kind.Flag text = codes " 1"
defined_as kind.Companion text = codes " 1"
defined_as kind.EmptyInt text = codes " " ++ text
defined_as kind.EmptyHex text = codes " " ++ (if has_radix text then [] else codes "0x") ++ text

abbrev pub definition_line : List ℕ → Kind → List ℕ → List ℕ
definition_line name k text = front k ++ name ++ defined_as k text ++ codes "\n"

abbrev pub definition_lines : List (List ℕ × (Kind × List ℕ)) → List ℕ
definition_lines entries = flat_map (λ e. definition_line e.0 e.1.0 e.1.1) entries

-- The heading, and a line for each entry by rising names
unfoldable pub header_text : List ℕ → Configuration → List ℕ
header_text title settings = header_heading title ++ definition_lines (map.entries settings)
