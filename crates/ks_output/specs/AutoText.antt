-- The text of auto.conf as it is written (conf_write_autoconf of scripts/kconfig/confdata.c; rising names, strings without quotes, the
-- lines on classes and the last line are rules of this project).
use Rattle.std.specs.Prelude.{ℕ, List, [], ◌++◌, codes, flat_map, decimal}
use Rattle.std.specs.FinMap as map
use Rattle.ks_symbols.specs.declared.kinds.Kind.{Kind}
use Rattle.ks_symbols.specs.declared.kinds.Class.{Class}
use Rattle.ks_symbols.specs.declared.kinds.Class.TheVariants as class
use Rattle.ks_symbols.specs.Kinds.{class_of}
use Rattle.ks_symbols.specs.Configuration.{Configuration}

-- four comment lines, the third with the title, and the mark of the typed form
abbrev pub heading : List ℕ → List ℕ
heading title = codes "#\n# Automatically generated file; DO NOT EDIT.\n# " ++ title ++ codes "\n#\n#typed\n"

-- how the line of a class ends
abbrev pub class_end : Class → List ℕ
class_end class.Switch = []
class_end class.Text = codes " string"
class_end class.Int = codes " int"
class_end class.Hex = codes " hex"
class_end class.Raw = codes " raw"
class_end class.Flag = codes " flag"

-- the class of the entry after it; a bool or tristate goes without such a line
abbrev pub class_line : List ℕ → Class → List ℕ
class_line name class.Switch = []
class_line name k = codes "#type " ++ name ++ class_end k ++ codes "\n"

-- a name and its text
abbrev pub entry_line : List ℕ → List ℕ → List ℕ
entry_line name text = codes "CONFIG_" ++ name ++ codes "=" ++ text ++ codes "\n"

abbrev pub entry_lines : List (List ℕ × (Kind × List ℕ)) → List ℕ
entry_lines entries = flat_map (λ e. class_line e.0 (class_of e.1.0) ++ entry_line e.0 e.1.1) entries

-- a generation, in decimal
abbrev pub generation_line : ℕ → List ℕ
generation_line g = codes "#generation " ++ decimal g ++ codes "\n"

-- The heading, the lines of each entry by rising names, and the generation
unfoldable pub auto_text : List ℕ → Configuration → ℕ → List ℕ
auto_text title settings g = heading title ++ entry_lines (map.entries settings) ++ generation_line g
