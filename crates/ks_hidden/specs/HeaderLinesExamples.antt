-- Worked examples of the lines that a configuration explains.
use Rattle.std.specs.Prelude.{◌≡◌, ℕ, Bool, true, false, List, [], ◌++◌, codes, Option, Some, None}
use Rattle.std.specs.FinMap as map
use Rattle.ks_symbols.specs.declared.dialect.Dialect.TheVariants as dialect
use Rattle.ks_symbols.specs.declared.kinds.Class.{Class}
use Rattle.ks_symbols.specs.declared.kinds.Class.TheVariants as class
use Rattle.ks_symbols.specs.Lines.{lines}
use Rattle.ks_output.specs.OldConfig.{Texts}
use Rattle.ks_hidden.specs.HeaderLines.{is_definition, is_of_entry, foreign_line, is_lacking}

-- what a class and a text make of a name
abbrev pub explains : Class → List ℕ → List ℕ → Bool
explains k text line = is_definition line (codes "A") (Some (Some k, text))

-- Each class has its own form, and another text is another line.
abbrev pub DefinitionsOfClasses : Type 0
DefinitionsOfClasses =
    (explains class.Switch (codes "y") (codes "#define CONFIG_A 1") ≡ true)
    × (explains class.Switch (codes "m") (codes "#define CONFIG_A_MODULE 1") ≡ true)
    × (explains class.Switch (codes "m") (codes "#define CONFIG_A 1") ≡ false)
    × (explains class.Flag (codes "y") (codes "#define ENABLE_A 1") ≡ true)
    × (explains class.Text (codes "a\"b") (codes "#define CONFIG_A \"a\\\"b\"") ≡ true)
    × (explains class.Raw (codes "\"a\\b\"") (codes "#define CONFIG_A \"a\\b\"") ≡ true)
    × (explains class.Int (codes "12") (codes "#define CONFIG_A 12") ≡ true)
    × (explains class.Int (codes "12") (codes "#define CONFIG_A 13") ≡ false)
    × (explains class.Hex (codes "1f") (codes "#define CONFIG_A 0x1f") ≡ true)
    × (explains class.Hex (codes "0x1f") (codes "#define CONFIG_A 0x1f") ≡ true)
    × (is_definition (codes "#define CONFIG_A 1") (codes "A") (Some (None, codes "y")) ≡ false)

-- A module's macro is looked up without its end too.
abbrev pub MacrosOfModules : Type 0
MacrosOfModules =
    (texts : Texts) → map.get texts (codes "A_MODULE") ≡ None → map.get texts (codes "A") ≡ Some (Some class.Switch, codes "m")
    → (is_of_entry texts (codes "#define CONFIG_A_MODULE 1") ≡ true) × (is_of_entry texts (codes "#define CONFIG_A 1") ≡ false)

abbrev pub comment : List ℕ
comment = codes "/*\n * Demo\n */\n\n"

-- An empty configuration explains comments and empty lines, and in coreboot macros that are 0.
abbrev pub LinesOfNone : Type 0
LinesOfNone =
    (foreign_line dialect.Linux map.empty comment ≡ None)
    × (foreign_line dialect.Linux map.empty (codes "/* Demo */\n") ≡ Some 1)
    × (foreign_line dialect.Linux map.empty (codes "/*\n * Demo */ int a;\n") ≡ Some 2)
    × (foreign_line dialect.Linux map.empty (codes "/*\n * Demo *\\\n/ int a;\n") ≡ Some 2)
    × (foreign_line dialect.Linux map.empty (codes "/*\n#define CONFIG_A 1\n */\n") ≡ Some 2)
    × (foreign_line dialect.Linux map.empty (codes "/*\n a #define\n */\nint a;") ≡ Some 4)
    × (foreign_line dialect.Linux map.empty (comment ++ codes "#define CONFIG_A 1\n") ≡ Some 5)
    × (foreign_line dialect.Linux map.empty (comment ++ codes "#define CONFIG_A 0\n") ≡ Some 5)
    × (foreign_line dialect.Coreboot map.empty (comment ++ codes "#define CONFIG_A 0\n") ≡ None)
    × (foreign_line dialect.Coreboot map.empty (comment ++ codes "#define CONFIG_A 1\n") ≡ Some 5)
    × (foreign_line dialect.Coreboot map.empty (comment ++ codes "#define CONFIG_ 0\n") ≡ Some 5)

-- whether the lines of a header lack the definition of A
abbrev pub lacks_a : List ℕ → Option Class → List ℕ → Bool
lacks_a header k text = is_lacking (lines header) (codes "A", (k, text))

-- A definition is a whole line, which may end at CR LF or at the end of the text.
abbrev pub LackingDefinitions : Type 0
LackingDefinitions =
    (lacks_a (codes "\n#define CONFIG_A 1\r\n") (Some class.Switch) (codes "y") ≡ false)
    × (lacks_a (codes "#define CONFIG_A \"\"") (Some class.Text) [] ≡ false)
    × (lacks_a (codes "#define CONFIG_A 1\n") (Some class.Switch) (codes "m") ≡ true)
    × (lacks_a (codes " #define CONFIG_A 1\n") (Some class.Switch) (codes "y") ≡ true)
    × (lacks_a [] (Some class.Switch) (codes "y") ≡ true)
    × (lacks_a [] None (codes "y") ≡ true)
