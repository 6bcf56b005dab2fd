-- Worked examples of the formats, as they stand on a disk.
use Rattle.std.specs.Prelude.{◌≡◌, true, false, [], ◌∷◌, codes, Some, None, Ok, Err}
use Rattle.std.specs.FinMap as map
use Rattle.ks_symbols.specs.declared.kinds.Kind.TheVariants as kind
use Rattle.ks_symbols.specs.declared.kinds.Class.TheVariants as class
use Rattle.ks_symbols.specs.Configuration.{Configuration}
use Rattle.ks_output.specs.AutoText.{auto_text, entry_lines}
use Rattle.ks_output.specs.AutoLines.{Gives, Marks, Types, Mistypes, Numbers, CommentOrBlank, Faulty, remark}
use Rattle.ks_output.specs.AutoConf.{fault_in}
use Rattle.ks_output.specs.Header.{definition_line, header_text}
use Rattle.ks_output.specs.Definitions.{defines}
use Rattle.ks_output.specs.Written.{explained, with_pairs}
use Rattle.ks_output.specs.WrittenLaws.{Entries, AreOfConf, conf_auto, conf_header}
use Rattle.ks_output.specs.declared.written.WrittenError.TheVariants as fault

-- a bool and a module: both files
abbrev pub FilesOfSwitches : Type 0
FilesOfSwitches =
    (settings : Configuration) → map.entries settings ≡ (codes "A", (kind.Bool, codes "y")) ∷ (codes "B", (kind.Tristate, codes "m")) ∷ []
    → (auto_text (codes "Demo") settings 1
    ≡ codes "#\n# Automatically generated file; DO NOT EDIT.\n# Demo\n#\n#typed\nCONFIG_A=y\nCONFIG_B=m\n#generation 1\n")
    × (header_text (codes "Demo") settings
    ≡ codes "/*\n * Automatically generated file; DO NOT EDIT.\n * Demo\n */\n#define CONFIG_A 1\n#define CONFIG_B_MODULE 1\n")

-- lines of an entry: its class, unless it is a bool or tristate, and its text
abbrev pub EntryLines : Type 0
EntryLines =
    (entry_lines ((codes "S", (kind.Text, codes "y")) ∷ []) ≡ codes "#type S string\nCONFIG_S=y\n")
    × (entry_lines ((codes "H", (kind.Hex, codes "10")) ∷ []) ≡ codes "#type H hex\nCONFIG_H=10\n")
    × (entry_lines ((codes "I", (kind.Int, codes "10")) ∷ []) ≡ codes "#type I int\nCONFIG_I=10\n")
    × (entry_lines ((codes "B", (kind.Tristate, codes "m")) ∷ []) ≡ codes "CONFIG_B=m\n")
    × (entry_lines ((codes "F", (kind.Flag, codes "y")) ∷ []) ≡ codes "#type F flag\nCONFIG_F=y\n")
    × (entry_lines ((codes "R", (kind.Raw, codes "\"a\\b\"")) ∷ []) ≡ codes "#type R raw\nCONFIG_R=\"a\\b\"\n")

-- strings are quoted in the header, and numbers stand as they were written
abbrev pub DefinitionLines : Type 0
DefinitionLines =
    (definition_line (codes "S") kind.Text (codes "a\"b\\c") ≡ codes "#define CONFIG_S \"a\\\"b\\\\c\"\n")
    × (definition_line (codes "S") kind.Text [] ≡ codes "#define CONFIG_S \"\"\n")
    × (definition_line (codes "S") kind.Text (codes "n") ≡ codes "#define CONFIG_S \"n\"\n")
    × (definition_line (codes "H") kind.Hex (codes "1f") ≡ codes "#define CONFIG_H 0x1f\n")
    × (definition_line (codes "H") kind.Hex (codes "0x1f") ≡ codes "#define CONFIG_H 0x1f\n")
    × (definition_line (codes "H") kind.Hex (codes "0X1F") ≡ codes "#define CONFIG_H 0X1F\n")
    × (definition_line (codes "I") kind.Int (codes "-12") ≡ codes "#define CONFIG_I -12\n")
    × (definition_line (codes "F_MODULE") kind.Flag (codes "y") ≡ codes "#define ENABLE_F_MODULE 1\n")
    × (definition_line (codes "A_MODULE") kind.Companion (codes "y") ≡ codes "#define CONFIG_A_MODULE 1\n")
    × (definition_line (codes "I") kind.EmptyInt [] ≡ codes "#define CONFIG_I \n")
    × (definition_line (codes "H") kind.EmptyHex [] ≡ codes "#define CONFIG_H 0x\n")
    × (definition_line (codes "R") kind.Raw (codes "\"a\\b\"") ≡ codes "#define CONFIG_R \"a\\b\"\n")

-- lines of an auto.conf
abbrev pub LinesRead : Type 0
LinesRead =
    (remark (codes "CONFIG_S=a=b\r\n") ≡ Gives (codes "S") (codes "a=b"))
    × (remark (codes "CONFIG_S=n\n") ≡ Gives (codes "S") (codes "n"))
    × (remark (codes "CONFIG_S=") ≡ Gives (codes "S") [])
    × (remark (codes "CONFIG_../x=y\n") ≡ Faulty)
    × (remark (codes "# CONFIG_S is not set\n") ≡ CommentOrBlank)
    × (remark (codes "#generation 5\n") ≡ Numbers 5)
    × (remark (codes "#generation 05\n") ≡ Faulty)
    × (remark (codes "#generation 5") ≡ Faulty)
    × (remark (codes "#typed\n") ≡ Marks)
    × (remark (codes "#typed \n") ≡ CommentOrBlank)
    × (remark (codes "#type S string\n") ≡ Types (codes "S") class.Text)
    × (remark (codes "#type H hex") ≡ Types (codes "H") class.Hex)
    × (remark (codes "#type F flag\n") ≡ Types (codes "F") class.Flag)
    × (remark (codes "#type R raw\n") ≡ Types (codes "R") class.Raw)
    × (remark (codes "#type S bool\n") ≡ Mistypes)
    × (remark (codes "#type  string\n") ≡ Mistypes)
    × (remark (codes "#type\n") ≡ CommentOrBlank)

-- Lines on classes count after the mark alone, which counts before the first entry alone.
abbrev pub FaultsFound : Type 0
FaultsFound =
    (fault_in (Marks ∷ Types (codes "S") class.Text ∷ Gives (codes "S") (codes "y") ∷ []) ≡ None)
    × (fault_in (Marks ∷ Types (codes "S") class.Text ∷ Gives (codes "T") (codes "x") ∷ []) ≡ Some 2)
    × (fault_in (Marks ∷ Types (codes "S") class.Text ∷ CommentOrBlank ∷ Gives (codes "S") (codes "y") ∷ []) ≡ Some 2)
    × (fault_in (Marks ∷ Gives (codes "S") (codes "y") ∷ Mistypes ∷ []) ≡ Some 3)
    × (fault_in (Types (codes "S") class.Text ∷ Marks ∷ Gives (codes "T") (codes "x") ∷ []) ≡ None)
    × (fault_in (Gives (codes "T") (codes "x") ∷ Marks ∷ Mistypes ∷ []) ≡ None)

-- The macro of a module defines the symbol; one _MODULE alone is cut off.
abbrev pub MacrosRead : Type 0
MacrosRead =
    (defines (codes "B") (codes "#define CONFIG_B 1") ≡ true)
    × (defines (codes "B") (codes "#define CONFIG_B_MODULE 1") ≡ true)
    × (defines (codes "B_MODULE") (codes "#define CONFIG_B_MODULE 1") ≡ false)
    × (defines (codes "C_MODULE") (codes "#define CONFIG_C_MODULE_MODULE 1") ≡ true)
    × (defines (codes "B") (codes "#define CONFIG_BB 1") ≡ false)
    × (defines (codes "B_MODULE") (codes "#define ENABLE_B_MODULE 1") ≡ true)
    × (defines (codes "B") (codes "#define ENABLE_B_MODULE 1") ≡ false)
    × (defines (codes "B") (codes "#define CONFIG_B") ≡ false)

-- lines that conf writes: which kind explains the line of the header
abbrev pub KindsOfWritten : Type 0
KindsOfWritten =
    (explained (codes "A") (codes "y") (codes "#define CONFIG_A 1\n") ≡ Some kind.Bool)
    × (explained (codes "A") (codes "m") (codes "#define CONFIG_A_MODULE 1\n") ≡ Some kind.Tristate)
    × (explained (codes "A") (codes "y") (codes "#define CONFIG_A \"y\"\n") ≡ Some kind.Text)
    × (explained (codes "A") [] (codes "#define CONFIG_A \"\"\n") ≡ Some kind.Text)
    × (explained (codes "A") (codes "10") (codes "#define CONFIG_A 10\n") ≡ Some kind.Int)
    × (explained (codes "A") (codes "10") (codes "#define CONFIG_A 0x10\n") ≡ Some kind.Hex)
    × (explained (codes "A") (codes "\"b\"") (codes "#define CONFIG_A \"b\"\n") ≡ Some kind.Raw)
    × (explained (codes "A") (codes "\"b\"") (codes "#define CONFIG_A \"\\\"b\\\"\"\n") ≡ Some kind.Text)
    × (explained (codes "A_MODULE") (codes "y") (codes "#define CONFIG_A_MODULE 1\n") ≡ Some kind.Companion)
    × (explained (codes "A_MODULE") (codes "m") (codes "#define CONFIG_A_MODULE_MODULE 1\n") ≡ None)
    × (explained (codes "_MODULE") (codes "y") (codes "#define CONFIG__MODULE 1\n") ≡ None)
    × (explained (codes "A") [] (codes "#define CONFIG_A \n") ≡ Some kind.EmptyInt)
    × (explained (codes "A") [] (codes "#define CONFIG_A 0x\n") ≡ Some kind.EmptyHex)
    × (explained (codes "A") (codes "10") (codes "#define CONFIG_A 11\n") ≡ None)
    × (explained (codes "A") (codes "10") (codes "#define CONFIG_A 10") ≡ None)
    × (explained (codes "A") (codes "y") (codes "#define CONFIG_B 1\n") ≡ None)

-- lines that follow the headings
abbrev pub PairsOfWritten : Type 0
PairsOfWritten =
    (with_pairs 5 map.empty (codes "CONFIG_B=m\n" ∷ codes "CONFIG_A=y\n" ∷ []) (codes "#define CONFIG_B_MODULE 1\n" ∷ codes "#define CONFIG_A 1\n" ∷ [])
    ≡ Ok (map.insert (map.insert map.empty (codes "B") (kind.Tristate, codes "m")) (codes "A") (kind.Bool, codes "y")))
    × (with_pairs 5 map.empty (codes "CONFIG_A=y\n" ∷ []) (codes "#define CONFIG_A 1\n" ∷ codes "#define CONFIG_B 1\n" ∷ []) ≡ Err (fault.Undeclared 6))
    × (with_pairs 5 map.empty (codes "CONFIG_A=y\n" ∷ codes "CONFIG_B=y\n" ∷ []) (codes "#define CONFIG_A 1\n" ∷ []) ≡ Err (fault.Undefined 6))
    × (with_pairs 5 map.empty (codes "# CONFIG_B is not set\n" ∷ []) (codes "#define CONFIG_B 1\n" ∷ []) ≡ Err (fault.NotAnEntry 5))
    × (with_pairs 5 map.empty (codes "CONFIG_A_MODULE=y\n" ∷ []) (codes "#define CONFIG_A_MODULE 1\n" ∷ [])
    ≡ Ok (map.insert map.empty (codes "A_MODULE") (kind.Companion, codes "y")))
    × (with_pairs 5 map.empty (codes "CONFIG_A_MODULE=1\n" ∷ []) (codes "#define CONFIG_A_MODULE 1\n" ∷ []) ≡ Err (fault.ModuleSymbol 5))
    × (with_pairs 5 map.empty (codes "CONFIG_A=n\n" ∷ []) (codes "#define CONFIG_A 0\n" ∷ []) ≡ Err (fault.Unexplained 5))
    × (with_pairs 5 map.empty (codes "CONFIG_A=y\n" ∷ codes "CONFIG_A=y\n" ∷ []) (codes "#define CONFIG_A 1\n" ∷ codes "#define CONFIG_A 1\n" ∷ []) ≡ Err (fault.Twice 6))

-- What conf writes of a symbol of each kind, and what it is headed by; of the two strings a project's conf knows one form alone.
abbrev pub entries_of_conf : Entries
entries_of_conf =
    (codes "S", (kind.Text, codes "a\"b")) ∷ (codes "M", (kind.Tristate, codes "m")) ∷ (codes "A", (kind.Bool, codes "y"))
    ∷ (codes "I", (kind.Int, codes "-7")) ∷ (codes "H", (kind.Hex, codes "1f")) ∷ (codes "R", (kind.Raw, codes "\"a\\b\"")) ∷ []

abbrev pub FilesOfConf : Type 0
FilesOfConf =
    AreOfConf entries_of_conf
    × (conf_auto (codes "Demo") entries_of_conf
    ≡ codes "#\n# Automatically generated file; DO NOT EDIT.\n# Demo\n#\nCONFIG_S=a\"b\nCONFIG_M=m\nCONFIG_A=y\nCONFIG_I=-7\nCONFIG_H=1f\nCONFIG_R=\"a\\b\"\n")
    × (conf_header false (codes "Demo") entries_of_conf
    ≡ codes "/*\n * Automatically generated file; DO NOT EDIT.\n * Demo\n */\n#define CONFIG_S \"a\\\"b\"\n#define CONFIG_M_MODULE 1\n#define CONFIG_A 1\n#define CONFIG_I -7\n#define CONFIG_H 0x1f\n#define CONFIG_R \"a\\b\"\n")
    × (conf_header true (codes "Demo") [] ≡ codes "/*\n *\n * Automatically generated file; DO NOT EDIT.\n * Demo\n *\n */\n")
