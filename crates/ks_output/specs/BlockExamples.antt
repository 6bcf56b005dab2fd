-- Worked examples of what BusyBox's conf writes.
use Rattle.std.specs.Prelude.{◌≡◌, [], ◌∷◌, ◌++◌, codes, Some, None, Ok, Err}
use Rattle.std.specs.FinMap as map
use Rattle.ks_symbols.specs.declared.kinds.Kind.TheVariants as kind
use Rattle.ks_output.specs.Blocks.{config_body, explained_block, first_walk, header_body, off_block, on_block, with_lines}
use Rattle.ks_output.specs.declared.written.WrittenError.TheVariants as fault

-- blocks, and the kind of a value by its block
abbrev pub BlocksOfValues : Type 0
BlocksOfValues =
    (off_block (codes "A") ≡ codes "#undef CONFIG_A\n#define ENABLE_A 0\n#define IF_A(...)\n#define IF_NOT_A(...) __VA_ARGS__\n")
    × (on_block (codes "A") kind.Flag (codes "y")
    ≡ codes "#define CONFIG_A 1\n#define ENABLE_A 1\n#ifdef MAKE_SUID\n# define IF_A(...) __VA_ARGS__ \"CONFIG_A\"\n#else\n# define IF_A(...) __VA_ARGS__\n#endif\n#define IF_NOT_A(...)\n")
    × (on_block (codes "S") kind.Raw (codes "\"a\\\"b\"")
    ≡ codes "#define CONFIG_S \"a\\\"b\"\n#define ENABLE_S 1\n#ifdef MAKE_SUID\n# define IF_S(...) __VA_ARGS__ \"CONFIG_S\"\n#else\n# define IF_S(...) __VA_ARGS__\n#endif\n#define IF_NOT_S(...)\n")
    × (explained_block (codes "A") (codes "y") (on_block (codes "A") kind.Flag (codes "y")) ≡ Some kind.Flag)
    × (explained_block (codes "A") (codes "1") (on_block (codes "A") kind.Flag (codes "y")) ≡ Some kind.Int)
    × (explained_block (codes "A") (codes "10") (on_block (codes "A") kind.Hex (codes "0x10")) ≡ Some kind.Hex)
    × (explained_block (codes "A") (codes "\"y\"") (on_block (codes "A") kind.Raw (codes "\"y\"")) ≡ Some kind.Raw)
    × (explained_block (codes "A") (codes "\"y\"") (on_block (codes "A") kind.Text (codes "\"y\"")) ≡ None)
    × (explained_block (codes "A") (codes "n") (off_block (codes "A")) ≡ None)
    × (explained_block (codes "A") (codes "m") (codes "#define CONFIG_A_MODULE 1\n") ≡ None)

-- headings, and lines that follow them
abbrev pub PairsOfBlocks : Type 0
PairsOfBlocks =
    (config_body (codes "#\n# Automatically generated make config: don't edit\n# Busybox version: 1.36.1\n# Sun Nov 29 04:59:36 2026\n#\n\n") ≡ Some (6, codes "\n"))
    × (config_body (codes "#\n# Automatically generated make config: don't edit\n# Busybox version: 1.36.1\n#\n\n") ≡ Some (5, codes "\n"))
    × (header_body (codes "T") (codes "/*\n * Automatically generated C config: don't edit\n * T\n */\n#define AUTOCONF_TIMESTAMP \"2026-11-29 04:59:36 UTC\"\n\n\n") ≡ Some (codes "\n"))
    × (header_body (codes "T") (codes "/*\n * Automatically generated C config: don't edit\n * U\n */\n#define AUTOCONF_TIMESTAMP \"\"\n\n") ≡ None)
    × (with_lines 6 (first_walk (codes "\n/*\n * Settings\n */\n" ++ off_block (codes "A") ++ on_block (codes "B") kind.Int (codes "7")))
    (codes "\n" ∷ codes "#\n" ∷ codes "# Settings\n" ∷ codes "#\n" ∷ codes "# CONFIG_A is not set\n" ∷ codes "CONFIG_B=7\n" ∷ []) ≡ Ok (map.insert map.empty (codes "B") (kind.Int, codes "7")))
    × (with_lines 6 (first_walk (codes "/*\n * CONFIG_A=y\n */\n")) (codes "#\n" ∷ codes "# CONFIG_A=y\n" ∷ codes "#\n" ∷ []) ≡ Ok map.empty)
    × (with_lines 6 (first_walk (codes "/*\n * a */ b\n */\n")) (codes "#\n" ∷ codes "# a */ b\n" ∷ codes "#\n" ∷ []) ≡ Err (fault.NotAnEntry 7))
    × (with_lines 6 (first_walk (codes "/*\n")) (codes "#\n" ∷ []) ≡ Err (fault.Undeclared 7))
    × (with_lines 6 (first_walk []) (codes "# CONFIG_A is not set\n" ∷ []) ≡ Err (fault.Undefined 6))
    × (with_lines 6 (first_walk (codes "\n")) (codes "# CONFIG_A is not set\n" ∷ []) ≡ Err (fault.Unexplained 6))
    × (with_lines 6 (first_walk (off_block (codes "A"))) (codes "# CONFIG_A is not set\n" ∷ codes "CONFIG_A=y\n" ∷ []) ≡ Err (fault.Twice 7))
    × (with_lines 6 (first_walk (on_block (codes "A_MODULE") kind.Int (codes "7"))) (codes "CONFIG_A_MODULE=7\n" ∷ []) ≡ Err (fault.ModuleSymbol 6))
    × (with_lines 6 (first_walk (on_block (codes "A_MODULE") kind.Flag (codes "y"))) (codes "CONFIG_A_MODULE=y\n" ∷ [])
    ≡ Ok (map.insert map.empty (codes "A_MODULE") (kind.Flag, codes "y")))
