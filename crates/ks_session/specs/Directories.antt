-- What stands in front of a command: paths from one directory, and the names of dialects.
use Rattle.std.specs.Prelude.{◌==◌, ◌||◌, ◌++◌, ℕ, List, Option, Some, None, bytes_eq, codes, length, nat_eq, if◌then◌else◌}
use Rattle.std.specs.List.{starts_with}
use Rattle.ks_symbols.specs.declared.dialect.Dialect.{Dialect}
use Rattle.ks_symbols.specs.declared.dialect.Dialect.TheVariants as dialect

-- The path of what has this name in a directory; in the current one, whose path is empty, and from the root it is the name.
abbrev pub below : List ℕ → List ℕ → List ℕ
below directory name = if (length directory == 0) || starts_with nat_eq name (codes "/") then name else directory ++ codes "/" ++ name

-- the dialect that a word names
abbrev pub dialect_named : List ℕ → Option Dialect
dialect_named name =
    if bytes_eq name (codes "linux") then Some dialect.Linux
    else (if bytes_eq name (codes "u-boot") then Some dialect.UBoot
    else (if bytes_eq name (codes "busybox") then Some dialect.BusyBox
    else (if bytes_eq name (codes "coreboot") then Some dialect.Coreboot
    else None)))
