-- The files of a tree in memory, and how they are borrowed.
use Rattle.std.specs.Prelude.{ℕ, List, Vec, map as map_list}
use Rattle.std.specs.Coded.{Coded, coded_ℕ, coded_list}
use Rattle.std.specs.Borrow.{Bor}
use Rattle.std.specs.FinMap as map
use Rattle.ks_symbols.specs.Configuration.{NameMap}
use Rattle.ks_tree.specs.Files.{Files}

abbrev pub coded_files : Coded Files
coded_files = map.code (coded_list coded_ℕ) (coded_list coded_ℕ)

-- the map of entries that are kept by owned bytes, with what their values are seen as
abbrev pub named : {Y V X : Type 0} → (V → X) → List (Vec ℕ Y × V) → NameMap X
named see entries = map.from_entries (map_list (λ e. (e.0.items, see e.1)) entries)

-- the files that a map from owned paths to owned bytes holds
abbrev pub files_of : {Y Z : Type 0} → List (Vec ℕ Y × Vec ℕ Z) → Files
files_of entries = named (λ bytes. bytes.items) entries

-- a file as a finite map has it: its path and its bytes
abbrev pub seen_file : {Y Z : Type 0} → Vec ℕ Y × Vec ℕ Z → List ℕ × List ℕ
seen_file e = (e.0.items, e.1.items)

-- a file as it is borrowed
abbrev pub borrowed_file : Bor (List ℕ) × Bor (List ℕ) → List ℕ × List ℕ
borrowed_file e = (e.0.now, e.1.now)
