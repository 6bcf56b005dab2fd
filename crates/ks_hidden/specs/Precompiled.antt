-- Where a compiler looks for the precompiled headers of the headers that a command or a source names.
use Rattle.std.specs.Prelude.{ℕ, Bool, not, ◌&&◌, List, [], ◌∷◌, ◌++◌, codes, map, flat_map, bytes_eq, nat_eq, if◌then◌else◌}
use Rattle.std.specs.Borrow.{Bor}
use Rattle.std.specs.List.{list_any, starts_with}
use Rattle.indexmap.specs.IndexSet.{IndexSet, contains_by}

-- the precompiled header of a header
abbrev pub precompiled : List ℕ → List ℕ
precompiled header = header ++ codes ".gch"

-- a header in a directory
abbrev pub beside : List ℕ → List ℕ → List ℕ
beside header directory = directory ++ (codes "/" ++ header)

-- whether a path is one of those that a dependency file lists
abbrev pub is_among : {S : Type 0} → IndexSet (Bor (List ℕ)) S → List ℕ → Bool
is_among listed path = contains_by (λ p. bytes_eq path p.now) listed

-- A compiler looks for a header in one directory after the other until it is in one, and what it lists there is there. One that is
-- named again counts where it is named last, and one of the system doesn't count, since a compiler passes over a directory that it has twice.
abbrev pub ends_search : (List ℕ → Bool) → List ℕ → List ℕ → List (List ℕ) → Bool
ends_search is_listed name directory later =
    is_listed (beside name directory) && (not (list_any (bytes_eq directory) later) && not (starts_with nat_eq directory (codes "/usr/")))

-- the directories in which it looks
abbrev pub up_to_listed : (List ℕ → Bool) → List ℕ → List (List ℕ) → List (List ℕ)
up_to_listed is_listed name [] = []
up_to_listed is_listed name (d ∷ later) = d ∷ (if ends_search is_listed name d later then [] else up_to_listed is_listed name later)

-- Where a header may be: at the name itself, and, unless that begins at the root, in each of the first directories and in those of the search.
abbrev pub header_paths : (List ℕ → Bool) → List (List ℕ) → List (List ℕ) → List ℕ → List (List ℕ)
header_paths is_listed first searched name =
    if starts_with nat_eq name (codes "/") then name ∷ [] else name ∷ map (beside name) (first ++ up_to_listed is_listed name searched)

-- the precompiled headers that may stand for headers of these names
abbrev pub precompiled_paths : (List ℕ → Bool) → List (List ℕ) → List (List ℕ) → List (List ℕ) → List (List ℕ)
precompiled_paths is_listed first searched names = map precompiled (flat_map (header_paths is_listed first searched) names)
