-- Which precompiled headers an object may be made of.
use Rattle.std.specs.Prelude.{ℕ, Bool, ◌==◌, List, [], ◌∷◌, ◌++◌, codes, if◌then◌else◌}
use Rattle.ks_hidden.specs.Includes.{included_names}
use Rattle.ks_hidden.specs.Precompiled.{precompiled_paths}
use Rattle.ks_hidden.specs.Words.{header_options, option_values, quote_directories, searched_directories, words_of}

-- the directory of a path: what stands before its last slash, or the working directory
abbrev pub directory_in : List ℕ → List ℕ → List ℕ → List ℕ
directory_in found seen [] = found
directory_in found seen (b ∷ rest) = directory_in (if b == 47 then seen else found) (seen ++ b ∷ []) rest

abbrev pub directory_of : List ℕ → List ℕ
directory_of path = directory_in (codes ".") [] path

-- For each header that the words or the source name: in the working directory, beside the source, and in the directories that the words name.
abbrev pub paths_by : (List ℕ → Bool) → List ℕ → List ℕ → List (List ℕ) → List (List ℕ)
paths_by is_listed source text words =
    precompiled_paths is_listed (directory_of source ∷ quote_directories words) (searched_directories words)
    (option_values header_options words ++ included_names text)

unfoldable pub candidates : (List ℕ → Bool) → List ℕ → List ℕ → List ℕ → List (List ℕ)
candidates is_listed source text command = paths_by is_listed source text (words_of command)
