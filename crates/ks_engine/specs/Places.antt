-- Where a compiler ran, if not in the directory of the tree, and what its dependency file says there.
use Rattle.std.specs.Prelude.{ℕ, ◌&&◌, List, Option, Some, None, Result, Ok, Err, option_map, if◌then◌else◌}
use Rattle.ks_symbols.specs.Names.{is_path}
use Rattle.ks_fixdep.specs.Placed.{placed}
use Rattle.ks_engine.specs.declared.conventions.RecordOptions.{RecordOptions}
use Rattle.ks_engine.specs.declared.error.EngineError.{EngineError}
use Rattle.ks_engine.specs.declared.error.EngineError.TheVariants.{BadPath}
use Rattle.ks_engine.specs.Recording.{there}
use Rattle.ks_engine.specs.Refusals.{and_then}

-- the directory, and the name that the build has for the tree there
abbrev pub place_of : RecordOptions → Option (List ℕ × List ℕ)
place_of options = option_map (λ e. (e.directory.now, e.tree.now)) options.elsewhere

abbrev pub tree_of : RecordOptions → Option (List ℕ)
tree_of options = option_map (λ e. e.tree.now) options.elsewhere

-- both are paths
abbrev pub legal_at : Option (List ℕ × List ℕ) → Result (Unit {0}) EngineError
legal_at None = Ok tt
legal_at (Some place) = if is_path place.0 && is_path place.1 then Ok tt else Err (BadPath 0)

abbrev pub legal_place : RecordOptions → Result (Unit {0}) EngineError
legal_place options = legal_at (place_of options)

-- the text of a dependency file, with the paths that it has for one who is here
abbrev pub placed_by : RecordOptions → List ℕ → List ℕ
placed_by options text = placed (option_map (λ place. place.0) (place_of options)) text

-- .. which has to be there
abbrev pub depfile_at : RecordOptions → List ℕ → Option (List ℕ) → Result (List ℕ) EngineError
depfile_at options path file = and_then (there path file) (λ b. Ok (placed_by options b))
