-- The steps of recording an object, by the files: its words, its dependency file, and the names in its prerequisites.
use Rattle.std.specs.Prelude.{ℕ, Bool, true, false, List, [], ◌∷◌, ◌++◌, Option, Some, None, Result, Ok, Err, nat_lt, length, if◌then◌else◌}
use Rattle.ks_symbols.specs.Lines.{max_bytes}
use Rattle.ks_symbols.specs.Names.{is_path, is_target}
use Rattle.ks_fixdep.specs.declared.dep_error.DepError.{DepError}
use Rattle.ks_fixdep.specs.declared.dependency_file.Header.{Header}
use Rattle.ks_symbols.specs.declared.dialect.Dialect.{Dialect}
use Rattle.ks_fixdep.specs.declared.dependency_file.Role.{Role}
use Rattle.ks_fixdep.specs.CommandFile.{is_command}
use Rattle.ks_fixdep.specs.DependencyFile.{prerequisites_without, refusal_without, usual_header}
use Rattle.ks_fixdep.specs.Dialects.{names_in_as}
use Rattle.ks_fixdep.specs.declared.dialect.ScanRules.{ScanRules}
use Rattle.ks_tree.specs.Files.{Files, content}
use Rattle.ks_engine.specs.declared.error.EngineError.{EngineError}
use Rattle.ks_engine.specs.declared.error.EngineError.TheVariants.{TooLarge, BadPath, BadCommand, MissingFile}
use Rattle.ks_engine.specs.Refusals.{of_dep}

-- the three words
abbrev pub args : List ℕ → List ℕ → List ℕ → Result (Unit {0}) EngineError
args depfile target command =
    if is_path depfile then (if is_target target then (if is_command command then Ok tt else Err BadCommand) else Err (BadPath 0))
    else Err (BadPath 0)

-- a file that has to be there
abbrev pub there : List ℕ → Option (List ℕ) → Result (List ℕ) EngineError
there path None = Err (MissingFile path)
there path (Some b) = if nat_lt max_bytes (length b) then Err TooLarge else Ok b

abbrev pub listed_unless : Option DepError → List (List ℕ × Role) → Result (List (List ℕ × Role)) EngineError
listed_unless None ps = Ok ps
listed_unless (Some e) ps = Err (of_dep e)

-- the prerequisites of a dependency file but for a header
abbrev pub listed_without : Header → List ℕ → Result (List (List ℕ × Role)) EngineError
listed_without header d = listed_unless (refusal_without header d) (prerequisites_without header d)

-- but for the usual one
abbrev pub listed : Dialect → List ℕ → Result (List (List ℕ × Role)) EngineError
listed dialect d = listed_without (usual_header dialect) d

-- the names of the file at a path by such rules, each once
abbrev pub scanned : ScanRules → List ℕ → Option (List ℕ) → Result (List (List ℕ)) EngineError
scanned r path None = Err (MissingFile path)
scanned r path (Some b) = if nat_lt max_bytes (length b) then Err TooLarge else Ok (names_in_as r b)

-- the first answer before the others, or the first refusal
abbrev pub followed : {A E : Type 0} → Result A E → Result (List A) E → Result (List A) E
followed (Err e) rest = Err e
followed (Ok x) (Err e) = Err e
followed (Ok x) (Ok xs) = Ok (x ∷ xs)

-- the names of the file of each prerequisite, in their order
unfoldable pub scanned_all : ScanRules → Files → List (List ℕ × Role) → Result (List (List (List ℕ))) EngineError
scanned_all r files [] = Ok []
scanned_all r files (p ∷ ps) = followed (scanned r p.0 (content files p.0)) (scanned_all r files ps)

-- and then the names of the words of the command, where these are scanned too
abbrev pub with_command : Bool → ScanRules → List ℕ → List (List (List ℕ)) → List (List (List ℕ))
with_command false r command found = found
with_command true r command found = found ++ names_in_as r command ∷ []
