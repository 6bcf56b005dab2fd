-- The files that arguments name: all arguments first, then the files in their order.
use Rattle.std.specs.Prelude.{ℕ, Bool, List, Option, Some, None, Result, Ok, Err, if◌then◌else◌, string_bytes}
use Rattle.std.specs.List.{list_all}
use Rattle.ks_symbols.specs.Names.{is_path}
use Rattle.ks_tree.specs.Files.{Files, content}
use Rattle.ks_engine.specs.declared.error.EngineError.{EngineError}
use Rattle.ks_engine.specs.declared.error.EngineError.TheVariants.{BadPath}
use Rattle.ks_engine.specs.Refusals.{and_then}
use Rattle.ks_engine.specs.Recording.{there}
use Rattle.ks_engine.specs.Sources.{Source, source_in}
use Rattle.ks_engine.specs.declared.planning.ConfigForm.{ConfigForm}
use Rattle.ks_symbols.specs.declared.dialect.Dialect.{Dialect}
use Rattle.ks_requests.specs.declared.request.ConfigPaths.{ConfigPaths}

-- a word that has to be a path
abbrev pub legal : List ℕ → Result (Unit {0}) EngineError
legal path = if is_path path then Ok tt else Err (BadPath 0)

-- whether each of these arguments is one
abbrev pub are_paths : List (List ℕ) → Bool
are_paths args = list_all is_path args

-- the file that a word names
abbrev pub given : Files → List ℕ → Result (List ℕ) EngineError
given files path = and_then (legal path) (λ _. there path (content files path))

-- the same of a word that may be left out
abbrev pub legal_if_named : Option (List ℕ) → Result (Unit {0}) EngineError
legal_if_named None = Ok tt
legal_if_named (Some path) = legal path

abbrev pub given_if_named : Files → Option (List ℕ) → Result (Option (List ℕ)) EngineError
given_if_named files None = Ok None
given_if_named files (Some path) = and_then (given files path) (λ b. Ok (Some b))

-- the two files of a configuration: a Kconfig and a `.config`, or in their places the auto.conf and the header that conf wrote
pub record Texts : Type 0 where
  pub kconfig : List ℕ
  pub dotconfig : List ℕ

abbrev pub read_texts : Files → List ℕ → List ℕ → Result Texts EngineError
read_texts files k d = and_then (given files k) (λ kconfig. and_then (given files d) (λ dotconfig. Ok (record { kconfig = kconfig; dotconfig = dotconfig })))

unfoldable pub texts_at : Files → List ℕ → List ℕ → Result Texts EngineError
texts_at files k d = and_then (legal k) (λ _. and_then (legal d) (λ _. read_texts files k d))

-- what they say, by their form
abbrev pub source_at : Dialect → ConfigForm → Texts → Source
source_at dialect form t = source_in dialect form t.kconfig t.dotconfig

-- the files that the words of a request name
abbrev pub config_at : Files → ConfigPaths → Result Texts EngineError
config_at files c = texts_at files (string_bytes c.first) (string_bytes c.second)

-- .. and an old auto.conf, if one is named
pub record Inputs : Type 0 where
  pub kconfig : List ℕ
  pub dotconfig : List ℕ
  pub old : Option (List ℕ)

abbrev pub with_old : Texts → Option (List ℕ) → Inputs
with_old t old = record { kconfig = t.kconfig; dotconfig = t.dotconfig; old = old }

abbrev pub read_inputs : Files → List ℕ → List ℕ → Option (List ℕ) → Result Inputs EngineError
read_inputs files k d o = and_then (read_texts files k d) (λ t. and_then (given_if_named files o) (λ old. Ok (with_old t old)))

unfoldable pub inputs_at : Files → List ℕ → List ℕ → Option (List ℕ) → Result Inputs EngineError
inputs_at files k d o = and_then (legal k) (λ _. and_then (legal d) (λ _. and_then (legal_if_named o) (λ _. read_inputs files k d o)))
