-- How a build asks for the record of an object: the header that a word names, and where the compiler ran.
use Rattle.std.specs.Prelude.{◌≡◌, List, ℕ, Option, Some, None, IsTrue, false, string_bytes, ⊤}
use Rattle.ks_symbols.specs.Names.{is_path}
use Rattle.ks_fixdep.specs.declared.dependency_file.Header.{Header}
use Rattle.ks_fixdep.specs.declared.dependency_file.Header.TheVariants.{At}
use Rattle.ks_fixdep.specs.DependencyFile.{usual_header}
use Rattle.ks_symbols.specs.declared.dialect.Dialect.{Dialect}
use Rattle.ks_engine.specs.declared.conventions.Elsewhere.{Elsewhere}
use Rattle.ks_engine.specs.declared.conventions.RecordOptions.{RecordOptions}
use Rattle.ks_requests.specs.declared.request.ElsewherePaths.{ElsewherePaths}
use Rattle.ks_requests.specs.declared.request.RecordWords.{RecordWords}

-- The header is that of the dialect where no argument names it, and else the one whose path ends so.
abbrev pub IsHeaderOf : Dialect → Option (List ℕ) → Header → Type 0
IsHeaderOf dialect None header = header ≡ usual_header dialect
IsHeaderOf dialect (Some end) (At path) = IsTrue (is_path end) × (path.now ≡ end)
IsHeaderOf dialect end header = ⊥

-- the argument that names it is no path
abbrev pub IsNoHeader : Option (List ℕ) → Type 0
IsNoHeader None = ⊥
IsNoHeader (Some end) = is_path end ≡ false

-- The compiler ran where the words say, or here.
abbrev pub IsPlace : Option ElsewherePaths → Option Elsewhere → Type 0
IsPlace None None = ⊤
IsPlace (Some paths) (Some place) = (place.directory.now ≡ string_bytes paths.directory) × (place.tree.now ≡ string_bytes paths.tree)
IsPlace paths place = ⊥

-- a record as the words ask for it
abbrev pub AreOptions : RecordWords → RecordOptions → Type 0
AreOptions words options = (options.adds_own_lines ≡ words.adds_own_lines) × (options.before_sync ≡ words.before_sync) × IsPlace words.elsewhere options.elsewhere

-- or for a build that goes by dependency files
abbrev pub AreRuleOptions : Option ElsewherePaths → RecordOptions → Type 0
AreRuleOptions elsewhere options = (options.adds_own_lines ≡ false) × (options.before_sync ≡ false) × IsPlace elsewhere options.elsewhere
