-- What is printed of another spelling under which an object is recorded.
use Rattle.std.specs.Prelude.{◌≡◌, ◌++◌, ℕ, List, [], Option, Some, None, Result, codes}
use Rattle.ks_engine.specs.declared.error.EngineError.{EngineError}
use Rattle.ks_engine.specs.declared.explaining.Explanation.{Explanation}
use Rattle.ks_engine.specs.declared.query.Limit.{Limit}
use Rattle.ks_engine.specs.declared.query.Limit.TheVariants.{First, All}
use Rattle.ks_requests.specs.declared.request.OutputFormat.{OutputFormat}
use Rattle.ks_requests.specs.declared.request.OutputFormat.TheVariants.{Text, Json}
use Rattle.ks_requests.specs.JsonLines.{answer_in}

abbrev pub spelling_line : Option (List ℕ) → List ℕ
spelling_line None = []
spelling_line (Some path) = codes "  recorded as " ++ path ++ codes "\n"

-- lines that list all causes tell it, and no others
abbrev pub spelling_reported : Limit → OutputFormat → Option (List ℕ) → List ℕ
spelling_reported First format spelling = []
spelling_reported All Json spelling = []
spelling_reported All Text spelling = spelling_line spelling

-- all that is written of a spelling is printed
abbrev pub IsLine : Limit → OutputFormat → Option (List ℕ) → Type 0
IsLine limit format spelling = spelling_line spelling ≡ spelling_reported limit format spelling

-- what is printed of an object, with a spelling
abbrev pub spelled_in : OutputFormat → Limit → List ℕ → Result Explanation EngineError → Option (List ℕ) → List ℕ
spelled_in format limit o answer spelling = answer_in format limit o answer ++ spelling_reported limit format spelling
