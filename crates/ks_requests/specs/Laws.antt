-- Laws of the definitions: what a reader of JSON finds in the line of an answer.
use Rattle.std.specs.Prelude.{◌≡◌, ◌<◌, ◌^◌, ℕ, List, Some, Result, Ok, Err}
use Rattle.std.specs.List.{All}
use Rattle.json.specs.Json.{document}
use Rattle.ks_engine.specs.declared.error.EngineError.{EngineError}
use Rattle.ks_engine.specs.declared.explaining.Explanation.{Explanation}
use Rattle.ks_engine.specs.declared.query.Limit.{Limit}
use Rattle.ks_requests.specs.JsonLines.{answer_value, characters, json_answer}

-- other bytes are other characters
abbrev pub CharactersTellApart : Type 0
CharactersTellApart = (a b : List ℕ) → characters a ≡ characters b → a ≡ b

-- the stamps of an answer are numbers that fit
abbrev pub StampsFit : Result Explanation EngineError → Type 0
StampsFit (Ok e) = All (λ c. c.generation < 2 ^ 64) e.causes.items
StampsFit (Err e) = Unit {0}

-- The line is the object of the answer, and nothing else.
abbrev pub LinesAreObjects : Type 0
LinesAreObjects = (limit : Limit) (target : List ℕ) (answer : Result Explanation EngineError) → StampsFit answer
    → document (json_answer limit target answer) ≡ Some (answer_value limit target answer)
