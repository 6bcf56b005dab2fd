-- What each question is answered: which files it is asked of, and how many causes it lists.
use Rattle.std.specs.Prelude.{◌≡◌, ℕ, List, Result}
use Rattle.ks_engine.specs.Sources.{Source}
use Rattle.ks_tree.specs.Files.{Files}
use Rattle.ks_engine.specs.declared.error.EngineError.{EngineError}
use Rattle.ks_engine.specs.declared.explaining.Explanation.{Explanation}
use Rattle.ks_engine.specs.declared.query.Limit.{Limit}
use Rattle.ks_engine.specs.declared.query.Limit.TheVariants.{First, All}
use Rattle.ks_engine.specs.declared.query.Query.{Query}
use Rattle.ks_engine.specs.declared.query.Query.TheVariants.{Stale, Why, Predicted}
use Rattle.ks_engine.specs.Asked.{IsAnswerOn, reported}
use Rattle.ks_engine.specs.Explained.{IsExplanationOn}
use Rattle.ks_engine.specs.Impact.{IsAfter, IsAnswerAfter, IsImpactOf}

-- how many causes answer it
abbrev pub limit_of : Query → Limit
limit_of Stale = First
limit_of Why = All
limit_of (Predicted impact) = First

-- the files that it is asked of: these, or those after the synchronisation
abbrev pub IsSeen : Query → Files → Files → Type 0
IsSeen Stale files after = after ≡ files
IsSeen Why files after = after ≡ files
IsSeen (Predicted impact) files after = IsAfter files after impact.now.report

-- what answers it
abbrev pub IsAnswerTo : Query → Files → List ℕ → Result Explanation EngineError → Type 0
IsAnswerTo Stale files o answer = IsAnswerOn files o (reported answer)
IsAnswerTo Why files o answer = IsExplanationOn files o answer
IsAnswerTo (Predicted impact) files o answer =
    (source : Source) → IsImpactOf files source impact.now → IsAnswerAfter files source o (reported answer)
