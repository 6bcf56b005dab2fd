-- What speaks for an object's being stale: those names of its command file whose stamps are above the generation of its record.
use Rattle.std.specs.Prelude.{◌≡◌, ◌⊎◌, ℕ, List, [], ◌∷◌, ◌++◌, Option, Result, Ok, Err, ⊤, length, nat_lt, map, filter}
use Rattle.std.specs.List.{All}
use Rattle.ks_fixdep.specs.declared.command_file.Dep.{Dep}
use Rattle.ks_fixdep.specs.declared.command_file.Dep.TheVariants.{File, Config}
use Rattle.ks_fixdep.specs.CommandFile.{CommandRecord}
use Rattle.ks_tree.specs.Files.{Files, content, IsTooLarge}
use Rattle.ks_tree.specs.Paths.{stamp_path}
use Rattle.ks_tree.specs.Stamps.{HasNumber, IsNoStamp}
use Rattle.ks_engine.specs.declared.error.EngineError.{EngineError}
use Rattle.ks_engine.specs.declared.error.EngineError.TheVariants.{TooLarge, BadStamp}
use Rattle.ks_engine.specs.declared.explaining.Cause.{Cause}
use Rattle.ks_engine.specs.declared.query.Limit.{Limit}
use Rattle.ks_engine.specs.declared.query.Limit.TheVariants.{First, All as Every}
use Rattle.ks_engine.specs.declared.staleness.Verdict.{Verdict}
use Rattle.ks_engine.specs.declared.staleness.Verdict.TheVariants.{Fresh, Changed}

-- ---- where a name stands

-- the names of dependency lines, each with the file that is listed last before it, or else with this one
abbrev pub placed : List ℕ → List Dep → List (List ℕ × List ℕ)
placed place [] = []
placed place (File path ∷ deps) = placed path deps
placed place (Config name ∷ deps) = (name, place) ∷ placed place deps

-- those of a command file, which names the source before all others
abbrev pub names_placed : CommandRecord → List (List ℕ × List ℕ)
names_placed file = placed file.source file.deps

-- ---- by stamps

-- a name at its place, with the number of its stamp
abbrev pub cause : (List ℕ → ℕ) → List ℕ × List ℕ → Cause
cause number (name, place) = record { name = name; generation = number name; place = place }

-- The stamp of each name holds a number, and the causes are the names for which it is above the generation.
pub record AreCauses (files : Files) (g : ℕ) (names : List (List ℕ × List ℕ)) (causes : List Cause) : Type 0 where
  pub number : List ℕ → ℕ
  pub held : All (λ p. HasNumber (content files (stamp_path p.0)) (number p.0)) names
  pub above : causes ≡ map (cause number) (filter (λ p. nat_lt g (number p.0)) names)

-- those that were looked for are found: all, or the first; no name is left, but after a first one
abbrev pub AreEnough : Limit → List Cause → List (List ℕ × List ℕ) → Type 0
AreEnough Every causes left = left ≡ []
AreEnough First causes left = (length causes ≡ 1) ⊎ ((causes ≡ []) × (left ≡ []))

-- one more is looked for
abbrev pub AreTooFew : Limit → List Cause → Type 0
AreTooFew Every causes = ⊤
AreTooFew First causes = causes ≡ []

-- a stamp that is too large to be read, or else holds no number
abbrev pub IsBadStamp : Option (List ℕ) → List ℕ → EngineError → Type 0
IsBadStamp file x e = (IsNoStamp file × (IsTooLarge file → ⊥) × (e ≡ BadStamp x)) ⊎ (IsTooLarge file × (e ≡ TooLarge))

-- where it ends: with the causes that were looked for, or at the first stamp that holds no number
abbrev pub EndsAt : Limit → Files → List Cause → Result (List Cause) EngineError → List (List ℕ × List ℕ) → Type 0
EndsAt limit files causes (Ok found) left = (found ≡ causes) × AreEnough limit causes left
EndsAt limit files causes (Err e) [] = ⊥
EndsAt limit files causes (Err e) (p ∷ left) = AreTooFew limit causes × IsBadStamp (content files (stamp_path p.0)) p.0 e

-- The stamps of the names are looked at in their order, as far as the limit asks for.
pub record IsByStamps (limit : Limit) (files : Files) (g : ℕ) (names : List (List ℕ × List ℕ)) (found : Result (List Cause) EngineError) : Type 0 where
  pub seen : List (List ℕ × List ℕ)
  pub left : List (List ℕ × List ℕ)
  pub stands : names ≡ seen ++ left
  pub causes : List Cause
  pub are : AreCauses files g seen causes
  pub ends : EndsAt limit files causes found left

-- the verdict of these causes
abbrev pub verdict_of : List Cause → Verdict
verdict_of [] = Fresh
verdict_of (c ∷ causes) = Changed c.name
