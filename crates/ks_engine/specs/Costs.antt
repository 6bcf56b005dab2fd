-- What an object's record says, by its command file alone, and what a symbol costs: how many records name it.
use Rattle.std.specs.Prelude.{◌≡◌, ◌⊎◌, ◌+◌, ◌<◌, ◌≤◌, ◌==◌, ℕ, Bool, List, Option, Some, None, Result, Err, Vec, map, is_some, bytes_eq, if◌then◌else◌}
use Rattle.std.specs.List.{All, count_by}
use Rattle.std.specs.List.Sorted.{IsSorted}
use Rattle.std.specs.Ordering.{nat_cmp, ordering_then}
use Rattle.std.specs.Cmp.Lexicographic.{slice_cmp}
use Rattle.std.specs.declared.cmp.Ordering.{Ordering}
use Rattle.ks_symbols.specs.Names.{is_target}
use Rattle.ks_fixdep.specs.CommandFile.{CommandRecord}
use Rattle.ks_tree.specs.Files.{Files, content}
use Rattle.ks_tree.specs.Paths.{command_path}
use Rattle.ks_engine.specs.declared.error.EngineError.{EngineError}
use Rattle.ks_engine.specs.declared.error.EngineError.TheVariants.{BadPath}
use Rattle.ks_engine.specs.declared.costs.Cost.{Cost}
use Rattle.ks_engine.specs.declared.costs.Costs.{Costs}
use Rattle.ks_engine.specs.declared.costs.Tally.{Tally}
use Rattle.ks_engine.specs.Asked.{command_file}
use Rattle.ks_engine.specs.Caches.{value_of}
use Rattle.ks_engine.specs.Refusals.{IsAbortedAnswer}

-- the record of an object, or that it has none, or why it can't be read
abbrev pub record_at : Files → List ℕ → Result (Option CommandRecord) EngineError
record_at files o = if is_target o then command_file o (content files (command_path o)) else Err (BadPath 0)

-- .. memory and the device aside
abbrev pub IsRead : Files → List ℕ → Result (Option CommandRecord) EngineError → Type 0
IsRead files o answer = IsAbortedAnswer answer ⊎ (answer ≡ record_at files o)

-- ---- what symbols cost

abbrev pub one_if : Bool → ℕ
one_if b = if b then 1 else 0

-- the more expensive one first, and of equal ones the lesser name
abbrev pub by_cost : List ℕ × ℕ → List ℕ × ℕ → Ordering
by_cost c d = ordering_then (nat_cmp d.1 c.1) (slice_cmp nat_cmp c.0 d.0)

-- Each symbol that costs something stands there once, with what it costs, and no other; the most expensive first.
pub record AreCosts (cost : List ℕ → ℕ) (costs : List (List ℕ × ℕ)) : Type 0 where
  pub each : All (λ c. (0 < c.1) × (c.1 ≡ cost c.0)) costs
  pub once : (x : List ℕ) → 0 < cost x → count_by (λ c. bytes_eq x c.0) costs ≡ 1
  pub order : IsSorted by_cost costs

abbrev pub seen_cost : Cost → List ℕ × ℕ
seen_cost c = (c.name.now, c.count)

-- ---- how they are counted

abbrev pub number_in : Option Tally → ℕ
number_in None = 0
number_in (Some t) = t.count

-- what a name costs by its tally
abbrev pub tally_cost : List ℕ × Tally → List ℕ × ℕ
tally_cost t = (t.0, t.1.count)

-- what a table has by the bytes of its names, in order
abbrev pub tally_pairs : {Y : Type 0} → List (Vec ℕ Y × Tally) → List (List ℕ × Tally)
tally_pairs entries = map (λ e. (e.0.items, e.1)) entries

abbrev pub tallies_of : Costs → List (List ℕ × Tally)
tallies_of costs = tally_pairs costs.tallies.entries

abbrev pub cost_of : Costs → List ℕ → ℕ
cost_of costs x = number_in (value_of x (tallies_of costs))

-- the tally once the record with this number names the symbol
abbrev pub counted : ℕ → Option Tally → Tally
counted r None = record { count = 1; last = r }
counted r (Some t) = if t.last == r then t else record { count = t.count + 1; last = r }

-- no record counts twice, and none is of a later one
abbrev pub IsTally : ℕ → List ℕ → Tally → Type 0
IsTally r x t = (0 < t.count) × (t.count ≤ t.last) × (t.last ≤ r)

abbrev pub AreSound : ℕ → List (List ℕ × Tally) → Type 0
AreSound r ts = All (λ p. IsTally r p.0 p.1) ts

-- a name has one tally at most
abbrev pub AreOnce : {V : Type 0} → List (List ℕ × V) → Type 0
AreOnce ps = (x : List ℕ) → count_by (λ p. bytes_eq x p.0) ps ≡ one_if (is_some (value_of x ps))

pub record AreTallies (r : ℕ) (ts : List (List ℕ × Tally)) : Type 0 where
  pub sound : AreSound r ts
  pub once : AreOnce ts
