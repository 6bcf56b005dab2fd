-- What a question about command files keeps of those that it has read.
use Rattle.std.specs.Prelude.{◌≡◌, ◌≤◌, ◌++◌, ℕ, List, [], ◌∷◌, Option, Some, Result, Ok, flat_map, length}
use Rattle.std.specs.List.{count_by}
use Rattle.ks_fixdep.specs.CommandFile.{CommandRecord}
use Rattle.ks_engine.specs.FileRuns.{FileState}
use Rattle.ks_engine.specs.declared.error.EngineError.{EngineError}
use Rattle.ks_engine.specs.declared.costs.Costs.{Costs}
use Rattle.ks_engine.specs.Costs.{AreTallies, cost_of, tallies_of}
use Rattle.ks_requests.specs.Statuses.{code_of}
use Rattle.ks_commands.specs.declared.readings.Reported.{Reported}
use Rattle.ks_commands.specs.Walks.{Querying, Part, ReportsAll}
use Rattle.ks_commands.specs.Records.{is_user, names_it}

-- the record that was read, if there is one
abbrev pub record_in : Result (Option CommandRecord) EngineError → List CommandRecord
record_in (Ok (Some file)) = file ∷ []
record_in _ = []

-- .. of each
abbrev pub records_in : List (Part (Option CommandRecord)) → List CommandRecord
records_in parts = flat_map (λ p. record_in p.answer) parts

-- These objects were reported one after the other, and their records read.
abbrev pub AreRead : Querying (Option CommandRecord) → (List CommandRecord → Type 0) → List (List ℕ) → FileState → Reported → FileState → Type 0
AreRead querying has_read objects first all last = (parts : List (Part (Option CommandRecord)))
    × ReportsAll querying parts first objects all.text.items (code_of all.status) last × has_read (records_in parts) × (all.all ≡ length parts)

-- What was so of the records before an answer is so of those with it.
abbrev pub Adds : (List CommandRecord → Type 0) → (List CommandRecord → Type 0) → Result (Option CommandRecord) EngineError → Type 0
Adds Old New answer = (before : List CommandRecord) → Old before → New (before ++ record_in answer)

-- how many of these records name one of the symbols
abbrev pub HasUsers : List (List ℕ) → ℕ → List CommandRecord → Type 0
HasUsers symbols users records = users ≡ count_by (λ file. is_user symbols (Ok (Some file))) records

-- what each symbol costs by them
pub record HasCosts (costs : Costs) (records : List CommandRecord) : Type 0 where
  pub few : costs.records ≤ length records
  pub sound : AreTallies costs.records (tallies_of costs)
  pub costs_of : (x : List ℕ) → cost_of costs x ≡ count_by (λ file. names_it x (Ok (Some file))) records
