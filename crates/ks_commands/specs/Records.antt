-- What command files say of symbols: which objects name one, and what each symbol costs.
use Rattle.std.specs.Prelude.{◌≡◌, ◌++◌, ℕ, Bool, false, nat_lt, List, [], Option, Some, None, Result, Ok, filter, flat_map, length, take}
use Rattle.std.specs.List.{count_by}
use Rattle.ks_symbols.specs.Names.{is_in}
use Rattle.ks_fixdep.specs.CommandFile.{CommandRecord}
use Rattle.ks_fixdep.specs.Record.{config_names}
use Rattle.ks_tree.specs.Files.{Files}
use Rattle.ks_engine.specs.declared.error.EngineError.{EngineError}
use Rattle.ks_engine.specs.Causes.{names_placed}
use Rattle.ks_engine.specs.Costs.{AreCosts, IsRead}
use Rattle.ks_requests.specs.declared.status.Count.{Count}
use Rattle.ks_requests.specs.declared.status.Count.TheVariants.{Users}
use Rattle.ks_requests.specs.declared.status.Outcome.{Outcome}
use Rattle.ks_requests.specs.Replies.{answer_line}
use Rattle.ks_requests.specs.Statuses.{code_of, status_unless_refused, worst}
use Rattle.ks_requests.specs.Symbols.{cost_line, unrecorded_line, use_line}
use Rattle.ks_commands.specs.Walks.{Querying, Part, statuses, text_of}

-- an object is reported by the lines of what its command file was read as; the status is 2 where that is refused
pub record IsReadIn (honest : Type 0) (files : Files) (line : List ℕ → Option CommandRecord → List ℕ) (p : Part (Option CommandRecord)) : Type 0 where
  pub read : honest → IsRead files p.object p.answer
  pub lines : p.lines ≡ answer_line line p.object p.answer
  pub status : p.status ≡ status_unless_refused (λ _. 0) p.answer

abbrev pub reading : Type 0 → Files → (List ℕ → Option CommandRecord → List ℕ) → Querying (Option CommandRecord)
reading honest files line = record { reported = IsReadIn honest files line; backdates = λ p old new. new ≡ old }

-- ---- who names a symbol

-- the names of a record that are asked for, each with the file after which it stands
abbrev pub uses_in : List (List ℕ) → CommandRecord → List (List ℕ × List ℕ)
uses_in symbols file = filter (λ p. is_in symbols p.0) (names_placed file)

-- a line for each; or that there is no record
abbrev pub uses_lines : List (List ℕ) → List ℕ → Option CommandRecord → List ℕ
uses_lines symbols o None = unrecorded_line o
uses_lines symbols o (Some file) = flat_map (use_line o) (uses_in symbols file)

-- whether there is one
abbrev pub is_user : List (List ℕ) → Result (Option CommandRecord) EngineError → Bool
is_user symbols (Ok (Some file)) = nat_lt 0 (length (uses_in symbols file))
is_user symbols _ = false

-- how many of them name one of the symbols, of how many
abbrev pub user_count : List (List ℕ) → List (Part (Option CommandRecord)) → Option Count
user_count symbols parts = Some (Users (count_by (λ p. is_user symbols p.answer) parts) (length parts))

-- ---- what symbols cost

-- whether it names a symbol
abbrev pub names_it : List ℕ → Result (Option CommandRecord) EngineError → Bool
names_it x (Ok (Some file)) = is_in (config_names file.deps) x
names_it x _ = false

-- how many of them name a symbol
abbrev pub cost_among : List (Part (Option CommandRecord)) → List ℕ → ℕ
cost_among parts x = count_by (λ p. names_it x p.answer) parts

-- an object that has no record
abbrev pub unread_lines : List ℕ → Option CommandRecord → List ℕ
unread_lines o None = unrecorded_line o
unread_lines o (Some file) = []

-- the first so many, or all
abbrev pub at_most : {A : Type 0} → Option ℕ → List A → List A
at_most None xs = xs
at_most (Some n) xs = take n xs

abbrev pub cost_lines : Option ℕ → List (List ℕ × ℕ) → List ℕ
cost_lines top costs = flat_map cost_line (at_most top costs)

-- Each object that has no record, or is refused, is reported; and then what each symbol costs by the others, the most expensive first.
abbrev pub reports_cost : Option ℕ → List (Part (Option CommandRecord)) → Outcome → Type 0
reports_cost top parts o = (costs : List (List ℕ × ℕ)) × AreCosts (cost_among parts) costs × (o.text.items ≡ text_of parts ++ cost_lines top costs)
    × (code_of o.status ≡ worst (statuses parts)) × (o.count ≡ None)
