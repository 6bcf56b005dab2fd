-- What a repair reads, and what it leaves of the files.
use Rattle.std.specs.Prelude.{◌≡◌, ℕ, List, Option, Some, None, Result, Ok, Err, option_map, string_bytes}
use Rattle.ks_tree.specs.Files.{Files}
use Rattle.ks_engine.specs.declared.error.EngineError.{EngineError}
use Rattle.ks_engine.specs.declared.repairing.Kept.{Kept}
use Rattle.ks_engine.specs.declared.repairing.Repaired.{Repaired}
use Rattle.ks_engine.specs.Refusals.{and_then}
use Rattle.ks_engine.specs.Repairs.{IsRepaired, IsRepairRefused}
use Rattle.ks_requests.specs.declared.request.KeptPaths.{KeptPaths}
use Rattle.ks_requests.specs.Inputs.{Texts, texts_at}
use Rattle.ks_requests.specs.NameLists.{names_in}
use Rattle.ks_requests.specs.Targets.{targets_in}

-- the auto.conf and the header that were kept, the names that have a stamp, and the objects
pub record RepairInputs : Type 0 where
  pub kept : Option Texts
  pub names : List (List ℕ)
  pub targets : List (List ℕ)

abbrev pub kept_at : Files → Option KeptPaths → Result (Option Texts) EngineError
kept_at files None = Ok None
kept_at files (Some k) = and_then (texts_at files (string_bytes k.auto) (string_bytes k.header)) (λ t. Ok (Some t))

abbrev pub named_in : Option Texts → Texts → Result RepairInputs EngineError
named_in kept lists = and_then (names_in lists.kconfig) (λ names. Ok (record { kept = kept; names = names; targets = targets_in lists.dotconfig }))

-- what the words of a repair name: first what was kept, then the two lists
unfoldable pub repair_at : Files → List ℕ → List ℕ → Option KeptPaths → Result RepairInputs EngineError
repair_at files stamps targets kept = and_then (kept_at files kept) (λ k. and_then (texts_at files stamps targets) (λ lists. named_in k lists))

-- without where the bytes lie
abbrev pub seen_kept : Option Kept → Option Texts
seen_kept kept = option_map (λ k. record { kconfig = k.auto.items; dotconfig = k.header.items }) kept

abbrev pub RepairEnds : Files → Files → Option Kept → List (List ℕ) → List (List ℕ) → Result Repaired EngineError → Type 0
RepairEnds old new kept names targets (Ok repaired) = IsRepaired old new kept names targets repaired
RepairEnds old new kept names targets (Err e) = IsRepairRefused old new kept names targets e

-- what a repair by these inputs leaves
abbrev pub LeavesRepair : Files → Files → RepairInputs → Result Repaired EngineError → Type 0
LeavesRepair old new i answer = (kept : Option Kept) × (seen_kept kept ≡ i.kept) × RepairEnds old new kept i.names i.targets answer
