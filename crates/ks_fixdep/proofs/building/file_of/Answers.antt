use Rattle.ks_fixdep.proofs.Prelude.{arith, common_steps, ◌≡◌, true, None, Ok, List, ℕ, [], list_all, is_path, is_target, is_command, is_dep, ReadsBack, reading, deps_after, record_of, record_text, source_of, Role, rules}
use Rattle.ks_fixdep.proofs.building.file_of.Goals as goal

-- what is written of a record reads as it
reads : (t k : List ℕ) (ps : List (List ℕ × Role)) (given found : List (List (List ℕ))) (text : List ℕ) → ReadsBack → is_target t ≡ true → is_command k ≡ true
    → is_path (source_of ps) ≡ true → list_all is_dep (deps_after [] ps given) ≡ true → given ≡ found → text ≡ record_text t k ps given None
    → reading text ≡ Ok (record_of t k ps found)
reads t k ps given found text back target command source deps same is =
    let read = back (record_of t k ps given) (record { target = target; command = command; source = source; deps = deps; generation = tt }) in cc

pub returns-in-Ok-clause-value : goal.returns-in-Ok-clause-value
returns-in-Ok-clause-value c = search (rules, reads)

-- so it is refused for memory alone
pub unreachable-requires : goal.unreachable-requires
unreachable-requires c = grind (arith, common_steps, reads)
