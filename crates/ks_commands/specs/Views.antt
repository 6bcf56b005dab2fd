-- Values of the code as the definitions have them.
use Rattle.std.specs.Prelude.{ℕ, List, Option}
use Rattle.ks_symbols.specs.declared.kinds.Class.{Class}
use Rattle.ks_requests.specs.Targets.{targets_in}
use Rattle.ks_commands.specs.Repairing.{RepairInputs, seen_kept}
use Rattle.ks_commands.specs.declared.repairs.RepairTexts.{RepairTexts}
use Rattle.ks_commands.specs.declared.differences.Value.{Value}

abbrev pub seen_value : Value → Option Class × List ℕ
seen_value v = (v.class, v.text.now)

abbrev pub seen_repair_texts : RepairTexts → RepairInputs
seen_repair_texts t = record { kept = seen_kept t.kept; names = t.names.items; targets = targets_in t.list.items }
