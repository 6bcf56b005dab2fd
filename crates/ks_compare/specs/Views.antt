-- Values of the code as the definitions have them.
use Rattle.std.specs.Prelude.{ℕ, List, Option}
use Rattle.std.specs.Borrow.{Bor}
use Rattle.ks_symbols.specs.declared.kinds.Class.{Class}

-- a class and a text as it is borrowed
abbrev pub seen_value : Option Class × Bor (List ℕ) → Option Class × List ℕ
seen_value v = (v.0, v.1.now)
