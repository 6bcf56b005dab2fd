use Rattle.ks_commands.proofs.Prelude.{List, ℕ, Bor, bytes_eq, map, sym, IsPermutation-map, list_any-IsPermutation}
use Rattle.ks_commands.proofs.asked_symbols.AskedSymbols.new.Goals as goal

pub returns : goal.returns
returns c = λ x.
    let text : Bor (List ℕ) → List ℕ = λ s. s.now in
    let given = c.args.symbols.items in
    let sorted = c.sort_unstable.new.self.items in
    sym (list_any-IsPermutation (bytes_eq x) (map text given) (map text sorted) (IsPermutation-map text given sorted c.sort_unstable.ensures.permutation))
