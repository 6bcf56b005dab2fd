use Rattle.std.proofs.Common.{◌≡◌, ◌++◌, Bor, List, ℕ, drop, map}
use Rattle.std.specs.List.{filter_map}
use Rattle.ks_hidden.specs.Words.{option_value, texts}
use Rattle.ks_hidden.proofs.words.push_values.Given as goal

-- with what the options that are left give it is the whole
abbrev pub invariant-loop-name : goal.invariant-loop-name
invariant-loop-name l =
    let given = λ (names : List (Bor (List ℕ))). filter_map (option_value (texts l.next) l.word) (map (λ n. n.now) names) in
    texts l.values.items ++ given (drop l.name-index l.names) ≡ texts l.fn.values.items ++ given l.names
