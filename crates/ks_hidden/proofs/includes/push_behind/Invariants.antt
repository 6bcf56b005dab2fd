use Rattle.std.proofs.Common.{◌≡◌, ◌++◌, Bor, List, ℕ, drop, map}
use Rattle.std.specs.List.{filter_map}
use Rattle.ks_hidden.specs.Includes.{name_behind}
use Rattle.ks_hidden.specs.Words.{texts}
use Rattle.ks_hidden.proofs.includes.push_behind.Given as goal

-- with the names behind the words that are left it is the whole
abbrev pub invariant-loop-word : goal.invariant-loop-word
invariant-loop-word l =
    let named = λ (words : List (Bor (List ℕ))). filter_map (name_behind l.text) (map (λ w. w.now) words) in
    texts l.names.items ++ named (drop l.word-index l.words) ≡ texts l.fn.names.items ++ named l.words
