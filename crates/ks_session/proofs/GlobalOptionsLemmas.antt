-- Options one after the other.
use Rattle.std.proofs.Common.{◌≡◌, ◌++◌, ◌∷◌, ◌+◌, ◌∙◌, [], ℕ, Bor, List, ap, drop, map, refl, sym, take}
use Rattle.std.proofs.lemmas.List.{drop-drop, drop-map, take-append-drop}
use Rattle.ks_session.specs.GlobalOptions.{Spells, SpellsAll, OptionView}

-- one more, which the rest begins with
pub spelled_more : (args : List (List ℕ)) (options : List OptionView) (rest : List (List ℕ)) (count : ℕ) (o : OptionView)
    → SpellsAll args options rest → Spells (take count rest) o → SpellsAll args (options ++ o ∷ []) (drop count rest)
spelled_more args [] rest count o all s = (take count rest, drop count rest, s, all ∙ sym (take-append-drop count rest), refl)
spelled_more args (p ∷ ps) rest count o all s = (all.0, all.1, all.2, all.3, spelled_more all.1 ps rest count o all.4 s)

pub rest_after : (args : List (Bor (List ℕ))) (at count : ℕ) → drop count (map (λ w. w.now) (drop at args)) ≡ map (λ w. w.now) (drop (at + count) args)
rest_after args at count = drop-map (λ w. w.now) count (drop at args) ∙ ap (map (λ w. w.now)) (drop-drop count at args)
