-- The names among the lines of a text, up to the first line that is none.
use Rattle.ks_requests.proofs.Prelude.{◌≡◌, ◌+◌, ◌++◌, ◌∷◌, ℕ, List, [], Bool, true, false, length, arith, refl, lines, Err}
use Rattle.std.proofs.lemmas.Bool.{and_parts}
use Rattle.ks_symbols.specs.Names.{is_name}
use Rattle.ks_symbols.specs.declared.error.SourceError.TheVariants.{BadName}
use Rattle.ks_engine.specs.declared.error.EngineError.TheVariants.{Source}
unfoldable use Rattle.ks_requests.specs.NameLists.{names_in}
use Rattle.std.specs.List.{list_all, prefix_len}

pub stops_at : {X : Type 0} (p : X → Bool) (xs : List X) (y : X) (ys : List X) → list_all p xs ≡ true → p y ≡ false → prefix_len p (xs ++ y ∷ ys) ≡ length xs
stops_at p [] y ys all bad = rw bad refl
stops_at p (x ∷ xs) y ys all bad =
    let parts = and_parts (p x) (list_all p xs) all in
    rw (parts.0, stops_at p xs y ys parts.1 bad) (omega arith)

pub not_all : {X : Type 0} (p : X → Bool) (xs : List X) (y : X) (ys : List X) → list_all p xs ≡ true → p y ≡ false → list_all p (xs ++ y ∷ ys) ≡ false
not_all p [] y ys all bad = rw bad refl
not_all p (x ∷ xs) y ys all bad =
    let parts = and_parts (p x) (list_all p xs) all in
    rw (parts.0, not_all p xs y ys parts.1 bad) refl

pub bad_line : (text : List ℕ) (xs : List (List ℕ)) (y : List ℕ) (rest : List (List ℕ)) → xs ++ y ∷ rest ≡ lines text → list_all is_name xs ≡ true
    → is_name y ≡ false → names_in text ≡ Err (Source (BadName (length xs + 1)))
unfolding names_in
bad_line text xs y rest at all bad = rw (← at, not_all is_name xs y rest all bad, stops_at is_name xs y rest all bad) refl
