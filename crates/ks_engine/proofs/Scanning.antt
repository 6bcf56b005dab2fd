-- Prerequisites scanned one after the other.
use Rattle.ks_engine.proofs.Prelude.{are_placed, add-one, ap, refl, ◌∙◌, get_or-append_seam, ◌≡◌, ◌<◌, true, get_or, length-append, ℕ, ◌+◌, ◌≤◌, List, [], ◌∷◌, ◌++◌, Some, Result, Ok, Err, length, drop, append_assoc, append-nil, arith, slice_get, drop-cons, and_from, and_parts, lt-ltb, ltb-true, drop_all, get_or_append_left, map-append, list_all-append, picked, Grows, slice_get_within, get_or_from_slice_get, Role, ScanRules, Files, content, scanned, scanned_all, followed, EngineError, rules}

-- the names found so far, and then those
abbrev pub following : List (List (List ℕ)) → Result (List (List (List ℕ))) EngineError → Result (List (List (List ℕ))) EngineError
following found (Ok more) = Ok (found ++ more)
following found (Err e) = Err e

pub following_none : (r : Result (List (List (List ℕ))) EngineError) → r ≡ following [] r
following_none (Ok more) = refl
following_none (Err e) = refl

pub after_next : (found : List (List (List ℕ))) (x : List (List ℕ)) (rest : Result (List (List (List ℕ))) EngineError) → following found (followed (Ok x) rest)
    ≡ following (found ++ x ∷ []) rest
after_next found x rest = search (rules, append_assoc)

drop_get : {A : Type 0} (xs : List A) (i : ℕ) (p : A) → slice_get xs i ≡ Some p → drop i xs ≡ p ∷ drop (i + 1) xs
drop_get xs i p is = let within = slice_get_within xs i p is in rw (add-one, drop-cons xs i p) (cc (get_or_from_slice_get xs i p p is))

-- the next of them, whatever comes of it
pub scanned_step : (r : ScanRules) (files : Files) (ps : List (List ℕ × Role)) (i : ℕ) (p : List ℕ × Role) (found : List (List (List ℕ))) (one : Result (List (List ℕ)) EngineError)
    (whole : Result (List (List (List ℕ))) EngineError) → slice_get ps i ≡ Some p → scanned r p.0 (content files p.0) ≡ one
    → whole ≡ following found (scanned_all r files (drop i ps)) → whole ≡ following found (followed one (scanned_all r files (drop (i + 1) ps)))
unfolding scanned_all
scanned_step r files ps i p found one whole is ok before = cc (drop_get ps i p is)

pub scanned_end : (r : ScanRules) (files : Files) (ps : List (List ℕ × Role)) (i : ℕ) (found : List (List (List ℕ))) (whole : Result (List (List (List ℕ))) EngineError)
    → length ps ≤ i → whole ≡ following found (scanned_all r files (drop i ps)) → whole ≡ Ok found
unfolding scanned_all
scanned_end r files ps i found whole past before = search (rules, drop_all, append-nil)

-- ---- the places of sources

picked_longer : (found more : List (List (List ℕ))) (places : List ℕ) → are_placed found places ≡ true
    → (are_placed (found ++ more) places ≡ true) × (picked (found ++ more) places ≡ picked found places)
picked_longer found more [] placed = search rules
picked_longer found more (i ∷ places) placed =
    let parts = and_parts _ _ placed in
    let here : i < length found = ltb-true i (length found) parts.0 in
    let further : i < length (found ++ more) = omega (arith, length-append found more) in
    search (rules, and_from, lt-ltb, get_or_append_left, (picked_longer found more places parts.1))

-- one more place, perhaps of one more source
pub picked_next : (found later : List (List (List ℕ))) (places all : List ℕ) (i : ℕ) → Grows found later → are_placed found places ≡ true → i < length later
    → all ≡ places ++ i ∷ []
    → (are_placed later all ≡ true) × (picked later all ≡ picked found places ++ get_or later i [] ∷ [])
picked_next found later places all i grows placed here is =
    let old = picked_longer found grows.0 places placed in search (rules, list_all-append, map-append, and_from, lt-ltb, is, grows.1)

-- .. and of one that was scanned just now
pub picked_last : (found later : List (List (List ℕ))) (places all : List ℕ) (names : List (List ℕ)) (place : ℕ) → later ≡ found ++ names ∷ [] → place ≡ length found
    → are_placed found places ≡ true → all ≡ places ++ place ∷ [] → picked later all ≡ picked found places ++ names ∷ []
picked_last found later places all names place grown at placed is =
    let last : (place < length later) × (get_or later place [] ≡ names) = search (rules, length-append, get_or-append_seam) in
    (picked_next found later places all place (names ∷ [], grown) placed last.0 is).1 ∙ ap (λ x. picked found places ++ x ∷ []) last.1
