-- The actions of lines, from a place on.
use Rattle.ks_commands.proofs.Prelude.{◌≡◌, ◌∙◌, ◌<◌, ◌+◌, ℕ, true, false, List, [], ◌∷◌, ◌++◌, Option, Some, None, IsSome, take, Result, Ok, Err, map, drop, length, get_or, refl, ap, subst, sym, arith, drop-cons, append_assoc, bytes_eq, true≢false, All, map-append, map_more, take_more, All-append, All-cons, All-nil, All-weaker, bytes_decides, Files, SameBut, content, none_some, some_same, EngineError, Action, followed, and_then, Line, given, AreGiven, AreKept, IsKept, action_at, actions_at, line_of, without_files, common_steps, rules}
use Rattle.std.specs.FinMap as map_of
use Rattle.ks_engine.specs.Actions as asked
use Rattle.ks_engine.specs.Recorded.{no_options}
use Rattle.ks_requests.specs.Script.{Sync, Record, Stale}
use Rattle.ks_requests.specs.Inputs.{Texts}

-- actions in front of an answer
abbrev pub following : List Action → Result (List Action) EngineError → Result (List Action) EngineError
following front (Ok actions) = Ok (front ++ actions)
following front (Err e) = Err e

after_next : (front : List Action) (a : Action) (rest : Result (List Action) EngineError) → following front (followed (Ok a) rest) ≡ following (front ++ a ∷ []) rest
after_next front a (Ok actions) = ap (λ l. Ok l) (sym (append_assoc front (a ∷ []) actions))
after_next front a (Err e) = refl

lines_from : {X : Type 0} (files : Files) (f : X → Line) (xs : List X) (i : ℕ) (d : X) → i < length xs
    → actions_at files (map f (drop i xs)) ≡ followed (action_at files (f (get_or xs i d))) (actions_at files (map f (drop (i + 1) xs)))
lines_from files f xs i d within = search (rules, drop-cons)

pub actions_next : {X : Type 0} (files : Files) (f : X → Line) (xs : List X) (i : ℕ) (d : X) (front : List Action) (a : Action)
    (all : Result (List Action) EngineError)
    → i < length xs → action_at files (f (get_or xs i d)) ≡ Ok a → following front (actions_at files (map f (drop i xs))) ≡ all
    → following (front ++ a ∷ []) (actions_at files (map f (drop (i + 1) xs))) ≡ all
actions_next files f xs i d front a all within is before = grind (arith, common_steps, after_next, lines_from)

-- the same of what the lines say without files
pub spelled_next : {X : Type 0} (f : X → Line) (xs : List X) (i : ℕ) (d : X) (front : List Action) (a : Action) → i < length xs
    → line_of a ≡ without_files (f (get_or xs i d)) → map line_of front ≡ map without_files (map f (take i xs))
    → map line_of (front ++ a ∷ []) ≡ map without_files (map f (take (i + 1) xs))
spelled_next f xs i d front a within is before = grind (arith, common_steps, map-append, map_more)

pub actions_begin : (all : Result (List Action) EngineError) → following [] all ≡ all
actions_begin (Ok actions) = refl
actions_begin (Err e) = refl

-- ---- what is kept, and one file more

some_of : (o : Option (List ℕ)) → IsSome o → (b : List ℕ) × (o ≡ Some b)
some_of None is = absurd cc
some_of (Some b) is = (b, refl)

-- where it stands, or elsewhere
beside : (p q : List ℕ) (old new : Files) (P : Option (List ℕ) → Type 0) → SameBut p old new → (q ≡ p → P (content new q)) → (P (content old q))
    → P (content new q)
beside p q old new P others here there = (elim (bytes_eq p q) as (λ b. bytes_eq p q ≡ b → P (content new q)) [
  | true ↦ λ t. here (sym ((bytes_decides p q).0 t))
  | false ↦ λ f. subst P (sym (others q (λ e. true≢false (sym ((bytes_decides p q).1 (sym e)) ∙ f)))) there
]) refl

pub given_more : (files old new : Files) (p b : List ℕ) → given files p ≡ Ok b → content new p ≡ Some b → SameBut p old new → AreGiven files old
    → AreGiven files new
given_more files old new p b is at others are = λ q bytes.
    beside p q old new (λ o. o ≡ Some bytes → given files q ≡ Ok bytes) others
    (λ same found. ap (given files) same ∙ is ∙ ap (λ x. Ok x) (some_same (content new p) b bytes at (ap (content new) (sym same) ∙ found)))
    (are q bytes)

abbrev two : List ℕ → List ℕ → Texts
two kconfig dotconfig = record { kconfig = kconfig; dotconfig = dotconfig }

abbrev asked_of : Result Texts EngineError → Result Action EngineError
asked_of texts = and_then texts (λ t. Ok (asked.Sync t.kconfig t.dotconfig))

sync_action : (files : Files) (k d a b : List ℕ) → given files k ≡ Ok a → given files d ≡ Ok b → action_at files (Sync k d) ≡ Ok (asked.Sync a b)
sync_action files k d a b first second = search rules

-- the action of a line whose files are kept
pub kept_action : (files kept : Files) (line : Line) → AreGiven files kept → AreKept kept line → (a : Action) × (action_at files line ≡ Ok a)
kept_action files kept (Sync k d) given are =
    let has_k = some_of _ are.0 in
    let has_d = some_of _ are.1 in
    (asked.Sync has_k.0 has_d.0, sync_action files k d has_k.0 has_d.0 (given k has_k.0 has_k.1) (given d has_d.0 has_d.1))
kept_action files kept (Record d t c) given are = (asked.Record no_options d t c, refl)
kept_action files kept (Stale t) given are = (asked.Stale t, refl)

are_more : (old new : Files) → ((q : List ℕ) → IsKept old q → IsKept new q) → (line : Line) → AreKept old line → AreKept new line
are_more old new grows (Sync k d) are = (grows k are.0, grows d are.1)
are_more old new grows line are = are

-- the lines up to a place, and the one there
pub kept_next : {X : Type 0} (f : X → Line) (old new : Files) (xs : List X) (i : ℕ) (d : X) → i < length xs → ((q : List ℕ) → IsKept old q → IsKept new q)
    → All (λ y. AreKept old (f y)) (take i xs) → AreKept new (f (get_or xs i d)) → All (λ y. AreKept new (f y)) (take (i + 1) xs)
kept_next f old new xs i d within grows are is =
    subst (All (λ y. AreKept new (f y))) (sym (take_more xs i d within))
    (All-append (λ y. AreKept new (f y)) (take i xs) (get_or xs i d ∷ [])
    (All-weaker (λ y. AreKept old (f y)) (λ y. AreKept new (f y)) (λ y. are_more old new grows (f y)) (take i xs) are)
    (All-cons (λ y. AreKept new (f y)) (get_or xs i d) [] is (All-nil (λ y. AreKept new (f y)))))

pub none_kept : (files kept : Files) → kept ≡ map_of.empty → AreGiven files kept
none_kept files kept is = λ path bytes at. absurd (none_some (content kept path) bytes (ap (λ f. content f path) is ∙ map_of.get-empty _ path) at)
