-- Why an object is stale: what a shown tree gives of a recorded object, and that places are first.
use Rattle.ks_engine.proofs.Prelude.{map, ◌≡◌, ◌⊎◌, inl, inr, ℕ, List, [], ◌∷◌, ◌++◌, Some, Result, Ok, Err, true, false, nat_lt, ◌∙◌, ap, refl, subst, get_or, append-nil, bytes_eq, filter, not, All, list_all, list_any, cond-false, cond-true, not-true, All-nil, All-head, All-tail, All-append, All-map, All-same, All-filter, filter_passes, list_any-append, list_any_at, bytes_eq-Decides, is_in, Dep, Config, Role, all_noted, noted, new_names, deps_after, source_of, record_of, Files, EngineError, Cause, Explanation, IsAbortedAnswer, History, LastRecord, done, last_record, found, suspect_since, Shows, stamp, placed, names_placed, cause, IsByStamps, IsExplained, listed, IsExplanationEvaluated, first_with, listed_last, is_listed, last_path, length, PlacesAreFirst, PlacesAreTheirs, rules, arith, common_steps, cond_both, All-push}
use Rattle.ks_fixdep.specs.declared.dependency_file.Role.TheVariants as role
use Rattle.ks_engine.specs.declared.query.Limit.TheVariants.{All as Every}
use Rattle.ks_engine.proofs.Querying.{asked_shown, by_stamps, aborted_reported, evaluates, of_record, same_on}
use Rattle.ks_engine.proofs.Heart.{suspect_since-lt}
use Rattle.ks_engine.proofs.Listing.{listed_by, listed_next}

-- ---- what a shown tree tells of a recorded object

names_listed : (number : List ℕ → ℕ) (g : ℕ) (ps : List (List ℕ × List ℕ)) → map (λ c. c.name) (listed_by number g ps)
    ≡ filter (λ x. nat_lt g (number x)) (map (λ p. p.0) ps)
names_listed number g [] = refl
names_listed number g (p ∷ ps) = search (rules, listed_next, listed_by, (names_listed number g ps))

-- by the stamps that a history has
listed_shown : (files : Files) (h : History) (o : List ℕ) (r : LastRecord) (causes : List Cause) (shows : Shows files h)
    (last : last_record h o ≡ Some r) → IsByStamps Every files (done r.past) (names_placed (shows.commands o r last).2.file) (Ok causes)
    → (map (λ c. c.name) causes ≡ filter (suspect_since h o) (found h o)) × All (λ c. c.generation ≡ stamp h c.name) causes
listed_shown files h o r causes shows last is =
    let g = done r.past in
    let names = names_placed (shows.commands o r last).2.file in
    let (all, same, (seen, left, stands, listed, none)) = by_stamps Every files (stamp h) g names (Ok causes) (of_record files h o r shows last).stamps is in
    let are : causes ≡ listed_by (stamp h) g names = rw (stands, none, append-nil seen) cc in
    let suspects = (same_on _ (suspect_since h o) r.names (λ x among. grind (arith, (suspect_since-lt h o r x shows.history last)))).1 in (
      rw (are, names_listed (stamp h) g names, (of_record files h o r shows last).names, last) suspects,
      rw are (All-map (λ c. c.generation ≡ stamp h c.name) (cause (stamp h)) (filter (λ p. nat_lt g (stamp h p.0)) names) (λ k d within. refl)),
    )

pub explanation_evaluated : (files : Files) (h : History) (o : List ℕ) (r : LastRecord) (answer : Result Explanation EngineError)
    → IsAbortedAnswer answer ⊎ IsExplained Every files o answer → Shows files h → last_record h o ≡ Some r → IsExplanationEvaluated files h o r answer
explanation_evaluated files h o r answer (inl given) shows last = search (rules, evaluates, aborted_reported)
explanation_evaluated files h o r (Err e) (inr is) shows last =
    let by = rw (asked_shown files h o r shows last) at is in
    record { evaluated = evaluates Every files h o r (Err e) shows last (inr (Err e, by.0, by.1)); suspects = tt; numbers = tt }
explanation_evaluated files h o r (Ok e) (inr is) shows last =
    let by = rw (asked_shown files h o r shows last) at is in
    let listed = listed_shown files h o r e.causes.items shows last by.0 in
    record { evaluated = evaluates Every files h o r (Ok e.verdict) shows last (inr (Ok e.causes.items, by.0, by.1)); suspects = listed.0; numbers = listed.1 }

-- ---- places are first

-- a name that is not noted is in neither list
not_noted : (y : List ℕ) (before names : List (List ℕ)) → is_in (all_noted before names) y ≡ false → (is_in before y ≡ false) × (is_in names y ≡ false)
not_noted y before [] none = (none, refl)
not_noted y before (x ∷ names) none = grind (arith, common_steps, list_any-append, bytes_eq-Decides, (not_noted y (noted before x) names none))

-- where the names stand after these paths
abbrev IsFirst : List (List ℕ) → List (List (List ℕ)) → List (List ℕ) → List ℕ × List ℕ → Type 0
IsFirst paths lists before p = (first_with p.0 paths lists ≡ Some p.1) × (is_in before p.0 ≡ false)

of_configs : (place : List ℕ) (xs : List (List ℕ)) (deps : List Dep) → placed place (map Config xs ++ deps) ≡ map (λ x. (x, place)) xs ++ placed place deps
of_configs place [] deps = refl
of_configs place (x ∷ xs) deps = ap (λ l. (x, place) ∷ l) (of_configs place xs deps)

-- what holds of names and of those before them holds of all that are noted
all_noted_among : (P : List ℕ → Type 0) (before names : List (List ℕ)) → All P before → All P names → All P (all_noted before names)
all_noted_among P before [] first second = first
all_noted_among P before (x ∷ names) first second = all_noted_among P (noted before x) names
    (cond_both (list_any (bytes_eq x) before) _ _ (All P) (λ t. first) (λ f. All-push P before x first (All-head P x names second))) (All-tail P x names second)

-- the names of one prerequisite, and those of the prerequisites after it
first_next : (place : List ℕ) (paths before names : List (List ℕ)) (lists : List (List (List ℕ))) (deps : List Dep)
    → All (IsFirst paths lists (all_noted before names)) (placed place deps)
    → All (IsFirst (place ∷ paths) (names ∷ lists) before) (placed place (map Config (new_names before names) ++ deps))
first_next place paths before names lists deps rest =
    let P = IsFirst (place ∷ paths) (names ∷ lists) before in
    let new = new_names before names in
    All-same P _ _ (of_configs place new deps) (All-append P (map (λ x. (x, place)) new) (placed place deps)
    (All-map P (λ x. (x, place)) new own)
    (λ k d lt. let is = rest k d lt in let out = not_noted (get_or (placed place deps) k d).0 before names is.1 in (cond-false _ _ _ out.1 ∙ is.0, out.0)))
  where
    own : All (λ x. IsFirst (place ∷ paths) (names ∷ lists) before (x, place)) (new_names before names)
    own =
        let P = λ (x : List ℕ). is_in names x ≡ true in
        let among : All P names = λ k d lt. list_any_at (bytes_eq (get_or names k d)) names k d lt ((bytes_eq-Decides (get_or names k d)
        (get_or names k d)).1 refl) in
        λ k d within. (
          cond-true _ _ _ (All-filter (λ x. not (list_any (bytes_eq x) before)) P (all_noted [] names) (all_noted_among P [] names
              (All-nil P) among) k d within),
          not-true _ (filter_passes (λ x. not (list_any (bytes_eq x) before)) (all_noted [] names) k d within),
        )

first_after : (place : List ℕ) (before : List (List ℕ)) (ps : List (List ℕ × Role)) (lists : List (List (List ℕ)))
    → All (IsFirst (listed_last place ps lists) lists before) (placed place (deps_after before ps lists))
first_after place before ps [] = All-nil _
first_after place before [] (names ∷ lists) = search (rules, first_next, (first_after place (all_noted before names) [] lists))
first_after place before ((path, role.Listed) ∷ ps) (names ∷ lists) = search (rules, first_next, (first_after path (all_noted before names) ps lists))
first_after place before ((path, role.Source) ∷ ps) (names ∷ lists) = search (rules, first_next, (first_after place (all_noted before names) ps lists))
first_after place before ((path, role.Scanned) ∷ ps) (names ∷ lists) = search (rules, first_next, (first_after place (all_noted before names) ps lists))

pub places_first : PlacesAreFirst
places_first target command ps names = λ k d within. (first_after (source_of ps) [] ps names k d within).0

past_all : (place : List ℕ) (past : List (List (List ℕ))) → listed_last place [] past ≡ map (λ _. place) past
past_all place [] = refl
past_all place (names ∷ past) = ap (λ l. place ∷ l) (past_all place past)

all_listed : (before : List ℕ × Role) (ps : List (List ℕ × Role)) (names past : List (List (List ℕ))) → list_all is_listed ps ≡ true → length names ≡ length ps
    → listed_last before.0 ps (names ++ past) ≡ map (λ q. q.0) ps ++ map (λ _. last_path before ps) past
all_listed before [] [] past are each = past_all before.0 past
all_listed before (p ∷ ps) (x ∷ names) past are each = grind (arith, common_steps, (all_listed p ps names past))
all_listed before [] (x ∷ names) past are each = absurd cc
all_listed before (p ∷ ps) [] past are each = absurd cc

after_source : (source : List ℕ × Role) (ps : List (List ℕ × Role)) (names past : List (List (List ℕ))) → list_all is_listed ps ≡ true
    → length names ≡ length (source ∷ ps)
    → listed_last source.0 (source ∷ ps) (names ++ past) ≡ map (λ q. q.0) (source ∷ ps) ++ map (λ _. last_path source ps) past
after_source source ps [] past are each = absurd cc
after_source source ps (x ∷ names) past are each = grind (arith, common_steps, (all_listed source ps names past))

pub places_theirs : PlacesAreTheirs
places_theirs target command source ps names past are each =
    subst (λ paths. All (λ p. first_with p.0 paths (names ++ past) ≡ Some p.1) (names_placed (record_of target command (source ∷ ps) (names ++ past))))
    (after_source source ps names past are each) (places_first target command (source ∷ ps) (names ++ past))
