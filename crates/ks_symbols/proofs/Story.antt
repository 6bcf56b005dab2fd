-- Line by line, a reader of Kconfig finds what the whole text means.
use Rattle.ks_symbols.proofs.Prelude.{◌≡◌, ℕ, ◌+◌, ◌≤◌, length, arith, Bool, cond, List, [], ◌∷◌, ◌++◌, reverse, Option, Some, None, option_map, unwrap_or, codes, bytes_eq, refl, sym, ◌∙◌, append_assoc, append-nil, filter, list_any, reverse_onto, SourceError, or_else, cond-true, cond-false, nat_tests, LineKind, says, opens, entry_of, declarations, kind_in, title_in, lacks_kind, line_kind_fault, goes_on, first_line_kind_fault, story, line_kinds, kconfig_refusal, KconfigText, Declared, Progress, no_progress, progress_after, waiting_fault, step_fault, last_kind, rules, cases_Bool}
use Rattle.std.specs.List.{find}
use Rattle.ks_symbols.specs.declared.error.SourceError.TheVariants as fault

pub last_kind-push : (ds : List Declared) (d : Declared) (x : List ℕ) → last_kind (ds ++ d ∷ []) x ≡ cond (bytes_eq x d.0) (Some d.1.0) (last_kind ds x)
unfolding last_kind
last_kind-push [] d x = refl
last_kind-push (e ∷ ds) d x = search (rules, cases_Bool, cond-true, cond-false, (last_kind-push ds d x))

-- the reader stands where the story so far leads
pub record Matches (s : Progress) (stated : List LineKind) : Type 0 where
  pub kinds : (x : List ℕ) → last_kind s.declared x ≡ kind_in stated x
  pub started : s.started ≡ list_any opens stated
  pub title : unwrap_or s.title (codes "Main menu") ≡ title_in stated
  pub waiting : option_map (λ w. w.1) s.waiting ≡ entry_of stated

pub matches_start : Matches no_progress []
unfolding declarations title_in last_kind
matches_start = record { kinds = λ x. refl; started = refl; title = refl; waiting = refl }

-- what is wrong with an entry that waits, by the form that comes next
abbrev pub lacking : Option (ℕ × List ℕ) → Option LineKind → Option SourceError
lacking None next = None
lacking (Some w) next = cond (lacks_kind next) (Some (fault.NoType w.0)) None

abbrev made : List Declared → Option (List ℕ) → Bool → Option (ℕ × List ℕ) → Progress
made kinds title started waiting = record { declared = kinds; title = title; started = started; waiting = waiting }

-- a step finds the faults of its line, and those of an entry for which the line comes next
step_agrees : (kinds : List Declared) (title : Option (List ℕ)) (started : Bool) (waiting : Option (ℕ × List ℕ)) (stated : List LineKind)
    → Matches (made kinds title started waiting) stated → (n : ℕ) (f : LineKind) (later : List LineKind) (R : Option SourceError)
    → or_else (lacking waiting (find says (f ∷ later))) (or_else (line_kind_fault n stated f later) R)
    ≡ or_else (step_fault (last_kind kinds) (made kinds title started waiting) n f)
    (or_else (lacking (progress_after (made kinds title started waiting) n f).waiting (find says later)) R)
step_agrees kinds title started waiting stated m n f later R = grind (arith, m.waiting)

-- and after a step with no fault the reader stands where the longer story leads
step_matches : (kinds : List Declared) (title : Option (List ℕ)) (started : Bool) (waiting : Option (ℕ × List ℕ)) (stated : List LineKind)
    → Matches (made kinds title started waiting) stated → (n : ℕ) (f : LineKind) → step_fault (last_kind kinds) (made kinds title started waiting) n f ≡ None
    → Matches (progress_after (made kinds title started waiting) n f) (goes_on f stated)
unfolding declarations title_in
step_matches kinds title started waiting stated m n f e = search (rules, last_kind-push)

-- the reader over all lines
unfoldable pub run_fault : Progress → ℕ → List LineKind → Option SourceError
run_fault s n [] = waiting_fault s.waiting
run_fault s n (f ∷ later) = or_else (step_fault (last_kind s.declared) s n f) (run_fault (progress_after s n f) (n + 1) later)

unfoldable pub run_end : Progress → ℕ → List LineKind → Progress
run_end s n [] = s
run_end s n (f ∷ later) = run_end (progress_after s n f) (n + 1) later

pub run_fault-cons : (s : Progress) (n : ℕ) (f : LineKind) (later : List LineKind) → run_fault s n (f ∷ later)
    ≡ or_else (step_fault (last_kind s.declared) s n f) (run_fault (progress_after s n f) (n + 1) later)
unfolding run_fault
run_fault-cons s n f later = refl

pub run_end-cons : (s : Progress) (n : ℕ) (f : LineKind) (later : List LineKind) → run_end s n (f ∷ later) ≡ run_end (progress_after s n f) (n + 1) later
unfolding run_end
run_end-cons s n f later = refl

same_after : {E : Type 0} (o a b : Option E) → (o ≡ None → a ≡ b) → or_else o a ≡ or_else o b
same_after None a b h = h refl
same_after (Some x) a b h = refl

-- it refuses what the definition refuses
pub run_agrees : (s : Progress) (stated : List LineKind) → Matches s stated → (n : ℕ) (line_kinds : List LineKind)
    → run_fault s n line_kinds ≡ or_else (lacking s.waiting (find says line_kinds)) (first_line_kind_fault n stated line_kinds)
unfolding run_fault first_line_kind_fault
run_agrees s stated m n [] = grind arith
run_agrees s stated m n (f ∷ later) =
    same_after (step_fault (last_kind s.declared) s n f) _ _
    (λ none. run_agrees (progress_after s n f) (goes_on f stated) (step_matches s.declared s.title s.started s.waiting stated m n f none) (n + 1) later)
    ∙ sym (step_agrees s.declared s.title s.started s.waiting stated m n f later _)

pub none_both : (a b : Option SourceError) → or_else a b ≡ None → (a ≡ None) × (b ≡ None)
none_both a b e = grind arith

-- a story that goes on over forms
unfoldable pub story_after : List LineKind → List LineKind → List LineKind
story_after stated [] = stated
story_after stated (f ∷ later) = story_after (goes_on f stated) later

-- and where it refuses nothing it ends where the whole story leads
pub run_matches : (s : Progress) (stated : List LineKind) → Matches s stated → (n : ℕ) (line_kinds : List LineKind) → run_fault s n line_kinds ≡ None
    → Matches (run_end s n line_kinds) (story_after stated line_kinds)
unfolding run_fault run_end story_after
run_matches s stated m n [] e = m
run_matches s stated m n (f ∷ later) e = let parts = none_both _ _ e in
    run_matches (progress_after s n f) (goes_on f stated) (step_matches s.declared s.title s.started s.waiting stated m n f parts.0) (n + 1) later parts.1

pub story_is : (stated line_kinds : List LineKind) → story_after stated line_kinds ≡ reverse (filter says line_kinds) ++ stated
unfolding story_after
story_is stated [] = refl
story_is stated (f ∷ later) = search (rules, cases_Bool, cond-true, cond-false, reverse_onto, append_assoc, append-nil, (story_is (goes_on f stated) later))

-- a reader that has read all lines of a text, and refuses nothing, stands where the story of the text leads
pub read_all : (text : KconfigText) (s : Progress) (n : ℕ) (rest : List LineKind) (o : Option SourceError) → rest ≡ []
    → run_end s n rest ≡ run_end no_progress 1 (line_kinds text) → o ≡ None → or_else o (run_fault s n rest) ≡ run_fault no_progress 1 (line_kinds text)
    → waiting_fault s.waiting ≡ None → Matches s (story text)
unfolding run_end run_fault
read_all text s n rest o empty ends clear fault none =
    let accepted : run_fault no_progress 1 (line_kinds text) ≡ None = cc in
    let there : run_end s n [] ≡ run_end no_progress 1 (line_kinds text) = cc in
    search (rules, (run_matches no_progress [] matches_start 1 (line_kinds text) accepted), there, story_is, append-nil)

pub found : (text : KconfigText) → length text.text ≤ 67108864 → kconfig_refusal text ≡ run_fault no_progress 1 (line_kinds text)
unfolding kconfig_refusal
found text small = search (rules, cond-false, nat_tests, run_agrees, matches_start)
