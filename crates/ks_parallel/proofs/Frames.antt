-- A record goes by the files at the paths that it reads.
use Rattle.ks_parallel.proofs.Prelude.{◌≡◌, ◌≢◌, ◌⊎◌, inl, inr, ⊎_elim, ℕ, List, [], ◌∷◌, true, false, Option, Some, None, Result, Ok, Err, sym, ◌∙◌, ap, refl, subst, map, cases_Bool, both_ways, or_left, or_right, or_cases, bytes_eq-Decides, is_in, is_name, IsTrue, DepError, Role, ScanRules, rules_for, Conventions, Files, content, kept_or, auto_path, command_path, command_temporary, stamp_path, temporary, EngineError, and_then, args, listed_unless, scanned_all, record_plan_under, IsRecordedUnder, RuleLeaves, legal_names, RecordsGoByWhatTheyRead, RecordsWriteTwoPaths, DepfilesWriteTheirPaths, IsMadeStamp, is_stamp_of, rules}
use Rattle.ks_engine.specs.declared.recording.Recorded.{Recorded}
use Rattle.ks_engine.specs.Places.{depfile_at, legal_place}
use Rattle.ks_engine.specs.Recorded.{recorded_at}
use Rattle.ks_engine.proofs.DepfileLemmas.{placed_some}
use Rattle.ks_engine.specs.Recording.{listed_without}
use Rattle.ks_parallel.proofs.Stamping.{is_stamp}

same_scans : (r : ScanRules) (f g : Files) (ps : List (List ℕ × Role)) → ((q : List ℕ) → is_in (map (λ p. p.0) ps) q ≡ true → content g q ≡ content f q)
    → scanned_all r g ps ≡ scanned_all r f ps
unfolding scanned_all
same_scans r f g [] same = refl
same_scans r f g (p ∷ ps) same = search (rules, or_left, or_right, bytes_eq-Decides, (same_scans r f g ps))

-- the next steps, where they come to the same after what the first one gave
then_same : {A B : Type 0} (step : Result A EngineError) (next after : A → Result B EngineError) → ((x : A) → step ≡ Ok x → next x ≡ after x)
    → and_then step next ≡ and_then step after
then_same (Ok x) next after same = same x refl
then_same (Err e) next after same = refl

pub prerequisites_of : (refusal : Option DepError) (all ps : List (List ℕ × Role)) → listed_unless refusal all ≡ Ok ps → ps ≡ all
prerequisites_of None all ps e = cc
prerequisites_of (Some bad) all ps e = absurd cc

pub records_go_by_what_they_read : RecordsGoByWhatTheyRead
unfolding record_plan_under
records_go_by_what_they_read by f g d t c same =
    let depfile : content g d ≡ content f d = search (rules, or_left, bytes_eq-Decides) in
    let auto : content g auto_path ≡ content f auto_path = search (rules, or_left, or_right, bytes_eq-Decides) in
    then_same (args d t c) _ _ (λ _ _.
    then_same (legal_place by.options) _ _ (λ _ _.
    rw (depfile, auto) (then_same (depfile_at by.options d (content f d)) _ _ (λ text at.
    then_same (listed_without by.header text) _ _ (λ ps is.
    then_same (recorded_at by.options.before_sync (content f auto_path)) _ _ (λ n _.
    let scans = same_scans (rules_for by.dialect t) f g ps in
    let was = placed_some by.options d (content f d) text at in
    search (rules, scans, or_right, was.1, was.2, (prerequisites_of _ _ ps is))))))))

pub records_write_two_paths : RecordsWriteTwoPaths
records_write_two_paths conventions old new d t c (Ok answer) is = is.others
records_write_two_paths conventions old new d t c (Err e) is = search rules

-- ---- the paths of a record that goes by its dependency file

-- the name whose stamp is here
find_stamp : (names : List (List ℕ)) (q : List ℕ) → is_stamp_of names q ≡ true → (x : List ℕ) × (is_in names x ≡ true) × (q ≡ stamp_path x)
find_stamp [] q is = absurd cc
find_stamp (y ∷ ys) q is = ⊎_elim
    (λ here. (y, or_left _ _ ((bytes_eq-Decides y y).1 refl), sym ((bytes_eq-Decides (stamp_path y) q).0 here)))
    (λ later. let found = find_stamp ys q later in (found.0, or_right _ _ found.1, found.2))
    (or_cases _ _ is)

-- a path at which no stamp stands
no_stamp : (names : List (List ℕ)) (q : List ℕ) → is_stamp_of names q ≡ false → (x : List ℕ) → is_in names x ≡ true → q ≢ stamp_path x
no_stamp names q none x among = λ same. both_ways _ none (subst (λ q. is_stamp_of names q ≡ true) (sym same) (is_stamp names x among))

kept_or_made : (old new : Option (List ℕ)) → new ≡ Some (kept_or old []) → (new ≡ old) ⊎ ((old ≡ None) × (new ≡ Some []))
kept_or_made None new made = inr (refl, made)
kept_or_made (Some b) new made = inl made

-- after the record
rule_writes : (between new : Files) (d : List ℕ) (names : List (List ℕ)) (text : List ℕ) (made : List (List ℕ))
    → ((x : List ℕ) → is_in names x ≡ true → IsTrue (is_name x)) → RuleLeaves between new d names text made → (q : List ℕ) → q ≢ d → q ≢ temporary d
    → (content new q ≡ content between q) ⊎ IsMadeStamp between new q
rule_writes between new d names text made legal is q not_d not_t = ⊎_elim
    (λ stamp. let of_name = find_stamp made q stamp in
    ⊎_elim inl (λ fresh. inr (of_name.0, legal of_name.0 (is.within of_name.0 of_name.1), of_name.2, fresh.0, fresh.1))
    (kept_or_made (content between q) (content new q)
    (subst (λ q. content new q ≡ Some (kept_or (content between q) [])) (sym of_name.2) (is.stamps of_name.0 of_name.1))))
    (λ none. inl (is.others q (no_stamp made q none) not_d not_t))
    (cases_Bool (is_stamp_of made q))

-- the record and what comes after it
both_write : (by : Conventions) (old between new : Files) (d t c : List ℕ) (answer : Recorded) (text : List ℕ) (made : List (List ℕ))
    (is : IsRecordedUnder by old between d t c answer) → RuleLeaves between new d is.plan.names text made → (q : List ℕ) → q ≢ command_path t → q ≢ command_temporary t → q ≢ d
    → q ≢ temporary d → (content new q ≡ content old q) ⊎ IsMadeStamp old new q
both_write by old between new d t c answer text made is leaves q not_command not_temporary not_d not_t =
    let same = is.others q not_temporary not_command in ⊎_elim
    (λ kept. inl (kept ∙ same))
    (λ stamp. inr (stamp.0, stamp.1, stamp.2, sym same ∙ stamp.3, stamp.4))
    (rule_writes between new d is.plan.names text made (legal_names by old d t c is.plan is.planned) leaves q not_d not_t)

pub depfiles_write_their_paths : DepfilesWriteTheirPaths
depfiles_write_their_paths by old new d t c (Ok answer) is q not_command not_temporary not_d not_t =
    both_write by old is.between new d t c answer _ _ is.recorded is.rule.leaves q not_command not_temporary not_d not_t
depfiles_write_their_paths by old new d t c (Err e) (inl own) q not_command not_temporary not_d not_t = inl (ap (λ f. content f q) own.2)
depfiles_write_their_paths by old new d t c (Err e) (inr (inl (free, inl plain))) q not_command not_temporary not_d not_t = inl (ap (λ f. content f q) plain.1)
depfiles_write_their_paths by old new d t c (Err e) (inr (inl (free, inr (given, inl same)))) q not_command not_temporary not_d not_t =
    inl (ap (λ f. content f q) same)
depfiles_write_their_paths by old new d t c (Err e) (inr (inl (free, inr (given, inr tried)))) q not_command not_temporary not_d not_t =
    inl (tried.others q not_temporary not_command)
depfiles_write_their_paths by old new d t c (Err e) (inr (inr (given, broken))) q not_command not_temporary not_d not_t =
    both_write by old broken.between new d t c broken.answer _ broken.rule.0 broken.recorded broken.rule.1 q not_command not_temporary not_d not_t
