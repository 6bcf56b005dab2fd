-- What the files answer of an object, and what a shown tree answers of a recorded one.
use Rattle.ks_engine.proofs.Prelude.{⊎_map, All-take, map, ◌≡◌, ◌⊎◌, inl, inr, ℕ, ◌+◌, ◌<◌, List, [], ◌∷◌, ◌++◌, Option, Some, None, Result, Ok, Err, Bool, true, false, nat_lt, sym, ◌∙◌, ap, refl, subst, arith, append-nil, length, get_or, drop, drop-cons, bytes_eq, find, IsTrue, All, list_all, le-ltb, cond-false, cond-true, and_parts, ne_eqb, or_right, get_or-map, length-map, All-nil, All-cons, All-head, All-tail, bytes_eq-Decides, is_name, is_target, is_in, Dep, File, Config, BorrowedDep, seen_dep, CommandRecord, IsLegal, is_command, is_dep, config_names, Files, content, auto_path, stamp_path, command_path, HasNumber, EngineError, BadPath, BadCommand, Explanation, Limit, First, Query, Verdict, Fresh, BuildState, IsAborted, IsAbortedAnswer, History, LastRecord, done, last_record, found, suspect_since, first_suspect, verdict, Shows, stamp, last_generation, placed, names_placed, AreEnough, EndsAt, IsByStamps, Asked, AtOnce, ByStamps, asked, asked_since, asked_of, command_file, reported, listed, verdict_by, IsAnswer, IsExplainedBy, IsExplained, BuildAsked, Asks, build_asked, build_asked_of, evaluated, IsBuildState, HasSameDefinitions, IsEvaluated, IsBuildEvaluated, IsSeen, take, take-append-drop, Cause, common_steps, rules, filter}
use Rattle.std.specs.Prelude.{IfOk}
use Rattle.ks_tree.proofs.StampLemmas.{number_short}
use Rattle.ks_engine.specs.declared.query.Limit.TheVariants.{All as Every}
use Rattle.ks_engine.proofs.Heart.{suspect_since-lt, suspect_since-changed_since, synced-lt, recorded_synced}
use Rattle.ks_engine.proofs.Headers.{same_definitions}
use Rattle.ks_engine.proofs.Listing.{Held, listed_by, listed_same, verdict_found, verdict_enough, up_to_first}
use Rattle.ks_engine.proofs.LowerLaws.{read_fits}
use Rattle.ks_engine.proofs.Steps.{auto_read}

-- ---- the steps of a question

asked_read : (files : Files) (o : List ℕ) (given : Option (List ℕ)) (r : Result (Option CommandRecord) EngineError) → true ≡ is_target o
    → content files (command_path o) ≡ given → command_file o given ≡ r → asked files o ≡ asked_of files r
unfolding asked
asked_read files o given r legal at read = rw (← legal, at, read)

pub explained_illegal : (limit : Limit) (files : Files) (o : List ℕ) → false ≡ is_target o → IsExplained limit files o (Err (BadPath 0))
unfolding asked
explained_illegal limit files o bad = rw (← bad) (refl, tt)

pub explained_read : (limit : Limit) (files : Files) (o : List ℕ) (given : Option (List ℕ)) (r : Result (Option CommandRecord) EngineError)
    (answer : Result Explanation EngineError) → true ≡ is_target o → content files (command_path o) ≡ given → command_file o given ≡ r
    → IsExplainedBy limit files (asked_of files r) answer → IsExplained limit files o answer
explained_read limit files o given r answer legal at read is = rw (asked_read files o given r legal at read) is

pub explain_refused : (limit : Limit) (files : Files) (o : List ℕ) (e : EngineError) → true ≡ is_target o
    → IsAborted e ⊎ (command_file o (content files (command_path o)) ≡ Err e) → IsAborted e ⊎ IsExplained limit files o (Err e)
explain_refused limit files o e legal = ⊎_map (λ given. given) (λ bad. explained_read limit files o _ (Err e) (Err e) legal refl bad (refl, tt))

pub explain_evaluated : {P : Type 0} (limit : Limit) (files : Files) (o : List ℕ) (given : Option (List ℕ)) (file : CommandRecord)
    (answer : Result Explanation EngineError) → true ≡ is_target o → content files (command_path o) ≡ given → command_file o given ≡ Ok (Some file)
    → P ⊎ IsExplainedBy limit files (asked_since files (names_placed file) file.generation) answer → P ⊎ IsExplained limit files o answer
explain_evaluated limit files o given file answer legal at read = ⊎_map (λ given. given) (explained_read limit files o given (Ok (Some file)) answer legal at read)

pub refused_at : (o : List ℕ) (file given : Option (List ℕ)) (e : EngineError) → file ≡ given → IsAborted e ⊎ (command_file o given ≡ Err e)
    → IsAborted e ⊎ (command_file o file ≡ Err e)
refused_at o file given e at = rw at (λ bad. bad)

-- a command file that is read is legal
pub read_legal : (o b : List ℕ) (file : CommandRecord) → command_file o (Some b) ≡ Ok (Some file) → IsLegal file
read_legal o b file read = (read_fits b file (grind arith)).legal

-- files that were only read are seen the same, and command files are as they are
pub still_seen : (q : Query) (files mid after : Files) → mid ≡ files → IsSeen q files after → IsSeen q mid after
still_seen q files mid after same seen = rw same seen

pub command_seen : (q : Query) (files after : Files) (o : List ℕ) → IsSeen q files after → content after (command_path o) ≡ content files (command_path o)
command_seen q files after o seen = grind arith

-- ---- the steps of a question about a command

pub build_illegal : (files : Files) (o command : List ℕ) → false ≡ is_target o → build_asked files o command ≡ Asks (AtOnce (Err (BadPath 0)))
unfolding build_asked
build_illegal files o command bad = rw (← bad)

pub build_bad_command : (files : Files) (o command : List ℕ) → true ≡ is_target o → false ≡ is_command command → build_asked files o command
    ≡ Asks (AtOnce (Err BadCommand))
unfolding build_asked
build_bad_command files o command legal bad = rw (← legal, ← bad)

pub build_read : (files : Files) (o command : List ℕ) (given : Option (List ℕ)) (r : Result (Option CommandRecord) EngineError) → true ≡ is_target o
    → true ≡ is_command command → content files (command_path o) ≡ given → command_file o given ≡ r
    → build_asked files o command ≡ build_asked_of files command r
unfolding build_asked
build_read files o command given r legal word at read = rw (← legal, ← word, at, read)

pub build_as : (files : Files) (a b : BuildAsked) (answer : Result BuildState EngineError) → a ≡ b → IsBuildState files b answer → IsBuildState files a answer
build_as files a b answer same is = rw same is

pub build_refused : (files : Files) (o command : List ℕ) (e : EngineError) → true ≡ is_target o → true ≡ is_command command
    → IsAborted e ⊎ (command_file o (content files (command_path o)) ≡ Err e) → IsAborted e ⊎ IsBuildState files (build_asked files o command) (Err e)
build_refused files o command e legal word
    = ⊎_map (λ given. given) (λ bad. rw (build_read files o command _ _ legal word refl bad) (Err e, refl, refl))

-- where the first cause was looked for, and where all were
pub answered : (files : Files) (q : Asked) (answer : Result Explanation EngineError) → IsExplainedBy First files q answer → IsAnswer files q (reported answer)
answered files (AtOnce known) answer is = is.0
answered files (ByStamps g names) answer is = (listed answer, is.0, is.1)

pub build_evaluates : {P : Type 0} (files : Files) (o command : List ℕ) (given : Option (List ℕ)) (file : CommandRecord) (answer : Result Explanation EngineError)
    → true ≡ is_target o → true ≡ is_command command → content files (command_path o) ≡ given → command_file o given ≡ Ok (Some file)
    → bytes_eq file.command command ≡ true → P ⊎ IsExplainedBy First files (asked_since files (names_placed file) file.generation) answer
    → P ⊎ IsBuildState files (build_asked files o command) (evaluated (reported answer))
build_evaluates files o command given file answer legal word at read same
    = ⊎_map (λ given. given) (λ is. rw (build_read files o command given _ legal word at read, same) (reported answer, answered files _ answer is, refl))

-- ---- the lines that are left

-- the next dependency, and those after it
pub borrowed_next : (deps : List BorrowedDep) (i : ℕ) (d : BorrowedDep) (e : Dep) → i < length deps → d ≡ get_or deps i d → seen_dep d ≡ e
    → drop i (map seen_dep deps) ≡ e ∷ drop (i + 1) (map seen_dep deps)
borrowed_next deps i d e h is here
    = grind (arith, common_steps, (drop-cons (map seen_dep deps) i (seen_dep d)), (get_or-map seen_dep deps i d (seen_dep d) h), (length-map deps seen_dep))

-- ---- the verdict of an explanation

answered_all : (files : Files) (q : Asked) (e : Explanation) → IsExplainedBy Every files q (Ok e) → IsAnswer files q (Ok e.verdict)
answered_all files (AtOnce known) e is = is.0
answered_all files (ByStamps g names) e is =
    let s = is.0 in
    let f = s.are.number in
    let all : s.seen ≡ names = sym (s.stands ∙ ap (λ l. s.seen ++ l) s.ends.1 ∙ append-nil s.seen) in
    let (n, enough) = up_to_first f g names in (
      Ok (listed_by f g (take n names)),
      record {
        seen = take n names;
        left = drop n names;
        stands = sym (take-append-drop n names);
        causes = listed_by f g (take n names);
        are = record { number = f; held = All-take (λ p. HasNumber (content files (stamp_path p.0)) (f p.0)) n names (rw all at s.are.held); above = refl };
        ends = (refl, enough);
      },
      rw (is.1, s.ends.0, s.are.above, all) (ap (λ v. Ok v) (sym (verdict_enough First f g names (take n names) (drop n names) _ (sym
          (take-append-drop n names)) refl enough))),
    )

pub verdict_answered : (files : Files) (o : List ℕ) (answer : Result Explanation EngineError) → IsAbortedAnswer answer ⊎ IsExplained Every files o answer
    → IfOk answer (λ e. IsAnswer files (asked files o) (Ok e.verdict))
verdict_answered files o (Err e) stated = tt
verdict_answered files o (Ok e) (inl given) = absurd given
verdict_answered files o (Ok e) (inr is) = answered_all files (asked files o) e is

pub aborted_reported : (answer : Result Explanation EngineError) → IsAbortedAnswer answer → IsAbortedAnswer (reported answer)
aborted_reported answer given = grind arith

pub reported_answered : (files : Files) (o : List ℕ) (answer : Result Explanation EngineError) → IsAbortedAnswer answer ⊎ IsExplained First files o answer
    → IsAbortedAnswer (reported answer) ⊎ IsAnswer files (asked files o) (reported answer)
reported_answered files o answer = ⊎_map (aborted_reported answer) (answered files (asked files o) answer)

-- ---- what a shown tree answers of a recorded object

-- what holds of each of joined names holds of those of both parts
all_parts : {X : Type 0} (P : X → Type 0) (xs ys : List X) → All P (xs ++ ys) → All P xs × All P ys
all_parts P [] ys all = (All-nil P, all)
all_parts P (x ∷ xs) ys all = let rest = all_parts P xs ys (All-tail P x (xs ++ ys) all) in search (rules, All-cons, All-head)

-- A stamp that has a number is no bad one, so the causes that were looked for are found.
ends_well : (limit : Limit) (files : Files) (f : List ℕ → ℕ) (causes : List Cause) (found : Result (List Cause) EngineError) (left : List (List ℕ × List ℕ))
    → EndsAt limit files causes found left → Held files f left → (found ≡ Ok causes) × AreEnough limit causes left
ends_well limit files f causes (Ok found) left ends held = (ap (λ c. Ok c) ends.0, ends.1)
ends_well limit files f causes (Err e) [] ends held = absurd ends
ends_well limit files f causes (Err e) (p ∷ left) (few, inl bad) held = absurd (bad.0 _ (held 0 p (omega arith)))
ends_well limit files f causes (Err e) (p ∷ left) (few, inr large) held = let has = held 0 p (omega arith) in search (rules, number_short)

-- By the stamps that a history has, the causes are listed, and the verdict is that of the first name above the generation.
pub by_stamps : (limit : Limit) (files : Files) (f : List ℕ → ℕ) (g : ℕ) (names : List (List ℕ × List ℕ)) (found : Result (List Cause) EngineError)
    → Held files f names → IsByStamps limit files g names found
    → (causes : List Cause) × (found ≡ Ok causes)
    × ((seen : List (List ℕ × List ℕ)) × (left : List (List ℕ × List ℕ)) × (names ≡ seen ++ left) × (causes ≡ listed_by f g seen)
    × AreEnough limit causes left)
by_stamps limit files f g names found held is =
    let parts = all_parts (λ p. HasNumber (content files (stamp_path p.0)) (f p.0)) is.seen is.left (rw is.stands at held) in
    let (same, enough) = ends_well limit files f is.causes found is.left is.ends parts.1 in
    (is.causes, same, (is.seen, is.left, is.stands, is.are.above ∙ listed_same files is.are.number f g is.seen is.are.held parts.0, enough))

pub verdict_by_stamps : (limit : Limit) (files : Files) (f : List ℕ → ℕ) (g : ℕ) (names : List (List ℕ × List ℕ)) (found : Result (List Cause) EngineError)
    → Held files f names → IsByStamps limit files g names found → verdict_by found ≡ Ok (verdict (find (λ x. nat_lt g (f x)) (map (λ p. p.0) names)))
verdict_by_stamps limit files f g names found held is =
    let (causes, are, (seen, left, stands, listed, enough)) = by_stamps limit files f g names found held is in
    rw are (ap (λ v. Ok v) (verdict_enough limit f g names seen left causes stands listed enough ∙ verdict_found f g names))

-- the stamps of legal dependencies
pub held_shown : (files : Files) (f : List ℕ → ℕ) (place : List ℕ) (deps : List Dep)
    → ((x : List ℕ) → IsTrue (is_name x) → HasNumber (content files (stamp_path x)) (f x)) → list_all is_dep deps ≡ true → Held files f (placed place deps)
held_shown files f place [] stamps legal = All-nil _
held_shown files f place (File path ∷ deps) stamps legal = search (rules, and_parts, (held_shown files f path deps stamps))
held_shown files f place (Config x ∷ deps) stamps legal = search (rules, All-cons, and_parts, (held_shown files f place deps stamps))

pub names_are : (place : List ℕ) (deps : List Dep) → map (λ p. p.0) (placed place deps) ≡ config_names deps
names_are place [] = refl
names_are place (File path ∷ deps) = names_are path deps
names_are place (Config x ∷ deps) = ap (λ l. x ∷ l) (names_are place deps)

-- tests that agree on the members of a list find and keep the same
pub same_on : (p q : List ℕ → Bool) (xs : List (List ℕ)) → ((x : List ℕ) → is_in xs x ≡ true → p x ≡ q x) → (find p xs ≡ find q xs)
    × (filter p xs ≡ filter q xs)
same_on p q [] same = (refl, refl)
same_on p q (x ∷ xs) same =
    let rest = same_on p q xs (λ y among. same y (or_right (bytes_eq y x) _ among)) in grind (arith, common_steps, (same x), (bytes_eq-Decides x x), rest)

-- the generation that a shown auto.conf has, after a completed synchronisation
pub last_shown : (files : Files) (h : History) → Shows files h → 0 < done h → last_generation (content files auto_path) ≡ Ok (done h)
last_shown files h shows some = search (rules, auto_read, cond-false, ne_eqb)

-- what a shown tree has of a recorded object
pub record OfRecord (files : Files) (h : History) (o : List ℕ) (r : LastRecord) (file : CommandRecord) : Type 0 where
  pub target : true ≡ is_target o
  pub read : command_file o (content files (command_path o)) ≡ Ok (Some file)
  pub since : asked_since files (names_placed file) file.generation ≡ ByStamps (done r.past) (names_placed file)
  pub names : map (λ p. p.0) (names_placed file) ≡ r.names
  pub stamps : Held files (stamp h) (names_placed file)

pub of_record : (files : Files) (h : History) (o : List ℕ) (r : LastRecord) (shows : Shows files h) (last : last_record h o ≡ Some r)
    → OfRecord files h o r (shows.commands o r last).2.file
of_record files h o r shows last =
    let is = (shows.commands o r last).2 in
    let legal = (read_fits (shows.commands o r last).0 is.file is.reads).legal in
    let was = recorded_synced h o r shows.history last in
    record {
      target = search (rules, legal.target, is.target);
      read = search (rules, cond-false, le-ltb, cond-true, bytes_eq-Decides);
      since = search (rules, synced-lt, was, last_shown, cond-false, le-ltb);
      names = names_are is.file.source is.file.deps ∙ is.names;
      stamps = held_shown files (stamp h) is.file.source is.file.deps shows.stamps legal.deps;
    }

-- THE ANSWER: of a recorded object, the first of its names that is suspect.
pub answer_shown : (limit : Limit) (files : Files) (h : History) (o : List ℕ) (r : LastRecord) (found : Result (List Cause) EngineError) (shows : Shows files h)
    (last : last_record h o ≡ Some r) → IsByStamps limit files (done r.past) (names_placed (shows.commands o r last).2.file) found
    → verdict_by found ≡ Ok (verdict (first_suspect h o))
answer_shown limit files h o r found shows last is =
    let at = of_record files h o r shows last in
    let same = (same_on _ (suspect_since h o) r.names (λ x among. grind (arith, (suspect_since-lt h o r x shows.history last)))).0 in
    rw (verdict_by_stamps limit files (stamp h) (done r.past) _ found at.stamps is, at.names, last) (ap (λ o. Ok (verdict o)) same)

-- nothing found: no member passes
pub find_none : (p : List ℕ → Bool) (xs : List (List ℕ)) (x : List ℕ) → find p xs ≡ None → is_in xs x ≡ true → p x ≡ false
find_none p [] x none among = absurd cc
find_none p (y ∷ xs) x none among = grind (arith, common_steps, (bytes_eq-Decides x y), (find_none p xs x))

-- Fresh means the same definitions.
safe : (files : Files) (h : History) (o : List ℕ) (r : LastRecord) (answer : Result Verdict EngineError) → Shows files h → last_record h o ≡ Some r
    → answer ≡ Ok (verdict (first_suspect h o)) → answer ≡ Ok Fresh → HasSameDefinitions files r
safe files h o r answer shows last suspect fresh =
    let none : first_suspect h o ≡ None = grind arith in search (rules, (recorded_synced h o r shows.history last), same_definitions, find_none, none)

-- what is answered by the stamps is judged by the history
pub evaluates : (limit : Limit) (files : Files) (h : History) (o : List ℕ) (r : LastRecord) (answer : Result Verdict EngineError) (shows : Shows files h)
    (last : last_record h o ≡ Some r)
    → IsAbortedAnswer answer
    ⊎ ((found : Result (List Cause) EngineError) × IsByStamps limit files (done r.past) (names_placed (shows.commands o r last).2.file) found
    × (answer ≡ verdict_by found))
    → IsEvaluated files h o r answer
evaluates limit files h o r answer shows last (inl given) = search (rules, safe)
evaluates limit files h o r answer shows last (inr is) =
    let suspect = is.2 ∙ answer_shown limit files h o r is.0 shows last is.1 in
    record {
      suspect = inr suspect;
      changed = λ none. inr (suspect ∙ ap (λ f. Ok (verdict f)) (same_on _ _ (found h o) (λ x among. suspect_since-changed_since h o x none)).0);
      safe = safe files h o r answer shows last suspect;
    }

-- what is asked of a recorded object
pub asked_shown : (files : Files) (h : History) (o : List ℕ) (r : LastRecord) (shows : Shows files h) (last : last_record h o ≡ Some r)
    → asked files o ≡ ByStamps (done r.past) (names_placed (shows.commands o r last).2.file)
asked_shown files h o r shows last = let at = of_record files h o r shows last in asked_read files o _ _ at.target refl at.read ∙ at.since

pub stale_evaluated : (files : Files) (h : History) (o : List ℕ) (r : LastRecord) (answer : Result Verdict EngineError)
    → IsAbortedAnswer answer ⊎ IsAnswer files (asked files o) answer → Shows files h → last_record h o ≡ Some r → IsEvaluated files h o r answer
stale_evaluated files h o r answer stated shows last = evaluates First files h o r answer shows last (rw (asked_shown files h o r shows last) at stated)

-- ---- and of the command that build_asked it

pub build_evaluated : (files : Files) (h : History) (o command : List ℕ) (r : LastRecord) (answer : Result BuildState EngineError) → IsAbortedAnswer answer
    ⊎ IsBuildState files (build_asked files o command) answer
    → IsTrue (is_command command) → Shows files h → last_record h o ≡ Some r → IsBuildEvaluated files h o command r answer
build_evaluated files h o command r (Ok x) (inl given) word shows last = absurd given
build_evaluated files h o command r (Err e) (inl given) word shows last =
    record { differs = λ other. inl given; same = λ same. (Err e, refl, evaluates First files h o r (Err e) shows last (inl given)) }
build_evaluated files h o command r answer (inr is) word shows last =
    let at = of_record files h o r shows last in
    let stated = rw (build_read files o command _ _ at.target (sym word) refl at.read, (shows.commands o r last).2.command) at is in
    record {
      differs = λ other. inr (rw other at stated);
      same = λ same.
          let asks = rw same at stated in
          (asks.0, asks.2, evaluates First files h o r asks.0 shows last (inr (subst (λ q. IsAnswer files q asks.0) at.since asks.1)));
    }
