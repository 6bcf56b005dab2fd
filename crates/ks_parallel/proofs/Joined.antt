-- What a view shows of a history, and what all files show where each view shows its part.
use Rattle.ks_parallel.proofs.Prelude.{Bool, ◌≡◌, ⊎_elim, ℕ, List, [], ◌∷◌, Some, None, true, false, not, ◌&&◌, sym, ◌∙◌, ap, refl, subst, subst₂, bytes_eq, nat_eq, filter, cases_Bool, cond-false, false_from_ne_true, not_from_false, and_from, and_parts, or_from, or_cases, or_left, or_right, eqb-true, eqb-false, eq-eqb, bytes_eq-Decides, Files, content, command_path, Place, AutoConf, Header, Stamp, CommandFile, CommandTemporary, path_of, IsLegalPlace, HasNumber, paths_never_meet, History, LastRecord, IsHistory, Shows, own_history, last_record, IsCommandFile, view, after_all, own, all, EachOf, Jobs, is_own_job, is_others_job, AreApart, is_written_for, sees, without, target_of, SeesPlaces, AllPlacesAreSeen, ViewsShow, RecordEvent, with_records, IsOfJob, ShufflesAreShown, SideBySide, rules, Any-from_list_any, list_any-from_Any, ne_eqb, not_from_true, others_do_not_matter, ShufflesSayTheSame}
use Rattle.ks_parallel.proofs.Each.{Each, each_own, each_all}
use Rattle.ks_parallel.proofs.Apart.{seen_in_view, views_are_honest}
use Rattle.ks_parallel.proofs.Parts.{Stated, stated, same_stated, stated_with, legal_without, none_left, own_without, MayFollow, legal_with, may_follow, own_with, alike, alike_file}

-- ---- which paths are seen

written_place : (t : List ℕ) (q : Place) → IsLegalPlace q → is_written_for t (path_of q) ≡ true → target_of q ≡ Some t
written_place t q legal is =
    let file = paths_never_meet q (CommandFile t) legal tt in let temporary = paths_never_meet q (CommandTemporary t) legal tt in
    search (rules, or_cases, bytes_eq-Decides, file, temporary)

-- all but what is written for the targets of others
pub seen_place : (jobs : Jobs) (i : ℕ) (q : Place) → IsLegalPlace q → ((t : List ℕ) → target_of q ≡ Some t → is_others_job jobs i t ≡ false)
    → sees jobs i (path_of q) ≡ true
seen_place jobs i q legal clean = not_from_false _ (false_from_ne_true _ (λ hidden.
    let by = Any-from_list_any (λ job. not (nat_eq job.0 i) && is_written_for job.1 (path_of q)) jobs hidden in
    let parts = and_parts (not (nat_eq by.1.0 i)) _ by.4 in
    search (rules, (clean by.1.1 (written_place by.1.1 q legal parts.1)), list_any-from_Any, and_from, bytes_eq-Decides)))

pub all_places_are_seen : AllPlacesAreSeen
all_places_are_seen jobs = seen_place jobs

-- Both show the same but for the files of records.
abbrev AreBeside : Files → Files → Type 0
AreBeside f k = (q : Place) → IsLegalPlace q → target_of q ≡ None → content f (path_of q) ≡ content k (path_of q)

module _ (jobs : Jobs) (seen : ℕ → List ℕ → Bool) (places : SeesPlaces jobs seen) (i : ℕ) (files : Files) where
  at_place : (q : Place) → IsLegalPlace q → ((t : List ℕ) → target_of q ≡ Some t → is_others_job jobs i t ≡ false)
      → content files (path_of q) ≡ content (view (seen i) files) (path_of q)
  at_place q legal clean = seen_in_view (seen i) files (path_of q) (places i q legal clean)

  beside : AreBeside files (view (seen i) files)
  beside q legal none = at_place q legal (λ t e. cc)

  at_command : (o : List ℕ) → is_others_job jobs i o ≡ false → content files (command_path o) ≡ content (view (seen i) files) (command_path o)
  at_command o clean = at_place (CommandFile o) tt (search rules)

-- ---- what goes over from files to others

-- each record that is the same by another history
recorded : (f k : Files) (g h : History) (o : List ℕ) → Shows f g → own_history h o ≡ own_history g o → content f (command_path o) ≡ content k (command_path o)
    → (r : LastRecord) → last_record h o ≡ Some r → (b : List ℕ) × (content k (command_path o) ≡ Some b) × IsCommandFile o r b
recorded f k g h o shows same file r last =
    let s = alike h g o r same last in let was = shows.commands o s.0 s.1 in search (rules, alike_file)

-- and all else
carried : (f k : Files) (g h : History) → Shows f g → stated g ≡ stated h → AreBeside f k → IsHistory h
    → ((o : List ℕ) (r : LastRecord) → last_record h o ≡ Some r → (b : List ℕ) × (content k (command_path o) ≡ Some b) × IsCommandFile o r b) → Shows k h
carried f k g h shows same files legal commands = record {
  history = legal;
  auto = subst₂ (λ (w : Stated) file. w.auto file) same (files AutoConf tt refl) shows.auto;
  header = λ some. let was = shows.header (subst (λ (w : Stated). w.synced) (sym same) some) in
      (was.0, sym (files Header tt refl) ∙ was.1, subst (λ (w : Stated). w.header was.0) same was.2);
  stamps = λ x name. subst₂ HasNumber (files (Stamp x) name refl) (ap (λ (w : Stated). w.stamp x) same) (shows.stamps x name);
  commands = commands;
}

pub views_show : ViewsShow
views_show jobs seen i files h places shows =
    let p = is_others_job jobs i in
    carried files (view (seen i) files) h (without p h) shows (sym (same_stated p h)) (beside jobs seen places i files) (legal_without p h shows.history)
    (λ o r last. ⊎_elim
    (λ out. let none = none_left p h o out in absurd cc)
    (λ kept. recorded files _ h _ o shows (own_without p h o kept) (at_command jobs seen places i files o kept) r last)
    (cases_Bool (p o)))

-- ---- who records an object

-- Each object is recorded by one process at most, whose view has its command file.
pub viewer : (jobs : Jobs) (o : List ℕ) → AreApart jobs → (i : ℕ) × (is_others_job jobs i o ≡ false)
viewer jobs o are = ⊎_elim
    (λ some. let by = Any-from_list_any (λ job. not (nat_eq job.0 0) && bytes_eq job.1 o) jobs some in
    (by.1.0, search (rules, are, list_any-from_Any, and_from, eq-eqb, and_parts)))
    (λ none. (0, none))
    (cases_Bool (is_others_job jobs 0 o))

others_job : (jobs : Jobs) (i j : ℕ) (o : List ℕ) → is_own_job jobs j o ≡ true → (j ≡ i → ⊥) → is_others_job jobs i o ≡ true
others_job [] i j o own other = absurd cc
others_job (job ∷ jobs) i j o own other =
    search (rules, or_cases, and_parts, and_from, or_left, or_right, not_from_false, eqb-true, ne_eqb, (others_job jobs i j o))

-- What is written for the target of a process is seen by no other one, ..
pub hidden_from : (jobs : Jobs) (i j : ℕ) (o q : List ℕ) → is_own_job jobs i o ≡ true → (i ≡ j → ⊥) → is_written_for o q ≡ true → sees jobs j q ≡ false
hidden_from [] i j o q own differ written = absurd cc
hidden_from (job ∷ jobs) i j o q own differ written = search (
  rules,
  or_cases,
  and_parts,
  and_from,
  or_left,
  or_right,
  or_from,
  not_from_true,
  not_from_false,
  eqb-true,
  ne_eqb,
  bytes_eq-Decides,
  (hidden_from jobs i j o q),
)

-- its records in a shuffle are those of that process
pub same_records : (jobs : Jobs) (i : ℕ) (o : List ℕ) (s : List (ℕ × RecordEvent)) → is_others_job jobs i o ≡ false → EachOf (IsOfJob jobs) s
    → filter (λ (e : RecordEvent). bytes_eq e.object o) (all s) ≡ filter (λ (e : RecordEvent). bytes_eq e.object o) (own i s)
same_records jobs i o [] clean each = refl
same_records jobs i o (x ∷ xs) clean each =
    search (rules, cond-false, false_from_ne_true, bytes_eq-Decides, eqb-false, eqb-true, others_job, (same_records jobs i o xs clean each.1))

pub same_own : (jobs : Jobs) (h : History) (s : List (ℕ × RecordEvent)) (i : ℕ) (o : List ℕ) → is_others_job jobs i o ≡ false → EachOf (IsOfJob jobs) s
    → own_history (with_records h (all s)) o ≡ own_history (with_records (without (is_others_job jobs i) h) (own i s)) o
same_own jobs h s i o clean each = search (rules, own_with, same_records, own_without)

-- ---- all together

module _ (jobs : Jobs) (seen : ℕ → List ℕ → Bool) (files : Files) (h : History) (s : List (ℕ × RecordEvent)) (are : AreApart jobs) (places : SeesPlaces jobs seen)
    (each : EachOf (IsOfJob jobs) s) (legal : IsHistory h)
    (shown : (i : ℕ) → Shows (view (seen i) files) (with_records (without (is_others_job jobs i) h) (own i s))) where
  all_follow : (xs : List (ℕ × RecordEvent)) → EachOf (λ i. MayFollow h) xs → Each (MayFollow h) (all xs)
  all_follow [] may = tt
  all_follow (x ∷ xs) may = (may.0, all_follow xs may.1)

  -- each record may follow the history
  each_follows : EachOf (λ i. MayFollow h) s
  each_follows = each_all (λ i. MayFollow h) s (λ i. subst (λ (w : Stated). Each (λ e. w.synced × w.header e.header) (own i s))
      (same_stated (is_others_job jobs i) h) (may_follow (without (is_others_job jobs i) h) (own i s) (shown i).history).1)

  pub joined : Shows files (with_records h (all s))
  joined =
      carried (view (seen 0) files) files (with_records (without (is_others_job jobs 0) h) (own 0 s)) (with_records h (all s)) (shown 0)
      (stated_with (without (is_others_job jobs 0) h) (own 0 s) ∙ same_stated (is_others_job jobs 0) h ∙ sym (stated_with h (all s)))
      (λ q legal none. sym (beside jobs seen places 0 files q legal none))
      (legal_with h (all s) legal (all_follow s each_follows))
      (λ o. let i = viewer jobs o are in
      recorded (view (seen i.0) files) files _ (with_records h (all s)) o (shown i.0) (same_own jobs h s i.0 o i.1 each)
      (sym (at_command jobs seen places i.0 files o i.1)))

pub shuffles_are_shown : ShufflesAreShown
shuffles_are_shown jobs seen files h s are places each legal shown = joined jobs seen files h s are places each legal shown

pub side_by_side : SideBySide
side_by_side jobs seen files h calls s are places each shows keep finds shown =
    joined jobs seen (after_all files (all calls)) h s are places each shows.history
    (λ i. subst (λ f. Shows f (with_records (without (is_others_job jobs i) h) (own i s)))
    (sym (views_are_honest seen files calls i keep finds).1) (shown i))

-- Each shuffle of the records says the same of each object.
pub shuffles_say_the_same : ShufflesSayTheSame
shuffles_say_the_same jobs h s other o are each order =
    let i = viewer jobs o are in
    let each_other = each_all (IsOfJob jobs) other (λ j. rw (order j) (each_own (IsOfJob jobs) j s each)) in
    let same : own_history (with_records h (all other)) o ≡ own_history (with_records h (all s)) o
    = search (rules, own_with, (same_records jobs i.0 o other i.1 each_other), (same_records jobs i.0 o s i.1 each), (order i.0)) in
    let old = others_do_not_matter (with_records h (all s)) o in
    let new = others_do_not_matter (with_records h (all other)) o in
    search (rules, same)
