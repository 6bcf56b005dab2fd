-- What a beginning leaves, write by write.
use Rattle.ks_engine.proofs.Prelude.{◌≡◌, ◌⊎◌, inl, inr, ⊎_elim, ℕ, ◌<◌, ◌≤◌, List, [], ◌∷◌, ◌++◌, Option, Some, None, Ok, Result, true, ◌∙◌, sym, ap, refl, subst, All, All-head, All-nil, All-push, All-weaker, or_right, true≢false, bytes_eq, bytes_eq-Decides, cases_Bool, list_any-append, is_in, is_name, IsTrue, Files, content, SameButBoth, auto_path, auto_temporary, command_file, command_path, command_temporary, Place, AutoConf, CommandFile, CommandTemporary, Stamp, AutoTemporary, StampTemporary, path_of, IsLegalPlace, paths_never_meet, stamp_temporary, left_over, Touches, length, arith, map, take, get_or, ◌+◌, rules}
use Rattle.std.specs.Borrow.{Bor}
use Rattle.std.specs.Option.{unwrap_or}
use Rattle.std.proofs.lemmas.Bool.Decides.{nat_tests}
use Rattle.std.proofs.lemmas.List.{map_more, take-map}
use Rattle.ks_fixdep.specs.CommandFile.{CommandRecord, IsLegal, command_text}
use Rattle.ks_fixdep.specs.CommandReading.{reading}
use Rattle.ks_output.specs.AutoText.{generation_line}
use Rattle.ks_engine.proofs.LowerLaws.{apart, read_fits, written_reads}
use Rattle.ks_engine.proofs.Surveying.{in_last, in_more, seen}
use Rattle.ks_engine.proofs.Writes.{beginning, beside_touched}
use Rattle.ks_engine.specs.Repairs.{BeginningLeaves, Forgets, ForgetsSome, IsBeginning, IsForgotten, IsNumbered, IsOldOrGone, LosesNumber, SaysNumber}

same_path : (q p : List ℕ) → (q ≡ p) ⊎ (q ≡ p → ⊥)
same_path q p = ⊎_elim (λ is. inl ((bytes_eq-Decides q p).0 is)) (λ not. inr (λ same. true≢false (sym ((bytes_eq-Decides q p).1 same) ∙ not))) (cases_Bool (bytes_eq q p))

pub same_target : (o p : List ℕ) → command_path o ≡ command_path p → o ≡ p
same_target o p is = (let equal : CommandFile o ≡ CommandFile p = paths_never_meet (CommandFile o) (CommandFile p) tt tt is in cc)

-- ---- the records

-- What a command file says that is read, which is legal
read_of : (o b : List ℕ) (file : CommandRecord) → command_file o (Some b) ≡ Ok (Some file) → reading b ≡ Ok file
read_of o b file is = search (rules, nat_tests)

at_most_of : (n : ℕ) → (67108864 < n → ⊥) → n ≤ 67108864
at_most_of n not = grind arith

positive : (n : ℕ) → (n ≡ 0 → ⊥) → 0 < n
positive n not = grind arith

number_of : (g : Option ℕ) → (unwrap_or g 0 ≡ 0 → ⊥) → (n : ℕ) × (g ≡ Some n) × (0 < n)
number_of None not = absurd (not refl)
number_of (Some n) not = (n, refl, positive n not)

number_lost : (o text plain : List ℕ) (file : CommandRecord) (n : ℕ) → length text ≤ 67108864 → reading text ≡ Ok file → file.target ≡ o → file.generation ≡ Some n → 0 < n
    → plain ≡ command_text (record file { generation = None }) → LosesNumber o (Some text) plain
number_lost o text plain file n small read target numbered some is = record {
  file = file;
  was = search (rules, nat_tests, bytes_eq-Decides);
  number = n;
  some = some;
  numbered = numbered;
  text = is;
}

-- what `without_number` has read and written
pub loses_number : (o text plain : List ℕ) (file : CommandRecord) → (67108864 < length text → ⊥) → (length text ≤ 67108864 → reading text ≡ Ok file) → file.target ≡ o
    → (unwrap_or file.generation 0 ≡ 0 → ⊥) → plain ≡ command_text (record file { generation = None }) → LosesNumber o (Some text) plain
loses_number o text plain file not_large exact target some is =
    let small : length text ≤ 67108864 = at_most_of (length text) not_large in
    let number = number_of file.generation some in
    number_lost o text plain file number.0 small (exact small) target number.1 number.2 is

same_record : (f g : CommandRecord) → ◌≡◌ {A = Result CommandRecord ℕ} (Ok f) (Ok g) → f ≡ g
same_record f g is = cc

none_said : (o plain : List ℕ) (file : CommandRecord) → IsLegal file → plain ≡ command_text (record file { generation = None }) → SaysNumber o (Some plain) → ⊥
none_said o plain file legal text said =
    let bare : CommandRecord = record file { generation = None } in
    let back : reading plain ≡ Ok bare = ap reading text ∙ written_reads bare (record { target = legal.target; command = legal.command; source = legal.source; deps = legal.deps; generation = tt }) in
    let at = said.2 in
    let same : bare ≡ at.0 = same_record bare at.0 (sym back ∙ read_of o plain at.0 at.1) in
    let never : None ≡ Some said.0 = ap (λ (f : CommandRecord). f.generation) same ∙ at.2 in
    cc

legal_of : (o : List ℕ) (found : Option (List ℕ)) (file : CommandRecord) → command_file o found ≡ Ok (Some file) → IsLegal file
legal_of o None file is = absurd cc
legal_of o (Some b) file is = (read_fits b file (read_of o b file is)).legal

forgotten_none : (files : Files) (o : List ℕ) (found : Option (List ℕ)) (plain : List ℕ) → content files (command_path o) ≡ Some plain → LosesNumber o found plain → IsNumbered files o → ⊥
forgotten_none files o found plain is loses has =
    none_said o plain loses.file (legal_of o found loses.file loses.was) loses.text (subst (SaysNumber o) is has)

kept_number : (old new : Files) (o : List ℕ) → content new (command_path o) ≡ content old (command_path o) → IsNumbered new o → IsNumbered old o
kept_number old new o is has = subst (SaysNumber o) is has

had_number : (o : List ℕ) (found : Option (List ℕ)) (plain : List ℕ) → LosesNumber o found plain → SaysNumber o found
had_number o found plain loses = (loses.number, loses.some, (loses.file, loses.was, loses.numbered))

no_temporary : (p o : List ℕ) → command_path p ≡ command_temporary o → ⊥
no_temporary p o is = apart (CommandFile p) (CommandTemporary o) tt tt (λ e. cc) is

-- Replacing the command file of one that has a number, by one without
module _ (old new : Files) (o plain : List ℕ) (loses : LosesNumber o (content old (command_path o)) plain)
    (others : SameButBoth (command_temporary o) (command_path o) old new) where
  pub some_forgotten : (content new (command_path o) ≡ content old (command_path o)) ⊎ (content new (command_path o) ≡ Some plain) → ForgetsSome (o ∷ []) old new
  some_forgotten either q = ⊎_elim
      (λ temporary. inr (o, in_last [] o, inr temporary))
      (λ beside. ⊎_elim
      (λ same. ⊎_elim (λ kept. inl (rw same kept)) (λ made. inr (o, in_last [] o, inl (same, (plain, made, loses)))) either)
      (λ other. inl (others q beside other))
      (same_path q (command_path o)))
      (same_path q (command_temporary o))

  pub one_forgotten : content new (command_path o) ≡ Some plain → content new (command_temporary o) ≡ None → Forgets (o ∷ []) old new
  one_forgotten made gone = record {
    none = All-push (λ p. IsNumbered new p → ⊥) [] o (All-nil _) (forgotten_none new o (content old (command_path o)) plain made loses);
    paths = some_forgotten (inr made);
    cleared = λ p. ⊎_elim (λ same. inr (rw same gone)) (λ other. inl (others (command_temporary p) other (λ is. no_temporary o p (sym is))))
        (same_path (command_temporary p) (command_temporary o));
  }

in_end : (xs : List (List ℕ)) (o p : List ℕ) → is_in (o ∷ []) p ≡ true → is_in (xs ++ o ∷ []) p ≡ true
in_end xs o p is = list_any-append (bytes_eq p) xs (o ∷ []) ∙ or_right _ _ is

old_or_gone : (a b c : Files) (q : List ℕ) → IsOldOrGone a b q → IsOldOrGone b c q → IsOldOrGone a c q
old_or_gone a b c q first second = ⊎_elim (λ same. ⊎_elim (λ was. inl (same ∙ was)) (λ gone. inr (same ∙ gone)) first) (λ gone. inr gone) second

-- One object more
module _ (a b c : Files) (done : List (List ℕ)) (o : List ℕ) where
  -- what had a number then is as it was before
  as_before : ForgetsSome done a b → (p : List ℕ) → IsNumbered b p → content b (command_path p) ≡ content a (command_path p)
  as_before first p has = ⊎_elim
      (λ same. same)
      (λ at. absurd (⊎_elim
      (λ forgot. (let here = same_target p at.0 forgot.0 in
      forgotten_none b at.0 (content a (command_path at.0)) forgot.1.0 forgot.1.1 forgot.1.2 (subst (IsNumbered b) here has)))
      (λ temporary. no_temporary p at.0 temporary)
      at.2))
      (first (command_path p))

  still_forgotten : (p : List ℕ) → content c (command_path p) ≡ content b (command_path p) → IsForgotten a b p → IsForgotten a c p
  still_forgotten p same was = (was.0, same ∙ was.1, was.2)

  forgotten_since : ForgetsSome done a b → (p : List ℕ) → IsForgotten b c p → IsForgotten a c p
  forgotten_since first p now =
      let same = as_before first p (had_number p (content b (command_path p)) now.0 now.2) in
      (now.0, now.1, subst (λ f. LosesNumber p f now.0) same now.2)

  pub some_more : ForgetsSome done a b → ForgetsSome (o ∷ []) b c → ForgetsSome (done ++ o ∷ []) a c
  some_more first second q = ⊎_elim
      (λ same. ⊎_elim
      (λ was. inl (same ∙ was))
      (λ at. inr (
        at.0,
        in_more done o at.0 at.1,
        ⊎_elim (λ forgot. inl (forgot.0, still_forgotten at.0 (subst (λ p. content c p ≡ content b p) forgot.0 same) forgot.1)) (λ temporary. inr temporary) at.2,
      ))
      (first q))
      (λ at. inr (
        at.0,
        in_end done o at.0 at.1,
        ⊎_elim (λ forgot. inl (forgot.0, forgotten_since first at.0 forgot.1)) (λ temporary. inr temporary) at.2,
      ))
      (second q)

  none_after : ForgetsSome (o ∷ []) b c → (p : List ℕ) → (IsNumbered b p → ⊥) → IsNumbered c p → ⊥
  none_after second p none has = ⊎_elim
      (λ same. none (kept_number b c p same has))
      (λ at. ⊎_elim
      (λ forgot. (let here = same_target p at.0 forgot.0 in
      forgotten_none c at.0 (content b (command_path at.0)) forgot.1.0 forgot.1.1 forgot.1.2 (subst (IsNumbered c) here has)))
      (λ temporary. no_temporary p at.0 temporary)
      at.2)
      (second (command_path p))

  pub forgets_more : Forgets done a b → Forgets (o ∷ []) b c → Forgets (done ++ o ∷ []) a c
  forgets_more first second = record {
    none = All-push (λ p. IsNumbered c p → ⊥) done o
        (All-weaker (λ p. IsNumbered b p → ⊥) (λ p. IsNumbered c p → ⊥) (none_after second.paths) done first.none)
        (All-head (λ p. IsNumbered c p → ⊥) o [] second.none);
    paths = some_more first.paths second.paths;
    cleared = λ p. old_or_gone a b c (command_temporary p) (first.cleared p) (second.cleared p);
  }

pub none_forgets : (files : Files) → Forgets [] files files
none_forgets files = record { none = All-nil _; paths = λ q. inl refl; cleared = λ o. inl refl }

-- what was forgotten of a beginning of the objects
pub some_within : (xs ys : List (List ℕ)) (old new : Files) → ((x : List ℕ) → is_in xs x ≡ true → is_in ys x ≡ true) → ForgetsSome xs old new → ForgetsSome ys old new
some_within xs ys old new within some q = ⊎_elim (λ same. inl same) (λ at. inr (at.0, within at.0 at.1, at.2)) (some q)

among_first : (ts : List (Bor (List ℕ))) (n : ℕ) (x : List ℕ) → is_in (map seen (take n ts)) x ≡ true → is_in (map seen ts) x ≡ true
among_first ts n x among = beginning (map seen ts) n x (subst (λ l. is_in l x ≡ true) (sym (take-map seen n ts)) among)

-- what was forgotten where an object fails, after those before it
pub some_of : (ts : List (Bor (List ℕ))) (i : ℕ) (d : Bor (List ℕ)) (a b c : Files) → i < length ts → Forgets (map seen (take i ts)) a b
    → ForgetsSome ((get_or ts i d).now ∷ []) b c → ForgetsSome (map seen ts) a c
some_of ts i d a b c within first second =
    some_within (map seen (take i ts) ++ (get_or ts i d).now ∷ []) (map seen ts) a c (λ x among. among_first ts (i + 1) x (subst (λ l. is_in l x ≡ true) (sym (map_more seen ts i d within)) among))
    (some_more a b c (map seen (take i ts)) (get_or ts i d).now first.paths second)

-- ---- the stamps, the records and auto.conf

module _ (old : Files) (number : ℕ) (names targets : List (List ℕ)) (legal : (x : List ℕ) → is_in names x ≡ true → IsTrue (is_name x)) where
  -- after some stamps
  pub after_names : (new : Files) (renewed : List (List ℕ)) → ((x : List ℕ) → is_in renewed x ≡ true → is_in names x ≡ true)
      → Touches renewed number old new → BeginningLeaves old new number names targets renewed
  after_names new renewed within touched = record {
    within = within;
    stamps = touched.stamps;
    records = λ o. inl (beside_touched names legal within touched (CommandFile o) tt (λ e. cc) (λ x e. cc));
    auto = inl (beside_touched names legal within touched AutoConf tt (λ e. cc) (λ x e. cc));
    others = λ q stamps commands auto ts ta. touched.others q ts (λ x among. stamps x (within x among));
  }

  -- what is no command file and none's temporary file is left by what forgets
  beside_records : (one two : Files) → ForgetsSome targets one two → (p : Place) → IsLegalPlace p → ((o : List ℕ) → p ≡ CommandFile o → ⊥)
      → ((o : List ℕ) → p ≡ CommandTemporary o → ⊥) → content two (path_of p) ≡ content one (path_of p)
  beside_records one two some p is_legal no_file no_temporary = ⊎_elim
      (λ same. same)
      (λ at. absurd (⊎_elim
      (λ forgot. apart p (CommandFile at.0) is_legal tt (no_file at.0) forgot.0)
      (λ temporary. apart p (CommandTemporary at.0) is_legal tt (no_temporary at.0) temporary)
      at.2))
      (some (path_of p))

  since_stamps : (one two : Files) → Touches names number old one → (o : List ℕ) → IsForgotten one two o → IsForgotten old two o
  since_stamps one two touched o forgot = (
    forgot.0,
    forgot.1,
    subst (λ f. LosesNumber o f forgot.0) (beside_touched names legal (λ x among. among) touched (CommandFile o) tt (λ e. cc) (λ x e. cc)) forgot.2,
  )

  -- after the stamps, some records
  pub after_records : (one two : Files) → Touches names number old one → ForgetsSome targets one two → BeginningLeaves old two number names targets names
  after_records one two touched some =
      let was = after_names one names (λ x among. among) touched in
      let file_kept = λ (o : List ℕ). beside_touched names legal (λ x among. among) touched (CommandFile o) tt (λ e. cc) (λ x e. cc) in
      record {
        within = λ x among. among;
        stamps = λ x name. beside_records one two some (Stamp x) name (λ o e. cc) (λ o e. cc) ∙ was.stamps x name;
        records = λ o. ⊎_elim
            (λ same. inl (same ∙ file_kept o))
            (λ at. ⊎_elim
            (λ forgot. (let here = sym (same_target o at.0 forgot.0) in
            inr (refl, subst (λ p. is_in targets p ≡ true) here at.1, subst (IsForgotten old two) here (since_stamps one two touched at.0 forgot.1))))
            (λ temporary. absurd (no_temporary o at.0 temporary))
            at.2)
            (some (command_path o));
        auto = inl (beside_records one two some AutoConf tt (λ o e. cc) (λ o e. cc) ∙ beside_touched names legal (λ x among. among) touched AutoConf tt (λ e. cc) (λ x e. cc));
        others = λ q stamps commands auto ts ta. ⊎_elim
            (λ same. same ∙ was.others q stamps commands auto ts ta)
            (λ at. absurd (⊎_elim (λ forgot. (commands at.0 at.1).0 forgot.0) (λ temporary. (commands at.0 at.1).1 temporary) at.2))
            (some q);
      }

  -- auto.conf is no record
  pub none_left : (two three : Files) → SameButBoth auto_temporary auto_path two three → All (λ o. IsNumbered two o → ⊥) targets → All (λ o. IsNumbered three o → ⊥) targets
  none_left two three others none = All-weaker (λ o. IsNumbered two o → ⊥) (λ o. IsNumbered three o → ⊥)
      (λ o no has. no (kept_number two three o (others (command_path o) (apart (CommandFile o) AutoTemporary tt tt (λ e. cc)) (apart (CommandFile o) AutoConf tt tt (λ e. cc))) has)) targets none

  -- and then auto.conf, old or new
  pub after_auto : (one two three : Files) → Touches names number old one → Forgets targets one two → SameButBoth auto_temporary auto_path two three
      → (content three auto_path ≡ content two auto_path) ⊎ (content three auto_path ≡ Some (generation_line number))
      → BeginningLeaves old three number names targets names
  after_auto one two three touched forgets others either =
      let was = after_records one two touched forgets.paths in
      let kept = λ (p : Place) (is_legal : IsLegalPlace p) (temporary : p ≡ AutoTemporary → ⊥) (conf : p ≡ AutoConf → ⊥).
      others (path_of p) (apart p AutoTemporary is_legal tt temporary) (apart p AutoConf is_legal tt conf) in
      let auto_kept = beside_records one two forgets.paths AutoConf tt (λ o e. cc) (λ o e. cc)
      ∙ beside_touched names legal (λ x among. among) touched AutoConf tt (λ e. cc) (λ x e. cc) in
      record {
        within = λ x among. among;
        stamps = λ x name. kept (Stamp x) name (λ e. cc) (λ e. cc) ∙ was.stamps x name;
        records = λ o. ⊎_elim
            (λ same. inl (kept (CommandFile o) tt (λ e. cc) (λ e. cc) ∙ same))
            (λ at. inr (at.0, at.1, (at.2.0, kept (CommandFile o) tt (λ e. cc) (λ e. cc) ∙ at.2.1, at.2.2)))
            (was.records o);
        auto = ⊎_elim (λ same. inl (same ∙ auto_kept)) (λ made. inr (refl, none_left two three others forgets.none, made)) either;
        others = λ q stamps commands auto ts ta. others q ta auto ∙ was.others q stamps commands auto ts ta;
      }

  pub all_begun : (one two three : Files) → Touches names number old one → content one stamp_temporary ≡ left_over names (content old stamp_temporary)
      → Forgets targets one two → SameButBoth auto_temporary auto_path two three → content three auto_path ≡ Some (generation_line number)
      → content three auto_temporary ≡ None → IsBeginning old three number names targets
  all_begun one two three touched stamps forgets others made gone =
      let kept = λ (p : Place) (is_legal : IsLegalPlace p) (temporary : p ≡ AutoTemporary → ⊥) (conf : p ≡ AutoConf → ⊥).
      others (path_of p) (apart p AutoTemporary is_legal tt temporary) (apart p AutoConf is_legal tt conf) in
      record {
        leaves = after_auto one two three touched forgets others (inr made);
        none = none_left two three others forgets.none;
        auto = made;
        stamps_cleared = kept StampTemporary tt (λ e. cc) (λ e. cc) ∙ beside_records one two forgets.paths StampTemporary tt (λ o e. cc) (λ o e. cc) ∙ stamps;
        commands_cleared = λ o. old_or_gone old one three (command_temporary o)
            (inl (beside_touched names legal (λ x among. among) touched (CommandTemporary o) tt (λ e. cc) (λ x e. cc)))
            (old_or_gone one two three (command_temporary o) (forgets.cleared o) (inl (kept (CommandTemporary o) tt (λ e. cc) (λ e. cc))));
        auto_cleared = gone;
      }
