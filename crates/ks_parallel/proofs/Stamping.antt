-- Acts of several processes of which some make missing stamps: but for these stamps all is as after their calls alone.
use Rattle.ks_parallel.proofs.Prelude.{◌≡◌, inl, inr, ⊎_elim, ℕ, ◌+◌, List, [], ◌∷◌, Option, Some, None, Bool, true, false, cond, not, ◌||◌, list_any, length, length-append, map, sym, ◌∙◌, ap, refl, subst, arith, bytes_eq, cases_Bool, cond-true, cond-false, both_ways, false_from_ne_true, not_from_false, not-true, or_cases, or_from, or_left, or_right, bytes_eq-Decides, is_in, is_name, IsTrue, Files, content, kept_or, HasNumber, stamp, decimal, stamp_path, Place, AutoConf, Header, Stamp, CommandFile, path_of, IsLegalPlace, paths_never_meet, History, Shows, same_shows, Call, after, after_all, AllFind, put, writes, view, own, all, EachOf, IsOrderOf, KeepsApart, nat_eq, eq-eqb, Act, Calls, Makes, call_of, after_act, after_acts, AllActsFind, is_stamp_of, KeepsOff, MakeStampsApart, StampersAreApart, StampOrdersLeaveTheSame, IsOrMade, StampsStay, StampersSideBySide}
use Rattle.ks_parallel.proofs.Each.{Each, each_all, each_own}
use Rattle.ks_parallel.proofs.Apart.{agreed, content-put, finds_same, orders_leave_the_same, same_files, seen_in_view, unwritten, used, views_are_honest}
use Rattle.ks_parallel.proofs.Joined.{side_by_side}

-- ---- one process's and all processes' calls

abbrev calls_in : List (ℕ × Act) → List (ℕ × Call)
calls_in acts = map (λ a. (a.0, call_of a.1)) acts

all_calls : (acts : List (ℕ × Act)) → all (calls_in acts) ≡ map call_of (all acts)
all_calls [] = refl
all_calls (a ∷ acts) = ap (λ cs. call_of a.1 ∷ cs) (all_calls acts)

own_calls : (i : ℕ) (acts : List (ℕ × Act)) → own i (calls_in acts) ≡ map call_of (own i acts)
own_calls i [] = refl
own_calls i (a ∷ acts) = elim (nat_eq a.0 i) as (λ b. cond b (call_of a.1 ∷ own i (calls_in acts)) (own i (calls_in acts))
    ≡ map call_of (cond b (a.1 ∷ own i acts) (own i acts))) [ true ↦ ap (λ cs. call_of a.1 ∷ cs) (own_calls i acts) | false ↦ own_calls i acts ]

calls_apart : (seen : ℕ → List ℕ → Bool) (acts : List (ℕ × Act)) → EachOf (λ i a. KeepsApart seen i (call_of a)) acts → EachOf (KeepsApart seen) (calls_in acts)
calls_apart seen [] apart = tt
calls_apart seen (a ∷ acts) apart = (apart.0, calls_apart seen acts apart.1)

all_off : (names : List (List ℕ)) (acts : List (ℕ × Act)) → EachOf (λ i a. KeepsOff names a) acts → Each (KeepsOff names) (all acts)
all_off names [] off = tt
all_off names (a ∷ acts) off = (off.0, all_off names acts off.1)

-- ---- files after the calls alone, beside those after all acts

record IsBeside (names : List (List ℕ)) (start f g : Files) : Type 0 where
  same : (q : List ℕ) → is_stamp_of names q ≡ false → content f q ≡ content g q
  kept : (q : List ℕ) → is_stamp_of names q ≡ true → content f q ≡ content start q
  made : (q : List ℕ) → is_stamp_of names q ≡ true → IsOrMade (content start q) (content g q)

at_first : (names : List (List ℕ)) (start : Files) → IsBeside names start start start
at_first names start = record { same = λ q other. refl; kept = λ q is. refl; made = λ q is. inl refl }

pub is_stamp : (names : List (List ℕ)) (x : List ℕ) → is_in names x ≡ true → is_stamp_of names (stamp_path x) ≡ true
is_stamp [] x among = absurd cc
is_stamp (y ∷ ys) x among = ⊎_elim
    (λ here. or_left _ _ ((bytes_eq-Decides (stamp_path y) (stamp_path x)).1 (ap stamp_path (sym ((bytes_eq-Decides x y).0 here)))))
    (λ later. or_right _ _ (is_stamp ys x later))
    (or_cases _ _ among)

again : (old now : Option (List ℕ)) → IsOrMade old now → IsOrMade old (Some (kept_or now []))
again old now (inl same) = inr (ap (λ f. Some (kept_or f [])) same)
again old now (inr made) = inr (ap (λ f. Some (kept_or f [])) made)

module _ (names : List (List ℕ)) (start f g : Files) (is : IsBeside names start f g) where
  agree : (q : List ℕ) → not (is_stamp_of names q) ≡ true → content f q ≡ content g q
  agree q holds = is.same q (not-true _ holds)

  call_beside : (c : Call) → KeepsOff names (Calls c) → IsBeside names start (after f c) (after g c)
  call_beside c off =
      let clean : (q : List ℕ) → is_stamp_of names q ≡ true → writes c q ≡ false
      = λ q stamp. false_from_ne_true _ (λ w. both_ways _ (off q (used c q w)) stamp) in
      record {
        same = λ q other. agreed (λ q. not (is_stamp_of names q)) f g c agree (λ q u. not_from_false _ (off q u)) q (not_from_false _ other);
        kept = λ q stamp. unwritten f c q (clean q stamp) ∙ is.kept q stamp;
        made = λ q stamp. subst (λ now. IsOrMade (content start q) now) (sym (unwritten g c q (clean q stamp))) (is.made q stamp);
      }

  make_beside : (x : List ℕ) → KeepsOff names (Makes x) → IsBeside names start f (after_act g (Makes x))
  make_beside x among =
      let p = stamp_path x in
      let new : Option (List ℕ) = Some (kept_or (content g p) []) in
      let stamp = is_stamp names x among in
      record {
        same = λ q other. is.same q other ∙ sym (content-put g p new q ∙ cond-false _ _ _ (false_from_ne_true _ (λ here.
            both_ways _ other (subst (λ q. is_stamp_of names q ≡ true) ((bytes_eq-Decides p q).0 here) stamp))));
        kept = is.kept;
        made = λ q of_name. ⊎_elim
            (λ here. subst (λ q. IsOrMade (content start q) (content (put g p new) q)) ((bytes_eq-Decides p q).0 here)
            (subst (λ now. IsOrMade (content start p) now) (sym (content-put g p new p ∙ cond-true _ _ _ ((bytes_eq-Decides p p).1 refl)))
            (again (content start p) (content g p) (is.made p stamp))))
            (λ other. subst (λ now. IsOrMade (content start q) now) (sym (content-put g p new q ∙ cond-false _ _ _ other)) (is.made q of_name))
            (cases_Bool (bytes_eq p q));
      }

acts_beside : (names : List (List ℕ)) (start f g : Files) (acts : List Act) → Each (KeepsOff names) acts → IsBeside names start f g
    → IsBeside names start (after_all f (map call_of acts)) (after_acts g acts)
unfolding after
acts_beside names start f g [] off is = is
acts_beside names start f g (Calls c ∷ acts) off is =
    acts_beside names start (after f c) (after g c) acts off.1 (call_beside names start f g is c off.0)
acts_beside names start f g (Makes x ∷ acts) off is =
    acts_beside names start f (after_act g (Makes x)) acts off.1 (make_beside names start f g is x off.0)

calls_find : (names : List (List ℕ)) (start f g : Files) (acts : List Act) → Each (KeepsOff names) acts → IsBeside names start f g → AllActsFind g acts
    → AllFind f (map call_of acts)
unfolding after
calls_find names start f g [] off is finds = tt
calls_find names start f g (Calls c ∷ acts) off is finds = (
  finds_same (λ q. not (is_stamp_of names q)) g f c (λ q yes. sym (agree names start f g is q yes)) (λ q u. not_from_false _ (off.0 q u)) finds.0,
  calls_find names start (after f c) (after g c) acts off.1 (call_beside names start f g is c off.0) finds.1,
)
calls_find names start f g (Makes x ∷ acts) off is finds =
    (tt, calls_find names start f (after_act g (Makes x)) acts off.1 (make_beside names start f g is x off.0) finds.1)

acts_find : (names : List (List ℕ)) (start f g : Files) (acts : List Act) → Each (KeepsOff names) acts → IsBeside names start f g
    → AllFind f (map call_of acts) → AllActsFind g acts
unfolding after
acts_find names start f g [] off is finds = tt
acts_find names start f g (Calls c ∷ acts) off is finds = (
  finds_same (λ q. not (is_stamp_of names q)) f g c (agree names start f g is) (λ q u. not_from_false _ (off.0 q u)) finds.0,
  acts_find names start (after f c) (after g c) acts off.1 (call_beside names start f g is c off.0) finds.1,
)
acts_find names start f g (Makes x ∷ acts) off is finds =
    (tt, acts_find names start f (after_act g (Makes x)) acts off.1 (make_beside names start f g is x off.0) finds.1)

-- ---- what each process leaves

module _ (seen : ℕ → List ℕ → Bool) (names : List (List ℕ)) (files : Files) (acts : List (ℕ × Act)) (make : MakeStampsApart seen names acts) where
  abbrev calls : List (ℕ × Call)
  calls = calls_in acts

  keep : EachOf (KeepsApart seen) calls
  keep = calls_apart seen acts make.apart

  whole : IsBeside names files (after_all files (all calls)) (after_acts files (all acts))
  whole = rw all_calls (acts_beside names files files files (all acts) (all_off names acts make.off) (at_first names files))

  own_off : (i : ℕ) → Each (KeepsOff names) (own i acts)
  own_off i = each_own (λ i a. KeepsOff names a) i acts make.off

  mine : (i : ℕ) (start : Files) → IsBeside names start (after_all start (own i calls)) (after_acts start (own i acts))
  mine i start = rw own_calls (acts_beside names start start start (own i acts) (own_off i) (at_first names start))

  calls_found : AllActsFind files (all acts) → AllFind files (all calls)
  calls_found finds = rw all_calls (calls_find names files files files (all acts) (all_off names acts make.off) (at_first names files) finds)

pub stampers_are_apart : StampersAreApart
stampers_are_apart seen names files acts i make finds =
    let cs = calls seen names files acts make in
    let honest = views_are_honest seen files cs i (keep seen names files acts make) (calls_found seen names files acts make finds) in
    let start = view (seen i) files in (
      acts_find names start start start (own i acts) (own_off seen names files acts make i) (at_first names start) (rw own_calls at honest.0),
      λ q yes other. sym ((whole seen names files acts make).same q other) ∙ seen_in_view (seen i) (after_all files (all cs)) q yes
          ∙ ap (λ f. content f q) honest.1 ∙ (mine seen names files acts make i start).same q other,
    )

pub stamps_stay : StampsStay
stamps_stay seen names files acts q make is = (whole seen names files acts make).made q is

-- ---- any order

-- the act makes the stamp that stands there
abbrev makes : List ℕ → Act → Bool
makes q (Calls c) = false
makes q (Makes x) = bytes_eq (stamp_path x) q

made_twice : (b any : Bool) (here there : Option (List ℕ)) → (b ≡ true → here ≡ there)
    → cond any (Some (kept_or (cond b (Some (kept_or here [])) there) [])) (cond b (Some (kept_or here [])) there) ≡ cond (b || any) (Some (kept_or there [])) there
made_twice true true here there same = ap (λ f. Some (kept_or f [])) (same refl)
made_twice true false here there same = ap (λ f. Some (kept_or f [])) (same refl)
made_twice false any here there same = refl

stamp_after : (names : List (List ℕ)) (g : Files) (acts : List Act) → Each (KeepsOff names) acts → (q : List ℕ) → is_stamp_of names q ≡ true
    → content (after_acts g acts) q ≡ cond (list_any (makes q) acts) (Some (kept_or (content g q) [])) (content g q)
stamp_after names g [] off q stamp = refl
stamp_after names g (Calls c ∷ acts) off q stamp =
    let clean = false_from_ne_true (writes c q) (λ w. both_ways _ (off.0 q (used c q w)) stamp) in
    stamp_after names (after g c) acts off.1 q stamp ∙ ap (λ f. cond (list_any (makes q) acts) (Some (kept_or f [])) f) (unwritten g c q clean)
stamp_after names g (Makes x ∷ acts) off q stamp =
    let p = stamp_path x in
    stamp_after names (after_act g (Makes x)) acts off.1 q stamp
    ∙ ap (λ f. cond (list_any (makes q) acts) (Some (kept_or f [])) f) (content-put g p (Some (kept_or (content g p) [])) q)
    ∙ made_twice (bytes_eq p q) (list_any (makes q) acts) (content g p) (content g q) (λ here. ap (λ q. content g q) ((bytes_eq-Decides p q).0 here))

any_all : {A : Type 0} (p : A → Bool) (xs : List (ℕ × A)) → list_any p (all xs) ≡ true → (i : ℕ) × (list_any p (own i xs) ≡ true)
any_all p [] is = absurd cc
any_all p (x ∷ xs) is = ⊎_elim
    (λ here. (x.0, ap (list_any p) (cond-true (nat_eq x.0 x.0) _ _ (eq-eqb x.0 x.0 refl)) ∙ or_left _ _ here))
    (λ later. let among = any_all p xs later in (
      among.0,
      elim (nat_eq x.0 among.0) as (λ b. list_any p (cond b (x.1 ∷ own among.0 xs) (own among.0 xs)) ≡ true)
          [ true ↦ or_right _ _ among.1 | false ↦ among.1 ],
    ))
    (or_cases _ _ is)

any_own : {A : Type 0} (p : A → Bool) (i : ℕ) (xs : List (ℕ × A)) → list_any p (own i xs) ≡ true → list_any p (all xs) ≡ true
any_own p i [] is = is
any_own p i (x ∷ xs) is = elim (nat_eq x.0 i) as (λ b. list_any p (cond b (x.1 ∷ own i xs) (own i xs)) ≡ true → list_any p (all (x ∷ xs)) ≡ true) [
  | true ↦ λ is. ⊎_elim (λ here. or_left _ _ here) (λ later. or_right _ _ (any_own p i xs later)) (or_cases _ _ is)
  | false ↦ λ is. or_right _ _ (any_own p i xs is)
] is

both_true : (a b : Bool) → (a ≡ true → b ≡ true) → (b ≡ true → a ≡ true) → a ≡ b
both_true true b there back = sym (there refl)
both_true false true there back = back refl
both_true false false there back = refl

same_any : {A : Type 0} (p : A → Bool) (xs ys : List (ℕ × A)) → IsOrderOf (λ i. own i xs) ys → list_any p (all ys) ≡ list_any p (all xs)
same_any p xs ys order = both_true _ _
    (λ is. let by = any_all p ys is in any_own p by.0 xs (subst (λ zs. list_any p zs ≡ true) (order by.0) by.1))
    (λ is. let by = any_all p xs is in any_own p by.0 ys (subst (λ zs. list_any p zs ≡ true) (sym (order by.0)) by.1))

moved : (P : ℕ → Act → Type 0) (acts other : List (ℕ × Act)) → IsOrderOf (λ i. own i acts) other → EachOf P acts → EachOf P other
moved P acts other order each = each_all P other (λ i. subst (λ zs. Each (P i) zs) (sym (order i)) (each_own P i acts each))

pub stamp_orders_leave_the_same : StampOrdersLeaveTheSame
stamp_orders_leave_the_same seen names files acts other make order finds =
    let make_other : MakeStampsApart seen names other = record {
      apart = moved (λ i a. KeepsApart seen i (call_of a)) acts other order make.apart;
      off = moved (λ i a. KeepsOff names a) acts other order make.off;
    } in
    let cs = calls seen names files acts make in
    let ds = calls seen names files other make_other in
    let ordered : IsOrderOf (λ i. own i cs) ds = λ i. own_calls i other ∙ ap (map call_of) (order i) ∙ sym (own_calls i acts) in
    let same = orders_leave_the_same seen files cs ds (keep seen names files acts make) ordered (calls_found seen names files acts make finds) in (
      acts_find names files files files (all other) (all_off names other make_other.off) (at_first names files) (rw all_calls at same.0),
      same_files _ _ (λ q. ⊎_elim
          (λ stamp. stamp_after names files (all other) (all_off names other make_other.off) q stamp
          ∙ ap (λ b. cond b (Some (kept_or (content files q) [])) (content files q)) (same_any (makes q) acts other order)
          ∙ sym (stamp_after names files (all acts) (all_off names acts make.off) q stamp))
          (λ none. sym ((whole seen names files other make_other).same q none) ∙ ap (λ f. content f q) same.1 ∙ (whole seen names files acts make).same q none)
          (cases_Bool (is_stamp_of names q))),
    )

-- ---- what is shown

number_made : (old new : Option (List ℕ)) (n : ℕ) → IsOrMade old new → HasNumber old n → HasNumber new n
number_made old new n (inl same) has = subst (λ f. HasNumber f n) (sym same) has
number_made None new n (inr made) has = subst (λ f. HasNumber f n) (sym made) (inl (refl, has))
number_made (Some b) new n (inr made) has = subst (λ f. HasNumber f n) (sym made) has

number_unmade : (old new : Option (List ℕ)) (n : ℕ) → IsOrMade old new → HasNumber new n → HasNumber old n
number_unmade old new n (inl same) has = subst (λ f. HasNumber f n) same has
number_unmade None new n (inr made) has = ⊎_elim
    (λ none. none.1)
    (λ text. let long : 0 ≡ length (decimal n) + 1 = ap length text.0 ∙ length-append (decimal n) (10 ∷ []) in absurd (omega arith))
    (subst (λ f. HasNumber f n) made has)
number_unmade (Some b) new n (inr made) has = subst (λ f. HasNumber f n) made has

-- no other file of the commands is one of these stamps
place_off : (names : List (List ℕ)) → ((x : List ℕ) → is_in names x ≡ true → IsTrue (is_name x)) → (q : Place) → IsLegalPlace q
    → ((x : List ℕ) → q ≡ Stamp x → ⊥) → is_stamp_of names (path_of q) ≡ false
place_off [] legal q ok none = refl
place_off (y ∷ ys) legal q ok none = or_from _ _
    (false_from_ne_true _ (λ here. none y (paths_never_meet q (Stamp y) ok (legal y (or_left _ _ ((bytes_eq-Decides y y).1 refl)))
    (sym ((bytes_eq-Decides (stamp_path y) (path_of q)).0 here)))))
    (place_off ys (λ x among. legal x (or_right _ _ among)) q ok none)

module _ (names : List (List ℕ)) (legal : (x : List ℕ) → is_in names x ≡ true → IsTrue (is_name x)) (start f g : Files) (is : IsBeside names start f g)
    (h : History) where
  same_place : (q : Place) → IsLegalPlace q → ((x : List ℕ) → q ≡ Stamp x → ⊥) → content f (path_of q) ≡ content g (path_of q)
  same_place q ok none = is.same (path_of q) (place_off names legal q ok none)

  shown_after_acts : Shows f h → Shows g h
  shown_after_acts shows = same_shows f g h shows (sym (same_place AutoConf tt (λ x e. cc))) (sym (same_place Header tt (λ x e. cc)))
      (λ x name has. ⊎_elim
      (λ is_one. number_made (content start (stamp_path x)) (content g (stamp_path x)) (stamp h x) (is.made (stamp_path x) is_one)
      (subst (λ file. HasNumber file (stamp h x)) (is.kept (stamp_path x) is_one) has))
      (λ other. subst (λ file. HasNumber file (stamp h x)) (is.same (stamp_path x) other) has)
      (cases_Bool (is_stamp_of names (stamp_path x))))
      (λ o r last. sym (same_place (CommandFile o) tt (λ x e. cc)))

  shown_after_calls : Shows g h → Shows f h
  shown_after_calls shows = same_shows g f h shows (same_place AutoConf tt (λ x e. cc)) (same_place Header tt (λ x e. cc))
      (λ x name has. ⊎_elim
      (λ is_one. subst (λ file. HasNumber file (stamp h x)) (sym (is.kept (stamp_path x) is_one))
      (number_unmade (content start (stamp_path x)) (content g (stamp_path x)) (stamp h x) (is.made (stamp_path x) is_one) has))
      (λ other. subst (λ file. HasNumber file (stamp h x)) (sym (is.same (stamp_path x) other)) has)
      (cases_Bool (is_stamp_of names (stamp_path x))))
      (λ o r last. same_place (CommandFile o) tt (λ x e. cc))

pub stampers_side_by_side : StampersSideBySide
stampers_side_by_side jobs seen names files h acts shuffle are places legal each shows make finds shown =
    let cs = calls seen names files acts make in
    shown_after_acts names legal files (after_all files (all cs)) (after_acts files (all acts)) (whole seen names files acts make) _
    (side_by_side jobs seen files h cs shuffle are places each shows (keep seen names files acts make) (calls_found seen names files acts make finds)
    (λ i. let start = view (seen i) files in
    shown_after_calls names legal start (after_all start (own i cs)) (after_acts start (own i acts)) (mine seen names files acts make i start) _ (shown i)))
