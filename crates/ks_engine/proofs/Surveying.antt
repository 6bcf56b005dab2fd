-- What is known of the numbers of a tree, record by record and stamp by stamp.
use Rattle.ks_engine.proofs.Prelude.{◌≡◌, ◌⊎◌, inl, inr, ⊎_elim, ⊎_map, ℕ, List, [], ◌∷◌, ◌++◌, ◌≤◌, ◌<◌, Option, Some, None, true, ◌∙◌, append_assoc, sym, refl, subst, subst₂, arith, common_steps, All, All-nil, All-push, All-take, All-weaker, take-append_seam, bytes_eq, bytes_eq-Decides, list_any-append, list_any_at, length, length-map, get_or, get_or-map, map, ap, false, Ok, Err, EngineError, BadPath, TooLarge, IsTooLarge, IsAborted, and_then, old_auto, auto_refusal, auto_generation, auto_path, ◌+◌, is_target, or_left, or_right, is_in, is_name, IsTrue, Files, content, HasNumber, command_path, stamp_path}
use Rattle.std.specs.Prelude.{IsPermutation, max}
use Rattle.std.specs.Ordering.{nat_cmp, ord_max}
use Rattle.std.proofs.lemmas.List.Sorted.{All-permutation, IsPermutation-append_comm, IsPermutation-append_left, IsPermutation-append_right, IsPermutation-refl, IsPermutation-trans}
use Rattle.ks_engine.specs.declared.repairing.Kept.{Kept}
use Rattle.ks_engine.specs.declared.repairing.Repaired.{Repaired}
use Rattle.ks_engine.specs.declared.repairing.Repaired.TheVariants.{PutBack, BegunAgain, Nothing}
use Rattle.ks_engine.specs.declared.error.EngineError.TheVariants.{GenerationFull}
use Rattle.std.specs.Borrow.{Bor}
use Rattle.ks_engine.proofs.Reading.{ok_ok, old_some}
use Rattle.ks_tree.specs.declared.tree.Tree.{Ghosts}
use Rattle.ks_tree.specs.Files.{HasRisen}
use Rattle.ks_tree.specs.Frames.{Counted, Reads}
use Rattle.ks_engine.specs.Repairs.{AreLost, AreStamps, Begins, IsBeginningRefused, IsBegun, IsLast, IsPutBack, IsRepairRefused, IsRepaired, IsSurvey, RepairLeaves, kept_auto, HasBadTarget, HasLargeStamp, HasNumberUpTo, generation_in, IsHighestRecord, IsLostStamp, IsRecordNumber, IsRecordedAt, IsStampNumber}

pub in_more : (xs : List (List ℕ)) (y x : List ℕ) → is_in xs x ≡ true → is_in (xs ++ y ∷ []) x ≡ true
in_more xs y x is = list_any-append (bytes_eq x) xs (y ∷ []) ∙ or_left _ _ is

pub in_last : (xs : List (List ℕ)) (y : List ℕ) → is_in (xs ++ y ∷ []) y ≡ true
in_last xs y = list_any-append (bytes_eq y) xs (y ∷ []) ∙ or_right _ _ (or_left _ _ ((bytes_eq-Decides y y).1 refl))

pub max_is : (a b : ℕ) → ord_max nat_cmp a b ≡ max a b
max_is a b = grind (arith, common_steps)

-- the greater of two numbers is one of them
either : (a b : ℕ) → (max a b ≡ a) ⊎ (max a b ≡ b)
either a b = grind arith

up : (n a b : ℕ) → n ≤ a → n ≤ max a b
up n a b le = omega arith

up_right : (n a b : ℕ) → n ≤ b → n ≤ max a b
up_right n a b le = omega arith

pub no_records : (files : Files) → IsHighestRecord files [] 0
no_records files = record { each = All-nil _; one = inl refl }

pub records_more : (files : Files) (done : List (List ℕ)) (o : List ℕ) (highest n : ℕ) → IsHighestRecord files done highest
    → IsRecordNumber o (content files (command_path o)) n → IsHighestRecord files (done ++ o ∷ []) (max highest n)
records_more files done o highest n was is = record {
  each = All-push (λ p. (g : ℕ) → IsRecordedAt p (content files (command_path p)) g → g ≤ max highest n) done o
      (All-weaker (λ p. (g : ℕ) → IsRecordedAt p (content files (command_path p)) g → g ≤ highest)
      (λ p. (g : ℕ) → IsRecordedAt p (content files (command_path p)) g → g ≤ max highest n)
      (λ p all g at. up g highest n (all g at)) done was.each)
      (λ g at. up_right g highest n (is.each g at));
  one = ⊎_elim
      (λ first. ⊎_map (λ zero. first ∙ zero)
      (λ found. (found.0, in_more done o found.0 found.1, subst (IsRecordedAt found.0 (content files (command_path found.0))) (sym first) found.2)) was.one)
      (λ second. ⊎_map (λ zero. second ∙ zero)
      (λ at. (o, in_last done o, subst (IsRecordedAt o (content files (command_path o))) (sym second) at)) is.one)
      (either highest n);
}

pub no_stamps : (files : Files) → AreStamps files [] [] 0
no_stamps files = record { legal = All-nil _; are_lost = All-nil _; others = []; numbered = All-nil _; all = IsPermutation-refl []; one = inl refl }

moved : (lost others : List (List ℕ)) (x : List ℕ) → IsPermutation ((lost ++ others) ++ x ∷ []) ((lost ++ x ∷ []) ++ others)
moved lost others x = subst₂ IsPermutation (sym (append_assoc lost others (x ∷ []))) (sym (append_assoc lost (x ∷ []) others))
    (IsPermutation-append_right lost (others ++ x ∷ []) (x ∷ others) (IsPermutation-append_comm others (x ∷ [])))

module _ (files : Files) (done lost : List (List ℕ)) (x : List ℕ) (highest : ℕ) (was : AreStamps files done lost highest) where
  -- a stamp with a number
  pub stamps_more : (n : ℕ) → IsTrue (is_name x) → IsStampNumber (content files (stamp_path x)) (Some n) → AreStamps files (done ++ x ∷ []) lost (max highest n)
  stamps_more n legal is = record {
    legal = All-push (λ y. IsTrue (is_name y)) done x was.legal legal;
    are_lost = was.are_lost;
    others = was.others ++ x ∷ [];
    numbered = All-push (λ y. HasNumberUpTo (max highest n) (content files (stamp_path y))) was.others x
        (All-weaker (λ y. HasNumberUpTo highest (content files (stamp_path y))) (λ y. HasNumberUpTo (max highest n) (content files (stamp_path y)))
        (λ y has. (has.0, has.1, has.2, up has.0 highest n has.3)) was.others was.numbered)
        (n, is.0, is.1, up_right n highest n (omega arith));
    all = subst (IsPermutation (done ++ x ∷ [])) (append_assoc lost was.others (x ∷ [])) (IsPermutation-append_left (x ∷ []) done (lost ++ was.others) was.all);
    one = ⊎_elim
        (λ first. ⊎_map (λ zero. first ∙ zero)
        (λ found. (found.0, in_more done x found.0 found.1, subst (HasNumber (content files (stamp_path found.0))) (sym first) found.2)) was.one)
        (λ second. inr (x, in_last done x, subst (HasNumber (content files (stamp_path x))) (sym second) is.0))
        (either highest n);
  }

  -- a stamp that says nothing
  pub lost_more : IsTrue (is_name x) → IsStampNumber (content files (stamp_path x)) None → AreStamps files (done ++ x ∷ []) (lost ++ x ∷ []) highest
  lost_more legal is = record {
    legal = All-push (λ y. IsTrue (is_name y)) done x was.legal legal;
    are_lost = All-push (λ y. IsLostStamp (content files (stamp_path y))) lost x was.are_lost is;
    others = was.others;
    numbered = was.numbered;
    all = IsPermutation-trans (done ++ x ∷ []) ((lost ++ was.others) ++ x ∷ []) ((lost ++ x ∷ []) ++ was.others)
        (IsPermutation-append_left (x ∷ []) done (lost ++ was.others) was.all)
        (moved lost was.others x);
    one = ⊎_map (λ zero. zero) (λ found. (found.0, in_more done x found.0 found.1, found.2)) was.one;
  }

-- The names that lost their stamp are legal.
pub lost_legal : (files : Files) (names lost : List (List ℕ)) (highest : ℕ) → AreStamps files names lost highest → All (λ x. IsTrue (is_name x)) lost
lost_legal files names lost highest are = subst (All (λ x. IsTrue (is_name x))) (take-append_seam lost are.others)
    (All-take (λ x. IsTrue (is_name x)) (length lost) (lost ++ are.others) (All-permutation (λ x. IsTrue (is_name x)) names (lost ++ are.others) are.all are.legal))

-- ---- steps that may refuse

-- One more call that only reads, and that the device didn't fail.
pub reads_more : {T : Type 0} (tree : Ghosts T) (a b c : T) (device : Type 0) → Reads tree a b ⊥ → Reads tree b c device → Reads tree a c ⊥
reads_more tree a b c device first second = record {
  unchanged = λ honest. second.unchanged honest ∙ first.unchanged honest;
  kept = second.kept ∙ first.kept;
  counted = record { later = omega (arith, first.counted.later, second.counted.later); cause = λ never. absurd never };
}

risen : (a b c : ℕ) → a ≤ b → HasRisen b c → HasRisen a c
risen a b c le is = omega (arith, le, is)

-- One more call that writes
pub counted_more : {T : Type 0} (tree : Ghosts T) (a b c : T) (device : Type 0) → Counted tree a b ⊥ → Counted tree b c device → Counted tree a c device
counted_more tree a b c device first second = record { later = omega (arith, first.later, second.later); cause = λ is. risen (tree.failures a) (tree.failures b) (tree.failures c) first.later (second.cause is) }

pub generation_refused : (file : Option (List ℕ)) (e : EngineError) → IsAborted e ⊎ (old_auto file ≡ Err e) → IsAborted e ⊎ (generation_in file ≡ Err e)
generation_refused file e = ⊎_map (λ given. given) (ap (λ o. and_then o (λ auto. Ok auto.generation)))

pub generation_none : (file : Option (List ℕ)) → file ≡ None → generation_in file ≡ Ok 0
unfolding old_auto
generation_none file at = rw at refl

pub generation_some : (file : Option (List ℕ)) (b : List ℕ) (g : ℕ) → file ≡ Some b → auto_refusal b ≡ None → g ≡ auto_generation b → generation_in file ≡ Ok g
generation_some file b g at fine is = rw (old_some file b None at fine, ← is) refl

-- an element of a list is among its elements
pub at_place : (xs : List (List ℕ)) (i : ℕ) (d x : List ℕ) → i < length xs → x ≡ get_or xs i d → is_in xs x ≡ true
at_place xs i d x within is = list_any_at (bytes_eq x) xs i d within ((bytes_eq-Decides x (get_or xs i d)).1 is)

abbrev pub seen : Bor (List ℕ) → List ℕ
seen t = t.now

pub bad_target : (ts : List (Bor (List ℕ))) (i : ℕ) (d : Bor (List ℕ)) (e : EngineError) → i < length ts
    → IsAborted e ⊎ ((is_target (get_or ts i d).now ≡ false) × (e ≡ BadPath 0)) → IsAborted e ⊎ (HasBadTarget (map seen ts) × (e ≡ BadPath 0))
bad_target ts i d e within = ⊎_map (λ given. given) (λ is.
    (((get_or ts i d).now, at_place (map seen ts) i d.now (get_or ts i d).now (rw length-map within) (sym (get_or-map seen ts i d d.now within)), is.0), is.1))

pub large_stamp : (files : Files) (names : List (List ℕ)) (i : ℕ) (x : List ℕ) (e : EngineError) → i < length names → x ≡ get_or names i x
    → IsAborted e ⊎ (IsTooLarge (content files (stamp_path x)) × (e ≡ TooLarge)) → IsAborted e ⊎ (HasLargeStamp files names × (e ≡ TooLarge))
large_stamp files names i x e within at = ⊎_map (λ given. given) (λ is. ((x, at_place names i x x within at, is.0), is.1))

-- Where nothing was kept, it isn't of the last synchronisation.
pub nothing_kept : (kept : Option Kept) (g r s : ℕ) → kept ≡ None → generation_in (kept_auto kept) ≡ Ok g → IsLast g r s → ⊥
nothing_kept kept g r s none is last =
    let zero : 0 ≡ g = ok_ok 0 g (sym (generation_none (kept_auto kept) (ap kept_auto none)) ∙ is) in
    omega (arith, zero, last.numbered)

-- ---- what a repair answers

module _ (files : Files) (kept : Option Kept) (names targets : List (List ℕ)) (g r s : ℕ) (lost : List (List ℕ)) (survey : IsSurvey files kept names targets g r s lost) where
  pub puts_back : (new : Files) (k : Kept) (answer : Repaired) → kept ≡ Some k → IsLast g r s → answer ≡ PutBack g (length lost) → g < 18446744073709551615
      → IsPutBack files new k (g + 1) lost → IsRepaired files new kept names targets answer
  puts_back new k answer given last is headroom done = rw is (record {
    records = r;
    stamps = s;
    lost = lost;
    survey = survey;
    last = last;
    headroom = headroom;
    counted = refl;
    k = k;
    given = given;
    done = done;
  })

  pub put_back_refused : (new : Files) (k : Kept) (e : EngineError) → kept ≡ Some k → IsLast g r s
      → ((new ≡ files) × (g ≡ 18446744073709551615) × (e ≡ GenerationFull))
      ⊎ (IsAborted e × ((renewed : List (List ℕ)) × RepairLeaves files new k (g + 1) lost renewed)) → IsRepairRefused files new kept names targets e
  put_back_refused new k e given last (inl full) = inl (
    full.0,
    inr (inr (inr (inl (
      record {
        records = r;
        stamps = s;
        lost = lost;
        survey = subst (λ n. IsSurvey files kept names targets n r s lost) full.1 survey;
        decided = subst (λ n. IsLast n r s) full.1 last;
      },
      full.2,
    )))),
  )
  put_back_refused new k e given last (inr off) = inr (inl (
    off.0,
    inr (record {
      generation = g;
      records = r;
      stamps = s;
      lost = lost;
      survey = survey;
      last = last;
      k = k;
      given = given;
      renewed = off.1.0;
      leaves = off.1.1;
    }),
  ))

  not_last_by : (kept ≡ None) ⊎ (IsLast g r s → ⊥) → IsLast g r s → ⊥
  not_last_by (inl none) last = nothing_kept kept g r s none survey.is_kept last
  not_last_by (inr denied) last = denied last

  are_lost : (kept ≡ None) ⊎ (IsLast g r s → ⊥) → (present : ℕ) → generation_in (content files auto_path) ≡ Ok present
      → AreLost files kept names targets (max (max g r) present) s
  are_lost not_last present is = record {
    generation = g;
    records = r;
    lost = lost;
    survey = survey;
    not_last = not_last_by not_last;
    present = present;
    auto = is;
    highest = refl;
  }

  pub begins : (new : Files) (answer : Repaired) → (kept ≡ None) ⊎ (IsLast g r s → ⊥)
      → (present : ℕ) × (generation_in (content files auto_path) ≡ Ok present) × IsBegun files new (max (max g r) present) s names targets answer
      → Begins files new kept names targets answer
  begins new answer not_last found = (max (max g r) found.0, s, are_lost not_last found.0 found.1, found.2)

  pub begin_refused : (new : Files) (e : EngineError) → (kept ≡ None) ⊎ (IsLast g r s → ⊥)
      → ((new ≡ files) × (IsAborted e ⊎ (generation_in (content files auto_path) ≡ Err e)))
      ⊎ ((present : ℕ) × (generation_in (content files auto_path) ≡ Ok present) × IsBeginningRefused files new (max (max g r) present) s names targets e)
      → IsRepairRefused files new kept names targets e
  begin_refused new e not_last (inl (same, inl aborted)) = inr (inl (aborted, inl same))
  begin_refused new e not_last (inl (same, inr bad)) = inl (
    same,
    inr (inr (inr (inr (
      (g, record { records = r; stamps = s; lost = lost; survey = survey; decided = not_last_by not_last }),
      bad,
    )))),
  )
  begin_refused new e not_last (inr (present, read, refused)) = inr (inr (max (max g r) present, s, are_lost not_last present read, refused))

-- An answer of a beginning is none that puts back.
pub begun_answer : (files new : Files) (kept : Option Kept) (names targets : List (List ℕ)) (answer : Repaired) → Begins files new kept names targets answer
    → IsRepaired files new kept names targets answer
begun_answer files new kept names targets (PutBack g n) found = absurd found.3
begun_answer files new kept names targets (BegunAgain n) found = found
begun_answer files new kept names targets Nothing found = found
