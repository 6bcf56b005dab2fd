-- What an auto.conf in pieces has come to, piece by piece.
use Rattle.ks_output.proofs.Prelude.{◌≡◌, inl, inr, ℕ, true, false, false≢true, ◌+◌, ◌<◌, ◌≤◌, List, [], ◌∷◌, ◌++◌, append-nil, append_assoc, take, length, length-append, map-append, arith, common_steps, Option, Some, None, Ok, option_map, refl, sym, ap, subst, ◌∙◌, cases_Bool, cond-true, lt-ltb, Class, Remark, Types, Numbers, remark, remarks, last_number, lines_of, AreWhole, AutoError, auto_fault, auto_generation, auto_refusal, Position, Front, Untyped, Typed, Entry, before_class, wants_entry, blamed, fault_left, seen_position, stated_left, AreRefused, IsWantedAfter, Passed, RanOut, refusal_with, Lines, AutoScan, StandsAfter, refusal_after}
use Rattle.std.proofs.Common.{◌-◌, is_some, map as map_list}
use Rattle.std.proofs.lemmas.List.{length-map, take-take}
use Rattle.bstr.proofs.lemmas.LengthLemmas.{length-lines_of}
use Rattle.ks_output.specs.declared.auto_conf.AutoError.TheVariants as fault
use Rattle.ks_output.specs.declared.positions.Position.TheVariants as position
use Rattle.ks_output.proofs.LastRemark.{not_large, number_after, number_after-append, number_after-zero, number_counts, with_number}

pub stands_first : (scan : AutoScan) → scan.position ≡ position.Front → scan.number ≡ 1 → scan.generation ≡ 0 → scan.fault ≡ None → scan.len ≡ 0 → StandsAfter scan []
unfolding fault_left auto_fault
stands_first scan front number generation none len = record {
  len = len;
  refusal = λ rest. rw (none, front, number) refl;
  generation = λ _ rest. rw generation (number_counts 0 (remarks rest) ∙ number_after-zero rest);
}

-- ---- at the last piece

pub scan_large : (scan : AutoScan) (t piece : List ℕ) → StandsAfter scan t → 67108864 - scan.len < length piece → auto_refusal (t ++ piece) ≡ Some fault.TooLarge
unfolding auto_refusal
scan_large scan t piece stands large =
    let long : 67108864 < length (t ++ piece) = omega (arith, length-append t piece, stands.len) in
    cond-true _ _ _ (lt-ltb _ _ long)

fits : (scan : AutoScan) (t piece : List ℕ) → StandsAfter scan t → scan.len ≤ 67108864 → length piece ≤ 67108864 - scan.len → length (t ++ piece) ≤ 67108864
fits scan t piece stands small fit = omega (arith, length-append t piece, stands.len)

pub whole_refusal : (scan : AutoScan) (t piece : List ℕ) → StandsAfter scan t → scan.len ≤ 67108864 → length piece ≤ 67108864 - scan.len
    → auto_refusal (t ++ piece) ≡ refusal_after scan (remarks piece)
whole_refusal scan t piece stands small fit = not_large (t ++ piece) (fits scan t piece stands small fit) ∙ sym (stands.refusal piece)

-- the lines of the last piece, and what follows all of them
pub record Begins (scan : AutoScan) (bytes : List ℕ) (l : Lines) : Type 0 where
  pub left : stated_left l ≡ remarks bytes
  pub position : l.position ≡ scan.position
  pub number : l.number ≡ scan.number
  pub fault : scan.fault ≡ None

pub begins : (scan : AutoScan) (bytes : List ℕ) (l : Lines) → stated_left l ≡ remarks bytes → l.position ≡ scan.position → l.number ≡ scan.number → scan.fault ≡ None → Begins scan bytes l
begins scan bytes l left position number fault = record { left = left; position = position; number = number; fault = fault }

-- why the whole is refused, by the lines
after_lines : (scan : AutoScan) (bytes : List ℕ) (l : Lines) (stated : List Remark) → Begins scan bytes l → refusal_after scan stated ≡ refusal_with l stated
after_lines scan bytes l stated b = rw (b.fault, b.position, b.number) refl

pub scan_refused : (scan : AutoScan) (bytes : List ℕ) (l : Lines) (e : AutoError) → Begins scan bytes l → AreRefused l e → refusal_after scan (remarks bytes) ≡ Some e
scan_refused scan bytes l e b refused =
    after_lines scan bytes l (remarks bytes) b ∙ ap (refusal_with l) (sym b.left ∙ sym (append-nil (stated_left l))) ∙ refused []

pub scan_ended : (scan : AutoScan) (bytes : List ℕ) (l m : Lines) → Begins scan bytes l → Passed (stated_left l) l m → refusal_after scan (remarks bytes) ≡ refusal_with m []
scan_ended scan bytes l m b passed =
    after_lines scan bytes l (remarks bytes) b ∙ ap (refusal_with l) (sym b.left ∙ sym (append-nil (stated_left l)))
    ∙ ap (option_map fault.BadAuto) (sym (passed.fault []))

pub scan_counted : (scan : AutoScan) (t bytes : List ℕ) (l : Lines) (g : ℕ) → StandsAfter scan t → Begins scan bytes l → g ≡ last_number (Numbers scan.generation ∷ stated_left l)
    → g ≡ auto_generation (t ++ bytes)
scan_counted scan t bytes l g stands b is = is ∙ ap (λ s. last_number (Numbers scan.generation ∷ s)) b.left ∙ stands.generation b.fault bytes

-- ---- at a piece that isn't the last

-- The scan has come to this many bytes more.
pub record Took (scan new : AutoScan) (bytes : List ℕ) : Type 0 where
  pub len : new.len ≡ scan.len + length bytes
  pub refusal : (rest : List ℕ) → refusal_after new (remarks rest) ≡ refusal_after scan (remarks (bytes ++ rest))
  pub generation : new.fault ≡ None → (scan.fault ≡ None) × ((rest : List ℕ) → last_number (Numbers new.generation ∷ remarks rest) ≡ last_number (Numbers scan.generation ∷ remarks (bytes ++ rest)))

stands_after : (scan new : AutoScan) (t bytes : List ℕ) → StandsAfter scan t → Took scan new bytes → StandsAfter new (t ++ bytes)
stands_after scan new t bytes stands took = record {
  len = took.len ∙ ap (λ n. n + length bytes) stands.len ∙ sym (length-append t bytes);
  refusal = λ rest. took.refusal rest ∙ stands.refusal (bytes ++ rest) ∙ ap (λ b. option_map fault.BadAuto (auto_fault b)) (sym (append_assoc t bytes rest));
  generation = λ none rest.
      (let before = took.generation none in
      before.1 rest ∙ stands.generation before.0 (bytes ++ rest) ∙ ap auto_generation (sym (append_assoc t bytes rest)));
}

pub stands_to : (scan new : AutoScan) (t bytes given : List ℕ) → StandsAfter scan t → Took scan new bytes → given ≡ bytes → StandsAfter new (t ++ given)
stands_to scan new t bytes given stands took is = subst (λ b. StandsAfter new (t ++ b)) (sym is) (stands_after scan new t bytes stands took)

pub some_fault : (o : Option AutoError) → is_some o ≡ true → (e : AutoError) × (o ≡ Some e)
some_fault (Some e) is = (e, refl)
some_fault None is = absurd (false≢true is)

pub no_fault : (o : Option AutoError) → is_some o ≡ false → o ≡ None
no_fault (Some e) is = absurd (false≢true (sym is))
no_fault None is = refl

pub known_fault : (scan : AutoScan) (e : AutoError) (stated : List Remark) → scan.fault ≡ Some e → refusal_after scan stated ≡ Some e
known_fault scan e stated is = rw is refl

-- a fault that is known
pub took_faulty : (scan new : AutoScan) (bytes : List ℕ) (e : AutoError) → scan.fault ≡ Some e → new.fault ≡ Some e → new.len ≡ scan.len + length bytes → Took scan new bytes
took_faulty scan new bytes e was is len = record {
  len = len;
  refusal = λ rest. rw (was, is) refl;
  generation = λ none. (let never : Some e ≡ None = sym is ∙ none in absurd (cc));
}

-- whole lines, and more lines after them
remarks_on : (bytes rest : List ℕ) → AreWhole bytes → remarks (bytes ++ rest) ≡ remarks bytes ++ remarks rest
remarks_on bytes rest whole = ap (map_list remark) (whole rest) ∙ map-append remark (lines_of bytes) (lines_of rest)

-- a fault that is found
pub took_fault : (scan new : AutoScan) (whole tail piece : List ℕ) (l : Lines) (e : AutoError) → AreWhole whole → Begins scan whole l → AreRefused l e → new.fault ≡ Some e
    → new.len ≡ scan.len + length piece → whole ++ tail ≡ piece → Took scan new piece
took_fault scan new whole tail piece l e are b refused is len split = subst (Took scan new) split (record {
  len = len ∙ ap (λ p. scan.len + length p) (sym split);
  refusal = λ rest.
      (let lines : remarks ((whole ++ tail) ++ rest) ≡ stated_left l ++ remarks (tail ++ rest) =
      ap remarks (append_assoc whole tail rest) ∙ remarks_on whole (tail ++ rest) are ∙ ap (λ s. s ++ remarks (tail ++ rest)) (sym b.left) in
      let now : refusal_after new (remarks rest) ≡ Some e = rw is refl in
      now ∙ sym (ap (refusal_after scan) lines ∙ after_lines scan whole l _ b ∙ refused (remarks (tail ++ rest))));
  generation = λ none. (let never : Some e ≡ None = sym is ∙ none in absurd (cc));
})

-- ---- whole lines that are taken

snoc_same : (xs ys : List Remark) (a b : Remark) → xs ++ a ∷ [] ≡ ys ++ b ∷ [] → xs ≡ ys
snoc_same [] [] a b e = refl
snoc_same [] (y ∷ ys) a b e = absurd (omega (arith, ap length e, length-append ys (b ∷ [])))
snoc_same (x ∷ xs) [] a b e = absurd (omega (arith, ap length e, length-append xs (a ∷ [])))
snoc_same (x ∷ xs) (y ∷ ys) a b e =
    let parts : (x ≡ y) × (xs ++ a ∷ [] ≡ ys ++ b ∷ []) = grind (arith, common_steps) in
    cc (parts.0, snoc_same xs ys a b parts.1)

not_wanted : (p : Position) (n : ℕ) → wants_entry p ≡ false → (before_class p ≡ p) × (blamed p n ≡ n)
not_wanted (Entry x k) n e = absurd (false≢true (sym e))
not_wanted p n e = (refl, refl)

pub settles : (p : Position) → wants_entry (before_class p) ≡ false
settles (Entry x k) = refl
settles Front = refl
settles Untyped = refl
settles Typed = refl

-- what the lines taken leave: the position and the number of the next one, and the generation
pub record Leaves (scan : AutoScan) (taken : List ℕ) (q : Position) (n g : ℕ) : Type 0 where
  pub fault : (later : List Remark) → fault_left q n later ≡ fault_left (seen_position scan.position) scan.number (remarks taken ++ later)
  pub generation : g ≡ number_after scan.generation (remarks taken)
  pub number : n ≡ scan.number + length (remarks taken)

leaves_all : (scan : AutoScan) (whole : List ℕ) (l m : Lines) (g : ℕ) → Begins scan whole l → Passed (stated_left l) l m → g ≡ number_after scan.generation (stated_left l)
    → Leaves scan whole (seen_position m.position) m.number g
leaves_all scan whole l m g b passed is = record {
  fault = λ later. passed.fault later ∙ rw (b.left, b.position, b.number) refl;
  generation = is ∙ ap (number_after scan.generation) b.left;
  number = passed.numbers ∙ rw (b.left, b.number) refl;
}

leaves_front : (scan : AutoScan) (whole taken line : List ℕ) (l m : Lines) (g : ℕ) (x : List ℕ) (k : Class) (front : List Remark) → Begins scan whole l
    → Passed (stated_left l) l m → g ≡ number_after scan.generation (stated_left l) → lines_of whole ≡ lines_of taken ++ line ∷ [] → stated_left l ≡ front ++ Types x k ∷ []
    → ((later : List Remark) → fault_left Typed (m.number - 1) later ≡ fault_left (seen_position l.position) l.number (front ++ later))
    → Leaves scan taken Typed (m.number - 1) g
unfolding number_after with_number
leaves_front scan whole taken line l m g x k front b passed is split ends before =
    let said : stated_left l ≡ remarks taken ++ remark line ∷ [] = b.left ∙ ap (map_list remark) split ∙ map-append remark (lines_of taken) (line ∷ []) in
    let same : front ≡ remarks taken = snoc_same front (remarks taken) (Types x k) (remark line) (sym ends ∙ said) in
    let long : length (stated_left l) ≡ length front + 1 = ap length ends ∙ length-append front (Types x k ∷ []) in
    record {
      fault = λ later. before later ∙ rw (same, b.position, b.number) refl;
      generation = is ∙ ap (number_after scan.generation) ends ∙ number_after-append scan.generation front (Types x k ∷ []) ∙ ap (number_after scan.generation) same;
      number = omega (arith, passed.numbers, long, b.number, ap length same);
    }

leaves_wanted : (scan : AutoScan) (whole taken line : List ℕ) (l m : Lines) (g : ℕ) (p : Position) → seen_position m.position ≡ p → Begins scan whole l → Passed (stated_left l) l m
    → g ≡ number_after scan.generation (stated_left l) → wants_entry (seen_position scan.position) ≡ false → lines_of whole ≡ lines_of taken ++ line ∷ []
    → IsWantedAfter (stated_left l) l m p → wants_entry p ≡ true → Leaves scan taken (before_class p) (blamed p m.number) g
leaves_wanted scan whole taken line l m g (Entry x k) at b passed is settled split wanted wants = elim wanted [
  | inl (none, same) ↦
      let free : wants_entry (Entry x k) ≡ false = ap wants_entry (sym same ∙ ap seen_position b.position) ∙ settled in
      absurd (false≢true (sym free))
  | inr (front, ends, before) ↦ leaves_front scan whole taken line l m g x k front b passed is split ends before
]
leaves_wanted scan whole taken line l m g p at b passed is settled split wanted wants = absurd (false≢true wants)

pub leaves : (scan : AutoScan) (whole taken : List ℕ) (l m : Lines) (g : ℕ) → Begins scan whole l → RanOut scan.generation l (Ok g) m
    → wants_entry (seen_position scan.position) ≡ false → (wants_entry (seen_position m.position) ≡ false → taken ≡ whole)
    → (wants_entry (seen_position m.position) ≡ true → (line : List ℕ) × (lines_of whole ≡ lines_of taken ++ line ∷ []))
    → Leaves scan taken (before_class (seen_position m.position)) (blamed (seen_position m.position) m.number) g
leaves scan whole taken l m g b ran settled all last =
    let p = seen_position m.position in
    let is = ran.1 ∙ number_counts scan.generation (stated_left l) in
    elim (cases_Bool (wants_entry p)) [
      | inl wants ↦ (let line = last wants in leaves_wanted scan whole taken line.0 l m g p refl b ran.0 is settled line.1 ran.0.wanted wants)
      | inr free ↦
          let same = not_wanted p m.number free in
          rw (same.0, same.1, all free) (leaves_all scan whole l m g b ran.0 is)
    ]

pub took_lines : (scan new : AutoScan) (taken : List ℕ) (q : Position) (n g : ℕ) → Leaves scan taken q n g → AreWhole taken → scan.fault ≡ None
    → new.fault ≡ scan.fault → seen_position new.position ≡ q → new.number ≡ n → new.generation ≡ g → new.len ≡ scan.len + length taken → Took scan new taken
took_lines scan new taken q n g left are none known position number generation len = record {
  len = len;
  refusal = λ rest.
      (let now : refusal_after new (remarks rest) ≡ option_map fault.BadAuto (fault_left q n (remarks rest)) = rw (known, none, position, number) refl in
      let was : refusal_after scan (remarks (taken ++ rest)) ≡ option_map fault.BadAuto (fault_left (seen_position scan.position) scan.number (remarks taken ++ remarks rest)) =
      rw (none, remarks_on taken rest are) refl in
      now ∙ ap (option_map fault.BadAuto) (left.fault (remarks rest)) ∙ sym was);
  generation = λ _. (
    none,
    λ rest.
        number_counts new.generation (remarks rest) ∙ ap (λ d. number_after d (remarks rest)) (generation ∙ left.generation)
        ∙ sym (number_after-append scan.generation (remarks taken) (remarks rest)) ∙ ap (number_after scan.generation) (sym (remarks_on taken rest are))
        ∙ sym (number_counts scan.generation (remarks (taken ++ rest))),
  );
}

-- the number of the next line is at most that of the bytes
pub counted_on : (scan : AutoScan) (taken : List ℕ) (q : Position) (n g : ℕ) → Leaves scan taken q n g → (0 < n) × (n ≤ scan.len + length taken + 1)
counted_on scan taken q n g left =
    let some = scan.counted.0 in
    let most = scan.counted.1 in
    let lines = length-lines_of taken in
    let said : length (remarks taken) ≡ length (lines_of taken) = length-map (lines_of taken) remark in
    (omega (arith, left.number), omega (arith, left.number))

-- the beginning of a beginning
pub part_of_part : (piece whole taken : List ℕ) → whole ≡ take (length whole) piece → length whole ≤ length piece → taken ≡ take (length taken) whole → length taken ≤ length whole
    → take (length taken) piece ≡ taken
part_of_part piece whole taken first within second inside =
    sym (take-take (length taken) (length whole) piece inside) ∙ ap (take (length taken)) (sym first) ∙ sym second
