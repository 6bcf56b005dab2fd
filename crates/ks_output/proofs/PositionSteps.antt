-- What the lines that are left come to, by the position where they stand, and how each line leads to the next one.
use Rattle.ks_output.proofs.Prelude.{◌≡◌, inl, inr, ℕ, Bool, true, false, cond, ◌+◌, ◌<◌, ◌≤◌, List, [], ◌∷◌, ◌++◌, append-nil, append_assoc, length, length-append, map-append, arith, common_steps, bytes_eq, Option, Some, None, Ok, option_map, refl, sym, ap, subst, ◌∙◌, Bor, Class, Texts, Remark, Gives, Marks, Types, CommentOrBlank, remarks, seen_remark, is_typed, heard, first_faulty, auto_fault, auto_map, auto_generation, auto_refusal, AutoError, Position, Front, Untyped, Typed, Entry, class_at, following, wants_entry, blamed, fault_left, seen_position, stated_left, AreLeftOf, AreRefused, Evaluated, IsWantedAfter, Passed, PassedEntries, RanOut, refusal_with, Lines, rules, cases_Bool, cond-false, cond-true}
use Rattle.std.proofs.Common.{◌-◌, map as map_list}
use Rattle.std.specs.FinMap as map
use Rattle.ks_symbols.specs.declared.kinds.Class.TheVariants as class
use Rattle.ks_output.specs.declared.auto_conf.AutoError.TheVariants as fault
use Rattle.ks_output.specs.declared.positions.Position as positions
use Rattle.ks_output.specs.declared.positions.Position.TheVariants as position
use Rattle.ks_output.specs.declared.auto_lines.Remark as auto_lines
use Rattle.ks_output.specs.declared.auto_lines.Remark.TheVariants as seen
use Rattle.ks_output.proofs.LastRemark.{with_given, texts_after, texts_after-empty, texts_after-class, texts_after-front, not_large, with_number, number_after, number_after-append, number_after-zero, number_counts, passed_number}

-- what a line leads to, by the position after it: the fault of the lines that follow, or the line to blame
led : Position → ℕ → List Remark → Option Position → Option ℕ
led p n stated None = Some (blamed p n)
led p n stated (Some q) = fault_left q (n + 1) stated

-- an entry where one has to stand
wanted : (x y t : List ℕ) (k : Class) (n : ℕ) (stated : List Remark) (b : Bool) → bytes_eq x y ≡ b → 0 < n
    → fault_left (Entry x k) n (Gives y t ∷ stated) ≡ led (Entry x k) n stated (cond b (Some Typed) None)
unfolding led fault_left first_faulty
wanted x y t k n stated b e h = search (rules, cases_Bool, cond-true, cond-false)

leads : (p : Position) (n : ℕ) (r : Remark) (stated : List Remark) → 0 < n → fault_left p n (r ∷ stated) ≡ led p n stated (following p r)
unfolding led fault_left first_faulty heard is_typed
leads (Entry x k) n (Gives y t) stated h = wanted x y t k n stated (bytes_eq x y) refl h
leads Typed n (Types x k) stated h = search rules
leads Front n Marks stated h = refl
leads Front n r stated h = refl
leads Untyped n r stated h = search rules
leads p n r stated h = refl

ends : (p : Position) (n : ℕ) → fault_left p n [] ≡ cond (wants_entry p) (Some (blamed p n)) None
unfolding fault_left first_faulty heard is_typed
ends (Entry x k) n = refl
ends p n = refl

-- an entry of a file of the typed form, right after another one
pub typed_entry : (p : positions.Position) (x t : List ℕ) → p ≡ position.Typed
    → (Some (seen_position p) ≡ following (seen_position p) (Gives x t)) × (Some class.Switch ≡ class_at (seen_position p))
typed_entry p x t e = subst (λ q. (Some (seen_position q) ≡ following (seen_position q) (Gives x t)) × (Some class.Switch ≡ class_at (seen_position q))) (sym e) (refl, refl)

-- ---- lines that were passed over

wants_class : (l m : Lines) (p : Position) (r : Remark) (x : List ℕ) (k : Class) → seen_position l.position ≡ p → m.number ≡ l.number + 1
    → Some (Entry x k) ≡ following p r → IsWantedAfter (r ∷ []) l m (Entry x k)
wants_class l m Typed (Types y c) x k at next e =
    let same : (x ≡ y) × (k ≡ c) = grind (arith, common_steps) in
    let before : m.number - 1 ≡ l.number = omega (arith, next) in
    inr ([], rw (same.0, same.1) refl, λ later. rw (at, before) refl)
wants_class l m p r x k at next e = grind (arith, common_steps)

-- an entry is wanted only after the line of its class
wanted_after : (l m : Lines) (q : Position) (r : Remark) → m.number ≡ l.number + 1 → Some q ≡ following (seen_position l.position) r → IsWantedAfter (r ∷ []) l m q
wanted_after l m (Entry x k) r next e = wants_class l m (seen_position l.position) r x k refl next e
wanted_after l m q r next e = tt

-- one line
pub one_passed : (l m : Lines) (r : Remark) → stated_left l ≡ r ∷ stated_left m → Some (seen_position m.position) ≡ following (seen_position l.position) r
    → m.number ≡ l.number + 1 → Passed (r ∷ []) l m
unfolding led
one_passed l m r split goes next = record {
  stated = split;
  fault = λ later. sym (leads (seen_position l.position) l.number r later l.counted.0 ∙ rw (← goes, ← next) refl);
  wanted = wanted_after l m (seen_position m.position) r next goes;
  numbers = next;
}

wanted_still : (l m : Lines) (p : Position) → seen_position l.position ≡ p → IsWantedAfter [] l m p
wanted_still l m (Entry x k) at = inl (refl, at)
wanted_still l m p at = tt

pub none_passed : (l m : Lines) → stated_left l ≡ stated_left m → m.position ≡ l.position → m.number ≡ l.number → Passed [] l m
none_passed l m same position number = record {
  stated = same;
  fault = λ later. rw (position, number) refl;
  wanted = wanted_still l m (seen_position m.position) (ap seen_position (sym position));
  numbers = number ∙ omega arith;
}

wanted_both : (a b : List Remark) (l m n : Lines) (r : Position) → Passed a l m → IsWantedAfter b m n r → n.number ≡ m.number + length b → IsWantedAfter (a ++ b) l n r
wanted_both a b l m n (Entry x k) first second next = elim second [
  | inl (none, same) ↦
      let number : n.number ≡ m.number = next ∙ ap (λ s. m.number + length s) none ∙ omega arith in
      let wanted : IsWantedAfter a l m (Entry x k) = subst (λ p. IsWantedAfter a l m p) same first.wanted in
      rw (none, append-nil a, number) wanted
  | inr (front, ends, before) ↦ inr (
    a ++ front,
    ap (λ s. a ++ s) ends ∙ sym (append_assoc a front (Types x k ∷ [])),
    λ later. before later ∙ first.fault (front ++ later) ∙ ap (fault_left (seen_position l.position) l.number) (sym (append_assoc a front later)),
  )
]
wanted_both a b l m n r first second next = tt

pub passed_on : (a b : List Remark) (l m n : Lines) → Passed a l m → Passed b m n → Passed (a ++ b) l n
passed_on a b l m n first second = record {
  stated = first.stated ∙ ap (λ s. a ++ s) second.stated ∙ sym (append_assoc a b (stated_left n));
  fault = λ later. second.fault later ∙ first.fault (b ++ later) ∙ ap (fault_left (seen_position l.position) l.number) (sym (append_assoc a b later));
  wanted = wanted_both a b l m n _ first second.wanted second.numbers;
  numbers = omega (arith, first.numbers, second.numbers, length-append a b);
}

pub no_entries : (l : Lines) → PassedEntries l l
no_entries l = ([], none_passed l l refl refl refl, refl)

pub entries_passed : (l m n : Lines) (x t : List ℕ) → PassedEntries l m → Passed (Gives x t ∷ []) m n → n.position ≡ m.position → PassedEntries l n
entries_passed l m n x t (entries, passed, same) next position =
    (entries ++ (x, t) ∷ [], rw (map-append (λ (e : List ℕ × List ℕ). Gives e.0 e.1) entries ((x, t) ∷ [])) (passed_on _ _ l m n passed next), position ∙ same)

-- A line that can't stand there is refused, whatever follows it, and so are the lines before it.
pub line_refused : (l : Lines) (r : Remark) (stated : List Remark) → stated_left l ≡ r ∷ stated → None ≡ following (seen_position l.position) r
    → AreRefused l (fault.BadAuto (blamed (seen_position l.position) l.number))
unfolding led
line_refused l r stated split goes = λ later.
    let p = seen_position l.position in
    let now : fault_left p l.number (r ∷ (stated ++ later)) ≡ Some (blamed p l.number) = leads p l.number r (stated ++ later) l.counted.0 ∙ rw (← goes) refl in
    rw (split, now) refl

pub refused_before : (said : List Remark) (l m : Lines) (e : AutoError) → Passed said l m → AreRefused m e → AreRefused l e
refused_before said l m e passed refused = λ later. ap (option_map fault.BadAuto)
    (ap (fault_left (seen_position l.position) l.number) (ap (λ s. s ++ later) passed.stated ∙ append_assoc said (stated_left m) later)
    ∙ sym (passed.fault (stated_left m ++ later))) ∙ refused later

-- the end, where an entry is wanted and where none is
pub end_refused : (l : Lines) → wants_entry (seen_position l.position) ≡ true → refusal_with l [] ≡ Some (fault.BadAuto (blamed (seen_position l.position) l.number))
end_refused l wants = let end : fault_left (seen_position l.position) l.number [] ≡ Some (blamed (seen_position l.position) l.number) = ends (seen_position l.position) l.number ∙ rw wants refl in rw end refl

pub end_accepted : (l : Lines) → wants_entry (seen_position l.position) ≡ false → refusal_with l [] ≡ None
end_accepted l wants = let end : fault_left (seen_position l.position) l.number [] ≡ None = ends (seen_position l.position) l.number ∙ rw wants refl in rw end refl

-- ---- the run through all lines

pub one_said : (l m : Lines) (o : Option (auto_lines.Remark × Option Class)) (x : auto_lines.Remark × Option Class) → Evaluated l (Ok o) m → o ≡ Some x
    → Passed (seen_remark x.0 ∷ []) l m
one_said l m o x evaluated is = (subst (λ r. Evaluated l (Ok r) m) is evaluated).0

pub none_said : (l m : Lines) (o : Option (auto_lines.Remark × Option Class)) → Evaluated l (Ok o) m → o ≡ None → (stated_left l ≡ []) × Passed [] l m
none_said l m o evaluated is = subst (λ r. Evaluated l (Ok r) m) is evaluated

-- what was said so far, and the generation after it
pub Runs : ℕ → Lines → Lines → ℕ → Type 0
Runs before old l g = (said : List Remark) × Passed said old l × (g ≡ number_after before said)

pub runs_from : (l : Lines) (g : ℕ) → Runs g l l g
unfolding Runs number_after
runs_from l g = ([], none_passed l l refl refl refl, refl)

pub runs_over : (before : ℕ) (old l m : Lines) (g : ℕ) → Runs before old l g → PassedEntries l m → Runs before old m g
unfolding Runs
runs_over before old l m g (said, passed, is) (entries, next, same) = (
  said ++ map_list (λ e. Gives e.0 e.1) entries,
  passed_on _ _ old l m passed next,
  is ∙ sym (passed_number (number_after before said) entries) ∙ sym (number_after-append before said (map_list (λ e. Gives e.0 e.1) entries)),
)

pub runs_on : (before : ℕ) (old l m : Lines) (g h : ℕ) (r : Remark) → Runs before old l g → Passed (r ∷ []) l m → h ≡ with_number g r → Runs before old m h
unfolding Runs number_after
runs_on before old l m g h r (said, passed, is) next with =
    (said ++ r ∷ [], passed_on _ _ old l m passed next, with ∙ ap (λ n. with_number n r) is ∙ sym (number_after-append before said (r ∷ [])))

pub ran_out : (before : ℕ) (old l m : Lines) (g : ℕ) → Runs before old l g → stated_left l ≡ [] → Passed [] l m → RanOut before old (Ok g) m
unfolding Runs
ran_out before old l m g (said, passed, is) none next =
    let all : stated_left old ≡ said = passed.stated ∙ ap (λ s. said ++ s) none ∙ append-nil said in
    (subst (λ s. Passed s old m) (append-nil said ∙ sym all) (passed_on said [] old l m passed next), is ∙ ap (number_after before) (sym all) ∙ sym (number_counts before (stated_left old)))

pub run_refused : (before : ℕ) (old l : Lines) (g : ℕ) (e : AutoError) → Runs before old l g → AreRefused l e → AreRefused old e
unfolding Runs
run_refused before old l g e (said, passed, is) refused = refused_before said old l e passed refused

-- ---- the lines of a whole text

pub all_left : (text : List ℕ) (l : Lines) → length text ≤ 67108864 → stated_left l ≡ remarks text → l.position ≡ position.Front → l.number ≡ 1 → AreLeftOf text l
unfolding fault_left auto_fault
all_left text l small left position number = record { small = small; fault = rw (left, position, number) refl }

pub goes_on : (text : List ℕ) (said : List Remark) (l m : Lines) → AreLeftOf text l → Passed said l m → AreLeftOf text m
goes_on text said l m is passed = record {
  small = is.small;
  fault = passed.fault (stated_left m) ∙ ap (fault_left (seen_position l.position) l.number) (sym passed.stated) ∙ is.fault;
}

pub left_refused : (text : List ℕ) (l : Lines) (e : AutoError) → AreLeftOf text l → AreRefused l e → auto_refusal text ≡ Some e
left_refused text l e is refused = not_large text is.small ∙ ap (option_map fault.BadAuto) (sym is.fault ∙ ap (fault_left (seen_position l.position) l.number) (sym (append-nil (stated_left l)))) ∙ refused []

pub left_ends : (text : List ℕ) (l : Lines) → AreLeftOf text l → stated_left l ≡ [] → auto_refusal text ≡ refusal_with l []
left_ends text l is none = not_large text is.small ∙ ap (option_map fault.BadAuto) (sym is.fault ∙ ap (fault_left (seen_position l.position) l.number) none)

-- the map, where there was one before
pub texts_left : Texts → Position → List Remark → Texts
texts_left m Front stated = texts_after (is_typed stated) m CommentOrBlank stated
texts_left m Untyped stated = texts_after false m CommentOrBlank stated
texts_left m Typed stated = texts_after true m CommentOrBlank stated
texts_left m (Entry x k) stated = texts_after true m (Types x k) stated

texts_left-nil : (m : Texts) (p : Position) → texts_left m p [] ≡ m
unfolding texts_left texts_after
texts_left-nil m (Entry x k) = refl
texts_left-nil m p = refl

-- the map with the entry, if it is one, of a line at a position
unfoldable pub with_line : Texts → Position → Remark → Texts
with_line m p (Gives x t) = map.insert m x (class_at p, t)
with_line m p r = m

pub Adds : Texts → Position → Remark → List Remark → Option Position → Type 0
Adds m p r stated None = Unit {0}
Adds m p r stated (Some q) = texts_left m p (r ∷ stated) ≡ texts_left (with_line m p r) q stated

adds_wanted : (m : Texts) (x y t : List ℕ) (k : Class) (stated : List Remark) (b : Bool) → Adds m (Entry x k) (Gives y t) stated (cond b (Some Typed) None)
unfolding Adds texts_left with_line with_given texts_after
adds_wanted m x y t k stated false = tt
adds_wanted m x y t k stated true = texts_after-class true _ (Gives y t) CommentOrBlank stated refl

pub adds : (m : Texts) (p : Position) (r : Remark) (stated : List Remark) → Adds m p r stated (following p r)
unfolding Adds texts_left with_line with_given is_typed texts_after
adds m (Entry x k) (Gives y t) stated = adds_wanted m x y t k stated (bytes_eq x y)
adds m Front r stated = search (rules, texts_after-class, texts_after-front)
adds m p r stated = search (rules, texts_after-class)

pub with_line-others : (m : Texts) (p : Position) (r : auto_lines.Remark) → ((x t : Bor (List ℕ)) → r ≡ seen.Gives x t → ⊥) → with_line m p (seen_remark r) ≡ m
unfolding with_line
with_line-others m p (seen.Gives x t) ne = absurd (ne x t refl)
with_line-others m p r ne = refl

-- What was read so far and what the lines that are left do to it is what all lines do: the generation, and the texts.
pub record Counts (text : List ℕ) (l : Lines) (g : ℕ) : Type 0 where
  pub lines : AreLeftOf text l
  pub number : number_after g (stated_left l) ≡ auto_generation text

pub Fills : List ℕ → Lines → Texts → Type 0
Fills text l m = texts_left m (seen_position l.position) (stated_left l) ≡ auto_map text

pub counts_all : (text : List ℕ) (l : Lines) → AreLeftOf text l → stated_left l ≡ remarks text → Counts text l 0
counts_all text l left all = record { lines = left; number = ap (number_after 0) all ∙ number_after-zero text }

pub fills_all : (text : List ℕ) (l : Lines) (m : Texts) → stated_left l ≡ remarks text → l.position ≡ position.Front → m ≡ map.empty → Fills text l m
unfolding Fills texts_left auto_map
fills_all text l m all front none = search (rules, texts_left, texts_after-empty)

module _ (text : List ℕ) (l next : Lines) (o : Option (auto_lines.Remark × Option Class)) (evaluated : Evaluated l (Ok o) next) where
  pub counts_on : (g h : ℕ) (x : auto_lines.Remark × Option Class) → Counts text l g → o ≡ Some x → h ≡ with_number g (seen_remark x.0) → Counts text next h
  unfolding number_after
  counts_on g h x counts is with =
      let step = subst (λ r. Evaluated l (Ok r) next) is evaluated in
      record {
        lines = goes_on text _ l next counts.lines step.0;
        number = ap (λ n. number_after n (stated_left next)) with ∙ sym (ap (number_after g) step.0.stated) ∙ counts.number;
      }

  pub fills_on : (m n : Texts) (x : auto_lines.Remark × Option Class) → Fills text l m → o ≡ Some x
      → (x.1 ≡ class_at (seen_position l.position) → n ≡ with_line m (seen_position l.position) (seen_remark x.0)) → Fills text next n
  unfolding Adds Fills
  fills_on m n x fills is with =
      let step = subst (λ r. Evaluated l (Ok r) next) is evaluated in
      let p = seen_position l.position in
      let added = rw (← step.1) at (adds m p (seen_remark x.0) (stated_left next)) in
      cc (with step.2, added, step.0.stated, fills)

  pub counted : (g : ℕ) → Counts text l g → o ≡ None → g ≡ auto_generation text
  unfolding number_after
  counted g counts none = let step = subst (λ r. Evaluated l (Ok r) next) none evaluated in sym (ap (number_after g) step.0) ∙ counts.number

  pub filled : (m : Texts) → Fills text l m → o ≡ None → m ≡ auto_map text
  unfolding Fills
  filled m fills none =
      let step = subst (λ r. Evaluated l (Ok r) next) none evaluated in
      sym (ap (texts_left m (seen_position l.position)) step.0 ∙ texts_left-nil m (seen_position l.position)) ∙ fills

  -- nothing is left, and the text is refused where it can't end there
  pub ends_with : (g : ℕ) → Counts text l g → o ≡ None → auto_refusal text ≡ refusal_with next []
  ends_with g counts none =
      let step = subst (λ r. Evaluated l (Ok r) next) none evaluated in
      left_ends text next (goes_on text [] l next counts.lines step.1) (sym step.1.stated ∙ step.0)
