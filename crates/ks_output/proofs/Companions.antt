-- Names that end as the macro of a module, and the lines of a name and of its companion, in either order.
use Rattle.ks_output.proofs.Prelude.{◌≡◌, ◌⊎◌, inl, inr, ℕ, Bool, true, false, cond, not, nat_eq, List, [], ◌∷◌, ◌++◌, length, length-append, bytes_eq, bytes_decides, Option, Some, None, refl, sym, ap, ◌∙◌, subst, arith, common_steps, filter, cases_Bool, cond-true, ends_with, module_end, without_module, drop-append_seam, take-append_seam, append-nil, ap₂, Kind, definition_of, companion_of, is_companion, front, defined_as, is_of_module, modules_last}
use Rattle.std.proofs.lemmas.Slice.Eq.{ends_is}
use Rattle.std.proofs.lemmas.Bool.Decides.{Decides-eqb}

pub less-module : (name : List ℕ) → without_module (name ++ module_end) ≡ name
less-module name = grind (arith, common_steps, length-append, drop-append_seam, cond-true, take-append_seam)

pub joined : (name : List ℕ) → ends_with nat_eq name module_end ≡ true → name ≡ without_module name ++ module_end
joined name e =
    let is = (ends_is Decides-eqb name module_end (ends_with nat_eq name module_end) refl).0 e in
    is ∙ ap (λ b. b ++ module_end) (sym (cond-true _ _ _ e))

pub ends_so : (x : List ℕ) → ends_with nat_eq (x ++ module_end) module_end ≡ true
ends_so x = (ends_is Decides-eqb (x ++ module_end) module_end (ends_with nat_eq (x ++ module_end) module_end) refl).1 x refl

-- the test of the name less its end is that of the name with it
pub base_test : (name x : List ℕ) → ends_with nat_eq name module_end ≡ true → bytes_eq (without_module name) x ≡ bytes_eq name (x ++ module_end)
base_test name x e =
    let is = joined name e in
    let back = less-module x in
    let one = bytes_decides (without_module name) x in
    let two = bytes_decides name (x ++ module_end) in
    elim (cases_Bool (bytes_eq name (x ++ module_end))) [
      | inl same ↦ one.1 (ap without_module (two.0 same) ∙ back) ∙ sym same
      | inr other ↦ elim (cases_Bool (bytes_eq (without_module name) x)) [
        | inl same ↦ absurd (cc (sym other ∙ two.1 (is ∙ ap (λ b. b ++ module_end) (one.0 same))))
        | inr none ↦ none ∙ sym other
      ]
    ]

-- the line of an entry, and whether it is about a name
abbrev pub line_of : List ℕ → Kind × List ℕ → List ℕ
line_of name s = front s.0 ++ name ++ defined_as s.0 s.1

abbrev pub hits : List ℕ → List ℕ → Kind → Bool
hits x name k = cond (is_companion k) (bytes_eq name (x ++ module_end)) (bytes_eq name x)

-- the lines of an entry and of a companion's, in one of the two orders
abbrev pub InEitherOrder : List ℕ → Option (Kind × List ℕ) → Option (Kind × List ℕ) → List (List ℕ) → Type 0
InEitherOrder x o c ls = (ls ≡ definition_of x o ++ companion_of x c) ⊎ (ls ≡ companion_of x c ++ definition_of x o)

-- where there is no line of the one, there are those of the other
of_own : (x : List ℕ) (o : Option (Kind × List ℕ)) (ls : List (List ℕ)) → InEitherOrder x o None ls → ls ≡ definition_of x o
of_own x o ls h = grind arith

of_companion : (x : List ℕ) (c : Option (Kind × List ℕ)) (ls : List (List ℕ)) → InEitherOrder x None c ls → ls ≡ companion_of x c
of_companion x c ls h = grind arith

-- one more line, in front and at the end
own_front : (x : List ℕ) (s : Kind × List ℕ) (c : Option (Kind × List ℕ)) (ls : List (List ℕ)) → ls ≡ companion_of x c
    → cond (cond (is_companion s.0) false true) (line_of x s ∷ ls) ls ≡ definition_of x (Some s) ++ companion_of x c
own_front x s c ls h = grind arith

own_back : (x : List ℕ) (s : Kind × List ℕ) (c : Option (Kind × List ℕ)) (ls : List (List ℕ)) → ls ≡ companion_of x c
    → ls ++ cond (cond (is_companion s.0) false true) (line_of x s ∷ []) [] ≡ companion_of x c ++ definition_of x (Some s)
own_back x s c ls h = grind arith

companion_front : (x : List ℕ) (s : Kind × List ℕ) (o : Option (Kind × List ℕ)) (ls : List (List ℕ)) → ls ≡ definition_of x o
    → cond (cond (is_companion s.0) true false) (line_of (x ++ module_end) s ∷ ls) ls ≡ companion_of x (Some s) ++ definition_of x o
companion_front x s o ls h = grind arith

companion_back : (x : List ℕ) (s : Kind × List ℕ) (o : Option (Kind × List ℕ)) (ls : List (List ℕ)) → ls ≡ definition_of x o
    → ls ++ cond (cond (is_companion s.0) true false) (line_of (x ++ module_end) s ∷ []) [] ≡ definition_of x o ++ companion_of x (Some s)
companion_back x s o ls h = grind arith

neither : (x : List ℕ) (o c : Option (Kind × List ℕ)) (b : Bool) (l : List ℕ) (ls : List (List ℕ)) → InEitherOrder x o c ls → InEitherOrder x o c (cond (cond b false false) (l ∷ ls) ls)
neither x o c true l ls h = h
neither x o c false l ls h = h

no_more : (x : List ℕ) (o c : Option (Kind × List ℕ)) (b : Bool) (l : List ℕ) (ls : List (List ℕ)) → InEitherOrder x o c ls
    → InEitherOrder x o c (ls ++ cond (cond b false false) (l ∷ []) [])
no_more x o c true l ls h = subst (InEitherOrder x o c) (sym (append-nil ls)) h
no_more x o c false l ls h = subst (InEitherOrder x o c) (sym (append-nil ls)) h

never : {P : Type 0} (x name : List ℕ) → name ≡ x → name ≡ x ++ module_end → P
never x name is other = let long = ap length (sym is ∙ other) in absurd (omega (arith, long, length-append x module_end))

-- .. of an entry under a name that had none: whether that is the name asked for, or its companion's
module _ (x name : List ℕ) (s : Kind × List ℕ) (o c : Option (Kind × List ℕ)) (ls : List (List ℕ)) where
  pub one_in_front : (a b t : Bool) → (a ≡ true → (name ≡ x) × (o ≡ None)) → (b ≡ true → (name ≡ x ++ module_end) × (c ≡ None)) → t ≡ cond (is_companion s.0) b a
      → InEitherOrder x o c ls → InEitherOrder x (cond a (Some s) o) (cond b (Some s) c) (cond t (line_of name s ∷ ls) ls)
  one_in_front true true t f g is h = never x name (f refl).0 (g refl).0
  one_in_front true false t f g is h =
      let is_x = (f refl).0 in let none = (f refl).1 in
      let one = own_front x s c ls (of_companion x c ls (subst (λ (q : Option (Kind × List ℕ)). InEitherOrder x q c ls) none h)) in
      subst (λ (u : Bool). InEitherOrder x (Some s) c (cond u (line_of name s ∷ ls) ls)) (sym is)
      (subst (λ (n : List ℕ). InEitherOrder x (Some s) c (cond (cond (is_companion s.0) false true) (line_of n s ∷ ls) ls)) (sym is_x) (inl one))
  one_in_front false true t f g is h =
      let is_x = (g refl).0 in let none = (g refl).1 in
      let one = companion_front x s o ls (of_own x o ls (subst (λ (q : Option (Kind × List ℕ)). InEitherOrder x o q ls) none h)) in
      subst (λ (u : Bool). InEitherOrder x o (Some s) (cond u (line_of name s ∷ ls) ls)) (sym is)
      (subst (λ (n : List ℕ). InEitherOrder x o (Some s) (cond (cond (is_companion s.0) true false) (line_of n s ∷ ls) ls)) (sym is_x) (inr one))
  one_in_front false false t f g is h =
      subst (λ (u : Bool). InEitherOrder x o c (cond u (line_of name s ∷ ls) ls)) (sym is) (neither x o c (is_companion s.0) (line_of name s) ls h)

  pub one_behind : (a b t : Bool) → (a ≡ true → (name ≡ x) × (o ≡ None)) → (b ≡ true → (name ≡ x ++ module_end) × (c ≡ None)) → t ≡ cond (is_companion s.0) b a
      → InEitherOrder x o c ls → InEitherOrder x (cond a (Some s) o) (cond b (Some s) c) (ls ++ cond t (line_of name s ∷ []) [])
  one_behind true true t f g is h = never x name (f refl).0 (g refl).0
  one_behind true false t f g is h =
      let is_x = (f refl).0 in let none = (f refl).1 in
      let one = own_back x s c ls (of_companion x c ls (subst (λ (q : Option (Kind × List ℕ)). InEitherOrder x q c ls) none h)) in
      subst (λ (u : Bool). InEitherOrder x (Some s) c (ls ++ cond u (line_of name s ∷ []) [])) (sym is)
      (subst (λ (n : List ℕ). InEitherOrder x (Some s) c (ls ++ cond (cond (is_companion s.0) false true) (line_of n s ∷ []) [])) (sym is_x) (inr one))
  one_behind false true t f g is h =
      let is_x = (g refl).0 in let none = (g refl).1 in
      let one = companion_back x s o ls (of_own x o ls (subst (λ (q : Option (Kind × List ℕ)). InEitherOrder x o q ls) none h)) in
      subst (λ (u : Bool). InEitherOrder x o (Some s) (ls ++ cond u (line_of name s ∷ []) [])) (sym is)
      (subst (λ (n : List ℕ). InEitherOrder x o (Some s) (ls ++ cond (cond (is_companion s.0) true false) (line_of n s ∷ []) [])) (sym is_x) (inl one))
  one_behind false false t f g is h =
      subst (λ (u : Bool). InEitherOrder x o c (ls ++ cond u (line_of name s ∷ []) [])) (sym is) (no_more x o c (is_companion s.0) (line_of name s) ls h)

-- sorted, they are one list
single : (l : List ℕ) → modules_last (l ∷ []) ≡ l ∷ []
unfolding modules_last
single l = grind arith

abbrev parted : (List ℕ → Bool) → List (List ℕ) → List (List ℕ)
parted p ls = filter (λ l. not (p l)) ls ++ filter p ls

pair_parted : (p : List ℕ → Bool) (d m : List ℕ) → p m ≡ true → (parted p (d ∷ m ∷ []) ≡ d ∷ m ∷ []) × (p d ≡ false → parted p (m ∷ d ∷ []) ≡ d ∷ m ∷ [])
pair_parted p d m e = grind arith

pair_of : (d m : List ℕ) (ls : List (List ℕ)) → is_of_module m ≡ true → (is_of_module d ≡ true → d ≡ m) → (ls ≡ d ∷ m ∷ []) ⊎ (ls ≡ m ∷ d ∷ []) → modules_last ls ≡ d ∷ m ∷ []
unfolding modules_last
pair_of d m ls e same (inl is) = ap modules_last is ∙ (pair_parted is_of_module d m e).0
pair_of d m ls e same (inr is) = elim (cases_Bool (is_of_module d)) [
  | inl of ↦ let one = same of in ap modules_last (is ∙ ap₂ (λ a b. a ∷ b ∷ []) (sym one) one) ∙ (pair_parted is_of_module d m e).0
  | inr other ↦ ap modules_last is ∙ (pair_parted is_of_module d m e).1 other
]

none_or_one : (b : Bool) (l : List ℕ) → modules_last (cond b (l ∷ []) []) ≡ cond b (l ∷ []) []
unfolding modules_last
none_or_one true l = single l
none_or_one false l = refl

one_or_none : (b : Bool) (l : List ℕ) → modules_last (cond b [] (l ∷ [])) ≡ cond b [] (l ∷ [])
unfolding modules_last
one_or_none true l = refl
one_or_none false l = single l

two : (p q : Bool) (d m : List ℕ) (ls : List (List ℕ)) → (q ≡ true → is_of_module m ≡ true) → (p ≡ false → q ≡ true → is_of_module d ≡ true → d ≡ m)
    → (ls ≡ cond p [] (d ∷ []) ++ cond q (m ∷ []) []) ⊎ (ls ≡ cond q (m ∷ []) [] ++ cond p [] (d ∷ [])) → modules_last ls ≡ cond p [] (d ∷ []) ++ cond q (m ∷ []) []
two true q d m ls f g (inl is) = ap modules_last is ∙ none_or_one q m
two true q d m ls f g (inr is) = ap modules_last (is ∙ append-nil _) ∙ none_or_one q m
two false true d m ls f g h = pair_of d m ls (f refl) (g refl refl) h
two false false d m ls f g (inl is) = ap modules_last is ∙ single d
two false false d m ls f g (inr is) = ap modules_last is ∙ single d

pub in_one_order : (x : List ℕ) (o c : Option (Kind × List ℕ)) (ls : List (List ℕ))
    → ((s t : Kind × List ℕ) → o ≡ Some s → c ≡ Some t → is_companion t.0 ≡ true → is_of_module (line_of (x ++ module_end) t) ≡ true)
    → ((s t : Kind × List ℕ) → o ≡ Some s → is_companion s.0 ≡ false → is_companion t.0 ≡ true → is_of_module (line_of x s) ≡ true → line_of x s ≡ line_of (x ++ module_end) t)
    → InEitherOrder x o c ls → modules_last ls ≡ definition_of x o ++ companion_of x c
unfolding modules_last
in_one_order x None None ls f g h = ap modules_last (of_own x None ls h)
in_one_order x None (Some t) ls f g h = ap modules_last (of_companion x (Some t) ls h) ∙ none_or_one (is_companion t.0) (line_of (x ++ module_end) t)
in_one_order x (Some s) None ls f g h =
    ap modules_last (of_own x (Some s) ls h) ∙ one_or_none (is_companion s.0) (line_of x s) ∙ sym (append-nil (definition_of x (Some s)))
in_one_order x (Some s) (Some t) ls f g h =
    two (is_companion s.0) (is_companion t.0) (line_of x s) (line_of (x ++ module_end) t) ls (f s t refl refl) (λ p q. g s t refl p q) h
