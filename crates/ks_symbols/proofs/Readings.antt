-- A quoted text reads as itself, and what reads as a text is that text quoted.
use Rattle.ks_symbols.proofs.Prelude.{same_Some, ◌≡◌, ◌↔◌, ℕ, ◌==◌, ◌||◌, not, Bool, true, false, cond, List, [], ◌∷◌, ◌++◌, Option, Some, None, option_map, flat_map, IsTrue, refl, sym, ap, subst, ◌∙◌, arith, list_all, cond-true, cond-false, false≢true, and_parts, nat_tests, eqb_tells, is_escaped, escape, unquoted, unquoted_rest, text_of, is_string_byte, is_text, ReadsAreTexts, rules}
use mathlib.Core.Logic.{inl, inr}
use Rattle.ks_symbols.specs.declared.kinds.Kind.TheVariants as kind

-- a text that is tested has no other text
plain : (b : Bool) (w t : List ℕ) → (cond b (Some w) None ≡ Some t) ↔ (IsTrue b × (t ≡ w))
plain b w t = search (rules, same_Some, false≢true)

-- an escaped byte is a byte of a string
escaped_ok : (c : ℕ) → is_escaped c ≡ true → is_string_byte c ≡ true
escaped_ok c e = grind (arith, nat_tests)

mapped : (c : ℕ) (o : Option (List ℕ)) (t : List ℕ) → option_map (λ l. c ∷ l) o ≡ Some t → (r : List ℕ) × (o ≡ Some r) × (c ∷ r ≡ t)
mapped c o t e = search (rules, same_Some)

step_escape : (c : ℕ) (rest t : List ℕ) → is_escaped c ≡ true → IsTrue (list_all is_string_byte t) × (rest ≡ flat_map escape t ++ 34 ∷ [])
    → IsTrue (list_all is_string_byte (c ∷ t)) × (92 ∷ c ∷ rest ≡ flat_map escape (c ∷ t) ++ 34 ∷ [])
step_escape c rest t e h = search (rules, escaped_ok, cond-true)

step_byte : (c : ℕ) (rest t : List ℕ) → is_escaped c ≡ false → is_string_byte c ≡ true → IsTrue (list_all is_string_byte t)
    × (rest ≡ flat_map escape t ++ 34 ∷ [])
    → IsTrue (list_all is_string_byte (c ∷ t)) × (c ∷ rest ≡ flat_map escape (c ∷ t) ++ 34 ∷ [])
step_byte c rest t e s h = grind (arith, nat_tests)

chosen : (b : Bool) (o : Option (List ℕ)) (t : List ℕ) → cond b o None ≡ Some t → (b ≡ true) × (o ≡ Some t)
chosen b o t e = grind arith

passed : (b : Bool) (o : Option (List ℕ)) (t : List ℕ) → cond b None o ≡ Some t → (b ≡ false) × (o ≡ Some t)
passed b o t e = grind arith

-- what reads as a text from the first quote on spells it, up to the last quote
spelled : (w t : List ℕ) → unquoted_rest w ≡ Some t → IsTrue (list_all is_string_byte t) × (w ≡ flat_map escape t ++ 34 ∷ [])
unfolding unquoted_rest
spelled [] t e = absurd (cc e)
spelled (b ∷ []) t e = search (rules, eqb_tells, same_Some, cond-true, cond-false)
spelled (b ∷ c ∷ rest) t e =
    let Spells = λ (l : List ℕ). IsTrue (list_all is_string_byte l) × (b ∷ c ∷ rest ≡ flat_map escape l ++ 34 ∷ []) in
    elim (eqb_tells b 92) [
      | inl w ↦
          let known = chosen (is_escaped c) _ t (sym (cond-true (b == 92) _ _ w.0) ∙ e) in
          let m = mapped c (unquoted_rest rest) t known.1 in
          let s = step_escape c rest m.0 known.0 (spelled rest m.0 m.1) in
          subst Spells m.2 (s.0, ap (λ (x : ℕ). x ∷ c ∷ rest) w.1 ∙ s.1)
      | inr w ↦
          let known = passed (b == 34 || not (is_string_byte b)) _ t (sym (cond-false (b == 92) _ _ w.0) ∙ e) in
          let m = mapped b (unquoted_rest (c ∷ rest)) t known.1 in
          let plain : is_escaped b ≡ false = grind (arith, known.0, w.0) in
          let byte : is_string_byte b ≡ true = grind (arith, known.0) in
          subst Spells m.2 (step_byte b (c ∷ rest) m.0 plain byte (spelled (c ∷ rest) m.0 m.1))
    ]

plain_step : (c : ℕ) (l : List ℕ) → is_escaped c ≡ false → is_string_byte c ≡ true → unquoted_rest (c ∷ (l ++ 34 ∷ []))
    ≡ option_map (λ t. c ∷ t) (unquoted_rest (l ++ 34 ∷ []))
unfolding unquoted_rest
plain_step c l e s = search (rules, cond-false, nat_tests)

read_again : (t : List ℕ) → IsTrue (list_all is_string_byte t) → unquoted_rest (flat_map escape t ++ 34 ∷ []) ≡ Some t
unfolding unquoted_rest
read_again [] h = refl
read_again (c ∷ t) h = grind (arith, and_parts, plain_step, (read_again t))

opened : (w t : List ℕ) → unquoted w ≡ Some t → (rest : List ℕ) × (w ≡ 34 ∷ rest) × (unquoted_rest rest ≡ Some t)
unfolding unquoted
opened w t e = search (rules, eqb_tells, cond-true, cond-false)

pub reads_are_texts : ReadsAreTexts
unfolding text_of is_text unquoted
reads_are_texts kind.Text w t = (
  λ e. let o = opened w t e in let s = spelled o.0 t o.2 in (s.0, o.1 ∙ ap (λ (l : List ℕ). 34 ∷ l) s.1),
  λ h. ap unquoted h.1 ∙ read_again t h.0,
)
reads_are_texts k w t = plain _ w t
