-- A line of auto.conf by its first byte: only one that begins with a `#` is a mark, and each mark is told from the others.
use Rattle.ks_output.proofs.Prelude.{opened, ◌≡◌, ℕ, Bool, true, false, List, [], ◌∷◌, ◌&&◌, length, drop, codes, starts_with, nat_eq, bytes_eq, sym, ap, refl, ◌∙◌, statement, stated_by, class_remark, assigned, rules, cond-false, false≢true, ne_eqb}
use Rattle.std.proofs.Common.{◌||◌, ◌==◌}

left_false : (same : Bool) → (same && true) ≡ false → same ≡ false
left_false false e = refl
left_false true e = e

first_false : (same rest : Bool) → same ≡ false → (same && rest) ≡ false
first_false same rest e = ap (λ b. b && rest) e

no_mark : (bare mark : List ℕ) → starts_with nat_eq bare (codes "#") ≡ false → starts_with nat_eq bare (35 ∷ mark) ≡ false
no_mark [] mark e = refl
no_mark (x ∷ xs) mark e = first_false _ _ (left_false (nat_eq 35 x) e)

no_equal : (bare mark : List ℕ) → starts_with nat_eq bare (codes "#") ≡ false → bytes_eq bare (35 ∷ mark) ≡ false
no_equal [] mark e = refl
no_equal (x ∷ xs) mark e = first_false _ _ (ne_eqb x 35 (λ (is : x ≡ 35). false≢true (sym e ∙ ap (λ y. nat_eq 35 y && true) is)))

pub unmarked : (ended : Bool) (bare : List ℕ) → starts_with nat_eq bare (codes "#") ≡ false → (length bare == 0) ≡ false → stated_by ended bare ≡ assigned (statement bare)
unfolding stated_by
unmarked ended bare e some =
    let generation : starts_with nat_eq bare (codes "#generation ") ≡ false = no_mark bare (codes "generation ") e in
    let typed : bytes_eq bare (codes "#typed") ≡ false = no_equal bare (codes "typed") e in
    let class : starts_with nat_eq bare (codes "#type ") ≡ false = no_mark bare (codes "type ") e in
    let comment : ((length bare == 0) || starts_with nat_eq bare (codes "#")) ≡ false = ap (λ b. b || starts_with nat_eq bare (codes "#")) some ∙ e in
    search (rules, cond-false, generation, typed, class, comment)

pub typed_mark : (ended : Bool) (bare : List ℕ) → starts_with nat_eq bare (codes "#type ") ≡ true → stated_by ended bare ≡ class_remark (drop 6 bare)
unfolding stated_by
typed_mark ended bare e = ap (stated_by ended) (opened bare (codes "#type ") e)

pub marks_comment : (bare : List ℕ) → starts_with nat_eq bare (codes "#") ≡ true → ((length bare == 0) || starts_with nat_eq bare (codes "#")) ≡ true
marks_comment bare e = search rules
