-- The entries of a y or an m that a text begins with.
use Rattle.ks_output.proofs.Prelude.{is_name, opened, append_assoc, statements_are_spelled, ◌≡◌, ℕ, true, List, [], ◌∷◌, ◌++◌, length, take, drop, codes, starts_with, nat_eq, Some, sym, ap, subst, refl, ⊎_elim, or_cases, ◌∙◌, Assigns, statement, entry_line, Gives, remarks, rules}
use Rattle.std.proofs.Common.{◌-◌, ◌||◌}
use Rattle.std.proofs.lemmas.List.{take_rest}
use Rattle.ks_output.proofs.ReadBack.{entry_remark}
use Rattle.ks_output.proofs.WrittenLines.{is_plain}

-- of one byte
entry_ahead : (text name written : List ℕ) (b : ℕ) → statement text ≡ Some (Assigns name written) → is_plain (b ∷ []) ≡ true
    → starts_with nat_eq written (b ∷ 10 ∷ []) ≡ true → remarks text ≡ Gives name (take 1 written) ∷ remarks (drop 2 written)
entry_ahead text name written b stated plain begins =
    let (legal, spelled) = (statements_are_spelled text (Assigns name written)).0 stated in
    let rest = drop 2 written in
    let split = opened written (b ∷ 10 ∷ []) begins in
    let grouped : codes "CONFIG_" ++ name ++ codes "=" ++ ((b ∷ 10 ∷ []) ++ rest) ≡ entry_line name (b ∷ []) ++ rest = search (rules, append_assoc) in
    ap remarks (spelled ∙ ap (λ w. codes "CONFIG_" ++ name ++ codes "=" ++ w) split ∙ grouped) ∙ entry_remark name (b ∷ []) rest legal plain
    ∙ ap (λ t. Gives name t ∷ remarks rest) (sym (ap (take 1) split))

pub switch_ahead : (text name written : List ℕ) → statement text ≡ Some (Assigns name written)
    → starts_with nat_eq written (codes "y\n") || starts_with nat_eq written (codes "m\n") ≡ true
    → remarks text ≡ Gives name (take 1 written) ∷ remarks (take (length written - 2) (drop 2 written))
switch_ahead text name written stated begins =
    let rest = sym (take_rest written 2) in
    subst (λ r. remarks text ≡ Gives name (take 1 written) ∷ remarks r) rest
    (⊎_elim (entry_ahead text name written 121 stated refl) (entry_ahead text name written 109 stated refl) (or_cases _ _ begins))

-- the same of a text that is known by its bytes
spelled_ahead : (text name after : List ℕ) (b : ℕ) → is_name name ≡ true → text ≡ codes "CONFIG_" ++ name ++ after → is_plain (b ∷ []) ≡ true
    → starts_with nat_eq after (61 ∷ b ∷ 10 ∷ []) ≡ true → remarks text ≡ Gives name (b ∷ []) ∷ remarks (drop 3 after)
spelled_ahead text name after b legal spelled plain begins =
    let rest = drop 3 after in
    let split = opened after (61 ∷ b ∷ 10 ∷ []) begins in
    let grouped : codes "CONFIG_" ++ name ++ ((61 ∷ b ∷ 10 ∷ []) ++ rest) ≡ entry_line name (b ∷ []) ++ rest = search (rules, append_assoc) in
    ap remarks (spelled ∙ ap (λ a. codes "CONFIG_" ++ name ++ a) split ∙ grouped) ∙ entry_remark name (b ∷ []) rest legal plain

passed_on : (text name after : List ℕ) (b : ℕ) → is_name name ≡ true → text ≡ codes "CONFIG_" ++ name ++ after → is_plain (b ∷ []) ≡ true
    → starts_with nat_eq after (61 ∷ b ∷ 10 ∷ []) ≡ true → (e : List ℕ × List ℕ) × (remarks text ≡ Gives e.0 e.1 ∷ remarks (take (length after - 3) (drop 3 after)))
passed_on text name after b legal spelled plain begins =
    ((name, b ∷ []), spelled_ahead text name after b legal spelled plain begins ∙ ap (λ r. Gives name (b ∷ []) ∷ remarks r) (sym (take_rest after 3)))

pub switch_passed : (text name after : List ℕ) → is_name name ≡ true → text ≡ codes "CONFIG_" ++ name ++ after
    → starts_with nat_eq after (codes "=y\n") || starts_with nat_eq after (codes "=m\n") ≡ true
    → (e : List ℕ × List ℕ) × (remarks text ≡ Gives e.0 e.1 ∷ remarks (take (length after - 3) (drop 3 after)))
switch_passed text name after legal spelled begins =
    ⊎_elim (passed_on text name after 121 legal spelled refl) (passed_on text name after 109 legal spelled refl) (or_cases _ _ begins)
