-- Whether a script synchronises shows in how its lines begin, where none of them is faulty.
use Rattle.ks_requests.proofs.Prelude.{◌≡◌, ◌∙◌, ◌⊎◌, ◌+◌, ◌<◌, ◌≤◌, ◌&&◌, ◌||◌, ℕ, Bool, true, false, not, nat_le, List, [], ◌∷◌, length, Option, Some, None, option_map, refl, sym, ap, inl, inr, arith, cases_Bool, cases_lt, cond-true, cond-false, cons_option, false≢true, filter_map, is_none, is_comment_or_blank, lines, list_any, nat_tests, nil_from_length, not-false, not-true, opened, or_cases, or_parts, position_from, rules, Line, Sync, Record, Stale, Says, ScriptError, begins_sync, is_faulty, is_sync, script_line, script_lines, script_refusal, script_syncs}
use Rattle.ks_requests.proofs.ScriptFaults.{not_large, too_large}
use Rattle.ks_requests.proofs.ScriptSpellings.{lines_are_spelled}
use Rattle.ks_requests.specs.declared.script_error.ScriptError.TheVariants as fault

none_faulty : (n : ℕ) (xs : List (List ℕ)) → is_none (option_map fault.BadScript (position_from is_faulty n xs)) ≡ not (list_any is_faulty xs)
none_faulty n [] = refl
none_faulty n (x ∷ xs) = search (rules, cases_Bool, cond-true, cond-false, (none_faulty (n + 1) xs))

pub faultless : (text : List ℕ) → length text ≤ 67108864 → not (list_any is_faulty (lines text)) ≡ is_none (script_refusal text)
faultless text small = sym (ap (λ (o : Option ScriptError). is_none o) (not_large text small) ∙ none_faulty 1 (lines text))

is_above : (n m : ℕ) → m < n → nat_le n m ≡ false
is_above n m h = grind (arith, nat_tests)

pub not_faultless : (text : List ℕ) → 67108864 < length text → nat_le (length text) 67108864 ≡ is_none (script_refusal text)
not_faultless text large = is_above _ _ large ∙ sym (ap (λ (o : Option ScriptError). is_none o) (too_large text large))

none_is_faulty : (text : List ℕ) → (67108864 < length text) ⊎ (length text ≤ 67108864) → is_none (script_refusal text) ≡ true
    → list_any is_faulty (lines text) ≡ false
none_is_faulty text (inl large) h = absurd (false≢true (sym (ap (λ (o : Option ScriptError). is_none o) (too_large text large)) ∙ h))
none_is_faulty text (inr small) h = not-true _ (faultless text small ∙ h)

-- ---- a line that is not faulty

stated_syncs : (line : List ℕ) (stated : Line) → Says line stated → is_sync stated ≡ begins_sync line
stated_syncs line (Sync kconfig dotconfig) h = sym (ap begins_sync h.2)
stated_syncs line (Record depfile target command) h = sym (ap begins_sync h.2)
stated_syncs line (Stale target) h = sym (ap begins_sync h.1)

comment_or_blank_begins_not : (line : List ℕ) → is_comment_or_blank line ≡ true → begins_sync line ≡ false
comment_or_blank_begins_not line h = search (rules, or_cases, opened, nil_from_length)

or_nothing : (b : Bool) → (b || false) ≡ b
or_nothing true = refl
or_nothing false = refl

line_syncs : (line : List ℕ) (stated : Option Line) → script_line line ≡ stated → is_faulty line ≡ false → list_any is_sync (cons_option stated []) ≡ begins_sync line
line_syncs line None e h = sym (comment_or_blank_begins_not line (search (rules, not-false)))
line_syncs line (Some stated) e h = or_nothing (is_sync stated) ∙ stated_syncs line stated ((lines_are_spelled line stated).0 e)

among : (o : Option Line) (xs : List Line) → list_any is_sync (cons_option o xs) ≡ (list_any is_sync (cons_option o []) || list_any is_sync xs)
among None xs = refl
among (Some stated) xs = ap (λ b. b || list_any is_sync xs) (sym (or_nothing (is_sync stated)))

lines_sync : (xs : List (List ℕ)) → list_any is_faulty xs ≡ false → list_any is_sync (filter_map script_line xs) ≡ list_any begins_sync xs
lines_sync [] h = refl
lines_sync (x ∷ xs) h =
    let parts = or_parts (is_faulty x) (list_any is_faulty xs) h in
    among (script_line x) (filter_map script_line xs)
    ∙ ap (λ b. b || list_any is_sync (filter_map script_line xs)) (line_syncs x (script_line x) refl parts.0)
    ∙ ap (λ b. begins_sync x || b) (lines_sync xs parts.1)

-- ---- a script

lines_alike : (text : List ℕ) → is_none (script_refusal text) ≡ true → list_any is_sync (script_lines text) ≡ list_any begins_sync (lines text)
unfolding script_lines
lines_alike text h = lines_sync (lines text) (none_is_faulty text (cases_lt 67108864 (length text)) h)

pub syncs_if_begun : (text : List ℕ) → list_any begins_sync (lines text) ≡ true → is_none (script_refusal text) ≡ script_syncs text
syncs_if_begun text begun = both (is_none (script_refusal text)) _ _ (lines_alike text) begun
  where
    both : (b x y : Bool) → (b ≡ true → x ≡ y) → y ≡ true → b ≡ (b && x)
    both true x y h k = sym (h refl ∙ k)
    both false x y h k = refl

pub syncs_not : (text : List ℕ) → list_any begins_sync (lines text) ≡ false → false ≡ script_syncs text
syncs_not text none = neither (is_none (script_refusal text)) _ _ (lines_alike text) none
  where
    neither : (b x y : Bool) → (b ≡ true → x ≡ y) → y ≡ false → false ≡ (b && x)
    neither true x y h k = sym (h refl ∙ k)
    neither false x y h k = refl
