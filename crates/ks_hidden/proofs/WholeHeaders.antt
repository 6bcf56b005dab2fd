-- A header that confstamp or conf writes lacks none of its definitions.
use Rattle.ks_output.proofs.Prelude.{◌≡◌, ℕ, Bool, true, false, cond, List, [], ◌∷◌, ◌++◌, codes, bytes_eq, bytes_decides, Option, Some, None, option_map, refl, sym, subst, nat_list_cmp_total, ap, ap₂, ◌∙◌, not, append_assoc, rules, find, order, is_eq, lines, is_text, is_title, Class, Kind, Configuration, IsEntry, class_of, header_heading, definition_lines, header_text, kept, texts_of}
use Rattle.std.specs.Prelude.{◌||◌}
use Rattle.std.specs.List.{AllByRecursion, list_any}
use Rattle.std.specs.FinMap as map
use Rattle.std.proofs.lemmas.List.{append_cancel_right}
use Rattle.ks_output.specs.Written.{older_heading}
use Rattle.ks_output.specs.WrittenLaws.{Entries, conf_header}
use Rattle.ks_output.proofs.Companions.{line_of}
use Rattle.ks_output.proofs.Definitions.{plain_line}
use Rattle.ks_output.proofs.Entries.{AllEntries, all_entries, tied}
use Rattle.ks_output.proofs.Texts.{texts_are_of_entries}
use Rattle.ks_output.proofs.WrittenLines.{is_plain, plain-append, plain_title, plain_text}
use Rattle.ks_hidden.specs.HeaderLines.{kind_for, definition, has_line, is_lacking, lacks}
use Rattle.ks_hidden.specs.HeaderLinesLaws.{WrittenLacksNone, ConfLacksNone}
use Rattle.ks_hidden.proofs.HeaderLines.{next, heading_lines, older_lines, classes_alike}

-- the first line, and those behind it
either : (a b : Bool) → b ≡ true → (a || b) ≡ true
either true b h = refl
either false b h = h

foremost : (l rest : List ℕ) → is_plain l ≡ true → has_line (lines (l ++ 10 ∷ rest)) l ≡ true
foremost l rest h = ap (λ (ls : List (List ℕ)). has_line ls l) (next l rest h) ∙ ap (λ (b : Bool). b || has_line (lines rest) l) ((bytes_decides l l).1 refl)

behind : (l rest x : List ℕ) → is_plain l ≡ true → has_line (lines rest) x ≡ true → has_line (lines (l ++ 10 ∷ rest)) x ≡ true
behind l rest x h is = ap (λ (ls : List (List ℕ)). has_line ls x) (next l rest h) ∙ either (bytes_eq x l) _ is

-- What holds of the first entry of a name, and of the others' if that is theirs, holds of the name's value.
at_name : (P : List ℕ → Kind × List ℕ → Type 0) (x : List ℕ) (s : Kind × List ℕ) (e : List ℕ × (Kind × List ℕ)) (o : Option (Kind × List ℕ)) → P e.0 e.1
    → (o ≡ Some s → P x s) → (b : Bool) → is_eq (order x e.0) ≡ b → cond b (Some e.1) o ≡ Some s → P x s
at_name P x s e o here later true tie is =
    let value : e.1 ≡ s = cc is in
    subst (λ (v : Kind × List ℕ). P x v) value (subst (λ (n : List ℕ). P n e.1) (sym (tied x e.0 tie)) here)
at_name P x s e o here later false tie is = later is

entry_of : (x : List ℕ) (s : Kind × List ℕ) (es : Entries) → AllByRecursion (λ e. IsEntry e.0 e.1) es → find order x es ≡ Some s → IsEntry x s
entry_of x s [] h is = absurd (cc is)
entry_of x s (e ∷ es) h is = at_name IsEntry x s e (find order x es) h.0 (entry_of x s es h.1) (is_eq (order x e.0)) refl is

stands : (x : List ℕ) (s : Kind × List ℕ) (es : Entries) → AllByRecursion (λ e. IsEntry e.0 e.1) es → find order x es ≡ Some s
    → has_line (lines (definition_lines es)) (line_of x s) ≡ true
stands x s [] h is = absurd (cc is)
stands x s (e ∷ es) h is =
    let rest = definition_lines es in
    let split : definition_lines (e ∷ es) ≡ line_of e.0 e.1 ++ 10 ∷ rest = search (rules, append_assoc) in
    let plain : is_plain (line_of e.0 e.1) ≡ true = plain_line e.0 e.1 (h.0.named, plain_text e.1.0 e.1.1 h.0.typed) in
    ap (λ (t : List ℕ). has_line (lines t) (line_of x s)) split
    ∙ at_name (λ n v. has_line (lines (line_of e.0 e.1 ++ 10 ∷ rest)) (line_of n v) ≡ true) x s e (find order x es)
    (foremost (line_of e.0 e.1) rest plain)
    (λ is. behind (line_of e.0 e.1) rest (line_of x s) plain (stands x s es h.1 is))
    (is_eq (order x e.0)) refl is

-- the headings
titled : (title : List ℕ) → is_title title ≡ true → is_plain (codes " * " ++ title) ≡ true
titled title h = plain-append (codes " * ") title refl (plain_title title h)

below_heading : (title rest x : List ℕ) → is_title title ≡ true → has_line (lines rest) x ≡ true → has_line (lines (header_heading title ++ rest)) x ≡ true
below_heading title rest x h is =
    ap (λ (t : List ℕ). has_line (lines t) x) (heading_lines title rest)
    ∙ behind (codes "/*") _ x refl
    (behind (codes " * Automatically generated file; DO NOT EDIT.") _ x refl (behind (codes " * " ++ title) _ x (titled title h) (behind (codes " */") rest x refl is)))

below_older : (title rest x : List ℕ) → is_title title ≡ true → has_line (lines rest) x ≡ true → has_line (lines (older_heading title ++ rest)) x ≡ true
below_older title rest x h is =
    ap (λ (t : List ℕ). has_line (lines t) x) (older_lines title rest)
    ∙ behind (codes "/*") _ x refl
    (behind (codes " *") _ x refl
    (behind (codes " * Automatically generated file; DO NOT EDIT.") _ x refl
    (behind (codes " * " ++ title) _ x (titled title h) (behind (codes " *") _ x refl (behind (codes " */") rest x refl is)))))

below : (older : Bool) (title : List ℕ) (es : Entries) (x : List ℕ) → is_title title ≡ true → has_line (lines (definition_lines es)) x ≡ true
    → has_line (lines (conf_header older title es)) x ≡ true
below true title es x h is = below_older title (definition_lines es) x h is
below false title es x h is = below_heading title (definition_lines es) x h is

-- where each entry has its line, none is lacking
abbrev Held : List (List ℕ) → List ℕ → Option Class × List ℕ → Type 0
Held ls x t = is_lacking ls (x, t) ≡ false

held : (ls : List (List ℕ)) (x : List ℕ) (s : Kind × List ℕ) → is_text s.0 s.1 ≡ true → has_line ls (line_of x s) ≡ true → Held ls x (kept s)
held ls x s typed is =
    let same : line_of x s ≡ definition x (kind_for (class_of s.0)) s.1 = append_cancel_right _ _ (codes "\n") (classes_alike s.0 x s.1 typed) in
    ap not (ap (has_line ls) (sym same) ∙ is)

kept_held : (ls : List (List ℕ)) (x : List ℕ) (t : Option Class × List ℕ) (o : Option (Kind × List ℕ)) → option_map kept o ≡ Some t
    → ((s : Kind × List ℕ) → o ≡ Some s → Held ls x (kept s)) → Held ls x t
kept_held ls x t (Some s) is each = let same : kept s ≡ t = cc is in subst (Held ls x) same (each s refl)
kept_held ls x t None is each = absurd (cc is)

none_of : (ls : List (List ℕ)) (ts : List (List ℕ × (Option Class × List ℕ))) → AllEntries (Held ls) ts → list_any (λ e. is_lacking ls e) ts ≡ false
none_of ls [] h = refl
none_of ls (t ∷ ts) h = ap₂ (λ (a b : Bool). a || b) h.0 (none_of ls ts h.1)

lacks_none : (settings : Configuration) (header : List ℕ)
    → ((x : List ℕ) (s : Kind × List ℕ) → map.get settings x ≡ Some s → Held (lines header) x (kept s)) → lacks (texts_of settings) header ≡ false
unfolding lacks
lacks_none settings header each =
    none_of (lines header) (map.entries (texts_of settings))
    (all_entries (Held (lines header)) (texts_of settings)
    (λ x t is. kept_held (lines header) x t (map.get settings x) (sym (texts_are_of_entries settings x) ∙ is) (each x)))

-- the whole
of_entries : (older : Bool) (title : List ℕ) (settings : Configuration) (es : Entries) → is_title title ≡ true → AllByRecursion (λ e. IsEntry e.0 e.1) es
    → ((x : List ℕ) → map.get settings x ≡ find order x es) → lacks (texts_of settings) (conf_header older title es) ≡ false
of_entries older title settings es h are of =
    lacks_none settings (conf_header older title es)
    (λ x s is.
    let found = sym (of x) ∙ is in
    held (lines (conf_header older title es)) x s (entry_of x s es are found).typed (below older title es (line_of x s) h (stands x s es are found)))

pub conf_lacks_none : ConfLacksNone
conf_lacks_none older title es h are = of_entries older title (map.from_entries es) es h are (map.get-from_entries nat_list_cmp_total es)

by_recursion : (es : Entries) → AllEntries (λ x s. IsEntry x s) es → AllByRecursion (λ e. IsEntry e.0 e.1) es
by_recursion [] h = h
by_recursion (e ∷ es) h = (h.0, by_recursion es h.1)

pub written_lacks_none : WrittenLacksNone
unfolding header_text
written_lacks_none title settings h are =
    of_entries false title settings (map.entries settings) h (by_recursion (map.entries settings) (all_entries (λ x s. IsEntry x s) settings are)) (map.get-entries settings)
