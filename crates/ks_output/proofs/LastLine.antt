-- The text of a name is what its last line gives, and in an untyped file it has no class.
use Rattle.ks_output.proofs.Prelude.{take-append_seam, opened, order, ◌≡◌, ℕ, true, false, nat_eq, List, [], ◌∷◌, ◌++◌, length, drop, None, option_map, codes, refl, sym, ap, ◌∙◌, option_and_then, starts_with, ends_with, filter_map, inl, inr, cases_Bool, cond-false, false≢true, false_from_ne_true, is_eq, nat_list_cmp_total, bytes_decides, without_terminator, is_name, lines, Remark, Gives, stated_by, remark, given, texts_given, auto_map, beginning, LastLineCounts, UntypedHasNoClass, rules, arith}
use Rattle.std.proofs.Common.{map as map_list}
use Rattle.std.specs.List.{find}
use Rattle.std.specs.FinMap as map
use Rattle.ks_output.proofs.Entries.{tied, find_first}
use Rattle.ks_output.proofs.LegalNames.{known_text}
use Rattle.ks_output.proofs.PlainTexts.{plain, map-reverse, text_at}
use Rattle.ks_output.proofs.ReadBack.{stated_by_entry}

gives_here : (line name : List ℕ) → is_name name ≡ true → starts_with nat_eq (without_terminator line) (beginning name) ≡ true → remark line
    ≡ Gives name (drop (length (beginning name)) (without_terminator line))
gives_here line name h e =
    let bare = without_terminator line in
    let ended = ends_with nat_eq line (codes "\n") in
    ap (stated_by ended) (opened bare (beginning name) e) ∙ stated_by_entry ended name (drop (length (beginning name)) bare) h

pub begins : (needle rest : List ℕ) → starts_with nat_eq (needle ++ rest) needle ≡ true
begins needle rest = search (rules, bytes_decides, take-append_seam)

-- another line gives another name a text, or nothing
gives_other : (line name other text : List ℕ) → starts_with nat_eq (without_terminator line) (beginning name) ≡ false → remark line ≡ Gives other text
    → is_eq (order name other) ≡ false
gives_other line name other text ne e = false_from_ne_true (is_eq (order name other)) (λ same.
    let here : name ≡ other = tied name other same in
    let spelled : without_terminator line ≡ beginning name ++ text = (known_text line other text e).1 ∙ ap (λ (n : List ℕ). beginning n ++ text) (sym here) in
    false≢true (sym ne ∙ ap (λ (l : List ℕ). starts_with nat_eq l (beginning name)) spelled ∙ begins (beginning name) text))

passed : (name : List ℕ) (r : Remark) (stated : List Remark) → ((other text : List ℕ) → r ≡ Gives other text → is_eq (order name other) ≡ false)
    → map.find order name (filter_map plain (r ∷ stated)) ≡ map.find order name (filter_map plain stated)
passed name (Gives other text) stated f = search (rules, (f other text), cond-false)
passed name r stated f = refl

first_line : (name : List ℕ) (ls : List (List ℕ)) → is_name name ≡ true
    → map.find order name (filter_map plain (map_list remark ls))
    ≡ option_map (drop (length (beginning name))) (find (λ line. starts_with nat_eq line (beginning name)) (map_list without_terminator ls))
first_line name [] h = refl
first_line name (l ∷ ls) h =
    let rest = filter_map plain (map_list remark ls) in
    elim (cases_Bool (starts_with nat_eq (without_terminator l) (beginning name))) [
      | inl same ↦ cc (gives_here l name h same, find_first (name, drop (length (beginning name)) (without_terminator l)) rest, same)
      | inr ne ↦ cc (passed name (remark l) (map_list remark ls) (λ other text. gives_other l name other text ne), ne, first_line name ls h)
    ]

pub last_line_counts : LastLineCounts
unfolding lines
last_line_counts text name h = search (rules, text_at, first_line, map-reverse)

none_classed : (name : List ℕ) (ps : List (Remark × Remark)) → option_and_then (λ e. e.0) (map.find order name (filter_map (given false) ps)) ≡ None
none_classed name [] = refl
none_classed name ((before, Gives other text) ∷ ps) = grind (arith, (none_classed name ps))
none_classed name ((before, r) ∷ ps) = none_classed name ps

pub untyped_has_no_class : UntypedHasNoClass
unfolding auto_map texts_given
untyped_has_no_class text name e = search (rules, map.get-from_entries, nat_list_cmp_total, e, none_classed)
