-- The names that an auto.conf gives texts are legal.
use Rattle.ks_output.proofs.Prelude.{order, ◌≡◌, ℕ, Bool, cond, List, [], ◌∷◌, nat_eq, drop, codes, reverse, Option, Some, IsTrue, ends_with, filter_map, cases_Bool, cond-false, lines_of, without_terminator, Class, is_name, decimal_value, Statement, Assigns, Says, statement, statements_are_spelled, classed, class_remark, Remark, Gives, numbered, assigned, stated_by, remark, auto_map, HasNames, rules, and_parts, nat_tests, cond_some, Numbers, ◌<◌, ◌^◌, lines, arith}
use Rattle.std.proofs.Common.{map as map_list}
use Rattle.std.specs.FinMap as map
use Rattle.ks_output.proofs.Entries.{tied}
use Rattle.ks_output.proofs.PlainTexts.{plain, text_at}

-- A remark that gives a name a text is that of a line which says so, and a generation fits 64 bits.
unfoldable pub Known : List ℕ → Remark → Type 0
Known bare (Gives name text) = Says bare (Assigns name text)
Known bare (Numbers g) = g < 2 ^ 64
Known bare r = Unit {0}

known_number : (bare text : List ℕ) (b : Bool) (o : Option ℕ) → decimal_value text ≡ o → Known bare (numbered b o)
unfolding Known
known_number bare text b o e = search (rules, cond_some, and_parts, nat_tests)

known_assigned : (bare : List ℕ) (o : Option Statement) → statement bare ≡ o → Known bare (assigned o)
unfolding Known
known_assigned bare (Some (Assigns name text)) e = (statements_are_spelled bare (Assigns name text)).0 e
known_assigned bare o e = tt

known_classed : (bare name : List ℕ) (o : Option Class) → Known bare (classed name o)
unfolding Known
known_classed bare name o = grind arith

either : (bare : List ℕ) (b : Bool) (r s : Remark) → Known bare r → Known bare s → Known bare (cond b r s)
either bare b r s p q = grind arith

pub known : (ended : Bool) (bare : List ℕ) → Known bare (stated_by ended bare)
unfolding stated_by Known class_remark
known ended bare = search (rules, either, (known_number bare (drop 12 bare)), known_assigned, known_classed)

pub known_text : (line name text : List ℕ) → remark line ≡ Gives name text → Says (without_terminator line) (Assigns name text)
unfolding Known
known_text line name text e = search (rules, (known (ends_with nat_eq line (codes "\n")) (without_terminator line)))

-- a name that is found is that of a line
found_first : (bare x t : List ℕ) (r : Remark) (stated : List Remark) → Known bare r → map.find order x (filter_map plain (r ∷ stated)) ≡ Some t
    → (map.find order x (filter_map plain stated) ≡ Some t → IsTrue (is_name x)) → IsTrue (is_name x)
unfolding Known
found_first bare x t (Gives name text) stated l e later = search (rules, cases_Bool, order, tied, cond-false, plain)
found_first bare x t r stated l e later = later e

found_legal : (lines : List (List ℕ)) (x t : List ℕ) → map.find order x (filter_map plain (map_list remark lines)) ≡ Some t → IsTrue (is_name x)
found_legal [] x t e = absurd (cc e)
found_legal (line ∷ lines) x t e =
    let bare = without_terminator line in
    found_first bare x t (remark line) (map_list remark lines) (known (ends_with nat_eq line (codes "\n")) bare) e (found_legal lines x t)

pub no_names : HasNames map.empty
no_names x t e = search (rules, map.get-empty)

pub names_are_legal : (text : List ℕ) → HasNames (auto_map text)
names_are_legal text x t e = let known = text_at text x in found_legal (reverse (lines_of text)) x t.1 (cc (known, e))
