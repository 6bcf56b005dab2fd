-- What an auto.conf keeps of a configuration.
use Rattle.ks_output.proofs.Prelude.{order, and_parts, ◌≡◌, ℕ, List, [], ◌∷◌, Option, Some, option_map, IsTrue, refl, sym, ◌∙◌, nat_list_cmp_total, find, Kind, Class, is_name, is_symbol_name, kept, texts_of, TextsAreOfEntries, TextsHaveNames, rules, arith, cases_Bool, cond-false, cond-true}
use Rattle.std.proofs.Common.{map as map_list}
use Rattle.std.specs.FinMap as map

find_text : (es : List (List ℕ × (Kind × List ℕ))) (x : List ℕ) → find order x (map_list (λ e. (e.0, kept e.1)) es) ≡ option_map kept (find order x es)
find_text [] x = refl
find_text (e ∷ es) x = search (rules, cases_Bool, cond-true, cond-false, (find_text es x))

pub texts_are_of_entries : TextsAreOfEntries
unfolding texts_of
texts_are_of_entries settings x = search (rules, map.get-from_entries, nat_list_cmp_total, find_text, map.get-entries)

-- the entry whose text it is
pub entry_after : (o : Option (Kind × List ℕ)) (t : Option Class × List ℕ) → option_map kept o ≡ Some t → (s : Kind × List ℕ) × (o ≡ Some s)
entry_after o t e = grind arith

pub name_of_symbol : (k : Kind) (x : List ℕ) → IsTrue (is_symbol_name k x) → IsTrue (is_name x)
unfolding is_symbol_name
name_of_symbol k x h = (and_parts _ _ h).0

pub texts_have_names : TextsHaveNames
texts_have_names settings h x t e =
    let entry = entry_after (map.get settings x) t (sym (texts_are_of_entries settings x) ∙ e) in
    search (rules, name_of_symbol, (h x entry.0 entry.1))
