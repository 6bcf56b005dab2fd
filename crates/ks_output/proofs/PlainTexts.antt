-- The texts of an auto.conf without their classes: of each name the last line counts.
use Rattle.ks_output.proofs.Prelude.{order, ◌≡◌, ℕ, Bool, List, [], ◌∷◌, reverse, Option, Some, None, option_map, refl, ap, filter_map, reverse_onto, nat_list_cmp_total, lines_of, Remark, Gives, CommentOrBlank, remark, remarks, is_typed, neighbours, given, texts_given, auto_map, rules, arith, map-append}
use Rattle.std.proofs.Common.{map as map_list}
use Rattle.std.specs.FinMap as map

abbrev pub plain : Remark → Option (List ℕ × List ℕ)
plain (Gives name text) = Some (name, text)
plain r = None

text_found : (typed : Bool) (ps : List (Remark × Remark)) (x : List ℕ)
    → option_map (λ e. e.1) (map.find order x (filter_map (given typed) ps)) ≡ map.find order x (filter_map plain (map_list (λ p. p.1) ps))
text_found typed [] x = refl
text_found typed ((before, Gives name text) ∷ ps) x = grind (arith, (text_found typed ps x))
text_found typed ((before, r) ∷ ps) x = text_found typed ps x

-- lists from the last on
pub map-reverse : {X Y : Type 0} (f : X → Y) (xs : List X) → reverse (map_list f xs) ≡ map_list f (reverse xs)
map-reverse f [] = refl
map-reverse f (x ∷ xs) = search (rules, reverse_onto, map-append, (map-reverse f xs))

second_ones : (before : Remark) (stated : List Remark) → map_list (λ p. p.1) (neighbours before stated) ≡ stated
unfolding neighbours
second_ones before [] = refl
second_ones before (r ∷ stated) = ap (λ (l : List Remark). r ∷ l) (second_ones r stated)

-- the text of a name, by the lines from the last on
pub text_at : (text x : List ℕ) → option_map (λ e. e.1) (map.get (auto_map text) x)
    ≡ map.find order x (filter_map plain (map_list remark (reverse (lines_of text))))
unfolding auto_map texts_given
text_at text x =
    let pairs = reverse (neighbours CommentOrBlank (remarks text)) in
    let found = map.get-from_entries nat_list_cmp_total (filter_map (given (is_typed (remarks text))) pairs) x in
    let known = map-reverse (λ p. p.1) (neighbours CommentOrBlank (remarks text)) in
    cc (found, text_found (is_typed (remarks text)) pairs x, known, map-reverse remark (lines_of text), second_ones CommentOrBlank (remarks text))
