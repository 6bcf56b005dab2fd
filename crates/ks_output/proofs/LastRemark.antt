-- What remarks leave, read one after the other from the first on.
use Rattle.ks_output.proofs.Prelude.{◌≡◌, ℕ, Bool, ◌≤◌, List, [], ◌∷◌, ◌++◌, length, reverse, get_or, Option, option_map, refl, sym, ap, ◌∙◌, arith, filter_map, reverse_onto, cond-false, nat_tests, filter_map-append, Class, Texts, Remark, Gives, Numbers, CommentOrBlank, seen_remark, remarks, is_typed, neighbours, class_by, given, last_number, number, texts_given, auto_generation, auto_fault, auto_refusal, rules, common_steps}
use Rattle.std.proofs.Common.{map as map_list}
use Rattle.std.specs.FinMap as map
use Rattle.ks_output.specs.declared.auto_conf.AutoError.TheVariants as fault
use Rattle.ks_output.specs.declared.auto_lines.Remark as auto_lines
use Rattle.ks_output.specs.declared.auto_lines.Remark.TheVariants as seen

-- entries that are put over a map, the first last
pub put_all : Texts → List (List ℕ × (Option Class × List ℕ)) → Texts
put_all m [] = m
put_all m (e ∷ es) = map.insert (put_all m es) e.0 e.1

put_all-empty : (es : List (List ℕ × (Option Class × List ℕ))) → put_all map.empty es ≡ map.from_entries es
unfolding put_all
put_all-empty [] = refl
put_all-empty (e ∷ es) = ap (λ m. map.insert m e.0 e.1) (put_all-empty es)

put_all-append : (m : Texts) (xs ys : List (List ℕ × (Option Class × List ℕ))) → put_all m (xs ++ ys) ≡ put_all (put_all m ys) xs
unfolding put_all
put_all-append m [] ys = refl
put_all-append m (x ∷ xs) ys = search (rules, (put_all-append m xs ys))

latest_last : {X Y : Type 0} (f : X → Option Y) (x : X) (xs : List X) → filter_map f (reverse (x ∷ xs)) ≡ filter_map f (reverse xs) ++ filter_map f (x ∷ [])
latest_last f x xs = ap (filter_map f) (reverse_onto xs x []) ∙ filter_map-append f (reverse xs) (x ∷ [])

-- the map with what a remark gives after another one
unfoldable pub with_given : Bool → Texts → Remark → Remark → Texts
with_given typed m before (Gives x t) = map.insert m x (class_by typed before, t)
with_given typed m before r = m

-- the map after remarks, when there were a map and a remark before
unfoldable pub texts_after : Bool → Texts → Remark → List Remark → Texts
texts_after typed m before [] = m
texts_after typed m before (r ∷ stated) = texts_after typed (with_given typed m before r) r stated

given_one : (typed : Bool) (m : Texts) (before r : Remark) → put_all m (filter_map (given typed) ((before, r) ∷ [])) ≡ with_given typed m before r
unfolding put_all with_given
given_one typed m before r = grind arith

after_all : (typed : Bool) (m : Texts) (before : Remark) (stated : List Remark) → texts_after typed m before stated
    ≡ put_all m (filter_map (given typed) (reverse (neighbours before stated)))
unfolding texts_after put_all neighbours
after_all typed m before [] = refl
after_all typed m before (r ∷ stated) = search (rules, put_all, latest_last, put_all-append, given_one, (after_all typed (with_given typed m before r) r stated))

pub texts_after-empty : (stated : List Remark) → texts_after (is_typed stated) map.empty CommentOrBlank stated ≡ texts_given stated
unfolding texts_given
texts_after-empty stated = after_all (is_typed stated) map.empty CommentOrBlank stated ∙ put_all-empty (filter_map (given (is_typed stated)) (reverse (neighbours CommentOrBlank stated)))

-- of the remark before, the class alone counts
with_given-class : (typed : Bool) (m : Texts) (a b r : Remark) → class_by typed a ≡ class_by typed b → with_given typed m a r ≡ with_given typed m b r
unfolding with_given
with_given-class typed m a b r e = grind arith

pub texts_after-class : (typed : Bool) (m : Texts) (a b : Remark) (stated : List Remark) → class_by typed a ≡ class_by typed b → texts_after typed m a stated
    ≡ texts_after typed m b stated
unfolding texts_after
texts_after-class typed m a b [] e = refl
texts_after-class typed m a b (r ∷ stated) e = ap (λ n. texts_after typed n r stated) (with_given-class typed m a b r e)

-- before the mark and the first entry not even that
at_front : (m : Texts) (a b r : Remark) (stated : List Remark) → with_given (is_typed (r ∷ stated)) m a r ≡ with_given (is_typed (r ∷ stated)) m b r
unfolding with_given is_typed
at_front m a b r stated = grind arith

pub texts_after-front : (m : Texts) (a b : Remark) (stated : List Remark) → texts_after (is_typed stated) m a stated ≡ texts_after (is_typed stated) m b stated
unfolding texts_after
texts_after-front m a b [] = refl
texts_after-front m a b (r ∷ stated) = ap (λ n. texts_after (is_typed (r ∷ stated)) n r stated) (at_front m a b r stated)

first_of_two : (xs ys : List ℕ) (g : ℕ) → get_or (xs ++ ys) 0 g ≡ get_or xs 0 (get_or ys 0 g)
first_of_two xs ys g = grind (arith, common_steps)

unfoldable pub with_number : ℕ → Remark → ℕ
with_number g (Numbers n) = n
with_number g r = g

-- the generation after remarks, when there was one before
unfoldable pub number_after : ℕ → List Remark → ℕ
number_after g [] = g
number_after g (r ∷ stated) = number_after (with_number g r) stated

number_one : (g : ℕ) (r : Remark) → get_or (filter_map number (r ∷ [])) 0 g ≡ with_number g r
unfolding with_number
number_one g r = grind arith

number_is : (g : ℕ) (stated : List Remark) → number_after g stated ≡ get_or (filter_map number (reverse stated)) 0 g
unfolding number_after
number_is g [] = refl
number_is g (r ∷ stated) = search (rules, latest_last, first_of_two, number_one, (number_is (with_number g r) stated))

pub with_number-others : (g : ℕ) (r : auto_lines.Remark) → ((n : ℕ) → r ≡ seen.Numbers n → ⊥) → with_number g (seen_remark r) ≡ g
unfolding with_number
with_number-others g r ne = grind arith

-- entries leave the number as it is
pub passed_number : (g : ℕ) (entries : List (List ℕ × List ℕ)) → number_after g (map_list (λ e. Gives e.0 e.1) entries) ≡ g
unfolding number_after with_number
passed_number g [] = refl
passed_number g (e ∷ entries) = passed_number g entries

pub number_after-append : (g : ℕ) (xs ys : List Remark) → number_after g (xs ++ ys) ≡ number_after (number_after g xs) ys
unfolding number_after
number_after-append g [] ys = refl
number_after-append g (r ∷ xs) ys = number_after-append (with_number g r) xs ys

pub number_counts : (g : ℕ) (stated : List Remark) → last_number (Numbers g ∷ stated) ≡ number_after g stated
number_counts g stated = ap (λ ns. get_or ns 0 0) (latest_last number (Numbers g) stated) ∙ first_of_two (filter_map number (reverse stated)) (g ∷ []) 0 ∙ sym (number_is g stated)

pub number_after-zero : (text : List ℕ) → number_after 0 (remarks text) ≡ auto_generation text
unfolding auto_generation
number_after-zero text = number_is 0 (remarks text)

pub not_large : (text : List ℕ) → length text ≤ 67108864 → auto_refusal text ≡ option_map fault.BadAuto (auto_fault text)
unfolding auto_refusal
not_large text small = search (rules, nat_tests, cond-false)
