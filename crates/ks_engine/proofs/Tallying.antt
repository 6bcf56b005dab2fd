-- Tallies of names: what a table has once a record names a name more, and that its costs, sorted, are those of the records.
use Rattle.ks_engine.proofs.Prelude.{slice_get_cases, get_or, map, take, slice_get, ◌&&◌, length, is_some, ◌≡◌, ◌+◌, ◌<◌, ◌==◌, Bool, cond, Option, None, ℕ, false, List, [], ◌∷◌, ◌++◌, Some, refl, ap, sym, ◌∙◌, if◌then◌else◌, bytes_eq, arith, Vec, set_value, Tally, All, count_by, IsPermutation, IsSortedBy, nat_cmp_total, IsTotalOrder, then_total, on_total, back_total, nat_list_cmp_total, is_lt, length-map, All-nil, All-map, sum_by-IsPermutation, IsPermutation-map, All-map-IsPermutation, Costs, bytes_eq-Decides, sum_by-cons, list_any-append, map-append, take_more, slice_get-map, slice_get_within, get_or_from_slice_get, Cost, Dep, File, Config, config_names, BorrowedDep, seen_dep, is_in, value_of, with_pair, tally_pairs, counted, number_in, one_if, seen_cost, tally_cost, tallies_of, cost_of, by_cost, AreCosts, IsTally, AreOnce, AreTallies, common_steps, rules, cond_both, ◌≤◌}
use Rattle.std.proofs.Common.{not}
use Rattle.std.proofs.Math.ListN.{get_or-map}
use Rattle.std.specs.Option.{option_map}
use Rattle.ks_engine.proofs.Keeping.{kept_found, kept_added}

-- how many pairs a name has
abbrev lines_of : {V : Type 0} → List ℕ → List (List ℕ × V) → ℕ
lines_of x ps = count_by (λ p. bytes_eq x p.0) ps

-- a value that is written where a name has one
pub pairs-set : {Y : Type 0} (x : List ℕ) (w t : Tally) (es : List (Vec ℕ Y × Tally)) → value_of x (tally_pairs es) ≡ Some t
    → tally_pairs (set_value (λ k. bytes_eq x k.items) es w) ≡ with_pair x w (tally_pairs es)
pairs-set x w t [] is = absurd cc
pairs-set x w t (e ∷ es) is = search (rules, (pairs-set x w t es))

-- ---- what a table has once a pair is put

value_with : {V : Type 0} (x y : List ℕ) (v : V) (ps : List (List ℕ × V)) → value_of y (with_pair x v ps) ≡ (if bytes_eq y x then Some v else value_of y ps)
value_with x y v [] = refl
value_with x y v (p ∷ ps) = search (rules, bytes_eq-Decides, cond_both, (value_with x y v ps))

-- a pair of a name that is new is one more
lines_with : {V : Type 0} (x y : List ℕ) (v : V) (ps : List (List ℕ × V))
    → lines_of y (with_pair x v ps) ≡ lines_of y ps + one_if (bytes_eq y x && not (is_some (value_of x ps)))
lines_with x y v [] = grind (arith, common_steps)
lines_with x y v (p ∷ ps) = grind (arith, common_steps, (lines_with x y v ps))

once_with : {V : Type 0} (x : List ℕ) (v : V) (ps : List (List ℕ × V)) → AreOnce ps → AreOnce (with_pair x v ps)
once_with x v ps once = λ y. grind (arith, common_steps, (lines_with x y v ps), (value_with x y v ps), (bytes_eq-Decides y x), (once y))

-- ---- a record

-- it was counted in this record
abbrev pub is_last : ℕ → Option Tally → Bool
is_last r None = false
is_last r (Some t) = t.last == r

-- What a record adds, of which so many names were counted.
pub record Adds (r : ℕ) (old new : List (List ℕ × Tally)) (names : List (List ℕ)) : Type 0 where
  pub tallies : AreTallies r new
  pub numbers : (x : List ℕ) → number_in (value_of x new) ≡ number_in (value_of x old) + one_if (is_in names x)
  pub lasts : (x : List ℕ) → is_last r (value_of x new) ≡ is_in names x

pub adds_none : (r : ℕ) (ts : List (List ℕ × Tally)) → AreTallies r ts → Adds (r + 1) ts ts []
adds_none r ts are = record {
  tallies = record { sound = λ k d lt. let h = are.sound k d lt in omega arith; once = are.once };
  numbers = λ x. omega arith;
  lasts = λ x. let has = λ (t : Tally). kept_found (IsTally r) x t ts are.sound in grind (arith, has);
}

pub adds_more : (r : ℕ) (old mid new : List (List ℕ × Tally)) (names : List (List ℕ)) (x : List ℕ) → 0 < r → Adds r old mid names
    → new ≡ with_pair x (counted r (value_of x mid)) mid → Adds r old new (names ++ x ∷ [])
adds_more r old mid new names x more adds is = rw is (record {
  tallies = record {
    sound = kept_added (IsTally r) x _ mid adds.tallies.sound (let has = λ (t : Tally). kept_found (IsTally r) x t mid adds.tallies.sound in grind (
      arith,
      has,
    ));
    once = once_with x _ mid adds.tallies.once;
  };
  numbers = λ y. grind (arith, common_steps, value_with, list_any-append, (bytes_eq-Decides y x), (adds.numbers y), (adds.lasts y));
  lasts = λ y. grind (arith, common_steps, value_with, list_any-append, (bytes_eq-Decides y x), (adds.lasts y));
})

pub names-more : (ds es : List Dep) → config_names (ds ++ es) ≡ config_names ds ++ config_names es
names-more [] es = refl
names-more (File p ∷ ds) es = names-more ds es
names-more (Config x ∷ ds) es = ap (λ l. x ∷ l) (names-more ds es)

-- ---- all costs, in order

pub cost_more : {Y : Type 0} (es : List (Vec ℕ Y × Tally)) (i : ℕ) (costs : List Cost) (e : Vec ℕ Y × Tally) (c : Cost)
    → map seen_cost costs ≡ map tally_cost (take i (tally_pairs es)) → slice_get es i ≡ Some e → seen_cost c ≡ (e.0.items, e.1.count)
    → map seen_cost (costs ++ c ∷ []) ≡ map tally_cost (take (i + 1) (tally_pairs es))
cost_more es i costs e c so_far at is =
    let p : List ℕ × Tally = (e.0.items, e.1) in
    let there : slice_get (tally_pairs es) i ≡ Some p = slice_get-map (λ q. (q.0.items, q.1)) es i ∙ ap (option_map (λ q. (q.0.items, q.1))) at in
    grind (arith, common_steps, map-append, (slice_get_within (tally_pairs es) i p there), (get_or_from_slice_get (tally_pairs es) i p p there))

pub cost_past : {Y : Type 0} (es : List (Vec ℕ Y × Tally)) (i : ℕ) (costs : List Cost) → map seen_cost costs ≡ map tally_cost (take i (tally_pairs es))
    → slice_get es i ≡ None → i < length es → map seen_cost costs ≡ map tally_cost (take (i + 1) (tally_pairs es))
cost_past es i costs so_far none within = grind (arith, (slice_get_cases es i))

-- a name that has a value has a pair
some_lines : {V : Type 0} (x : List ℕ) (ps : List (List ℕ × V)) → one_if (is_some (value_of x ps)) ≤ lines_of x ps
some_lines x [] = omega arith
some_lines x (p ∷ ps) = grind (arith, common_steps, (some_lines x ps))

-- each pair has its own value
own_values : {V : Type 0} (ps : List (List ℕ × V)) → AreOnce ps → All (λ p. value_of p.0 ps ≡ Some p.1) ps
own_values [] once = All-nil _
own_values (q ∷ ps) once = λ k d lt.
    let rest = own_values ps (λ x. grind (arith, common_steps, (once x), (some_lines x ps))) in
    let x = (get_or (q ∷ ps) k d).0 in grind (arith, common_steps, rest, (bytes_eq-Decides q.0 q.0), (some_lines x ps), (once x))

pub cost_total : IsTotalOrder by_cost
cost_total = then_total (back_total (on_total (λ (c : List ℕ × ℕ). c.1) nat_cmp_total)) (on_total (λ (c : List ℕ × ℕ). c.0) nat_list_cmp_total)

count-map : {X Y : Type 0} (f : X → Y) (p : Y → Bool) (xs : List X) → count_by p (map f xs) ≡ count_by (λ x. p (f x)) xs
count-map f p [] = refl
count-map f p (x ∷ xs) = search (rules, sum_by-cons, (count-map f p xs))

pub are_costs : (table : Costs) (items sorted : List Cost) → AreTallies table.records (tallies_of table)
    → map seen_cost items ≡ map tally_cost (tallies_of table) → IsPermutation items sorted
    → IsSortedBy (λ x y. is_lt (by_cost (seen_cost x) (seen_cost y))) sorted → AreCosts (cost_of table) (map seen_cost sorted)
are_costs table items sorted are seen moved rising =
    let ts = tallies_of table in
    let P = λ (c : List ℕ × ℕ). (0 < c.1) × (c.1 ≡ cost_of table c.0) in
    let own = own_values ts are.once in
    record {
      each = All-map-IsPermutation seen_cost P items sorted moved
          (rw seen (All-map P tally_cost ts (λ k d lt. ((are.sound k d lt).0, ap number_in (sym (own k d lt))))));
      once = λ x named.
          let same = sum_by-IsPermutation (λ c. cond (bytes_eq x c.0) 1 0) _ _ (IsPermutation-map seen_cost items sorted moved) in
          rw (same, seen, count-map tally_cost (λ c. bytes_eq x c.0) ts, are.once x) (grind arith);
      order = λ k d low high.
          let e : Cost = record { name = record { ref_ptr = (0, 0); now = d.0 }; count = d.1 } in
          rw (get_or-map seen_cost sorted (k + 1) e, get_or-map seen_cost sorted k e) (rising k e low (rw (← length-map sorted seen_cost) high));
    }

-- the names of dependency lines, with those of one line more
pub lines_more : (deps : List BorrowedDep) (i : ℕ) (d : BorrowedDep) (e : Dep) → i < length deps → d ≡ get_or deps i d → seen_dep d ≡ e
    → config_names (take (i + 1) (map seen_dep deps)) ≡ config_names (take i (map seen_dep deps)) ++ config_names (e ∷ [])
lines_more deps i d e h is here =
    let at = get_or-map seen_dep deps i d ∙ ap seen_dep (sym is) ∙ here in
    rw (take_more (map seen_dep deps) i (seen_dep d) (rw (length-map deps seen_dep) h), names-more, at) refl
