-- Declarations of one name with two kinds.
use Rattle.ks_symbols.proofs.Prelude.{eq-eqb, ◌≡◌, ℕ, arith, ◌+◌, Bool, true, false, cond, List, [], ◌∷◌, ◌++◌, Option, Some, None, option_map, bytes_eq, length, take, drop, get_or, ◌<◌, refl, ap, append_assoc, cases_Bool, cond-true, cond-false, not-false, eqb-true, nat_list_cmp_total, find, Kind, SourceError, NameMap, kinds_in, or_else, clashes, fits, LineKind, Declaration, Declared, seen, Progress, progress_after, clash_fault, step_fault, no_kinds, first_kind, last_kind, first_clash, without_text, rules, is_eq-slice_cmp, at_drop_more, map_more}
use Rattle.std.proofs.Common.{map as map_list}
use Rattle.std.specs.FinMap as map
use Rattle.ks_symbols.specs.declared.error.SourceError.TheVariants as fault
use Rattle.ks_symbols.proofs.LastOnes.{order, or_none}
use Rattle.ks_symbols.proofs.Story.{last_kind-push}

pub or_assoc : {E : Type 0} (a b c : Option E) → or_else (or_else a b) c ≡ or_else a (or_else b c)
or_assoc a b c = grind arith

-- kinds that don't clash are one, and a kind doesn't clash with itself
pub same_kind : (k before : Kind) → clashes k (Some before) ≡ false → before ≡ k
same_kind k before h = search (rules, eqb-true, not-false)

-- ---- the first declaration of each name

pub first_kind-push : (ds : List Declared) (d : Declared) (x : List ℕ) → first_kind (ds ++ d ∷ []) x
    ≡ or_else (first_kind ds x) (cond (bytes_eq x d.0) (Some d.1.0) None)
unfolding first_kind
first_kind-push [] d x = refl
first_kind-push (e ∷ ds) d x = search (rules, (first_kind-push ds d x))

-- ---- the first clash

pub clash-push : (before ds : List Declared) (d : Declared) → first_clash before (ds ++ d ∷ [])
    ≡ or_else (first_clash before ds) (clash_fault d.1.1 d.1.0 (last_kind (before ++ ds) d.0))
unfolding first_clash
clash-push before [] d = search (rules, or_none)
clash-push before (e ∷ ds) d = search (rules, append_assoc, or_assoc, (clash-push (before ++ e ∷ []) ds d))

-- names have the kinds with which they were declared before, or will be first
abbrev pub AreFirst : (List ℕ → Option Kind) → List Declared → List Declared → Type 0
AreFirst kinds before rest = (x : List ℕ) → kinds x ≡ or_else (last_kind before x) (first_kind rest x)

-- so a declaration clashes with those before it exactly where it clashes with the first one
pub as_before : (kinds : List ℕ → Option Kind) (before : List Declared) (d : Declared) (ds : List Declared) → AreFirst kinds before (d ∷ ds)
    → clashes d.1.0 (last_kind before d.0) ≡ clashes d.1.0 (kinds d.0)
unfolding first_kind
as_before kinds before d ds are = search (rules, cond-true, eq-eqb)

pub are_first_next : (kinds : List ℕ → Option Kind) (before : List Declared) (d : Declared) (ds : List Declared) → AreFirst kinds before (d ∷ ds)
    → clashes d.1.0 (kinds d.0) ≡ false → AreFirst kinds (before ++ d ∷ []) ds
unfolding first_kind
are_first_next kinds before d ds are fits x = search (rules, cases_Bool, cond-true, cond-false, as_before, last_kind-push, same_kind)

-- ---- a line

-- what is gathered of a line that is not refused by itself is what it adds to the first clash
pub gathered : (ds : List Declared) (t : Option (List ℕ)) (b : Bool) (w : Option (ℕ × List ℕ)) (n : ℕ) (f : LineKind) (R : Option SourceError)
    → step_fault no_kinds (record { declared = ds; title = t; started = b; waiting = w }) n f ≡ None
    → or_else (first_clash [] ds) (or_else (step_fault (last_kind ds) (record { declared = ds; title = t; started = b; waiting = w }) n f) R)
    ≡ or_else (first_clash [] (progress_after (record { declared = ds; title = t; started = b; waiting = w }) n f).declared)
    (or_else (step_fault no_kinds (record { declared = ds; title = t; started = b; waiting = w }) n f) R)
gathered ds t b w n f R none = grind (arith, or_assoc, clash-push)

-- a line that is refused by itself is refused
pub refused_anyway : (s : Progress) (n : ℕ) (f : LineKind) (e : SourceError) → step_fault no_kinds s n f ≡ Some e → step_fault (last_kind s.declared) s n f ≡ Some e
refused_anyway s n f e = search (rules, cases_Bool)

-- ---- the kinds of a table

find_kind : (es : List (List ℕ × (Kind × List ℕ))) (x : List ℕ) → find order x (map_list (λ e. (e.0, e.1.0)) es) ≡ option_map (λ s. s.0) (find order x es)
find_kind [] x = refl
find_kind (e ∷ es) x = search (rules, cases_Bool, cond-true, cond-false, (find_kind es x))

pub get-kinds_in : (m : NameMap (Kind × List ℕ)) (x : List ℕ) → map.get (kinds_in m) x ≡ option_map (λ s. s.0) (map.get m x)
unfolding kinds_in
get-kinds_in m x = search (rules, map.get-from_entries, nat_list_cmp_total, find_kind, map.get-entries)

-- a kind after a text that is none
pub kind_of_first : (o : Option Kind) → option_map (λ (s : Kind × List ℕ). s.0) (option_map without_text o) ≡ o
kind_of_first o = grind arith

-- ---- the bodies

clash_next : (kinds : List ℕ → Option Kind) (before : List Declared) (d : Declared) (ds : List Declared) → AreFirst kinds before (d ∷ ds)
    → first_clash before (d ∷ ds) ≡ or_else (clash_fault d.1.1 d.1.0 (kinds d.0)) (first_clash (before ++ d ∷ []) ds)
unfolding first_clash
clash_next kinds before d ds are =
    ap (λ b. or_else (cond b (Some (fault.TypeClash d.1.1)) None) (first_clash (before ++ d ∷ []) ds)) (as_before kinds before d ds are)

pub put_next : (m : NameMap (Kind × List ℕ)) (ds : List Declared) (d : Declared) (x : List ℕ)
    → or_else (option_map without_text (first_kind ds x)) (map.get (map.insert m d.0 (without_text d.1.0)) x)
    ≡ or_else (option_map without_text (first_kind (ds ++ d ∷ []) x)) (map.get m x)
put_next m ds d x = grind (arith, map.get-insert, nat_list_cmp_total, is_eq-slice_cmp, first_kind-push)

-- the declaration at a place clashes, or the first clash is one of those after it
module _ (kinds : List ℕ → Option Kind) (ds : List Declaration) (i : ℕ) (d : Declaration) (within : i < length ds)
    (are : AreFirst kinds (map_list seen (take i ds)) (map_list seen (drop i ds))) where
  pub clash_at : clashes (get_or ds i d).kind (kinds (get_or ds i d).name.now) ≡ true
      → Some (fault.TypeClash (get_or ds i d).number) ≡ first_clash (map_list seen (take i ds)) (map_list seen (drop i ds))
  clash_at is =
      let split = at_drop_more (map_list seen) ds i d within in
      let next = clash_next kinds (map_list seen (take i ds)) (seen (get_or ds i d)) (map_list seen (drop (i + 1) ds)) (rw split at are) in
      cc (split, next, is)

  pub clash_past : clashes (get_or ds i d).kind (kinds (get_or ds i d).name.now) ≡ false
      → (first_clash (map_list seen (take (i + 1) ds)) (map_list seen (drop (i + 1) ds)) ≡ first_clash (map_list seen (take i ds)) (map_list seen (drop i ds)))
      × AreFirst kinds (map_list seen (take (i + 1) ds)) (map_list seen (drop (i + 1) ds))
  clash_past fits =
      let split = at_drop_more (map_list seen) ds i d within in
      let first : AreFirst kinds (map_list seen (take i ds)) (seen (get_or ds i d) ∷ map_list seen (drop (i + 1) ds)) = rw split at are in
      let next = clash_next kinds _ _ _ first in
      rw (map_more seen ds i d within, split) (cc (next, fits), are_first_next kinds _ _ _ first fits)
