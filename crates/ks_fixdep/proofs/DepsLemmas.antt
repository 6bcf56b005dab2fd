-- The names of a record's dependency lines.
use Rattle.ks_fixdep.proofs.Prelude.{◌≡◌, ℕ, true, false, List, [], ◌∷◌, ◌++◌, refl, ap, sym, ◌∙◌, map, append_assoc, append-nil, not, filter, flat_map, list_all, list_any, bytes_eq, and_from, cond-true, cond-false, flat_map-append, fold-append, append_cancel_left, map-append, list_any-append, filter-append, is_path, dep_line, ended, is_dep, deps_text, all_noted, names_of, noted, new_names, own_line, deps_after, config_names, Dep, Config, Role, arith, common_steps}
use Rattle.ks_fixdep.proofs.OnceLemmas.{all_noted_again}

-- those of these names that were not seen
abbrev kept : List (List ℕ) → List (List ℕ) → List (List ℕ)
kept seen zs = filter (λ x. not (list_any (bytes_eq x) seen)) zs

-- not noted before, so not among those kept either
not_kept : (y : List ℕ) (seen zs : List (List ℕ)) → list_any (bytes_eq y) zs ≡ false → list_any (bytes_eq y) (kept seen zs) ≡ false
not_kept y seen [] e = refl
not_kept y seen (z ∷ zs) e = grind (arith, common_steps, (not_kept y seen zs))

-- The names noted after those seen are the ones that are new.
abbrev IsNew : List (List ℕ) → List (List ℕ) → Type 0
IsNew seen names = all_noted seen names ≡ seen ++ kept seen names

new_all : (seen zs ys : List (List ℕ)) → IsNew seen zs → IsNew seen (all_noted zs ys)
new_all seen zs [] e = e
new_all seen zs (y ∷ ys) e =
    new_all seen (noted zs y) ys
    (grind (arith, common_steps, fold-append, cond-true, list_any-append, append-nil, cond-false, not_kept, append_assoc, filter-append))

-- Names that are noted after others add those that are new.
pub new_after : (seen names : List (List ℕ)) → all_noted seen names ≡ seen ++ new_names seen names
new_after seen names = sym (all_noted_again seen [] names) ∙ new_all seen [] names (sym (append-nil seen))

of_own_line : (path : List ℕ) (r : Role) (deps : List Dep) → config_names (own_line (path, r) ++ deps) ≡ config_names deps
of_own_line path r deps = grind (arith, common_steps)

of_configs : (xs : List (List ℕ)) (deps : List Dep) → config_names (map Config xs ++ deps) ≡ xs ++ config_names deps
of_configs [] deps = refl
of_configs (x ∷ xs) deps = ap (λ l. x ∷ l) (of_configs xs deps)

-- The dependency lines name what was found in all prerequisites and elsewhere, each once and in that order.
names_following : (seen : List (List ℕ)) (ps : List (List ℕ × Role)) (found : List (List (List ℕ)))
    → seen ++ config_names (deps_after seen ps found) ≡ all_noted seen (flat_map (λ names. names) found)
names_following seen ps [] = append-nil seen
names_following seen [] (names ∷ found) =
    rw (
      of_configs,
      ← append_assoc,
      ← new_after,
      names_following (all_noted seen names) [] found,
      fold-append noted seen names _,
    ) refl
names_following seen (p ∷ ps) (names ∷ found) =
    rw (
      of_own_line p.0 p.1 _,
      of_configs,
      ← append_assoc,
      ← new_after,
      names_following (all_noted seen names) ps found,
      fold-append noted seen names _,
    ) refl

pub record_names : (ps : List (List ℕ × Role)) (found : List (List (List ℕ))) → config_names (deps_after [] ps found) ≡ names_of found
record_names ps found = names_following [] ps found

-- ---- one prerequisite after the other

-- what was added after others is what is new
pub new_is : (before new all names : List (List ℕ)) → all ≡ before ++ new → all ≡ all_noted before names → new ≡ new_names before names
new_is before new all names added noted = grind (arith, common_steps, append_cancel_left, new_after)

pub deps_text-append : (xs ys : List Dep) → deps_text (xs ++ ys) ≡ deps_text xs ++ deps_text ys
deps_text-append xs ys = simp (map-append, flat_map-append)

pub name_line-last : (names : List (List ℕ)) (x : List ℕ) → deps_text (map Config (names ++ x ∷ []))
    ≡ deps_text (map Config names) ++ ended (dep_line (Config x))
name_line-last names x = grind (arith, common_steps, map-append, deps_text-append, append-nil)

-- ---- the lines are legal

pub legal-own : (path : List ℕ) (r : Role) → is_path path ≡ true → list_all is_dep (own_line (path, r)) ≡ true
legal-own path r legal = grind (arith, common_steps, and_from)
