-- What a tree in memory has at a path, and what an insertion and a removal change.
use Rattle.ks_tree.proofs.Prelude.{◌≡◌, ℕ, List, Option, Some, None, cond, Vec, option_map, bytes_eq, nat_cmp, cond-true, cond-false, false_from_ne_true, BTreeMap, UpdatesBy, slice_cmp, bytes_decides, lookup, Files, content, SameBut, files_of, rules}
use Rattle.ks_tree.proofs.Tables.{is_key, get-named, get-updates}

pub found : {Y Z : Type 0} (es : List (Vec ℕ Y × Vec ℕ Z)) (files : Files) (q : List ℕ) (o : Option (Vec ℕ Z)) → files_of es ≡ files → o
    ≡ lookup (is_key q) es → content files q ≡ option_map (λ v. v.items) o
found es files q o same is = search (rules, get-named)

-- The path has this, and every other path what it had.
abbrev pub Sets : List ℕ → Option (List ℕ) → Files → Files → Type 0
Sets p o old new = (q : List ℕ) → content new q ≡ cond (bytes_eq p q) o (content old q)

module _ {Y Z : Type 0} (m n : BTreeMap (Vec ℕ Y) (Vec ℕ Z)) (old : Files) (same : files_of m.entries ≡ old) where
  pub sets : (k p : List ℕ) (w : Option (Vec ℕ Z)) (o : Option (List ℕ))
      → UpdatesBy (λ x y. slice_cmp nat_cmp x.items y.items) (λ x. slice_cmp nat_cmp k x.items) m n w → k ≡ p
      → option_map (λ v. v.items) w ≡ o → Sets p o old (files_of n.entries)
  sets k p w o updates key value = λ q. rw (same, key, value) at (get-updates (λ v. v.items) k m n w updates q)

pub here : (p : List ℕ) (o : Option (List ℕ)) (old new : Files) → Sets p o old new → content new p ≡ o
here p o old new sets = search (rules, cond-true, bytes_decides)

pub elsewhere : (p : List ℕ) (o : Option (List ℕ)) (old new : Files) → Sets p o old new → SameBut p old new
elsewhere p o old new sets = search (rules, cond-false, false_from_ne_true, bytes_decides)

pub none_some : (o : Option (List ℕ)) (b : List ℕ) → o ≡ None → o ≡ Some b → ⊥
none_some o b p q = cc

pub some_same : (o : Option (List ℕ)) (a b : List ℕ) → o ≡ Some a → o ≡ Some b → a ≡ b
some_same o a b p q = cc
