-- One more token.
use Rattle.ks_fixdep.proofs.Prelude.{◌≡◌, ◌∙◌, inl, inr, ℕ, suc, ◌+◌, Bool, true, false, List, [], ◌∷◌, ◌++◌, length, drop, sym, ap, arith, append_assoc, append-nil, length-append, map, Bor, Option, Some, None, Result, get_or, take, ◌<◌, ◌≤◌, drop-cons, take-append-drop, reverse-append, drop_all, drop-append-le, map-append, cond-true, cond-false, cases_Bool, and_from, list_all, if◌then◌else◌, not, list_any-append, list_all-append, after_last, list_any, Header, Role, is_path, or_else, IsRefusal, RefusedBy, is_header, is_kept, is_target_token, role_after, after_target, with_roles, fault_after, first_fault, token_refusal, added, tokens, DepError, IsErr, IsErrAnd, length-filter, count_by-le-length, length-slice_split, common_steps, rules}
use Rattle.ks_symbols.proofs.Clashes.{or_assoc}
use Rattle.ks_fixdep.specs.declared.dep_error.DepError.TheVariants as errors
use Rattle.ks_fixdep.specs.declared.dependency_file.Role.TheVariants as role

-- the entry of one more token, if it is kept
abbrev pub entry_of : Header → List (List ℕ) → List ℕ → List (List ℕ × Role)
entry_of header before x = if is_kept header x then (x, role_after header before) ∷ [] else []

pub with_roles-push : (header : Header) → (before xs : List (List ℕ)) (x : List ℕ) → with_roles header before (xs ++ x ∷ []) ≡ with_roles header before xs ++ entry_of header (before ++ xs) x
with_roles-push header before [] x = rw append-nil
with_roles-push header before (y ∷ xs) x = grind (arith, common_steps, append_assoc, (with_roles-push header (before ++ y ∷ []) xs x))

pub after_last-push : (xs : List (List ℕ)) (x : List ℕ) → after_last is_target_token (xs ++ x ∷ [])
    ≡ (if is_target_token x then [] else after_last is_target_token xs ++ x ∷ [])
after_last-push xs x = grind (arith, common_steps, reverse-append, length-append, cond-false, drop_all, cond-true, drop-append-le, cases_Bool)

-- the facts of one more token
pub seen-push : (ys : List (Bor (List ℕ))) (y : Bor (List ℕ)) → map (λ x. x.now) (ys ++ y ∷ []) ≡ map (λ x. x.now) ys ++ y.now ∷ []
seen-push ys y = map-append (λ x. x.now) ys (y ∷ [])

-- a test of one more
any-no : (test : List ℕ → Bool) (xs : List (List ℕ)) (x : List ℕ) → test x ≡ false → list_any test (xs ++ x ∷ []) ≡ list_any test xs
any-no test xs x e = grind (arith, common_steps, list_any-append)

any-yes : (test : List ℕ → Bool) (xs : List (List ℕ)) (x : List ℕ) → test x ≡ true → list_any test (xs ++ x ∷ []) ≡ true
any-yes test xs x e = grind (arith, common_steps, list_any-append)

module _ (header : Header) (seen : List (List ℕ)) (x : List ℕ) where
  pub target-no : is_target_token x ≡ false → list_any is_target_token (seen ++ x ∷ []) ≡ list_any is_target_token seen
  target-no = any-no is_target_token seen x

  pub target-yes : is_target_token x ≡ true → list_any is_target_token (seen ++ x ∷ []) ≡ true
  target-yes = any-yes is_target_token seen x

  pub kept-no : is_kept header x ≡ false → list_any (is_kept header) (seen ++ x ∷ []) ≡ list_any (is_kept header) seen
  kept-no = any-no (is_kept header) seen x

  pub roles-no : is_kept header x ≡ false → with_roles header [] (seen ++ x ∷ []) ≡ with_roles header [] seen
  roles-no not_kept = rw (with_roles-push, not_kept, append-nil)

  pub roles-yes : is_kept header x ≡ true → with_roles header [] (seen ++ x ∷ []) ≡ with_roles header [] seen ++ (x, role_after header seen) ∷ []
  roles-yes kept = rw (with_roles-push, kept)

pub not-kept-target : (header : Header) → (x : List ℕ) → is_target_token x ≡ true → is_kept header x ≡ false
not-kept-target header x target = rw target

-- the role after one more token
module _ (header : Header) (seen : List (List ℕ)) (x : List ℕ) where
  pub role-target : is_target_token x ≡ true → after_target (role_after header seen) ≡ role_after header (seen ++ x ∷ [])
  role-target is = rw (after_last-push, is, kept-no header seen x (not-kept-target header x is)) (grind (arith, common_steps))

  pub role-no : is_target_token x ≡ false → is_kept header x ≡ false → role_after header seen ≡ role_after header (seen ++ x ∷ [])
  role-no other not_kept = rw (after_last-push, other, any-no (is_kept header) _ x not_kept, any-no (is_kept header) _ x not_kept)

  pub role-yes : is_target_token x ≡ false → is_kept header x ≡ true → role.Listed ≡ role_after header (seen ++ x ∷ [])
  role-yes other kept = rw (after_last-push, other, any-yes (is_kept header) seen x kept, any-yes (is_kept header) _ x kept)

-- the next kept token is the source exactly where none is kept
module _ (header : Header) (seen : List (List ℕ)) where
  pub source-next : role_after header seen ≡ role.Source → list_any (is_kept header) seen ≡ false
  source-next is = grind (arith, common_steps)

  pub other-next : (role_after header seen ≡ role.Source → ⊥) → list_any (is_kept header) seen ≡ true
  other-next is = grind (arith, common_steps)

pub kept-when : (header : Header) → (x : List ℕ) (h : Bool) → is_target_token x ≡ false → is_header header x ≡ h → is_kept header x ≡ not h
kept-when header x h other is = rw (other, is)

-- ---- refusals

-- the faults of the tokens seen, of one more, and of the rest
pub faults-split : (header : Header) → (before xs : List (List ℕ)) (x : List ℕ) (ys : List (List ℕ)) → first_fault header before (xs ++ x ∷ ys)
    ≡ or_else (first_fault header before xs) (or_else (fault_after header (before ++ xs) x) (first_fault header ((before ++ xs) ++ x ∷ []) ys))
faults-split header before [] x ys = ap (λ b. or_else (fault_after header b x) (first_fault header (b ++ x ∷ []) ys)) (sym (append-nil before))
faults-split header before (z ∷ xs) x ys =
    let own = fault_after header before z in
    let next = before ++ z ∷ [] in
    let after = λ (seen : List (List ℕ)). or_else (fault_after header seen x) (first_fault header (seen ++ x ∷ []) ys) in
    ap (or_else own) (faults-split header next xs x ys) ∙ sym (or_assoc own (first_fault header next xs) (after (next ++ xs)))
    ∙ ap (λ seen. or_else (or_else own (first_fault header next xs)) (after seen)) (append_assoc before (z ∷ []) xs)

pub faults-fit : (header : Header) → (seen : List (List ℕ)) (x : List ℕ) → first_fault header [] seen ≡ None → fault_after header seen x ≡ None → first_fault header [] (seen ++ x ∷ []) ≡ None
faults-fit header seen x none fits = rw (faults-split header [] seen x [], none, fits)

-- the refusal of one token is that of the text, where all tokens before it fit
pub refused-through : (header : Header) → (e : DepError) (ts seen : List (List ℕ)) (x : List ℕ) (ys : List (List ℕ)) → ts ≡ seen ++ x ∷ ys → first_fault header [] seen ≡ None
    → IsRefusal errors.OutOfMemory e (fault_after header seen x) → IsRefusal errors.OutOfMemory e (token_refusal header ts)
unfolding token_refusal
refused-through header e ts seen x ys is none (inl memory) = inl memory
refused-through header e ts seen x ys is none (inr says) = inr (rw (is, faults-split header [] seen x ys, none, says))

pub none-kept : (header : Header) → (ts : List (List ℕ)) → first_fault header [] ts ≡ None → list_any (is_kept header) ts ≡ false → token_refusal header ts ≡ Some errors.NoTarget
unfolding token_refusal
none-kept header ts none kept = grind (arith, common_steps)

pub some-kept : (header : Header) → (ts : List (List ℕ)) → first_fault header [] ts ≡ None → list_any (is_kept header) ts ≡ true → token_refusal header ts ≡ None
unfolding token_refusal
some-kept header ts none kept = search rules

-- ---- a call that answers another call's refusal

pub refused-err : {X : Type 0} (r : Result X DepError) (e : DepError) (refusal : Option DepError) → IsErr r → IsErrAnd r (λ y. y ≡ e)
    → IsRefusal errors.OutOfMemory e refusal → RefusedBy errors.OutOfMemory r refusal
refused-err r e refusal err same says = search rules

-- ---- what is noted of legal paths

-- prerequisites stay legal with one more, and then there is one
pub legal-added : (ps : List (List ℕ × Role)) (path : List ℕ) (r : Role) → list_all (λ p. is_path p.0) ps ≡ true → is_path path ≡ true
    → list_all (λ p. is_path p.0) (added ps (path, r)) ≡ true
legal-added ps path r all legal = search (rules, list_all-append, and_from)

pub some-added : (ps : List (List ℕ × Role)) (p : List ℕ × Role) → 0 < length (added ps p)
some-added ps p = grind (arith, common_steps, length-append)

-- ---- the whole

pub tokens-length : (d : List ℕ) → length (tokens d) ≤ length d + 1
unfolding tokens
tokens-length d = grind (arith, common_steps, length-filter, count_by-le-length, length-slice_split)

-- a list, parted at a place
pub parted : (all : List (List ℕ)) (n : ℕ) (x : List ℕ) → n < length all → x ≡ get_or all n x → all ≡ take n all ++ x ∷ drop (suc n) all
parted all n x below is = grind (arith, common_steps, take-append-drop, drop-cons)
