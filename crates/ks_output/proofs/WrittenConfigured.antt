-- What an accepted pair means: a configuration, whose header defines each name as the header that was read does.
use Rattle.ks_output.proofs.Prelude.{inl, inr, ◌≡◌, ◌+◌, ℕ, Bool, true, false, nat_eq, List, [], ◌∷◌, codes, Option, Some, None, Ok, refl, sym, ap, ◌∙◌, ends_with, subst, cond-true, cond-false, cases_Bool, and_parts, and_from, not-true, is_eq, order, IsEntry, IsConfiguration, Configuration, Kind, is_name, is_symbol_name, Statement, Assigns, statement, statements_are_spelled, nat_list_cmp_total}
use Rattle.std.specs.Prelude.{Err, Result, find}
use Rattle.std.specs.FinMap as map
use Rattle.ks_output.specs.Written.{given_by, as_entry, explains, explained, kinds, with_kind, with_entry, with_pairs, chain}
use Rattle.ks_output.specs.declared.written.WrittenError.{WrittenError}
use Rattle.ks_output.proofs.Entries.{tied}

-- what finds something finds what passes
pub found_passes : {X : Type 0} (p : X → Bool) (xs : List X) (y : X) → find p xs ≡ Some y → p y ≡ true
found_passes p [] y e = absurd (cc e)
found_passes p (x ∷ xs) y e = elim (cases_Bool (p x)) [
  | inl holds ↦ cc (holds, sym (cond-true _ _ _ holds) ∙ e)
  | inr other ↦ found_passes p xs y (sym (cond-false _ _ _ other) ∙ e)
]

pub ok_same : (m end : Configuration) (r : Result Configuration WrittenError) → r ≡ Ok m → r ≡ Ok end → m ≡ end
ok_same m end r e f = cc (e, f)

-- a pair that is taken
pub record Taken (m : Configuration) (l h : List ℕ) (later : Configuration) : Type 0 where
  pub name : List ℕ
  pub kind : Kind
  pub value : List ℕ
  pub given : given_by l ≡ Some (name, value)
  pub new : map.contains_key m name ≡ false
  pub passes : explains name value h kind ≡ true
  pub is : later ≡ map.insert m name (kind, value)

kinded : (n : ℕ) (m : Configuration) (name value h : List ℕ) (o : Option Kind) (later : Configuration) → explained name value h ≡ o → with_kind n m name value o ≡ Ok later
    → (k : Kind) × (explains name value h k ≡ true) × (later ≡ map.insert m name (k, value))
unfolding explained
kinded n m name value h None later found e = absurd (cc e)
kinded n m name value h (Some k) later found e = (k, found_passes (explains name value h) kinds k found, cc e)

taken_by : (n : ℕ) (m : Configuration) (l h : List ℕ) (o : Option (List ℕ × List ℕ)) (later : Configuration) → given_by l ≡ o → with_entry n m h o ≡ Ok later → Taken m l h later
unfolding with_entry
taken_by n m l h None later given e = absurd (cc e)
taken_by n m l h (Some p) later given e = elim (cases_Bool (map.contains_key m p.0)) [
  | inl old ↦ absurd (cc (sym (cond-true _ _ _ old) ∙ e))
  | inr new ↦
      let k = kinded n m p.0 p.1 h (explained p.0 p.1 h) later refl (sym (cond-false _ _ _ new) ∙ e) in
      record { name = p.0; kind = k.0; value = p.1; given = given; new = new; passes = k.1; is = k.2 }
]

-- two lists of lines, one pair further on
pub record OneOn (n : ℕ) (m : Configuration) (l h : List ℕ) (ls hs : List (List ℕ)) (end : Configuration) : Type 0 where
  pub later : Configuration
  pub taken : Taken m l h later
  pub rest : with_pairs (n + 1) later ls hs ≡ Ok end

chained : (n : ℕ) (m : Configuration) (l h : List ℕ) (ls hs : List (List ℕ)) (end : Configuration) (r : Result Configuration WrittenError) → with_entry n m h (given_by l) ≡ r
    → chain r (λ after. with_pairs (n + 1) after ls hs) ≡ Ok end → OneOn n m l h ls hs end
chained n m l h ls hs end (Err x) said e = absurd (cc e)
chained n m l h ls hs end (Ok later) said e = record { later = later; taken = taken_by n m l h (given_by l) later refl said; rest = e }

pub one_on : (n : ℕ) (m : Configuration) (l h : List ℕ) (ls hs : List (List ℕ)) (end : Configuration) → with_pairs n m (l ∷ ls) (h ∷ hs) ≡ Ok end → OneOn n m l h ls hs end
unfolding with_pairs
one_on n m l h ls hs end e = chained n m l h ls hs end (with_entry n m h (given_by l)) refl e

-- its entry
pub some_same : {X : Type 0} (a b : X) → Some a ≡ Some b → a ≡ b
some_same a b e = cc e

entry_named : (o : Option Statement) (name value : List ℕ) → as_entry o ≡ Some (name, value) → o ≡ Some (Assigns name value)
entry_named (Some (Assigns x v)) name value e = ap (λ p. Some (Assigns p.0 p.1)) (some_same (x, v) (name, value) e)
entry_named o name value e = absurd (cc e)

pub assigned_name : (t name value : List ℕ) → statement t ≡ Some (Assigns name value) → is_name name ≡ true
assigned_name t name value e = ((statements_are_spelled _ _).0 e).0

given_name : (l name value : List ℕ) → given_by l ≡ Some (name, value) → is_name name ≡ true
unfolding given_by
given_name l name value e = elim (cases_Bool (ends_with nat_eq l (codes "\n"))) [
  | inl ended ↦ ((statements_are_spelled _ _).0 (entry_named _ name value (sym (cond-true _ _ _ ended) ∙ e))).0
  | inr other ↦ absurd (cc (sym (cond-false _ _ _ other) ∙ e))
]

pub entry_of : (m : Configuration) (l h : List ℕ) (later : Configuration) (t : Taken m l h later) → IsEntry t.name (t.kind, t.value)
unfolding is_symbol_name explains
entry_of m l h later t =
    let outer = and_parts _ _ t.passes in
    let inner = and_parts _ _ outer.0 in
    let both = and_parts _ _ inner.0 in record {
      named = and_from _ _ (given_name l t.name t.value t.given) both.0;
      typed = both.1;
      on = not-true _ inner.1;
    }

pub entries_kept : (m : Configuration) (name : List ℕ) (s : Kind × List ℕ) → IsConfiguration m → IsEntry name s → IsConfiguration (map.insert m name s)
entries_kept m name s h entry x t is =
    let got = map.get-insert nat_list_cmp_total m name s x in
    elim (cases_Bool (is_eq (order x name))) [
      | inl same ↦
          let one = some_same s t (sym (cond-true _ _ _ same) ∙ sym got ∙ is) in
          subst (λ y. IsEntry y t) (sym (tied x name same)) (subst (λ u. IsEntry name u) one entry)
      | inr other ↦ h x t (sym (cond-false _ _ _ other) ∙ sym got ∙ is)
    ]

pub configured : (n : ℕ) (m : Configuration) (ls hs : List (List ℕ)) (end : Configuration) → IsConfiguration m → with_pairs n m ls hs ≡ Ok end → IsConfiguration end
unfolding with_pairs
configured n m [] [] end h e = let same = ok_same m end (Ok m) refl e in rw same at h
configured n m [] (x ∷ hs) end h e = absurd (cc e)
configured n m (l ∷ ls) [] end h e = absurd (cc e)
configured n m (l ∷ ls) (x ∷ hs) end h e =
    let on = one_on n m l x ls hs end e in
    let t = on.taken in
    configured (n + 1) on.later ls hs end (subst (λ c. IsConfiguration c) (sym t.is) (entries_kept m t.name (t.kind, t.value) h (entry_of m l x on.later t))) on.rest
