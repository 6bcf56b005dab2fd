-- What one line of BusyBox's .config and its block do to a walk that goes on.
use Rattle.ks_output.proofs.Prelude.{◌≡◌, ◌∷◌, ◌++◌, ◌∙◌, ℕ, Bool, true, false, List, [], codes, nat_eq, cond-true, cond-false, cases_Bool, inl, inr, Ok, refl, sym, ap, append_assoc, rules, bytes_eq, length, drop, list_all, and_parts, and_from, not-true, starts_with, ends_with, opened, Configuration, Kind, Option, Some, None, Statement, Assigns, statements_are_spelled, is_name, is_symbol_name, IsEntry}
use Rattle.std.specs.Prelude.{Err, Result, find}
use Rattle.std.specs.FinMap as map
use Rattle.std.proofs.Common.{take-append-drop}
use Rattle.ks_symbols.specs.Kinds.{fits}
use Rattle.ks_symbols.specs.Statements.{Unsets}
use Rattle.ks_output.specs.SeenNames.{is_in}
use Rattle.ks_output.specs.declared.blocks.Place.{Place}
use Rattle.ks_output.specs.declared.blocks.Place.TheVariants as place
use Rattle.ks_output.specs.declared.written.WrittenError.{WrittenError}
use Rattle.ks_output.specs.Blocks.{Walk, behind, block_kinds, entered, explained_block, explains_block, is_menu_line, less_lf, off_block, on_block, passed, said, stated, titled, valued, walk_at, with_line}
use Rattle.ks_output.proofs.WrittenLines.{is_plain, plain-append}
use Rattle.ks_output.proofs.WrittenConfigured.{found_passes, some_same}
use Rattle.ks_output.proofs.BlockTexts.{shown, silent_line, has_block}

-- a line that holds nothing of any name
pub record Silent (w later : Walk) : Type 0 where
  pub block : List ℕ
  pub nothing : (s : Configuration) (x rest : List ℕ) → shown s x (block ++ rest) ≡ shown s x rest
  pub is : w.left ≡ block ++ later.left
  pub names : later.names ≡ w.names
  pub settings : later.settings ≡ w.settings

-- a name that is off
pub record Off (w later : Walk) : Type 0 where
  pub name : List ℕ
  pub named : is_name name ≡ true
  pub new : is_in name w.names ≡ false
  pub is : w.left ≡ off_block name ++ later.left
  pub names : later.names ≡ w.names ++ name ∷ []
  pub settings : later.settings ≡ w.settings

-- an entry
pub record On (w : Walk) (l : List ℕ) (later : Walk) : Type 0 where
  pub name : List ℕ
  pub kind : Kind
  pub value : List ℕ
  pub entry : IsEntry name (kind, value)
  pub has : has_block kind ≡ true
  pub new : is_in name w.names ≡ false
  pub is : w.left ≡ on_block name kind value ++ later.left
  pub names : later.names ≡ w.names ++ name ∷ []
  pub settings : later.settings ≡ map.insert w.settings name (kind, value)
  pub line : l ≡ codes "CONFIG_" ++ name ++ codes "=" ++ value ++ codes "\n"

pub data Step (w : Walk) (l : List ℕ) (later : Walk) : Type 0 where
  silent : Silent w later → Step w l later
  off : Off w later → Step w l later
  on : On w l later → Step w l later

pub ok_is : {X : Type 0} (a b : X) (r : Result X WrittenError) → r ≡ Ok a → r ≡ Ok b → a ≡ b
ok_is a b r e f = cc (e, f)

-- a block is in front of what is left behind it
behind_is : (n : ℕ) (left block later : List ℕ) → behind n left block ≡ Ok later → left ≡ block ++ later
behind_is n left block later e = elim (cases_Bool (starts_with nat_eq left block)) [
  | inl is ↦ opened left block is ∙ ap (λ x. block ++ x) (ok_is (drop (length block) left) later (behind n left block) (cond-true _ _ _ is) e)
  | inr other ↦ absurd (cc (sym (cond-false _ _ _ other) ∙ e))
]

pub record Passed (p : Place) (names : List (List ℕ)) (settings : Configuration) (r : Result (List ℕ) WrittenError) (later : Walk) : Type 0 where
  pub left : List ℕ
  pub read : r ≡ Ok left
  pub is : later ≡ walk_at p names settings left

passed_is : (p : Place) (names : List (List ℕ)) (settings : Configuration) (r : Result (List ℕ) WrittenError) (later : Walk) → passed p names settings r ≡ Ok later
    → Passed p names settings r later
passed_is p names settings (Ok left) later e = record { left = left; read = refl; is = sym (ok_is (walk_at p names settings left) later (passed p names settings (Ok left)) refl e) }
passed_is p names settings (Err x) later e = absurd (cc e)

-- a line with a block of its own
silent_step : (n : ℕ) (w : Walk) (l : List ℕ) (p : Place) (block : List ℕ) (later : Walk) → ((s : Configuration) (x rest : List ℕ) → shown s x (block ++ rest) ≡ shown s x rest)
    → passed p w.names w.settings (behind n w.left block) ≡ Ok later → Step w l later
silent_step n w l p block later nothing e =
    let is = passed_is p w.names w.settings (behind n w.left block) later e in
    silent (record {
      block = block;
      nothing = nothing;
      is = behind_is n w.left block is.left is.read ∙ ap (λ v. block ++ v.left) (sym is.is);
      names = ap (λ v. v.names) is.is;
      settings = ap (λ v. v.settings) is.is;
    })

-- a line is what stands before its LF
pub ended_line : (l : List ℕ) → ends_with nat_eq l (codes "\n") ≡ true → l ≡ less_lf l ++ 10 ∷ []
ended_line l e = search (rules, take-append-drop)

title_silent : (t line : List ℕ) → line ≡ t ++ 10 ∷ [] → is_plain t ≡ true → starts_with nat_eq line (codes "# ") ≡ true → (s : Configuration) (x rest : List ℕ)
    → shown s x ((codes " *" ++ drop 1 line) ++ rest) ≡ shown s x rest
title_silent [] line is plain front s x rest = absurd (cc (ap (λ l. starts_with nat_eq l (codes "# ")) (sym is) ∙ front))
title_silent (b ∷ t) line is plain front s x rest =
    ap (λ l. shown s x ((codes " *" ++ drop 1 l) ++ rest)) is ∙ ap (λ more. shown s x (codes " *" ++ more)) (append_assoc t (10 ∷ []) rest)
    ∙ silent_line s x (codes " *" ++ t) rest (plain-append (codes " *") t refl (and_parts _ _ plain).1) refl

-- the value of a new name
pub record Valued (n : ℕ) (m : Configuration) (left name value : List ℕ) (later : Configuration × List ℕ) : Type 0 where
  pub kind : Kind
  pub found : explained_block name value left ≡ Some kind
  pub fit : fits kind name ≡ true
  pub is : later ≡ (map.insert m name (kind, value), drop (length (on_block name kind value)) left)

valued_is : (n : ℕ) (m : Configuration) (left name value : List ℕ) (o : Option Kind) (later : Configuration × List ℕ) → explained_block name value left ≡ o
    → valued n m left name value o ≡ Ok later → Valued n m left name value later
valued_is n m left name value None later found e = absurd (cc e)
valued_is n m left name value (Some k) later found e = elim (cases_Bool (fits k name)) [
  | inl fit ↦ record {
    kind = k;
    found = found;
    fit = fit;
    is = sym (ok_is (map.insert m name (k, value), drop (length (on_block name k value)) left) later (valued n m left name value (Some k)) (cond-true _ _ _ fit) e);
  }
  | inr other ↦ absurd (cc (sym (cond-false _ _ _ other) ∙ e))
]

-- the kinds that are tried have blocks
found_all : {X : Type 0} (p q : X → Bool) (xs : List X) (y : X) → list_all q xs ≡ true → find p xs ≡ Some y → q y ≡ true
found_all p q [] y all e = absurd (cc e)
found_all p q (x ∷ xs) y all e = elim (cases_Bool (p x)) [
  | inl holds ↦ ap q (sym (some_same x y (sym (cond-true _ _ _ holds) ∙ e))) ∙ (and_parts _ _ all).0
  | inr other ↦ found_all p q xs y (and_parts _ _ all).1 (sym (cond-false _ _ _ other) ∙ e)
]

kind_has_block : (name value left : List ℕ) (k : Kind) → explained_block name value left ≡ Some k → has_block k ≡ true
unfolding explained_block has_block
kind_has_block name value left k e = found_all (explains_block name value left) has_block block_kinds k refl e

explained_passes : (name value left : List ℕ) (k : Kind) → explained_block name value left ≡ Some k → explains_block name value left k ≡ true
unfolding explained_block
explained_passes name value left k e = found_passes (explains_block name value left) block_kinds k e

-- what a line says, as it is spelled
pub record Assigned (l name value : List ℕ) : Type 0 where
  pub named : is_name name ≡ true
  pub spelled : l ≡ codes "CONFIG_" ++ name ++ codes "=" ++ value ++ codes "\n"

assigned : (l name value : List ℕ) → said l ≡ Some (Assigns name value) → Assigned l name value
unfolding said
assigned l name value e = elim (cases_Bool (ends_with nat_eq l (codes "\n"))) [
  | inl ended ↦
      let says = (statements_are_spelled (less_lf l) (Assigns name value)).0 (sym (cond-true _ _ _ ended) ∙ e) in
      record { named = says.0; spelled = ended_line l ended ∙ ap (λ t. t ++ 10 ∷ []) says.1 }
  | inr other ↦ absurd (cc (sym (cond-false _ _ _ other) ∙ e))
]

unset_name : (l name : List ℕ) → said l ≡ Some (Unsets name) → is_name name ≡ true
unfolding said
unset_name l name e = elim (cases_Bool (ends_with nat_eq l (codes "\n"))) [
  | inl ended ↦ ((statements_are_spelled (less_lf l) (Unsets name)).0 (sym (cond-true _ _ _ ended) ∙ e)).0
  | inr other ↦ absurd (cc (sym (cond-false _ _ _ other) ∙ e))
]

entry_of : (name value left : List ℕ) (k : Kind) → is_name name ≡ true → fits k name ≡ true → explains_block name value left k ≡ true → IsEntry name (k, value)
unfolding is_symbol_name explains_block
entry_of name value left k named fit passes =
    let inner = and_parts _ _ (and_parts _ _ passes).0 in
    record { named = and_from _ _ named fit; typed = inner.0; on = not-true _ inner.1 }

block_in_front : (name value left : List ℕ) (k : Kind) → explains_block name value left k ≡ true → left ≡ on_block name k value ++ drop (length (on_block name k value)) left
unfolding explains_block
block_in_front name value left k passes = opened left (on_block name k value) (and_parts _ _ passes).1

pub record Entered (n : ℕ) (w : Walk) (name value : List ℕ) (later : Walk) : Type 0 where
  pub r : Configuration × List ℕ
  pub valued : Valued n w.settings w.left name value r
  pub is : later ≡ walk_at place.Between (w.names ++ name ∷ []) r.0 r.1

entered_is : (n : ℕ) (w : Walk) (name value : List ℕ) (r : Result (Configuration × List ℕ) WrittenError) (later : Walk)
    → valued n w.settings w.left name value (explained_block name value w.left) ≡ r → entered (w.names ++ name ∷ []) r ≡ Ok later → Entered n w name value later
entered_is n w name value (Ok r) later made e = record {
  r = r;
  valued = valued_is n w.settings w.left name value (explained_block name value w.left) r refl made;
  is = sym (ok_is (walk_at place.Between (w.names ++ name ∷ []) r.0 r.1) later (entered (w.names ++ name ∷ []) (Ok r)) refl e);
}
entered_is n w name value (Err x) later made e = absurd (cc e)

on_step : (n : ℕ) (w : Walk) (l name value : List ℕ) (later : Walk) → said l ≡ Some (Assigns name value) → is_in name w.names ≡ false → Entered n w name value later → Step w l later
on_step n w l name value later says new t =
    let v = t.valued in
    let a = assigned l name value says in
    let passes = explained_passes name value w.left v.kind v.found in
    on (record {
      name = name;
      kind = v.kind;
      value = value;
      entry = entry_of name value w.left v.kind a.named v.fit passes;
      has = kind_has_block name value w.left v.kind v.found;
      new = new;
      is = block_in_front name value w.left v.kind passes ∙ ap (λ q. on_block name v.kind value ++ q.1) (sym v.is) ∙ ap (λ q. on_block name v.kind value ++ q.left) (sym t.is);
      names = ap (λ q. q.names) t.is;
      settings = ap (λ q. q.settings) t.is ∙ ap (λ q. q.0) v.is;
      line = a.spelled;
    })

off_step : (n : ℕ) (w : Walk) (l name : List ℕ) (later : Walk) → said l ≡ Some (Unsets name) → is_in name w.names ≡ false
    → Passed place.Between (w.names ++ name ∷ []) w.settings (behind n w.left (off_block name)) later → Step w l later
off_step n w l name later says new t =
    off (record {
      name = name;
      named = unset_name l name says;
      new = new;
      is = behind_is n w.left (off_block name) t.left t.read ∙ ap (λ q. off_block name ++ q.left) (sym t.is);
      names = ap (λ q. q.names) t.is;
      settings = ap (λ q. q.settings) t.is;
    })

stated_step : (n : ℕ) (w : Walk) (l : List ℕ) (o : Option Statement) (later : Walk) → said l ≡ o → stated n w o ≡ Ok later → Step w l later
unfolding stated
stated_step n w l None later says e = absurd (cc e)
stated_step n w l (Some (Unsets name)) later says e = elim (cases_Bool (is_in name w.names)) [
  | inl old ↦ absurd (cc (sym (cond-true _ _ _ old) ∙ e))
  | inr new ↦ off_step n w l name later says new
      (passed_is place.Between (w.names ++ name ∷ []) w.settings (behind n w.left (off_block name)) later (sym (cond-false _ _ _ new) ∙ e))
]
stated_step n w l (Some (Assigns name value)) later says e = elim (cases_Bool (is_in name w.names)) [
  | inl old ↦ absurd (cc (sym (cond-true _ _ _ old) ∙ e))
  | inr new ↦ on_step n w l name value later says new
      (entered_is n w name value (valued n w.settings w.left name value (explained_block name value w.left)) later refl (sym (cond-false _ _ _ new) ∙ e))
]

-- the title of a menu
titled_behind : (n : ℕ) (left l later : List ℕ) → titled n left l ≡ Ok later → (is_menu_line l ≡ true) × (behind n left (codes " *" ++ drop 1 l) ≡ Ok later)
titled_behind n left l later e = elim (cases_Bool (is_menu_line l)) [
  | inl is ↦ (is, sym (cond-true _ _ _ is) ∙ e)
  | inr other ↦ absurd (cc (sym (cond-false _ _ _ other) ∙ e))
]

menu_silent : (l : List ℕ) → is_menu_line l ≡ true → (s : Configuration) (x rest : List ℕ) → shown s x ((codes " *" ++ drop 1 l) ++ rest) ≡ shown s x rest
unfolding is_menu_line
menu_silent l e =
    let parts = and_parts _ _ (and_parts _ _ e).0 in
    let heads = and_parts _ _ parts.0 in
    title_silent (less_lf l) l (ended_line l heads.1) parts.1 heads.0

title_step : (n : ℕ) (w : Walk) (l : List ℕ) (later : Walk) → passed place.Titled w.names w.settings (titled n w.left l) ≡ Ok later → Step w l later
title_step n w l later e =
    let t = passed_is place.Titled w.names w.settings (titled n w.left l) later e in
    let b = titled_behind n w.left l t.left t.read in
    silent (record {
      block = codes " *" ++ drop 1 l;
      nothing = menu_silent l b.0;
      is = behind_is n w.left (codes " *" ++ drop 1 l) t.left b.1 ∙ ap (λ q. (codes " *" ++ drop 1 l) ++ q.left) (sym t.is);
      names = ap (λ q. q.names) t.is;
      settings = ap (λ q. q.settings) t.is;
    })

-- one line
between_step : (n : ℕ) (w : Walk) (l : List ℕ) (later : Walk) → with_line n w l place.Between ≡ Ok later → Step w l later
unfolding with_line
between_step n w l later e = elim (cases_Bool (bytes_eq l (codes "\n"))) [
  | inl empty ↦ silent_step n w l place.Between (codes "\n") later (λ s x rest. silent_line s x [] rest refl refl) (sym (cond-true _ _ _ empty) ∙ e)
  | inr other ↦ elim (cases_Bool (bytes_eq l (codes "#\n"))) [
    | inl opens ↦ silent_step n w l place.Opened (codes "/*\n") later (λ s x rest. silent_line s x (codes "/*") rest refl refl)
        (sym (cond-true _ _ _ opens) ∙ sym (cond-false _ _ _ other) ∙ e)
    | inr stating ↦ stated_step n w l (said l) later refl (sym (cond-false _ _ _ stating) ∙ sym (cond-false _ _ _ other) ∙ e)
  ]
]

pub step_of : (n : ℕ) (w : Walk) (l : List ℕ) (p : Place) (later : Walk) → with_line n w l p ≡ Ok later → Step w l later
unfolding with_line
step_of n w l place.Between later e = between_step n w l later e
step_of n w l place.Opened later e = title_step n w l later e
step_of n w l place.Titled later e = elim (cases_Bool (bytes_eq l (codes "#\n"))) [
  | inl closes ↦ silent_step n w l place.Between (codes " */\n") later (λ s x rest. silent_line s x (codes " */") rest refl refl) (sym (cond-true _ _ _ closes) ∙ e)
  | inr other ↦ absurd (cc (sym (cond-false _ _ _ other) ∙ e))
]
