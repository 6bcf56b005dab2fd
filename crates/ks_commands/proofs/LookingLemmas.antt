-- What was looked at, one place after the other, and what a file that was read is.
use native.Mathlib.Omega.{arith}
use Rattle.ks_commands.proofs.Prelude.{◌≡◌, ◌≤◌, ◌∙◌, ℕ, List, None, Some, Ok, Err, Option, Result, IfErr, IfOk, Files, Bool, true, false, All-from_get_or, [], ◌∷◌, inl, inr, sym, refl, ap, common_steps, content, given, length, list_any_at, list_any_none, get_or, ◌||◌, bytes_eq, drop, drop-cons, fun_ext, subst}
use Rattle.std.specs.Prelude.{slice_get, string_bytes, ◌+◌, ◌⊎◌, codes}
use Rattle.std.specs.Borrow.{Bor}
use Rattle.std.specs.List.{list_any}
use Rattle.std.proofs.lemmas.Option.{get_or_from_slice_get, slice_get-get_or, slice_get_within}
use Rattle.std.proofs.Math.ListN.{drop_of_length-le}
use Rattle.std.proofs.lemmas.Bool.{cases_lt}
use Rattle.std.proofs.Common.{suc}
use Rattle.ks_symbols.specs.declared.dialect.Dialect.{Dialect}
use Rattle.ks_hidden.specs.Candidates.{candidates}
use Rattle.indexmap.specs.IndexSet.{IndexSet, index_set_len}
use Rattle.std.proofs.Common.{Vec}
use Rattle.ks_output.proofs.Prelude.{bytes_decides}
use Rattle.ks_hidden.specs.Macros.{DefiningLine, defining_word, is_in}
use Rattle.ks_hidden.specs.Texts.{HiddenLine}
pub use Rattle.ks_hidden.proofs.TextLemmas.{if_ok}
use Rattle.ks_hidden.specs.declared.hidden.Hidden.{Hidden}
use Rattle.ks_hidden.specs.declared.hidden.Hidden.TheVariants as hidden
use Rattle.ks_symbols.specs.Refusals.{IsRefusal}
use Rattle.ks_fixdep.specs.DependencyFile.{refusal_without}
use Rattle.ks_fixdep.specs.declared.dependency_file.Role.{Role}
use Rattle.ks_fixdep.specs.declared.dep_error.DepError.{DepError}
use Rattle.ks_fixdep.specs.declared.dep_error.DepError.TheVariants as dep
use Rattle.ks_fixdep.specs.declared.dependency_file.Header.{Header}
use Rattle.ks_fixdep.specs.declared.dependency_file.Header.TheVariants.{At}
use Rattle.ks_tree.specs.Paths.{auto_path}
use Rattle.ks_engine.specs.Recording.{there}
use Rattle.ks_engine.specs.LastSync.{old_auto}
use Rattle.ks_engine.specs.Places.{placed_by}
use Rattle.ks_engine.specs.declared.conventions.RecordOptions.{RecordOptions}
use Rattle.ks_engine.specs.Refusals.{IsAborted, of_dep}
use Rattle.ks_engine.specs.declared.error.EngineError.{EngineError}
use Rattle.ks_hidden.specs.Arguments.{unknown_argument}
use Rattle.ks_requests.specs.declared.request.StrictPaths.{StrictPaths}
use Rattle.ks_commands.specs.Looking.{AreFirst, AreListed, ArePlain, ArePrograms, IsBadTool, IsUnread, tools_of, DefinesNone, FirstRead, IsDefinition, IsFound, IsInput, IsListRefused, IsSought, IsUnreadDefinition, IsUnreadFile, IsUnreadListed, Look, file_includes, has_source, is_header_name, is_included, is_listed, look_by}

-- What is so of the first ones and of the next is so of one more.
pub one_more : {X : Type 0} (so : X → Type 0) (xs : List X) (n : ℕ) (x : X) → slice_get xs n ≡ Some x → so x → AreFirst so xs n → AreFirst so xs (n + 1)
one_more so xs n x there here before i y below at =
    elim (cases_lt i n) [
      | inl lower ↦ before i y lower at
      | inr reaches ↦ at_place so xs n x there here i y (omega (arith, below, reaches)) at
    ]
  where
    same : {X : Type 0} (x y : X) → ◌≡◌ {A = Option X} (Some y) (Some x) → y ≡ x
    same x y is = grind (arith, common_steps, is)

    at_place : {X : Type 0} (so : X → Type 0) (xs : List X) (n : ℕ) (x : X) → slice_get xs n ≡ Some x → so x
        → (i : ℕ) (y : X) → i ≡ n → slice_get xs i ≡ Some y → so y
    at_place so xs n x there here i y place at = rw (same x y (sym at ∙ ap (slice_get xs) place ∙ there)) here

pub all_ok : {A E : Type 0} (Q : A → Type 0) (r : Result A E) → ((x : A) → Q x) → IfOk r Q
all_ok Q (Ok x) f = f x
all_ok Q (Err e) f = tt

pub if_err : {A E : Type 0} (P Q : E → Type 0) (r : Result A E) → ((e : E) → P e → Q e) → IfErr r P → IfErr r Q
if_err P Q (Ok x) f p = p
if_err P Q (Err e) f p = f e p

there_is : (path : List ℕ) (file : Option (List ℕ)) (b : List ℕ) → there path file ≡ Ok b → file ≡ Some b
there_is path None b is = grind (arith, common_steps, is)
there_is path (Some x) b is = grind (arith, common_steps, is)

pub given_is : (files : Files) (path b : List ℕ) → given files path ≡ Ok b → content files path ≡ Some b
given_is files path b is = grind (arith, common_steps, is, (there_is path (content files path) b))

-- a text that hides nothing, by where its precompiled headers are sought
pub input_of_sought : (look : Look) (files : Files) (path b : List ℕ) (paths : List (List ℕ)) → content files path ≡ Some b → HiddenLine b None
    → is_header_name path ≡ false → paths ≡ candidates look.is_listed path b look.command → (found : Option Hidden) → IsSought files path paths found
    → IsInput look files path found
input_of_sought look files path b paths at hides named are None sought = (b, at, (hides, λ _. rw (sym are) sought))
input_of_sought look files path b paths at hides named are (Some (hidden.Input p n)) (i, q, there, before, none) = absurd none
input_of_sought look files path b paths at hides named are (Some (hidden.Line p n)) sought = (b, at, (hides, named, rw (sym are) sought))
input_of_sought look files path b paths at hides named are (Some (hidden.OtherHeader p)) sought = (b, at, (hides, named, rw (sym are) sought))
input_of_sought look files path b paths at hides named are (Some (hidden.Precompiled p)) sought = (b, at, (hides, named, rw (sym are) sought))
input_of_sought look files path b paths at hides named are (Some (hidden.MissingLine p)) sought = (b, at, (hides, named, rw (sym are) sought))
input_of_sought look files path b paths at hides named are (Some (hidden.Argument n)) sought = (b, at, (hides, named, rw (sym are) sought))

pub source_there : {X : Type 0} (p : X → Bool) (xs : List X) (n : ℕ) (x : X) → slice_get xs n ≡ Some x → p x ≡ true → list_any p xs ≡ true
source_there p xs n x at is =
    list_any_at p xs n x (slice_get_within xs n x at) (ap p (get_or_from_slice_get xs n x x at) ∙ is)

pub source_nowhere : {X : Type 0} (p : X → Bool) (xs : List X) (n : ℕ) → length xs ≤ n
    → AreFirst (λ x. p x ≡ false) xs n → list_any p xs ≡ false
source_nowhere p [] n past none = refl
source_nowhere p (y ∷ ys) n past none =
    list_any_none p (y ∷ ys) (All-from_get_or (λ x. p x ≡ false) (y ∷ ys) y (λ k lt.
    none k (get_or (y ∷ ys) k y) (omega (arith, past, lt)) (slice_get-get_or (y ∷ ys) k y lt)))

pub list_refused : (none : Bor (List ℕ)) → none.now ≡ codes "\n" → (text : List ℕ) (fault : DepError)
    → IsRefusal dep.OutOfMemory fault (refusal_without (At none) text) → IsAborted (of_dep fault) ⊎ IsListRefused text (of_dep fault)
list_refused none now text fault (inl same) = inl (rw same tt)
list_refused none now text fault (inr is) = inr (none, now, fault, is, refl)

-- what is left of a list begins with what stands at the place
pub listed_from : (x : List ℕ) (listed : List (List ℕ × Role)) (n : ℕ) (p : List ℕ × Role) → slice_get listed n ≡ Some p
    → is_listed (drop n listed) x ≡ (bytes_eq x p.0 || is_listed (drop (n + 1) listed) x)
listed_from x listed n p at =
    let within = slice_get_within listed n p at in
    let here : get_or listed n p ≡ p = get_or_from_slice_get listed n p p at in
    let next : n + 1 ≡ suc n = omega arith in
    rw next
    (ap (λ ps. is_listed ps x) (drop-cons listed n p within) ∙ ap (λ (q : List ℕ × Role). bytes_eq x q.0 || is_listed (drop (suc n) listed) x) here)

-- the same of the macros that files include
pub included_from : (look : Look) (files : Files) (x : List ℕ) (listed : List (List ℕ × Role)) (n : ℕ) (p : List ℕ × Role) → slice_get listed n ≡ Some p
    → is_included look files (drop n listed) x ≡ (file_includes look files p.0 x || is_included look files (drop (n + 1) listed) x)
included_from look files x listed n p at =
    let within = slice_get_within listed n p at in
    let here : get_or listed n p ≡ p = get_or_from_slice_get listed n p p at in
    let next : n + 1 ≡ suc n = omega arith in
    rw next
    (ap (λ ps. is_included look files ps x) (drop-cons listed n p within)
    ∙ ap (λ (q : List ℕ × Role). file_includes look files q.0 x || is_included look files (drop (suc n) listed) x) here)

-- ---- how the files are looked at, by a set and by a list of the same paths

abbrev pub with_listed : Look → (List ℕ → Bool) → Look
with_listed look f = record {
  dialect = look.dialect;
  header = look.header;
  alias = look.alias;
  texts = look.texts;
  is_listed = f;
  command = look.command;
}

pub same_listed : (P : Look → Type 0) (look : Look) (f : List ℕ → Bool) → ((x : List ℕ) → look.is_listed x ≡ f x) → P look → P (with_listed look f)
same_listed P look f same p = subst (λ h. P (with_listed look h)) (fun_ext same) p

-- ---- macros

-- the macros by a set, and by the files that include them
pub same_macros : (P : (List ℕ → Bool) → Type 0) (f h : List ℕ → Bool) → ((x : List ℕ) → f x ≡ h x) → P f → P h
same_macros P f h same p = subst P (fun_ext same) p

pub none_left : (look : Look) (files : Files) (x : List ℕ) (listed : List (List ℕ × Role)) (n : ℕ) → length listed ≤ n
    → is_included look files (drop n listed) x ≡ false
none_left look files x listed n past = ap (λ ps. is_included look files ps x) (drop_of_length-le listed past)

-- a set without a key has none, and another one some
in_none : {S Y : Type 0} (s : IndexSet (Vec ℕ Y) S) → s.keys ≡ [] → (x : List ℕ) → is_in s x ≡ false
in_none s empty x = ap (list_any (λ v. bytes_eq x v.items)) empty

-- what was noted in such a set is all that it has
pub noted_alone : {S Y : Type 0} (old new : IndexSet (Vec ℕ Y) S) (f : List ℕ → Bool) → old.keys ≡ []
    → ((x : List ℕ) → is_in new x ≡ (is_in old x || f x)) → (x : List ℕ) → is_in new x ≡ f x
noted_alone old new f empty noted x = noted x ∙ ap (λ b. b || f x) (in_none old empty x)

no_keys : {X : Type 0} (ks : List X) → length ks ≡ 0 → ks ≡ []
no_keys [] none = refl
no_keys (k ∷ ks) none = absurd (omega (arith, none))

pub in_empty : {S Y : Type 0} (s : IndexSet (Vec ℕ Y) S) → index_set_len s ≡ 0 → (x : List ℕ) → is_in s x ≡ false
in_empty s none x = in_none s (no_keys s.keys none) x

some_key : {Y : Type 0} (ks : List (Vec ℕ Y)) → (length ks ≡ 0 → ⊥) → (name : List ℕ) × (list_any (λ v. bytes_eq name v.items) ks ≡ true)
some_key [] some = absurd (some refl)
some_key (v ∷ vs) some = (v.items, rw ((bytes_decides v.items v.items).1 refl) refl)

pub has_some : {S Y : Type 0} (s : IndexSet (Vec ℕ Y) S) → (index_set_len s ≡ 0 → ⊥) → (name : List ℕ) × (is_in s name ≡ true)
has_some s some = some_key s.keys some

-- a file that can be read defines none where its text does, and one that can't may define some
pub defines_none : (m : List ℕ → Bool) (files : Files) (p : List ℕ × Role) (text : List ℕ) → content files p.0 ≡ Some text → DefiningLine m text None
    → DefinesNone m files p
defines_none m files p text there none b at = subst (λ t. DefiningLine m t None) (same_text text b (sym there ∙ at)) none
  where
    same_text : (x y : List ℕ) → ◌≡◌ {A = Option (List ℕ)} (Some x) (Some y) → x ≡ y
    same_text x y is = grind (arith, common_steps, is)

pub unread_definition : (m : List ℕ → Bool) (files : Files) (command : List ℕ) (listed : List (List ℕ × Role)) (n : ℕ) (p : List ℕ × Role) (e : EngineError)
    → defining_word m command ≡ None → slice_get listed n ≡ Some p → AreFirst (DefinesNone m files) listed n → IsAborted e ⊎ (given files p.0 ≡ Err e)
    → IsAborted e ⊎ IsUnreadDefinition m files command listed e
unread_definition m files command listed n p e none at first (inl aborted) = inl aborted
unread_definition m files command listed n p e none at first (inr is) = inr (none, (n, p, at, first, is))

-- what defines a macro, and what can't be read, by a set of these
pub found_of : (look : Look) (files : Files) (listed : List (List ℕ × Role)) → ArePlain look files listed → has_source look.header listed ≡ true
    → (f : List ℕ → Bool) → ((x : List ℕ) → f x ≡ is_included look files listed x)
    → (h : Option Hidden) → IsDefinition f files look.command listed h → IsFound look files listed h
found_of look files listed plain sourced f same None is =
    ((plain, sourced), inr (same_macros (λ m. IsDefinition m files look.command listed None) f (is_included look files listed) same is))
found_of look files listed plain sourced f same (Some h) is =
    inr (inr ((plain, sourced), same_macros (λ m. IsDefinition m files look.command listed (Some h)) f (is_included look files listed) same is))

pub unread_of : (look : Look) (files : Files) (listed : List (List ℕ × Role)) → ArePlain look files listed → has_source look.header listed ≡ true
    → (f : List ℕ → Bool) → ((x : List ℕ) → f x ≡ is_included look files listed x) → (name : List ℕ) × (f name ≡ true)
    → (e : EngineError) → IsAborted e ⊎ IsUnreadDefinition f files look.command listed e → IsAborted e ⊎ IsUnreadListed look files listed e
unread_of look files listed plain sourced f same (name, one) e (inl aborted) = inl aborted
unread_of look files listed plain sourced f same (name, one) e (inr is) =
    inr (inr ((plain, sourced), name, sym (same name) ∙ one, same_macros (λ m. IsUnreadDefinition m files look.command listed e) f (is_included look files listed) same is))

-- ---- what can't be read

pub auto_unread : (dialect : Dialect) (header : Header) (options : RecordOptions) (alias : List ℕ) (files : Files) (depfile command was : List ℕ) (listed : List (List ℕ × Role))
    (e : EngineError) → content files depfile ≡ Some was → AreListed (placed_by options was) listed
    → IsAborted e ⊎ (old_auto (content files auto_path) ≡ Err e) → IsAborted e ⊎ IsUnreadFile dialect header options alias files depfile command e
auto_unread dialect header options alias files depfile command was listed e at are (inl aborted) = inl aborted
auto_unread dialect header options alias files depfile command was listed e at are (inr is) = inr (inr (inl (was, at, inr (listed, are, is))))

pub file_unread : (dialect : Dialect) (header : Header) (options : RecordOptions) (alias : List ℕ) (files : Files) (depfile command : List ℕ) (read : FirstRead options files depfile)
    (e : EngineError)
    → IsAborted e ⊎ IsUnreadListed (look_by dialect header alias command read) files read.listed e → IsAborted e ⊎ IsUnreadFile dialect header options alias files depfile command e
file_unread dialect header options alias files depfile command read e (inl aborted) = inl aborted
file_unread dialect header options alias files depfile command read e (inr is) = inr (inr (inr (read, is)))

pub bad_tool : (dialect : Dialect) (header : Header) (options : RecordOptions) (strict : StrictPaths) (files : Files) (depfile command : List ℕ) (e : EngineError)
    → unknown_argument command ≡ None → IsAborted e ⊎ IsBadTool files (tools_of strict) e → IsAborted e ⊎ IsUnread dialect header options strict files depfile command e
bad_tool dialect header options strict files depfile command e none (inl aborted) = inl aborted
bad_tool dialect header options strict files depfile command e none (inr is) = inr (none, inl is)

pub unread_behind : (dialect : Dialect) (header : Header) (options : RecordOptions) (strict : StrictPaths) (files now : Files) (alias depfile command : List ℕ) (e : EngineError)
    → unknown_argument command ≡ None → ArePrograms files (tools_of strict) → now ≡ files → alias ≡ string_bytes strict.alias
    → IsAborted e ⊎ IsUnreadFile dialect header options alias now depfile command e → IsAborted e ⊎ IsUnread dialect header options strict files depfile command e
unread_behind dialect header options strict files now alias depfile command e none are same spelled (inl aborted) = inl aborted
unread_behind dialect header options strict files now alias depfile command e none are same spelled (inr is) =
    let spelled_so = subst (λ a. IsUnreadFile dialect header options a now depfile command e) spelled is in
    inr (none, inr (are, subst (λ f. IsUnreadFile dialect header options (string_bytes strict.alias) f depfile command e) same spelled_so))
