-- A line of the layout says what it was made of, and no other line does.
use Rattle.ks_fixdep.proofs.Prelude.{All-head, ap₂, ◌≡◌, ℕ, zero, suc, ◌<◌, Bool, true, false, List, [], ◌∷◌, ◌++◌, length, take, drop, refl, sym, ap, ◌∙◌, arith, Option, Some, None, length-append, append_assoc, take-append_seam, drop-append_seam, drop-append-add, bytes_eq-Decides, Dep, File, Config, is_dep, dep_line, cond-true, eqb-true, and_parts, ◌==◌, ◌&&◌, option_and_then, if◌then◌else◌, list_all, bytes_eq, first_of, is_name, is_path, is_target, is_path_byte, following, before, between, is_command, checked, split_once, saved_command, source_in, path_in, name_in, dep_in, either_dep, assignment, file_end, file_line, file_mark, name_end, name_line, name_mark, saved_line, saved_mark, source_line, common_steps, rules, and_from}
use Rattle.std.proofs.lemmas.List.{take-append-drop}
use Rattle.memchr.proofs.lemmas.CallerLemmas.{All-matches}
use Rattle.memchr.proofs.lemmas.MatchLemmas.{OccursAt-from_part, OccursAt-part, OccursAt-split, matches-first}

-- a byte that passes is none that fails
pub other-byte : (p : ℕ → Bool) (d b : ℕ) → p d ≡ false → p b ≡ true → (b == d) ≡ false
other-byte p d b fails passes = grind (arith, common_steps, eqb-true)

pub all-imp : {A : Type 0} (p q : A → Bool) → ((x : A) → p x ≡ true → q x ≡ true) → (xs : List A) → list_all p xs ≡ true → list_all q xs ≡ true
all-imp p q imp [] e = refl
all-imp p q imp (x ∷ xs) e = let parts = and_parts (p x) (list_all p xs) e in and_from _ _ (imp x parts.0) (all-imp p q imp xs parts.1)

pub path-bytes : (p : List ℕ) → is_path p ≡ true → list_all is_path_byte p ≡ true
unfolding is_path
path-bytes p e = search (rules, and_parts)

pub target-path : (p : List ℕ) → is_target p ≡ true → is_path p ≡ true
unfolding is_target
target-path p e = search (rules, and_parts)

pub bytes-refl : (xs : List ℕ) → bytes_eq xs xs ≡ true
bytes-refl xs = (bytes_eq-Decides xs xs).1 refl

pub bytes-same : (xs ys : List ℕ) → bytes_eq xs ys ≡ true → xs ≡ ys
bytes-same xs ys e = (bytes_eq-Decides xs ys).0 e

pub after-prefix : (prefix x : List ℕ) → following prefix (prefix ++ x) ≡ Some x
after-prefix prefix x = grind (arith, common_steps, cond-true, drop-append_seam, bytes-refl, take-append_seam)

pub before-end : (x end : List ℕ) → before end (x ++ end) ≡ Some x
before-end x end = grind (arith, common_steps, length-append, cond-true, drop-append_seam, bytes-refl, take-append_seam)

between-line : (test : List ℕ → Bool) (prefix end x : List ℕ) → test x ≡ true → option_and_then (checked test) (between prefix end (prefix ++ (x ++ end))) ≡ Some x
between-line test prefix end x legal = search (rules, after-prefix, before-end, cond-true)

name_in-path : (p : List ℕ) → is_path p ≡ true → name_in (file_line p) ≡ None
unfolding name_in is_path
name_in-path [] legal = absurd cc
name_in-path (b ∷ p) legal = search (rules, and_parts, path-bytes, other-byte)

pub source_in-line : (t s : List ℕ) → is_path s ≡ true → source_in t (source_line t s) ≡ Some s
unfolding source_in
source_in-line t s legal = search (rules, append_assoc, after-prefix, cond-true)

-- the separator begins with a byte that a target has not
no-separator : (t more : List ℕ) (j : ℕ) → list_all is_path_byte t ≡ true → j < length t → take 4 (drop j (t ++ more)) ≡ assignment → ⊥
no-separator [] more j legal lt is = omega arith
no-separator (b ∷ t) more zero legal lt is = let parts = and_parts (is_path_byte b) _ legal in grind (arith, common_steps)
no-separator (b ∷ t) more (suc j) legal lt is = let parts = and_parts (is_path_byte b) _ legal in no-separator t more j parts.1 (omega arith) is

split-target : (t c : List ℕ) → list_all is_path_byte t ≡ true → split_once assignment (t ++ (assignment ++ c)) ≡ Some (t, c)
unfolding first_of
split-target t c legal =
    let hay = t ++ (assignment ++ c) in
    let size = length-append t (assignment ++ c) in
    let here = OccursAt-from_part hay assignment (length t) (omega arith) (ap (take 4) (drop-append_seam t (assignment ++ c))) in
    let first = matches-first hay assignment 0 (length t) (record {
      low = omega arith;
      high = omega arith;
      before = λ j _ lt occurs. no-separator t (assignment ++ c) j legal lt (OccursAt-part hay assignment j occurs);
    }) here in
    search (rules, take-append_seam, drop-append-add)

pub saved_command-line : (t c : List ℕ) → is_target t ≡ true → is_command c ≡ true → saved_command (saved_line t c) ≡ Some (t, c)
unfolding saved_command
saved_command-line t c target command = search (rules, append_assoc, after-prefix, split-target, path-bytes, target-path, cond-true)

pub dep-line : (d : Dep) → is_dep d ≡ true → dep_in (dep_line d) ≡ Some d
unfolding dep_in name_in path_in
dep-line (File p) legal = ap₂ either_dep (name_in-path p legal) (between-line is_path file_mark file_end p legal)
dep-line (Config x) legal = ap (λ o. either_dep o (path_in (name_line x))) (between-line is_name name_mark name_end x legal)

pub dep_in-none : dep_in [] ≡ None
unfolding dep_in name_in path_in
dep_in-none = refl

-- ---- what a form takes is a line of the layout

-- a value that came through a step
record Steps {A B : Type 0} (step : A → Option B) (from : Option A) (to : B) : Type 0 where
  value : A
  first : from ≡ Some value
  next : step value ≡ Some to

and_then-steps : {A B : Type 0} (step : A → Option B) (from : Option A) (to : B) → option_and_then step from ≡ Some to → Steps step from to
and_then-steps step from to e = search rules

pub if-some : {A : Type 0} (b : Bool) (x y : A) → (if b then Some x else None) ≡ Some y → (b ≡ true) × (x ≡ y)
if-some b x y e = search rules

pub after-is : (prefix xs x : List ℕ) → following prefix xs ≡ Some x → xs ≡ prefix ++ x
after-is prefix xs x e = search (rules, take-append-drop, bytes-same)

before-is : (end xs x : List ℕ) → before end xs ≡ Some x → xs ≡ x ++ end
before-is end xs x e = search (rules, take-append-drop, bytes-same)

split-is : (sep xs a b : List ℕ) → split_once sep xs ≡ Some (a, b) → xs ≡ a ++ (sep ++ b)
unfolding first_of
split-is sep xs a b e = let all = All-matches xs sep 0 in search (rules, OccursAt-split, All-head, take-append-drop)

pub record SavedLine (line target command : List ℕ) : Type 0 where
  pub target_legal : is_target target ≡ true
  pub command_legal : is_command command ≡ true
  pub is : line ≡ saved_line target command

pub saved_command-is : (line t c : List ℕ) → saved_command line ≡ Some (t, c) → SavedLine line t c
unfolding saved_command
saved_command-is line t c e =
    let test = λ (p : List ℕ × List ℕ). is_target p.0 && is_command p.1 in
    let legal = and_then-steps (checked test) _ (t, c) e in
    let checks = if-some (test legal.value) legal.value (t, c) legal.next in
    let tests = and_parts (is_target t) (is_command c) (ap test (sym checks.1) ∙ checks.0) in
    let split = and_then-steps (split_once assignment) _ (t, c) (legal.first ∙ ap (λ p. Some p) checks.1) in
    let prefix = after-is saved_mark line split.value split.first in
    let back = split-is assignment split.value t c split.next in
    record { target_legal = tests.0; command_legal = tests.1; is = cc (append_assoc t assignment c) }

pub source_in-is : (t line s : List ℕ) → source_in t line ≡ Some s → (is_path s ≡ true) × (line ≡ source_line t s)
unfolding source_in
source_in-is t line s e = search (rules, after-is, append_assoc)

-- a value between a front and an end, which passes
between-is : (test : List ℕ → Bool) (prefix end line x : List ℕ) → option_and_then (checked test) (between prefix end line) ≡ Some x → (test x ≡ true)
    × (line ≡ prefix ++ (x ++ end))
between-is test prefix end line x e = search (rules, after-is, before-is)

-- a path is of a listed file, a name of a found one
file-path : (name path : Option (List ℕ)) (x : List ℕ) → either_dep name path ≡ Some (File x) → path ≡ Some x
file-path (Some y) path x e = absurd cc
file-path None (Some y) x e = cc
file-path None None x e = absurd cc

config-name : (name path : Option (List ℕ)) (x : List ℕ) → either_dep name path ≡ Some (Config x) → name ≡ Some x
config-name (Some y) path x e = cc
config-name None (Some y) x e = absurd cc
config-name None None x e = absurd cc

pub dep_in-is : (line : List ℕ) (d : Dep) → dep_in line ≡ Some d → (is_dep d ≡ true) × (line ≡ dep_line d)
unfolding dep_in name_in path_in
dep_in-is line (File p) e = between-is is_path file_mark file_end line p (file-path (name_in line) (path_in line) p e)
dep_in-is line (Config x) e = between-is is_name name_mark name_end line x (config-name (name_in line) (path_in line) x e)
