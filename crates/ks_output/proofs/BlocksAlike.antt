-- What an accepted pair of BusyBox's means: a configuration, whose header has of each name what counts in the header that was read.
use Rattle.ks_output.proofs.Prelude.{◌≡◌, ◌⊎◌, ◌∷◌, ◌++◌, ◌&&◌, ◌∙◌, ◌+◌, ℕ, Bool, true, false, List, [], codes, nat_eq, cond-true, cond-false, cases_Bool, inl, inr, Ok, refl, sym, ap, subst, append_assoc, arith, rules, common_steps, bytes_eq, bytes_decides, length, take, drop, and_parts, is_eq, is_eq-slice_cmp, order, nat_list_cmp_total, Configuration, Kind, Option, Some, None, IsConfiguration, module_end, definition_of, companion_of, is_companion, lines_of, is_title, starts_with, opened, list_all, and_from, run_passes, byte_at_end, length-append}
use Rattle.std.specs.Prelude.{Err, Result, ◌||◌, ◌==◌, is_some, nat_lt, take_while, Contains, ◌-◌, slice_index, if◌then◌else◌}
use Rattle.ks_symbols.specs.Lines.{is_no_line_feed, max_bytes}
use Rattle.bstr.proofs.lemmas.LineLemmas.{EndsLine, lines-append}
use Rattle.std.proofs.lemmas.List.Elements.{Contains-append_right}
use Rattle.std.specs.FinMap as map
use Rattle.std.proofs.Common.{append-nil, take-append-drop}
use Rattle.ks_output.specs.SeenNames.{is_in}
use Rattle.ks_output.specs.declared.written.WrittenError.{WrittenError}
use Rattle.ks_output.specs.Blocks.{Walk, after_time, block_heading, block_title, blocks_of, blocks_written, config_body, config_front, first_walk, go_on, has_time, header_body, header_front, is_between, is_time_byte, with_line, with_lines}
use Rattle.ks_output.specs.BlocksLaws.{BlocksAreConfiguration, BlocksDefineAlike, EntriesAreLines, is_flag}
use Rattle.ks_output.proofs.Definitions.{definitions_are_of_entries, in_order, same_test}
use Rattle.ks_output.proofs.Entries.{tied}
use Rattle.ks_output.proofs.SeenLemmas.{behind, entered}
use Rattle.ks_output.proofs.WrittenConfigured.{entries_kept, some_same}
use Rattle.ks_output.proofs.WrittenLines.{is_plain, plain-append, plain_title}
use Rattle.ks_output.proofs.BlockTexts.{shown, shown_nothing, silent_line, off_shown, on_shown, one, counted_last, not_companion}
use Rattle.ks_output.proofs.BlockTaken.{Step, silent, off, on, On, ok_is, step_of}

-- one line further on
record OneOn (n : ℕ) (w : Walk) (l : List ℕ) (ls : List (List ℕ)) (end : Configuration) : Type 0 where
  later : Walk
  step : Step w l later
  rest : with_lines (n + 1) later ls ≡ Ok end

chained : (n : ℕ) (w : Walk) (l : List ℕ) (ls : List (List ℕ)) (end : Configuration) (r : Result Walk WrittenError) → with_line n w l w.place ≡ r
    → go_on r (λ after. with_lines (n + 1) after ls) ≡ Ok end → OneOn n w l ls end
chained n w l ls end (Err x) said e = absurd (cc e)
chained n w l ls end (Ok later) said e = record { later = later; step = step_of n w l w.place later said; rest = e }

one_on : (n : ℕ) (w : Walk) (l : List ℕ) (ls : List (List ℕ)) (end : Configuration) → with_lines n w (l ∷ ls) ≡ Ok end → OneOn n w l ls end
unfolding with_lines
one_on n w l ls end e = chained n w l ls end (with_line n w l w.place) refl e

-- at the end nothing is left
record Ended (w : Walk) (end : Configuration) : Type 0 where
  left : w.left ≡ []
  is : w.settings ≡ end

empty_is : (xs : List ℕ) → (length xs == 0) ≡ true → xs ≡ []
empty_is [] e = refl
empty_is (x ∷ xs) e = grind arith

ended_is : (n : ℕ) (w : Walk) (end : Configuration) → with_lines n w [] ≡ Ok end → Ended w end
unfolding with_lines
ended_is n w end e = elim (cases_Bool (is_between w.place && length w.left == 0)) [
  | inl both ↦ record { left = empty_is w.left (and_parts _ _ both).1; is = ok_is w.settings end (with_lines n w []) (cond-true _ _ _ both) e }
  | inr other ↦ absurd (cc (sym (cond-false _ _ _ other) ∙ e))
]

-- It means a configuration.
configured : (n : ℕ) (w : Walk) (ls : List (List ℕ)) (end : Configuration) → IsConfiguration w.settings → with_lines n w ls ≡ Ok end → IsConfiguration end
configured n w [] end h e = subst (λ c. IsConfiguration c) (ended_is n w end e).is h
configured n w (l ∷ ls) end h e =
    let o = one_on n w l ls end e in
    elim o.step [
      | silent t ↦ configured (n + 1) o.later ls end (subst (λ c. IsConfiguration c) (sym t.settings) h) o.rest
      | off t ↦ configured (n + 1) o.later ls end (subst (λ c. IsConfiguration c) (sym t.settings) h) o.rest
      | on t ↦ configured (n + 1) o.later ls end (subst (λ c. IsConfiguration c) (sym t.settings) (entries_kept w.settings t.name (t.kind, t.value) h t.entry)) o.rest
    ]

-- The names of the entries came.
NamesCame : Walk → Type 0
NamesCame w = (x : List ℕ) → map.contains_key w.settings x ≡ true → is_in x w.names ≡ true

in_behind : (x y : List ℕ) (xs : List (List ℕ)) → is_in x (xs ++ y ∷ []) ≡ (bytes_eq x y || is_in x xs)
unfolding is_in
in_behind x y xs = behind x y xs

or_true : (b : Bool) → (b || true) ≡ true
or_true true = refl
or_true false = refl

or_false : (b : Bool) → (b || false) ≡ b
or_false true = refl
or_false false = refl

still_in : (x y : List ℕ) (xs : List (List ℕ)) → is_in x xs ≡ true → is_in x (xs ++ y ∷ []) ≡ true
still_in x y xs h = in_behind x y xs ∙ ap (λ b. bytes_eq x y || b) h ∙ or_true (bytes_eq x y)

last_in : (y : List ℕ) (xs : List (List ℕ)) → is_in y (xs ++ y ∷ []) ≡ true
last_in y xs = in_behind y y xs ∙ ap (λ b. b || is_in y xs) ((bytes_decides y y).1 refl)

abbrev contained : Configuration → List ℕ → Bool
contained c x = map.contains_key c x

either_name : (x name : List ℕ) (w : Walk) (b : Bool) → map.contains_key w.settings x ≡ b → ((x : List ℕ) → map.contains_key w.settings x ≡ true → is_in x w.names ≡ true)
    → (bytes_eq x name || b) ≡ true → (bytes_eq x name || is_in x w.names) ≡ true
either_name x name w true is h e = ap (λ b. bytes_eq x name || b) (h x is) ∙ or_true (bytes_eq x name)
either_name x name w false is h e = ap (λ b. b || is_in x w.names) (sym (or_false (bytes_eq x name)) ∙ e)

names_kept : (w later : Walk) → later.names ≡ w.names → later.settings ≡ w.settings → NamesCame w → NamesCame later
unfolding NamesCame
names_kept w later names settings h x has = ap (is_in x) names ∙ h x (ap (λ c. contained c x) (sym settings) ∙ has)

names_noted : (w later : Walk) (name : List ℕ) → later.names ≡ w.names ++ name ∷ [] → later.settings ≡ w.settings → NamesCame w → NamesCame later
unfolding NamesCame
names_noted w later name names settings h x has = ap (is_in x) names ∙ still_in x name w.names (h x (ap (λ c. contained c x) (sym settings) ∙ has))

names_entered : (w later : Walk) (name : List ℕ) (s : Kind × List ℕ) → later.names ≡ w.names ++ name ∷ [] → later.settings ≡ map.insert w.settings name s → NamesCame w
    → NamesCame later
unfolding NamesCame
names_entered w later name s names settings h x has =
    ap (is_in x) names ∙ in_behind x name w.names ∙ either_name x name w (map.contains_key w.settings x) refl h
    (sym (ap (λ b. b || map.contains_key w.settings x) (is_eq-slice_cmp x name)) ∙ sym (entered w.settings name s x) ∙ ap (λ c. contained c x) (sym settings) ∙ has)

abbrev got : Configuration → List ℕ → Option (Kind × List ℕ)
got c x = map.get c x

-- A name that came keeps what it has.
get_other : (x name : List ℕ) (m : Configuration) (s : Kind × List ℕ) → is_eq (order x name) ≡ false → map.get (map.insert m name s) x ≡ map.get m x
get_other x name m s other = map.get-insert nat_list_cmp_total m name s x ∙ cond-false _ _ _ other

get_same : (name : List ℕ) (m : Configuration) (s : Kind × List ℕ) → map.get (map.insert m name s) name ≡ Some s
get_same name m s = map.get-insert nat_list_cmp_total m name s name ∙ cond-true _ _ _ (sym (same_test name name) ∙ (bytes_decides name name).1 refl)

apart : (x name : List ℕ) (xs : List (List ℕ)) → is_in x xs ≡ true → is_in name xs ≡ false → is_eq (order x name) ≡ false
apart x name xs has lacks = elim (cases_Bool (is_eq (order x name))) [
  | inl same ↦ absurd (cc (sym (ap (λ y. is_in y xs) (tied x name same)) ∙ has, lacks))
  | inr other ↦ other
]

kept : (x : List ℕ) (n : ℕ) (w : Walk) (ls : List (List ℕ)) (end : Configuration) → is_in x w.names ≡ true → with_lines n w ls ≡ Ok end → map.get end x ≡ map.get w.settings x
kept x n w [] end h e = ap (λ c. got c x) (sym (ended_is n w end e).is)
kept x n w (l ∷ ls) end h e =
    let o = one_on n w l ls end e in
    elim o.step [
      | silent t ↦ kept x (n + 1) o.later ls end (ap (is_in x) t.names ∙ h) o.rest ∙ ap (λ c. got c x) t.settings
      | off t ↦ kept x (n + 1) o.later ls end (ap (is_in x) t.names ∙ still_in x t.name w.names h) o.rest ∙ ap (λ c. got c x) t.settings
      | on t ↦ kept x (n + 1) o.later ls end (ap (is_in x) t.names ∙ still_in x t.name w.names h) o.rest ∙ ap (λ c. got c x) t.settings
          ∙ get_other x t.name w.settings (t.kind, t.value) (apart x t.name w.names h t.new)
    ]

none_got : {X : Type 0} (o : Option X) → is_some o ≡ false → o ≡ None
none_got None e = refl
none_got (Some x) e = absurd (cc e)

not_there : (w : Walk) (name : List ℕ) → NamesCame w → is_in name w.names ≡ false → map.get w.settings name ≡ None
unfolding NamesCame
not_there w name h lacks = elim (cases_Bool (map.contains_key w.settings name)) [
  | inl has ↦ absurd (cc (h name has, lacks))
  | inr other ↦ none_got (map.get w.settings name) other
]

-- one more entry under a new name
one_more : (x name : List ℕ) (m : Configuration) (s : Kind × List ℕ) → map.get m name ≡ None → is_companion s.0 ≡ false
    → definition_of x (map.get (map.insert m name s) x) ≡ definition_of x (map.get m x) ++ one x name s
one_more x name m s none own =
    let test = same_test x name in
    elim (cases_Bool (is_eq (order x name))) [
      | inl same ↦
          let is = tied x name same in
          let got = map.get-insert nat_list_cmp_total m name s x ∙ cond-true _ _ _ same in
          grind (arith, got, test, same, none, is, own)
      | inr other ↦ let got = get_other x name m s other in grind (arith, got, test, other)
    ]

-- What of a header counts is what is written of the entries.
alike : (x : List ℕ) (n : ℕ) (w : Walk) (ls : List (List ℕ)) (end : Configuration) → NamesCame w → with_lines n w ls ≡ Ok end
    → definition_of x (map.get end x) ≡ definition_of x (map.get w.settings x) ++ shown end x w.left
alike x n w [] end h e =
    let t = ended_is n w end e in
    ap (λ c. definition_of x (got c x)) (sym t.is) ∙ sym (append-nil (definition_of x (map.get w.settings x)))
    ∙ ap (λ more. definition_of x (map.get w.settings x) ++ more) (sym (ap (shown end x) t.left ∙ shown_nothing end x))
alike x n w (l ∷ ls) end h e =
    let o = one_on n w l ls end e in
    elim o.step [
      | silent t ↦
          alike x (n + 1) o.later ls end (names_kept w o.later t.names t.settings h) o.rest ∙ ap (λ c. definition_of x (got c x) ++ shown end x o.later.left) t.settings
          ∙ ap (λ more. definition_of x (map.get w.settings x) ++ more) (sym (ap (shown end x) t.is ∙ t.nothing end x o.later.left))
      | off t ↦
          let none = kept t.name (n + 1) o.later ls end (ap (is_in t.name) t.names ∙ last_in t.name w.names) o.rest ∙ ap (λ c. got c t.name) t.settings ∙ not_there w t.name h t.new in
          alike x (n + 1) o.later ls end (names_noted w o.later t.name t.names t.settings h) o.rest ∙ ap (λ c. definition_of x (got c x) ++ shown end x o.later.left) t.settings
          ∙ ap (λ more. definition_of x (map.get w.settings x) ++ more) (sym (ap (shown end x) t.is ∙ off_shown end x t.name o.later.left t.named (ap is_flag none)))
      | on t ↦
          let entry : Kind × List ℕ = (t.kind, t.value) in
          let holds = kept t.name (n + 1) o.later ls end (ap (is_in t.name) t.names ∙ last_in t.name w.names) o.rest ∙ ap (λ c. got c t.name) t.settings ∙ get_same t.name w.settings entry in
          let block = ap (shown end x) t.is ∙ on_shown end x t.name t.kind t.value o.later.left t.has t.entry.named t.entry.typed (ap is_flag holds) in
          alike x (n + 1) o.later ls end (names_entered w o.later t.name entry t.names t.settings h) o.rest
          ∙ ap (λ c. definition_of x (got c x) ++ shown end x o.later.left) t.settings
          ∙ ap (λ front. front ++ shown end x o.later.left) (one_more x t.name w.settings entry (not_there w t.name h t.new) (not_companion t.kind t.has))
          ∙ append_assoc (definition_of x (map.get w.settings x)) (one x t.name entry) (shown end x o.later.left)
          ∙ ap (λ more. definition_of x (map.get w.settings x) ++ more) (sym block)
    ]

-- No entry is a companion.
NoCompanions : Configuration → Type 0
NoCompanions c = (x y : List ℕ) → companion_of x (got c y) ≡ []

alone_still : (m : Configuration) (name : List ℕ) (s : Kind × List ℕ) → NoCompanions m → is_companion s.0 ≡ false → NoCompanions (map.insert m name s)
unfolding NoCompanions
alone_still m name s h own x y = elim (cases_Bool (is_eq (order y name))) [
  | inl same ↦ ap (companion_of x) (map.get-insert nat_list_cmp_total m name s y ∙ cond-true _ _ _ same) ∙ cond-false _ _ _ own
  | inr other ↦ ap (companion_of x) (get_other y name m s other) ∙ h x y
]

alone : (n : ℕ) (w : Walk) (ls : List (List ℕ)) (end : Configuration) → NoCompanions w.settings → with_lines n w ls ≡ Ok end → NoCompanions end
alone n w [] end h e = subst (λ c. NoCompanions c) (ended_is n w end e).is h
alone n w (l ∷ ls) end h e =
    let o = one_on n w l ls end e in
    elim o.step [
      | silent t ↦ alone (n + 1) o.later ls end (subst (λ c. NoCompanions c) (sym t.settings) h) o.rest
      | off t ↦ alone (n + 1) o.later ls end (subst (λ c. NoCompanions c) (sym t.settings) h) o.rest
      | on t ↦ alone (n + 1) o.later ls end (subst (λ c. NoCompanions c) (sym t.settings) (alone_still w.settings t.name (t.kind, t.value) h (not_companion t.kind t.has))) o.rest
    ]

-- The heading of the header defines nothing.
time_plain : (time : List ℕ) → list_all is_time_byte time ≡ true → is_plain time ≡ true
time_plain [] h = refl
time_plain (b ∷ time) h = let parts = and_parts _ _ h in and_from _ _ (and_parts _ _ parts.0).0 (time_plain time parts.1)

heading_lines : (title time rest : List ℕ) → (header_front title ++ time ++ codes "\"\n\n") ++ rest ≡ codes "/*" ++ 10
    ∷ (codes " * Automatically generated C config: don't edit" ++ 10 ∷ ((codes " * " ++ title) ++ 10 ∷ (codes " */" ++ 10
    ∷ ((codes "#define AUTOCONF_TIMESTAMP \"" ++ (time ++ codes "\"")) ++ 10 ∷ ([] ++ 10 ∷ rest)))))
heading_lines title time rest = search (rules, append_assoc)

heading_shown : (s : Configuration) (x title time rest : List ℕ) → is_title title ≡ true → is_plain time ≡ true
    → shown s x ((header_front title ++ time ++ codes "\"\n\n") ++ rest) ≡ shown s x rest
heading_shown s x title time rest titled plain =
    ap (shown s x) (heading_lines title time rest)
    ∙ silent_line s x (codes "/*") _ refl refl
    ∙ silent_line s x (codes " * Automatically generated C config: don't edit") _ refl refl
    ∙ silent_line s x (codes " * " ++ title) _ (plain-append (codes " * ") title refl (plain_title title titled)) refl
    ∙ silent_line s x (codes " */") _ refl refl
    ∙ silent_line s x (codes "#define AUTOCONF_TIMESTAMP \"" ++ (time ++ codes "\"")) (10 ∷ rest)
    (plain-append (codes "#define AUTOCONF_TIMESTAMP \"") (time ++ codes "\"") refl (plain-append time (codes "\"") plain refl)) refl
    ∙ silent_line s x [] rest refl refl

-- what an accepted pair is
record Accepted (config header : List ℕ) (settings : Configuration) : Type 0 where
  number : ℕ
  body : List ℕ
  left : List ℕ
  in_config : config_body config ≡ Some (number, body)
  in_header : header_body (block_title config) header ≡ Some left
  lines : with_lines number (first_walk left) (lines_of body) ≡ Ok settings

accepted_blocks : (config header : List ℕ) (s : Configuration) (b : Option (ℕ × List ℕ)) (found : Option (List ℕ)) → config_body config ≡ b
    → header_body (block_title config) header ≡ found → blocks_of b found ≡ Ok s → Accepted config header s
accepted_blocks config header s None found is_b is_f e = absurd (cc e)
accepted_blocks config header s (Some b) None is_b is_f e = absurd (cc e)
accepted_blocks config header s (Some b) (Some left) is_b is_f e = record { number = b.0; body = b.1; left = left; in_config = is_b; in_header = is_f; lines = e }

accepted : (config header : List ℕ) (s : Configuration) → blocks_written config header ≡ Ok s → Accepted config header s
unfolding blocks_written
accepted config header s e = elim (cases_Bool (nat_lt max_bytes (length config) || nat_lt max_bytes (length header))) [
  | inl large ↦ absurd (cc (sym (cond-true _ _ _ large) ∙ e))
  | inr small ↦ accepted_blocks config header s (config_body config) (header_body (block_title config) header) refl refl (sym (cond-false _ _ _ small) ∙ e)
]

titled_config : (config : List ℕ) (b : ℕ × List ℕ) → config_body config ≡ Some b → is_title (block_title config) ≡ true
unfolding config_body
titled_config config b e =
    let rest = drop (length (block_title config) + 55) config in
    elim (cases_Bool (is_title (block_title config) && starts_with nat_eq config config_front && starts_with nat_eq (after_time rest) (codes "#\n"))) [
      | inl all ↦ (and_parts _ _ (and_parts _ _ all).0).0
      | inr other ↦ absurd (cc (sym (cond-false _ _ _ other) ∙ e))
    ]

header_is : (title header left : List ℕ) → header_body title header ≡ Some left → header ≡ block_heading title header ++ left
unfolding header_body
header_is title header left e = elim (cases_Bool (starts_with nat_eq header (block_heading title header))) [
  | inl front ↦ opened header (block_heading title header) front
      ∙ ap (λ l. block_heading title header ++ l) (some_same (drop (length (block_heading title header)) header) left (sym (cond-true _ _ _ front) ∙ e))
  | inr other ↦ absurd (cc (sym (cond-false _ _ _ other) ∙ e))
]

none_configured : IsConfiguration map.empty
none_configured x s e = absurd (cc (sym (map.get-empty order x) ∙ e))

none_alone : NoCompanions map.empty
unfolding NoCompanions
none_alone x y = ap (companion_of x) (map.get-empty order y)

none_came : (left : List ℕ) → NamesCame (first_walk left)
unfolding NamesCame
none_came left x e = absurd (cc (sym (ap is_some (map.get-empty order x)) ∙ e))

pub blocks_are_configuration : BlocksAreConfiguration
blocks_are_configuration config header s e =
    let a = accepted config header s e in
    (titled_config config (a.number, a.body) a.in_config, configured a.number (first_walk a.left) (lines_of a.body) s none_configured a.lines)

pub blocks_define_alike : BlocksDefineAlike
unfolding NoCompanions
blocks_define_alike config header s e x =
    let a = accepted config header s e in
    let good = blocks_are_configuration config header s e in
    let time = take_while is_time_byte (drop (length (header_front (block_title config))) header) in
    let defined = alike x a.number (first_walk a.left) (lines_of a.body) s (none_came a.left) a.lines in
    let nothing = ap (λ o. definition_of x o ++ shown s x a.left) (map.get-empty order x) in
    let none = alone a.number (first_walk a.left) (lines_of a.body) s none_alone a.lines x (x ++ module_end) in
    let counted : shown s x header ≡ definition_of x (map.get s x) =
    ap (shown s x) (header_is (block_title config) header a.left a.in_header)
    ∙ heading_shown s x (block_title config) time a.left good.0 (time_plain time (run_passes is_time_byte (drop (length (header_front (block_title config))) header)))
    ∙ sym (defined ∙ nothing) in
    let all = counted ∙ sym (append-nil (definition_of x (map.get s x))) ∙ ap (λ more. definition_of x (map.get s x) ++ more) (sym none) in
    definitions_are_of_entries (block_title config) s good.0 good.1 x ∙ sym (in_order s x (shown s x header) good.1 (inl all)) ∙ sym (counted_last s x header)

-- Each entry is a line.
abbrev line_for : List ℕ → List ℕ → List ℕ
line_for x value = codes "CONFIG_" ++ x ++ codes "=" ++ value ++ codes "\n"

later_line : (l : List ℕ) (ls : List (List ℕ)) (x : List ℕ) → Contains ls x → Contains (l ∷ ls) x
later_line l ls x is = Contains-append_right (l ∷ []) ls x is

first_of : (l x : List ℕ) (ls : List (List ℕ)) → l ≡ x → Contains (l ∷ ls) x
first_of l x ls is = (0, grind arith, is)

entered_line : (x : List ℕ) (s : Kind × List ℕ) (w : Walk) (l : List ℕ) (ls : List (List ℕ)) (later : Walk) → On w l later → map.get later.settings x ≡ Some s
    → (map.get w.settings x ≡ Some s) ⊎ Contains (l ∷ ls) (line_for x s.1)
entered_line x s w l ls later t came =
    let entry : Kind × List ℕ = (t.kind, t.value) in
    let inserted = ap (λ c. got c x) (sym t.settings) ∙ came in
    elim (cases_Bool (is_eq (order x t.name))) [
      | inl same ↦
          let is = some_same entry s (sym (map.get-insert nat_list_cmp_total w.settings t.name entry x ∙ cond-true _ _ _ same) ∙ inserted) in
          inr (first_of l (line_for x s.1) ls (t.line ∙ ap (λ y. line_for y t.value) (sym (tied x t.name same)) ∙ ap (λ q. line_for x q.1) is))
      | inr other ↦ inl (sym (get_other x t.name w.settings entry other) ∙ inserted)
    ]

came_or_line : (x : List ℕ) (s : Kind × List ℕ) (n : ℕ) (w : Walk) (ls : List (List ℕ)) (end : Configuration) → with_lines n w ls ≡ Ok end → map.get end x ≡ Some s
    → (map.get w.settings x ≡ Some s) ⊎ Contains ls (line_for x s.1)
came_or_line x s n w [] end e has = inl (ap (λ c. got c x) (ended_is n w end e).is ∙ has)
came_or_line x s n w (l ∷ ls) end e has =
    let o = one_on n w l ls end e in
    elim (came_or_line x s (n + 1) o.later ls end o.rest has) [
      | inr line ↦ inr (later_line l ls (line_for x s.1) line)
      | inl came ↦ elim o.step [
        | silent t ↦ inl (ap (λ c. got c x) (sym t.settings) ∙ came)
        | off t ↦ inl (ap (λ c. got c x) (sym t.settings) ∙ came)
        | on t ↦ entered_line x s w l ls o.later t came
      ]
    ]

-- The lines behind the heading are lines of the whole.
ends_at : (l : List ℕ) → slice_index (l ++ 10 ∷ []) (length (l ++ 10 ∷ []) - 1) ≡ 10
ends_at l = grind (arith, common_steps, byte_at_end, length-append)

ends_line : (l : List ℕ) → EndsLine (l ++ 10 ∷ [])
ends_line l = inr (ends_at l)

cut_at : (n : ℕ) (text : List ℕ) → text ≡ take n text ++ drop n text
cut_at n text = sym (take-append-drop n text)

record Headed (config body : List ℕ) : Type 0 where
  front : List ℕ
  is : config ≡ (front ++ 10 ∷ []) ++ body

time_cut : (rest : List ℕ) → (front : List ℕ) × (rest ≡ front ++ after_time rest)
time_cut rest = elim (cases_Bool (has_time rest)) [
  | inl timed ↦ (
    take (length (take_while is_no_line_feed rest) + 1) rest,
    cut_at (length (take_while is_no_line_feed rest) + 1) rest
        ∙ ap (λ l. take (length (take_while is_no_line_feed rest) + 1) rest ++ l) (sym (cond-true _ _ _ timed)),
  )
  | inr untimed ↦ ([], sym (cond-false _ _ _ untimed))
]

headed : (config : List ℕ) (b : ℕ × List ℕ) → config_body config ≡ Some b → Headed config b.1
unfolding config_body
headed config b e =
    let n = length (block_title config) + 55 in
    let rest = drop n config in
    let time = time_cut rest in
    elim (cases_Bool (is_title (block_title config) && starts_with nat_eq config config_front && starts_with nat_eq (after_time rest) (codes "#\n"))) [
      | inl all ↦
          let body = ap (λ q. q.1) (some_same (if has_time rest then 6 else 5, drop 2 (after_time rest)) b (sym (cond-true _ _ _ all) ∙ e)) in
          record {
            front = take n config ++ (time.0 ++ codes "#");
            is = cut_at n config ∙ ap (λ l. take n config ++ l) (time.1 ∙ ap (λ l. time.0 ++ l) (opened (after_time rest) (codes "#\n") (and_parts _ _ all).1))
                ∙ ap (λ l. take n config ++ (time.0 ++ (codes "#\n" ++ l))) body ∙ search (rules, append_assoc);
          }
      | inr other ↦ absurd (cc (sym (cond-false _ _ _ other) ∙ e))
    ]

body_lines : (config body line : List ℕ) → Headed config body → Contains (lines_of body) line → Contains (lines_of config) line
body_lines config body line h is =
    subst (λ text. Contains (lines_of text) line) (sym h.is)
    (subst (λ ls. Contains ls line) (sym (lines-append (length (h.front ++ 10 ∷ [])) (h.front ++ 10 ∷ []) body (omega arith) (ends_line h.front)))
    (Contains-append_right (lines_of (h.front ++ 10 ∷ [])) (lines_of body) line is))

pub entries_are_lines : EntriesAreLines
entries_are_lines config header s e x k value has =
    let a = accepted config header s e in
    let entry : Kind × List ℕ = (k, value) in
    elim (came_or_line x entry a.number (first_walk a.left) (lines_of a.body) s a.lines has) [
      | inl none ↦ absurd (cc (sym (map.get-empty order x) ∙ none))
      | inr line ↦ body_lines config a.body (line_for x value) (headed config (a.number, a.body) a.in_config) line
    ]
