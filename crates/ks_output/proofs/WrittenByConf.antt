-- Each pair that conf can write is accepted, and gives each name its text and its class.
use Rattle.ks_output.proofs.Prelude.{inl, inr, ◌≡◌, ◌≤◌, ◌⊎◌, ◌+◌, ℕ, Bool, true, false, cond, not, nat_eq, List, [], ◌∷◌, ◌++◌, codes, length, length-append, drop, Some, None, option_map, Ok, refl, sym, ap, ◌∙◌, append_assoc, arith, common_steps, rules, list_all, bytes_eq, bytes_decides, starts_with, ends_with, cond-true, cond-false, cases_Bool, not-true, and_parts, and_from, is_eq, is_eq-slice_cmp, nat_list_eq_equiv, order, take-append_seam, drop-append_seam, IsEntry, Configuration, Kind, Class, class_of, escape, is_name, is_symbol_name, is_string_byte, false≢true, nat_cmp-IsAntisymmetric, slice_cmp-IsAntisymmetric, is_hexadecimal, nat_tests, ◌<◌, is_text, is_title, lines_of, lines-nil, Assigns, statement, statements_are_spelled, nat_list_cmp_total, run_is, entry_line, definition_lines, defined_as, kept}
use Rattle.std.specs.Prelude.{find, is_some, ◌||◌, ◌==◌, nat_lt, take_while, if◌then◌else◌}
use Rattle.std.proofs.lemmas.Bool.{eqb-true}
use Rattle.std.proofs.Common.{flat_map, map as map_list}
use Rattle.std.specs.List.{AllByRecursion, IsDistinct}
use Rattle.std.specs.FinMap as map
use Rattle.ks_symbols.specs.Refusals.{or_else}
use Rattle.ks_symbols.proofs.LastOnes.{or_none}
use Rattle.ks_symbols.specs.declared.kinds.Kind.TheVariants as kind
use Rattle.ks_symbols.specs.declared.kinds.Class.TheVariants as class
use Rattle.ks_symbols.specs.Kinds.{is_off, is_integer, is_raw}
use Rattle.ks_symbols.specs.Lines.{max_bytes, is_no_line_feed}
use Rattle.ks_symbols.specs.Values.{quoted, is_escaped}
use Rattle.ks_output.specs.Header.{header_heading, has_radix, switch_value, definition_line}
use Rattle.ks_output.specs.Written.{conf_heading, older_heading, heading_of, title_in, bodies, given_by, explains, explained, kinds, with_kind, with_entry, with_pairs, pairs_of, read_bodies, written}
use Rattle.ks_output.specs.WrittenLaws.{Entries, conf_auto, conf_header, is_of_conf, ConfIsAccepted, QuotedIsRaw}
use Rattle.ks_output.proofs.Entries.{tied}
use Rattle.ks_output.proofs.Companions.{line_of}
use Rattle.ks_output.proofs.Definitions.{plain_escaped, plain_line}
use Rattle.ks_output.proofs.LastLine.{begins}
use Rattle.ks_output.proofs.SeenLemmas.{entered}
use Rattle.ks_output.proofs.Texts.{texts_are_of_entries}
use Rattle.ks_output.proofs.WrittenConfigured.{found_passes}
use Rattle.ks_output.proofs.WrittenLines.{is_plain, plain-append, plain_name, plain_title, plain_text, lines-plain, ends_with-plain}
use Rattle.ks_output.proofs.WrittenPairs.{goes_on, ended, headed}

-- the entries of conf, one by one
abbrev IsOfConf : List ℕ × (Kind × List ℕ) → Type 0
IsOfConf e = (is_of_conf e.1.0 ≡ true) × IsEntry e.0 e.1

abbrev auto_line : List ℕ × (Kind × List ℕ) → List ℕ
auto_line e = entry_line e.0 e.1.1

abbrev header_line : List ℕ × (Kind × List ℕ) → List ℕ
header_line e = definition_line e.0 e.1.0 e.1.1

named_by : (k : Kind) (name : List ℕ) → is_symbol_name k name ≡ true → is_name name ≡ true
unfolding is_symbol_name
named_by k name e = (and_parts _ _ e).0

-- their lines
auto_lines : (es : Entries) → AllByRecursion IsOfConf es → lines_of (flat_map auto_line es) ≡ map_list auto_line es
auto_lines [] h = search (rules, lines-nil)
auto_lines (e ∷ es) h =
    let name = e.0 in
    let text = e.1.1 in
    let line = codes "CONFIG_" ++ name ++ codes "=" ++ text in
    let plain : is_plain line ≡ true = search (rules, plain-append, (plain_name name (named_by e.1.0 name h.0.1.named)), (plain_text e.1.0 text h.0.1.typed)) in
    ap lines_of (append_assoc line (10 ∷ []) (flat_map auto_line es)) ∙ lines-plain line (flat_map auto_line es) plain ∙ ap (λ ls. auto_line e ∷ ls) (auto_lines es h.1)

header_lines : (es : Entries) → AllByRecursion IsOfConf es → lines_of (definition_lines es) ≡ map_list header_line es
header_lines [] h = search (rules, lines-nil)
header_lines (e ∷ es) h =
    let line = line_of e.0 e.1 in
    let plain : is_plain line ≡ true = plain_line e.0 e.1 (h.0.1.named, plain_text e.1.0 e.1.1 h.0.1.typed) in
    let split : definition_line e.0 e.1.0 e.1.1 ++ definition_lines es ≡ line ++ 10 ∷ definition_lines es = search (rules, append_assoc) in
    ap lines_of split ∙ lines-plain line (definition_lines es) plain
    ∙ (let one : line ++ 10 ∷ [] ≡ header_line e = search rules in ap (λ l. l ∷ lines_of (definition_lines es)) one)
    ∙ ap (λ ls. header_line e ∷ ls) (header_lines es h.1)

-- what a line of auto.conf gives
given_line : (l name text : List ℕ) → statement l ≡ Some (Assigns name text) → given_by (l ++ 10 ∷ []) ≡ Some (name, text)
unfolding given_by
given_line l name text e = search (rules, common_steps, cond-true, length-append, ends_with-plain, take-append_seam, e)

given : (name text : List ℕ) → is_name name ≡ true → given_by (entry_line name text) ≡ Some (name, text)
given name text h =
    let line = codes "CONFIG_" ++ name ++ codes "=" ++ text in
    given_line line name text ((statements_are_spelled line (Assigns name text)).1 (h, refl))

-- a kind that passes a test is found, or one before it
Among : Kind → List Kind → Type 0
Among k [] = ⊥
Among k (j ∷ ks) = (k ≡ j) ⊎ Among k ks

found_among : (p : Kind → Bool) (k : Kind) (ks : List Kind) → Among k ks → p k ≡ true → (j : Kind) × (find p ks ≡ Some j)
unfolding Among
found_among p k [] h e = absurd h
found_among p k (j ∷ ks) h e = elim (cases_Bool (p j)) [
  | inl this ↦ (j, cond-true _ _ _ this)
  | inr other ↦ elim h [
    | inl same ↦ (k, absurd (cc (sym e ∙ ap p same ∙ other)))
    | inr later ↦ let found = found_among p k ks later e in (found.0, cond-false _ _ _ other ∙ found.1)
  ]
]

conf_kind : (k : Kind) → is_of_conf k ≡ true → Among k kinds
unfolding Among
conf_kind kind.Bool e = inl refl
conf_kind kind.Tristate e = inr (inl refl)
conf_kind kind.Int e = inr (inr (inl refl))
conf_kind kind.Hex e = inr (inr (inr (inl refl)))
conf_kind kind.Text e = inr (inr (inr (inr (inl refl))))
conf_kind kind.Raw e = inr (inr (inr (inr (inr (inl refl)))))
conf_kind kind.Companion e = inr (inr (inr (inr (inr (inr (inl refl))))))
conf_kind kind.EmptyInt e = inr (inr (inr (inr (inr (inr (inr (inl refl)))))))
conf_kind kind.EmptyHex e = inr (inr (inr (inr (inr (inr (inr (inr (inl refl))))))))
conf_kind kind.Flag e = absurd (cc e)

-- the class of an entry, by its text and by what defines it
told : List ℕ → List ℕ → Class
told text defined =
    if starts_with nat_eq defined (codes " \"") then (if bytes_eq defined (codes " " ++ text ++ codes "\n") then class.Raw else class.Text)
    else if bytes_eq text (codes "y") || bytes_eq text (codes "m") then class.Switch
    else if starts_with nat_eq defined (codes " 0x") || starts_with nat_eq defined (codes " 0X") then class.Hex else class.Int

ne_bytes : (a b : List ℕ) → (a ≡ b → ⊥) → bytes_eq a b ≡ false
ne_bytes a b h = elim (cases_Bool (bytes_eq a b)) [ inl same ↦ absurd (h ((bytes_decides a b).0 same)) | inr other ↦ other ]

switch_told : (text : List ℕ) → ((text ≡ codes "y") ⊎ (text ≡ codes "m")) → told text (switch_value text ++ codes "\n") ≡ class.Switch
unfolding told
switch_told text (inl e) = rw e refl
switch_told text (inr e) = rw e refl

int_told : (text : List ℕ) → is_integer text ≡ true → told text (codes " " ++ text ++ codes "\n") ≡ class.Int
unfolding told
int_told [] e = absurd (cc e)
int_told (b ∷ []) e = grind (arith, common_steps, nat_tests)
int_told (b ∷ c ∷ rest) e = grind (arith, common_steps, nat_tests)

hex_told : (text : List ℕ) → is_hexadecimal text ≡ true → told text (codes " " ++ (cond (has_radix text) [] (codes "0x")) ++ text ++ codes "\n") ≡ class.Hex
unfolding told
hex_told [] e = absurd (cc e)
hex_told (b ∷ []) e = grind (arith, common_steps, nat_tests)
hex_told (b ∷ c ∷ rest) e = grind (arith, common_steps, nat_tests)

quoted_longer : (text : List ℕ) → length text < length (flat_map escape text ++ 34 ∷ [])
quoted_longer [] = omega arith
quoted_longer (b ∷ text) =
    let shorter = quoted_longer text in
    elim (cases_Bool (is_escaped b)) [ inl two ↦ grind (arith, two, shorter) | inr one ↦ grind (arith, one, shorter) ]

text_told : (text : List ℕ) → told text (codes " " ++ quoted text ++ codes "\n") ≡ class.Text
unfolding told
text_told text =
    let longer = quoted_longer text in
    let one = length-append (quoted text) (10 ∷ []) in
    let two = length-append text (10 ∷ []) in
    cond-false _ _ _ (ne_bytes (quoted text ++ 10 ∷ []) (text ++ 10 ∷ []) (λ same. let lengths = ap length same in omega (arith, lengths, longer, one, two)))

raw_told : (text : List ℕ) → is_raw text ≡ true → told text (codes " " ++ text ++ codes "\n") ≡ class.Raw
unfolding told
raw_told [] e = absurd (cc e)
raw_told (b ∷ rest) e =
    let same = (bytes_decides (b ∷ rest ++ codes "\n") (b ∷ rest ++ codes "\n")).1 refl in
    grind (arith, same, nat_tests)

companion_told : (text : List ℕ) → text ≡ codes "y" → told text (codes " 1\n") ≡ class.Switch
unfolding told
companion_told text e = rw e refl

empty_told : (text : List ℕ) → (length text == 0) ≡ true
    → (told text (codes " " ++ text ++ codes "\n") ≡ class.Int) × (told text (codes " " ++ (cond (has_radix text) [] (codes "0x")) ++ text ++ codes "\n") ≡ class.Hex)
unfolding told
empty_told [] e = (refl, refl)
empty_told (b ∷ text) e = absurd (omega (arith, eqb-true _ _ e))

is_yes : (text : List ℕ) → (bytes_eq text (codes "y") || bytes_eq text (codes "n")) ≡ true → bytes_eq text (codes "n") ≡ false → text ≡ codes "y"
is_yes text e f = (bytes_decides text (codes "y")).0 (grind (arith, e, f))

is_yes_or_module : (text : List ℕ) → (bytes_eq text (codes "y") || bytes_eq text (codes "m") || bytes_eq text (codes "n")) ≡ true → bytes_eq text (codes "n") ≡ false
    → (text ≡ codes "y") ⊎ (text ≡ codes "m")
is_yes_or_module text e f = elim (cases_Bool (bytes_eq text (codes "y"))) [
  | inl on ↦ inl ((bytes_decides text (codes "y")).0 on)
  | inr other ↦ inr ((bytes_decides text (codes "m")).0 (grind (arith, e, f, other)))
]

kind_told : (k : Kind) (text : List ℕ) → is_of_conf k ≡ true → is_text k text ≡ true → is_off k text ≡ false → told text (defined_as k text ++ codes "\n") ≡ class_of k
unfolding is_text
kind_told kind.Bool text h e f = switch_told text (inl (is_yes text e f))
kind_told kind.Tristate text h e f = switch_told text (is_yes_or_module text e f)
kind_told kind.Int text h e f = int_told text e
kind_told kind.Hex text h e f = hex_told text e
kind_told kind.Text text h e f = text_told text
kind_told kind.Raw text h e f = raw_told text e
kind_told kind.Companion text h e f = companion_told text ((bytes_decides text (codes "y")).0 e)
kind_told kind.EmptyInt text h e f = (empty_told text e).0
kind_told kind.EmptyHex text h e f = (empty_told text e).1
kind_told kind.Flag text h e f = absurd (cc h)

-- .. which the line has behind the name
line_told : (name : List ℕ) (k : Kind) (text : List ℕ) → is_of_conf k ≡ true → drop (length name) (drop 15 (definition_line name k text)) ≡ defined_as k text ++ codes "\n"
line_told name kind.Flag text h = absurd (cc h)
line_told name k text h = ap (drop (length name)) (append_assoc name (defined_as k text) (10 ∷ [])) ∙ drop-append_seam name (defined_as k text ++ 10 ∷ [])

of_conf_too : (name : List ℕ) (k j : Kind) (text : List ℕ) → is_of_conf k ≡ true → definition_line name k text ≡ definition_line name j text → is_of_conf j ≡ true
of_conf_too name kind.Flag j text h same = absurd (cc h)
of_conf_too name k kind.Flag text h same = absurd (false≢true (ap (λ l. starts_with nat_eq l (codes "#define E")) same))
of_conf_too name k j text h same = refl

-- two kinds that have one text and one line are of one class
record IsOn (k : Kind) (text : List ℕ) : Type 0 where
  typed : is_text k text ≡ true
  on : is_off k text ≡ false

one_class : (name : List ℕ) (k j : Kind) (text : List ℕ) → is_of_conf k ≡ true → IsOn k text → IsOn j text → definition_line name k text ≡ definition_line name j text
    → class_of j ≡ class_of k
one_class name k j text h p q same =
    let too = of_conf_too name k j text h same in
    let both : defined_as k text ++ codes "\n" ≡ defined_as j text ++ codes "\n"
    = sym (line_told name k text h) ∙ ap (λ l. drop (length name) (drop 15 l)) same ∙ line_told name j text too in
    sym (kind_told j text too q.typed q.on) ∙ ap (told text) (sym both) ∙ kind_told k text h p.typed p.on

-- what a kind explains, and that it explains what is written of it
explains_on : (name value line : List ℕ) (k : Kind) → explains name value line k ≡ true → IsOn k value × (line ≡ definition_line name k value)
unfolding explains
explains_on name value line k e =
    let outer = and_parts _ _ e in
    let inner = and_parts _ _ outer.0 in
    (record { typed = (and_parts _ _ inner.0).1; on = not-true _ inner.1 }, (bytes_decides line (definition_line name k value)).0 outer.1)

explains_own : (name : List ℕ) (s : Kind × List ℕ) → IsEntry name s → explains name s.1 (definition_line name s.0 s.1) s.0 ≡ true
unfolding explains is_symbol_name
explains_own name s entry =
    let line = definition_line name s.0 s.1 in
    let fit = (and_parts _ _ entry.named).1 in and_from _ _ (and_from _ _ (and_from _ _ fit entry.typed) (ap not entry.on)) ((bytes_decides line line).1 refl)

-- the kind that an entry gets
record Kinded (name : List ℕ) (s : Kind × List ℕ) : Type 0 where
  kind_found : Kind
  found : explained name s.1 (definition_line name s.0 s.1) ≡ Some kind_found
  alike : class_of kind_found ≡ class_of s.0

kinded : (name : List ℕ) (s : Kind × List ℕ) → is_of_conf s.0 ≡ true → IsEntry name s → Kinded name s
unfolding explained
kinded name s h entry =
    let test = explains name s.1 (definition_line name s.0 s.1) in
    let found = found_among test s.0 kinds (conf_kind s.0 h) (explains_own name s entry) in
    let passes = explains_on name s.1 (definition_line name s.0 s.1) found.0 (found_passes test kinds found.0 found.1) in record {
      kind_found = found.0;
      found = found.1;
      alike = one_class name s.0 found.0 s.1 h (record { typed = entry.typed; on = entry.on }) passes.0 passes.1;
    }

-- names that are still to come
New : Configuration → Entries → Type 0
New m es = AllByRecursion (λ e. map.contains_key m e.0 ≡ false) es

abbrev names : Entries → List (List ℕ)
names es = map_list (λ e. e.0) es

still_new : (m : Configuration) (a : List ℕ) (s : Kind × List ℕ) (es : Entries) → AllByRecursion (λ y. bytes_eq a y ≡ false) (names es) → New m es → New (map.insert m a s) es
unfolding New
still_new m a s [] apart new = tt
still_new m a s (e ∷ es) apart new =
    let other : is_eq (order e.0 a) ≡ false = is_eq-slice_cmp e.0 a ∙ nat_list_eq_equiv.symm e.0 a ∙ apart.0 in
    (entered m a s e.0 ∙ ap (λ b. b || map.contains_key m e.0) other ∙ new.0, still_new m a s es apart.1 new.1)

none_among : (a : List ℕ) (es : Entries) → AllByRecursion (λ y. bytes_eq a y ≡ false) (names es) → map.find order a es ≡ None
none_among a [] apart = refl
none_among a (e ∷ es) apart = cond-false _ _ _ (is_eq-slice_cmp a e.0 ∙ apart.0) ∙ none_among a es apart.1

-- what pairs of lines come to
record Come (n : ℕ) (m : Configuration) (es : Entries) : Type 0 where
  to : Configuration
  is : with_pairs n m (map_list auto_line es) (map_list header_line es) ≡ Ok to
  has : (x : List ℕ) → option_map kept (map.get to x) ≡ option_map kept (or_else (map.find order x es) (map.get m x))

one_taken : (n : ℕ) (m : Configuration) (e : List ℕ × (Kind × List ℕ)) (k : Kind) → IsOfConf e → map.contains_key m e.0 ≡ false → explained e.0 e.1.1 (header_line e) ≡ Some k
    → with_entry n m (header_line e) (given_by (auto_line e)) ≡ Ok (map.insert m e.0 (k, e.1.1))
unfolding with_entry
one_taken n m e k h new found =
    ap (with_entry n m (header_line e)) (given e.0 e.1.1 (named_by e.1.0 e.0 h.1.named))
    ∙ cond-false _ _ _ new ∙ ap (with_kind n m e.0 e.1.1) found

has_one : (x : List ℕ) (m : Configuration) (e : List ℕ × (Kind × List ℕ)) (k : Kind) (es : Entries) → AllByRecursion (λ y. bytes_eq e.0 y ≡ false) (names es) → class_of k ≡ class_of e.1.0
    → option_map kept (or_else (map.find order x es) (map.get (map.insert m e.0 (k, e.1.1)) x)) ≡ option_map kept (or_else (map.find order x (e ∷ es)) (map.get m x))
has_one x m e k es apart alike =
    let got = map.get-insert nat_list_cmp_total m e.0 (k, e.1.1) x in
    elim (cases_Bool (is_eq (order x e.0))) [
      | inl same ↦
          let none = ap (λ y. map.find order y es) (tied x e.0 same) ∙ none_among e.0 es apart in
          grind (arith, got, none, same, alike)
      | inr other ↦ grind (arith, got, other)
    ]

come : (n : ℕ) (m : Configuration) (es : Entries) → AllByRecursion IsOfConf es → IsDistinct bytes_eq (names es) → New m es → Come n m es
unfolding IsDistinct New
come n m [] h once new = record { to = m; is = ended n m; has = λ x. refl }
come n m (e ∷ es) h once new =
    let k = kinded e.0 e.1 h.0.0 h.0.1 in
    let m' = map.insert m e.0 (k.kind_found, e.1.1) in
    let rest = come (n + 1) m' es h.1 once.1 (still_new m e.0 (k.kind_found, e.1.1) es once.0 new.1) in record {
      to = rest.to;
      is = goes_on n m m' (auto_line e) (header_line e) (map_list auto_line es) (map_list header_line es) (one_taken n m e k.kind_found h.0 new.0 k.found) ∙ rest.is;
      has = λ x. rest.has x ∙ has_one x m e k.kind_found es once.0 k.alike;
    }

-- the headings
no_end : (b : ℕ) → is_string_byte b ≡ true → is_no_line_feed b ≡ true
no_end b e = grind (arith, e, nat_tests)

no_line_feed : (l : List ℕ) → is_plain l ≡ true → list_all is_no_line_feed l ≡ true
no_line_feed [] e = refl
no_line_feed (b ∷ l) e =
    let parts = and_parts _ _ e in and_from _ _ (no_end b parts.0) (no_line_feed l parts.1)

title_is : (title rest : List ℕ) → is_title title ≡ true → title_in (conf_heading title ++ rest) ≡ title
title_is title rest t =
    ap (λ l. take_while is_no_line_feed l) (append_assoc title (codes "\n#\n") rest) ∙ run_is is_no_line_feed title 10 (codes "#\n" ++ rest) (no_line_feed title (plain_title title t)) refl

pick_heading : Bool → List ℕ → List ℕ
pick_heading older title = if older then older_heading title else header_heading title

heading_is : (older : Bool) (title rest : List ℕ) → heading_of title (pick_heading older title ++ rest) ≡ pick_heading older title
unfolding heading_of pick_heading
heading_is true title rest = cond-true _ _ _ (begins (older_heading title) rest)
heading_is false title rest = refl

small : (a b : List ℕ) → length a ≤ max_bytes → length b ≤ max_bytes → (nat_lt max_bytes (length a) || nat_lt max_bytes (length b)) ≡ false
small a b p q = grind (arith, nat_tests, p, q)

accepted : (older : Bool) (title : List ℕ) (es : Entries) (to : Configuration) → is_title title ≡ true → AllByRecursion IsOfConf es
    → with_pairs 5 map.empty (map_list auto_line es) (map_list header_line es) ≡ Ok to
    → read_bodies (bodies (conf_auto title es) (conf_header older title es)) ≡ Ok to
unfolding pairs_of pick_heading
accepted older title es to t h come =
    let autos = flat_map auto_line es in
    let definitions = definition_lines es in
    let heading = pick_heading older title in
    let is = heading_is older title definitions in
    let found = headed (conf_auto title es) (conf_header older title es) title (sym (title_is title autos t)) t (begins (conf_heading title) autos)
    (ap (starts_with nat_eq (heading ++ definitions)) is ∙ begins heading definitions) in
    let rest_auto = drop-append_seam (conf_heading title) autos in
    let rest_header = ap (λ g. drop (length g) (heading ++ definitions)) is ∙ drop-append_seam heading definitions in
    ap read_bodies found ∙ ap (λ a. pairs_of a (drop (length (heading_of title (heading ++ definitions))) (heading ++ definitions))) rest_auto
    ∙ ap (pairs_of autos) rest_header
    ∙ ap (λ ls. with_pairs 5 map.empty ls (lines_of definitions)) (auto_lines es h)
    ∙ ap (with_pairs 5 map.empty (map_list auto_line es)) (header_lines es h) ∙ come

all_new : (es : Entries) → New map.empty es
unfolding New
all_new [] = tt
all_new (e ∷ es) = (ap is_some (map.get-empty order e.0), all_new es)

pub conf_is_accepted : ConfIsAccepted
unfolding written
conf_is_accepted older title es t of_conf small_auto small_header =
    let all = come 5 map.empty es of_conf.entries of_conf.once (all_new es) in
    let same : (x : List ℕ) → option_map kept (map.get all.to x) ≡ option_map kept (map.get (map.from_entries es) x)
    = λ x. all.has x ∙ ap (λ o. option_map kept (or_else (map.find order x es) o)) (map.get-empty order x) ∙ ap (option_map kept) (or_none (map.find order x es) ∙ sym (map.get-from_entries nat_list_cmp_total es x)) in (
      all.to,
      cond-false _ _ _ (small (conf_auto title es) (conf_header older title es) small_auto small_header) ∙ accepted older title es all.to t of_conf.entries all.is,
      title_is title (flat_map auto_line es) t,
      map.same_map nat_list_cmp_total (slice_cmp-IsAntisymmetric nat_cmp-IsAntisymmetric) _ _ (λ x. texts_are_of_entries all.to x ∙ same x ∙ sym (texts_are_of_entries (map.from_entries es) x)),
    )

ends_with-byte : (b : ℕ) (l : List ℕ) → ends_with nat_eq (l ++ b ∷ []) (b ∷ []) ≡ true
ends_with-byte b l = grind (arith, common_steps, length-append, drop-append_seam, nat_tests)

pub quoted_is_raw : QuotedIsRaw
unfolding is_text
quoted_is_raw name text h =
    let longer = quoted_longer text in
    let long : nat_lt 1 (length (quoted text)) ≡ true = grind (arith, nat_tests, longer) in
    let plain = plain-append (34 ∷ flat_map escape text) (34 ∷ []) (plain_escaped text h) refl in
    (and_from _ _ (and_from _ _ (and_from _ _ long refl) (ends_with-byte 34 (34 ∷ flat_map escape text))) plain, refl)
