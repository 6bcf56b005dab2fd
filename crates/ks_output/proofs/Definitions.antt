-- The lines of the header that define a name.
use Rattle.ks_output.proofs.Prelude.{drop-append_seam, about, as_companion, ap, ap₂, texts_of, None, Some, is_of_module, modules_last, companion_of, is_companion, Class, Configuration, IsConfiguration, take-append_seam, order, first, second, ◌≡◌, ℕ, ◌⊎◌, Bool, true, false, cond, ◌&&◌, not, T, nat_eq, List, [], ◌∷◌, ◌++◌, length, length-append, drop, codes, bytes_eq, option_map, Option, refl, sym, ◌∙◌, append_assoc, arith, list_all, ends_with, filter, is_eq, nat_list_eq_equiv, bytes_decides, find, is_sorted, cond-true, cond-false, and_parts, or_cases, ⊎_elim, not-true, list_all-append, is_eq-slice_cmp, lines-nil, Kind, is_word_byte, is_name, is_symbol_name, module_end, without_module, class_of, escape, is_title, IsEntry, run_is, word_bytes, opened, header_heading, switch_value, defined_as, definition_lines, header_text, lf_lines, Defines, DefinesMacro, defines, defines_macro, run_of, front, definitions, kept, definition_of, DefinitionsAreLines, DefinitionsAreOfEntries, AlikeIsDefinedAlike, common_steps, rules, and_from, run_split, run_passes, cases_Bool}
use Rattle.std.specs.Prelude.{◌==◌, nat_lt}
use Rattle.std.proofs.lemmas.Bool.{eqb-true}
use Rattle.std.proofs.Common.{flat_map, map as map_list, inl, inr}
use Rattle.std.specs.FinMap as map
use Rattle.ks_symbols.specs.declared.kinds.Kind.TheVariants as kind
use Rattle.ks_symbols.specs.declared.kinds.Class.TheVariants as class
use Rattle.std.specs.List.{starts_with}
use Rattle.ks_output.specs.Written.{older_heading, heading_of}
use Rattle.ks_output.proofs.Companions.{less-module, ends_so, base_test, line_of, hits, InEitherOrder, one_in_front, in_one_order}
use Rattle.ks_output.proofs.Entries.{find_below, tied, AllEntries, all_entries}
use Rattle.ks_output.proofs.Texts.{texts_are_of_entries}
use Rattle.ks_output.proofs.WrittenLines.{is_plain, plain-append, plain_name, plain_title, plain_text, lines-plain, ends_with-plain}

pub next : (l rest : List ℕ) → is_plain l ≡ true → lf_lines (l ++ 10 ∷ rest) ≡ l ∷ lf_lines rest
unfolding lf_lines
next l rest h = search (rules, lines-plain, common_steps, length-append, cond-true, ends_with-plain, take-append_seam)

-- what stands after a name: a space first, or the end of a module's macro and a space
Shape : List ℕ → Type 0
Shape d = (rest : List ℕ) × ((d ≡ 32 ∷ rest) ⊎ (d ≡ module_end ++ 32 ∷ rest))

switch_shape : (text : List ℕ) → Shape (switch_value text)
unfolding Shape
switch_shape text = elim (bytes_eq text (codes "m")) as (λ b. Shape (cond b (module_end ++ codes " 1") (codes " 1"))) [
  | true ↦ (49 ∷ [], inr refl)
  | false ↦ (49 ∷ [], inl refl)
]

shape : (k : Kind) (text : List ℕ) → Shape (defined_as k text)
unfolding Shape
shape kind.Bool text = switch_shape text
shape kind.Tristate text = switch_shape text
shape k text = (_, inl refl)

-- it holds no end of a line
plain_choice : (b : Bool) (x y : List ℕ) → is_plain x ≡ true → is_plain y ≡ true → is_plain (cond b x y) ≡ true
plain_choice b x y p q = grind arith

pub plain_escaped : (text : List ℕ) → is_plain text ≡ true → is_plain (flat_map escape text) ≡ true
plain_escaped [] h = refl
plain_escaped (b ∷ text) h = search (rules, and_parts, plain-append, cases_Bool, (plain_escaped text))

plain_value : (k : Kind) (text : List ℕ) → is_plain text ≡ true → is_plain (defined_as k text) ≡ true
plain_value k text h = search (rules, plain-append, plain_choice, plain_escaped)

run_defines : (x run rest : List ℕ) → list_all is_word_byte run ≡ true → defines x (codes "#define CONFIG_" ++ (run ++ 32 ∷ rest)) ≡ bytes_eq (without_module run) x
run_defines x run rest h = search (rules, run_is, drop-append_seam)

pub flag_defines : (x run rest : List ℕ) → list_all is_word_byte run ≡ true → defines x (codes "#define ENABLE_" ++ (run ++ 32 ∷ rest)) ≡ bytes_eq run x
flag_defines x run rest h = grind (arith, common_steps, run_is, drop-append_seam)

-- a name that doesn't end as a module's does
abbrev is_plain_name : List ℕ → Bool
is_plain_name name = is_name name && not (ends_with nat_eq name module_end)

symbol_defines : (x name d : List ℕ) → is_plain_name name ≡ true → Shape d → defines x (codes "#define CONFIG_" ++ name ++ d) ≡ bytes_eq name x
unfolding Shape
symbol_defines x name d h (rest, inl is) = search (rules, run_defines, word_bytes, and_parts, not-true, cond-false)
symbol_defines x name d h (rest, inr is) =
    let word = and_from _ _ (word_bytes name (and_parts _ _ h).0) refl in
    let run = run_defines x (name ++ module_end) rest (list_all-append is_word_byte name module_end ∙ word) in
    search (rules, is, ← append_assoc, run, less-module)

-- the entries' lines
abbrev pub Defined : List ℕ → Kind × List ℕ → Type 0
Defined name s = (is_symbol_name s.0 name ≡ true) × (is_plain s.1 ≡ true)

pub line_defines : (x name : List ℕ) (k : Kind) (text : List ℕ) → is_symbol_name k name ≡ true → defines x (line_of name (k, text)) ≡ hits x name k
unfolding is_symbol_name
line_defines x name kind.Flag text h = search (rules, flag_defines, word_bytes, and_parts)
line_defines x name kind.Companion text h =
    let parts = and_parts _ _ h in run_defines x name (49 ∷ []) (word_bytes name parts.0) ∙ base_test name x (and_parts _ _ parts.1).1
line_defines x name k text h = symbol_defines x name _ h (shape k text)

-- Of a name's own lines that of a module alone has the macro of a module, and it is the line of a companion.
module_run : (run rest : List ℕ) → list_all is_word_byte run ≡ true → is_of_module (codes "#define CONFIG_" ++ (run ++ 32 ∷ rest)) ≡ ends_with nat_eq run module_end
module_run run rest h = search (rules, run_is, drop-append_seam)

pub companion_line : (x : List ℕ) (k : Kind) (text : List ℕ) → is_companion k ≡ true → line_of x (k, text) ≡ codes "#define CONFIG_" ++ x ++ codes " 1"
companion_line x kind.Companion text e = refl
companion_line x k text e = absurd (cc e)

free_run : (x rest : List ℕ) → is_plain_name x ≡ true → is_of_module (codes "#define CONFIG_" ++ (x ++ 32 ∷ rest)) ≡ false
free_run x rest h = let parts = and_parts _ _ h in module_run x rest (word_bytes x parts.0) ∙ not-true _ parts.1

switch_line : (b : Bool) (x : List ℕ) → is_plain_name x ≡ true → is_of_module (codes "#define CONFIG_" ++ x ++ cond b (module_end ++ codes " 1") (codes " 1")) ≡ true
    → codes "#define CONFIG_" ++ x ++ cond b (module_end ++ codes " 1") (codes " 1") ≡ codes "#define CONFIG_" ++ (x ++ module_end) ++ codes " 1"
switch_line true x h e = search (rules, append_assoc)
switch_line false x h e = absurd (cc (sym (free_run x (49 ∷ []) h) ∙ e))

own_line : (x : List ℕ) (k : Kind) (text : List ℕ) → is_symbol_name k x ≡ true → is_companion k ≡ false → is_of_module (line_of x (k, text)) ≡ true
    → line_of x (k, text) ≡ codes "#define CONFIG_" ++ (x ++ module_end) ++ codes " 1"
unfolding is_symbol_name
own_line x kind.Bool text h n e = switch_line (bytes_eq text (codes "m")) x h e
own_line x kind.Tristate text h n e = switch_line (bytes_eq text (codes "m")) x h e
own_line x kind.Flag text h n e = absurd (cc e)
own_line x kind.Companion text h n e = absurd (cc n)
own_line x k text h n e = absurd (cc (sym (free_run x _ h) ∙ e))

module_line : (x : List ℕ) (k : Kind) (text : List ℕ) → is_name x ≡ true → is_companion k ≡ true → is_of_module (line_of (x ++ module_end) (k, text)) ≡ true
module_line x k text h e =
    let word = list_all-append is_word_byte x module_end ∙ and_from _ _ (word_bytes x h) refl in
    ap is_of_module (companion_line (x ++ module_end) k text e) ∙ module_run (x ++ module_end) (49 ∷ []) word ∙ ends_so x

plain_front : (k : Kind) → is_plain (front k) ≡ true
plain_front k = grind arith

pub plain_line : (name : List ℕ) (s : Kind × List ℕ) → Defined name s → is_plain (line_of name s) ≡ true
unfolding is_symbol_name
plain_line name s h = search (rules, plain-append, plain_front, plain_name, and_parts, plain_value)

lines_of_entries : (es : List (List ℕ × (Kind × List ℕ))) → AllEntries Defined es → lf_lines (definition_lines es) ≡ map_list (λ e. line_of e.0 e.1) es
unfolding lf_lines
lines_of_entries [] h = search (rules, lines-nil)
lines_of_entries (e ∷ es) h = search (rules, append_assoc, next, plain_line, (lines_of_entries es h.1))

-- of lines of rising names at most one is about a name
pub same_test : (x y : List ℕ) → bytes_eq y x ≡ is_eq (order x y)
same_test x y = nat_list_eq_equiv.symm y x ∙ sym (is_eq-slice_cmp x y)

found : (es : List (List ℕ × (Kind × List ℕ))) (x : List ℕ) → T (is_sorted order es) → AllEntries Defined es
    → InEitherOrder x (find order x es) (find order (x ++ module_end) es) (filter (defines x) (map_list (λ e. line_of e.0 e.1) es))
found [] x s h = inl refl
found (e ∷ es) x s h =
    let again = found es x (second _ _ s) h.1 in
    let low = find_below e.0 es (first _ _ s) in
    let gone : (y : List ℕ) → is_eq (order y e.0) ≡ true → (e.0 ≡ y) × (find order y es ≡ None) =
    λ y is. let same = tied y e.0 is in (sym same, ap (λ z. find order z es) same ∙ low) in
    one_in_front x e.0 e.1 (find order x es) (find order (x ++ module_end) es) (filter (defines x) (map_list (λ u. line_of u.0 u.1) es)) (is_eq (order x e.0))
    (is_eq (order (x ++ module_end) e.0)) (defines x (line_of e.0 e.1)) (gone x) (gone (x ++ module_end))
    (line_defines x e.0 e.1.0 e.1.1 h.0.0 ∙ ap₂ (cond (is_companion e.1.0)) (same_test (x ++ module_end) e.0) (same_test x e.0)) again

-- the heading
heading_lines : (title rest : List ℕ) → header_heading title ++ rest ≡ codes "/*" ++ 10
    ∷ (codes " * Automatically generated file; DO NOT EDIT." ++ 10 ∷ ((codes " * " ++ title) ++ 10 ∷ (codes " */" ++ 10 ∷ rest)))
heading_lines title rest = search (rules, append_assoc)

heading_defines : (x title rest : List ℕ) → is_title title ≡ true → filter (defines x) (lf_lines (header_heading title ++ rest))
    ≡ filter (defines x) (lf_lines rest)
heading_defines x title rest h = search (rules, heading_lines, next, plain-append, plain_title)

-- .. and that of an older conf
older_lines : (title rest : List ℕ) → older_heading title ++ rest ≡ codes "/*" ++ 10 ∷ (codes " *" ++ 10
    ∷ (codes " * Automatically generated file; DO NOT EDIT." ++ 10 ∷ ((codes " * " ++ title) ++ 10 ∷ (codes " *" ++ 10 ∷ (codes " */" ++ 10 ∷ rest)))))
older_lines title rest = search (rules, append_assoc)

older_heading_defines : (x title rest : List ℕ) → is_title title ≡ true → filter (defines x) (lf_lines (older_heading title ++ rest))
    ≡ filter (defines x) (lf_lines rest)
older_heading_defines x title rest h = search (rules, older_lines, next, plain-append, plain_title)

pub heading_of_defines : (x title header rest : List ℕ) → is_title title ≡ true → filter (defines x) (lf_lines (heading_of title header ++ rest))
    ≡ filter (defines x) (lf_lines rest)
unfolding heading_of
heading_of_defines x title header rest h =
    (elim (starts_with nat_eq header (older_heading title)) as (λ b. filter (defines x) (lf_lines (cond b (older_heading title) (header_heading title) ++ rest))
    ≡ filter (defines x) (lf_lines rest)) [
      | true ↦ older_heading_defines x title rest h
      | false ↦ heading_defines x title rest h
    ])

defined : (x : List ℕ) (s : Kind × List ℕ) → IsEntry x s → Defined x s
defined x s h = search (rules, plain_text)

-- where the entries are those of a configuration, their order says nothing
pub in_order : (settings : Configuration) (x : List ℕ) (ls : List (List ℕ)) → IsConfiguration settings
    → InEitherOrder x (map.get settings x) (map.get settings (x ++ module_end)) ls
    → modules_last ls ≡ definition_of x (map.get settings x) ++ companion_of x (map.get settings (x ++ module_end))
unfolding is_symbol_name
in_order settings x ls h are =
    in_one_order x (map.get settings x) (map.get settings (x ++ module_end)) ls
    (λ s t own other is. module_line x t.0 t.1 (and_parts _ _ (h x s own).named).0 is)
    (λ s t own not_one is of. own_line x s.0 s.1 (h x s own).named not_one of ∙ sym (companion_line (x ++ module_end) t.0 t.1 is)) are

pub definitions_are_of_entries : DefinitionsAreOfEntries
unfolding definitions header_text
definitions_are_of_entries title settings t h x =
    let es = map.entries settings in
    let all = found es x (map.entries_sorted settings) (all_entries Defined settings (λ y s is. defined y s (h y s is))) in
    ap modules_last (heading_defines x title _ t ∙ ap (filter (defines x)) (lines_of_entries es (all_entries Defined settings (λ y s is. defined y s (h y s is)))))
    ∙ in_order settings x _ h (rw (map.get-entries settings x, map.get-entries settings (x ++ module_end)) all)

-- entries of one class and text are defined alike
same_line : (x : List ℕ) (j k : Kind) (text : List ℕ) → class_of j ≡ class_of k → is_companion j ≡ is_companion k → line_of x (j, text) ≡ line_of x (k, text)
same_line x j k text e f = grind arith

abbrev is_switch : Class → Bool
is_switch class.Switch = true
is_switch k = false

companion_by : (x : List ℕ) (k : Kind) → is_symbol_name k x ≡ true → is_companion k ≡ (is_switch (class_of k) && ends_with nat_eq x module_end)
unfolding is_symbol_name
companion_by x kind.Companion h = sym (and_parts _ _ (and_parts _ _ h).1).1
companion_by x kind.Bool h = sym (not-true _ (and_parts _ _ h).1)
companion_by x kind.Tristate h = sym (not-true _ (and_parts _ _ h).1)
companion_by x k h = refl

Named : List ℕ → Option (Kind × List ℕ) → Type 0
Named x o = (s : Kind × List ℕ) → o ≡ Some s → is_symbol_name s.0 x ≡ true

alike : (x y : List ℕ) (a b : Option (Kind × List ℕ)) → Named y a → Named y b → option_map kept a ≡ option_map kept b
    → (definition_of x a ≡ definition_of x b) × (companion_of x a ≡ companion_of x b)
unfolding Named
alike x y None None f g same = (refl, refl)
alike x y (Some s) None f g same = absurd (cc same)
alike x y None (Some t) f g same = absurd (cc same)
alike x y (Some s) (Some t) f g same =
    let kept_alike : kept s ≡ kept t = cc same in
    let classes : class_of s.0 ≡ class_of t.0 = cc (ap (λ p. p.0) kept_alike) in
    let texts : s.1 ≡ t.1 = ap (λ p. p.1) kept_alike in
    let of = companion_by y s.0 (f s refl) ∙ ap (λ k. is_switch k && ends_with nat_eq y module_end) classes ∙ sym (companion_by y t.0 (g t refl)) in
    let own = same_line x s.0 t.0 s.1 classes of ∙ ap (λ w. line_of x (t.0, w)) texts in
    let other = same_line (x ++ module_end) s.0 t.0 s.1 classes of ∙ ap (λ w. line_of (x ++ module_end) (t.0, w)) texts in
    (ap₂ (λ b l. cond b [] (l ∷ [])) of own, ap₂ (λ b l. cond b (l ∷ []) []) of other)

-- the empty name has no companion
companion_long : (k : Kind) (name : List ℕ) → is_symbol_name k name ≡ true → is_companion k ≡ true → nat_lt 7 (length name) ≡ true
unfolding is_symbol_name
companion_long kind.Companion name h e = (and_parts _ _ (and_parts _ _ h).1).0
companion_long k name h e = absurd (cc e)

no_companion : (x : List ℕ) (o : Option (Kind × List ℕ)) → Named (x ++ module_end) o → (length x == 0) ≡ true → companion_of x o ≡ []
unfolding Named
no_companion x None f e = refl
no_companion [] (Some s) f e = elim (cases_Bool (is_companion s.0)) [
  | inl one ↦ absurd (cc (companion_long s.0 module_end (f s refl) one))
  | inr other ↦ cond-false _ _ _ other
]
no_companion (b ∷ x) (Some s) f e = absurd (omega (arith, eqb-true _ _ e))

-- a flag is no companion
flag_alone : (s : Kind × List ℕ) → as_companion (Some (kept s)) ≡ None → is_companion s.0 ≡ false
flag_alone (kind.Companion, text) e = absurd (cc e)
flag_alone (k, text) e = refl

none_kept : (y : List ℕ) (o : Option (Kind × List ℕ)) → as_companion (option_map kept o) ≡ None → companion_of y o ≡ []
none_kept y None e = refl
none_kept y (Some s) e = cond-false _ _ _ (flag_alone s e)

seen_whole : (t : Option Class × List ℕ) → (as_companion (Some t) ≡ None) ⊎ (as_companion (Some t) ≡ Some t)
seen_whole (Some class.Flag, text) = inl refl
seen_whole t = inr refl

companion_alike : (x : List ℕ) (a b : Option (Kind × List ℕ)) → Named (x ++ module_end) a → Named (x ++ module_end) b
    → as_companion (option_map kept a) ≡ as_companion (option_map kept b) → companion_of x a ≡ companion_of x b
unfolding Named
companion_alike x None b f g same = sym (none_kept x b (sym same))
companion_alike x a None f g same = none_kept x a same
companion_alike x (Some s) (Some t) f g same = ⊎_elim
    (λ none. none_kept x (Some s) none ∙ sym (none_kept x (Some t) (sym same ∙ none)))
    (λ whole. ⊎_elim
    (λ none. none_kept x (Some s) (same ∙ none) ∙ sym (none_kept x (Some t) none))
    (λ other. (alike x (x ++ module_end) (Some s) (Some t) f g (sym whole ∙ same ∙ other)).1) (seen_whole (kept t)))
    (seen_whole (kept s))

companions : (x : List ℕ) (old new : Configuration) → IsConfiguration old → IsConfiguration new
    → ((length x == 0) ≡ false
    → as_companion (option_map kept (map.get old (x ++ module_end))) ≡ as_companion (option_map kept (map.get new (x ++ module_end))))
    → companion_of x (map.get old (x ++ module_end)) ≡ companion_of x (map.get new (x ++ module_end))
unfolding Named
companions x old new g h same =
    let y = x ++ module_end in
    elim (cases_Bool (length x == 0)) [
      | inl empty ↦ no_companion x _ (λ s is. (g y s is).named) empty ∙ sym (no_companion x _ (λ s is. (h y s is).named) empty)
      | inr long ↦ companion_alike x _ _ (λ s is. (g y s is).named) (λ s is. (h y s is).named) (same long)
    ]

pub alike_is_defined_alike : AlikeIsDefinedAlike
unfolding Named about
alike_is_defined_alike title later old new s t g h x same =
    let texts : (y : List ℕ) → map.get (texts_of old) y ≡ map.get (texts_of new) y → option_map kept (map.get old y) ≡ option_map kept (map.get new y) =
    λ y e. sym (texts_are_of_entries old y) ∙ e ∙ texts_are_of_entries new y in
    let own = (alike x x _ _ (λ s is. (g x s is).named) (λ s is. (h x s is).named) (texts x (ap (λ p. p.0) same))).0 in
    let y = x ++ module_end in
    let other =
    companions x old new g h (λ long.
    ap as_companion (sym (texts_are_of_entries old y)) ∙ sym (cond-false _ _ _ long) ∙ ap (λ p. p.1) same ∙ cond-false _ _ _ long ∙ ap as_companion (texts_are_of_entries new y)) in
    definitions_are_of_entries title old s g x ∙ ap₂ (λ a b. a ++ b) own other ∙ sym (definitions_are_of_entries later new t h x)

-- what stands after such a beginning
macro_found : (front line : List ℕ) → length front ≡ 15 → defines_macro front line ≡ true → DefinesMacro front (run_of line) line
macro_found front line fifteen e = record {
  value = drop 1 (drop (length (run_of line)) (drop 15 line));
  word = run_passes is_word_byte (drop 15 line);
  spelled = search (rules, and_parts, opened, run_split, append_assoc);
}

-- a line that the test takes is spelled as a definition
found_line : (name line : List ℕ) → defines name line ≡ true → Defines name line
found_line name line e =
    ⊎_elim
    (λ flag.
    let parts = and_parts _ _ flag in
    inr (rw ((bytes_decides (run_of line) name).0 parts.1) at (macro_found (codes "#define ENABLE_") line refl parts.0)))
    (λ symbol. let parts = and_parts _ _ symbol in inl (run_of line, macro_found (codes "#define CONFIG_") line refl parts.0, (bytes_decides _ name).0 parts.1))
    (or_cases _ _ e)

spelled_line : (name line : List ℕ) → Defines name line → defines name line ≡ true
spelled_line name line (inl (run, w, named)) = search (rules, append_assoc, run_defines, bytes_decides)
spelled_line name line (inr w) = search (rules, append_assoc, flag_defines, bytes_decides)

pub definitions_are_lines : DefinitionsAreLines
definitions_are_lines name line = (found_line name line, spelled_line name line)
