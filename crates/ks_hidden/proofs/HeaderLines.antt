-- The lines of a header that a configuration explains.
use Rattle.ks_output.proofs.Prelude.{◌≡◌, ◌⊎◌, ◌+◌, ℕ, Bool, true, false, cond, List, [], ◌∷◌, ◌++◌, codes, bytes_eq, bytes_decides, Option, Some, None, option_map, refl, ap, ◌∙◌, inl, inr, append_assoc, arith, common_steps, rules, list_all, list_all-append, cond-true, or_cases, and_parts, and_from, not-true, lines-nil, without_terminator, lines, run_is, word_bytes, drop-append_seam, take-append_seam, byte_at_end, lt-ltb, eq-eqb, is_word_byte, is_name, is_text, is_title, module_end, without_module, Class, Kind, Configuration, IsConfiguration, IsEntry, class_of, run_of, front, defined_as, switch_value, header_heading, definition_lines, header_text, Texts, HasNames, kept, texts_of}
use Rattle.std.specs.Prelude.{◌==◌}
use Rattle.std.specs.List.{AllByRecursion}
use Rattle.std.specs.FinMap as map
use Rattle.std.proofs.lemmas.List.{append_cancel_right}
use Rattle.ks_symbols.specs.declared.dialect.Dialect.{Dialect}
use Rattle.ks_symbols.specs.declared.kinds.Kind.TheVariants as kind
use Rattle.ks_symbols.specs.declared.kinds.Class.TheVariants as class
use Rattle.ks_symbols.specs.Titles.{ends_comment, is_title_byte}
use Rattle.ks_output.specs.Written.{older_heading}
use Rattle.ks_output.specs.WrittenLaws.{Entries}
use Rattle.ks_output.proofs.Companions.{less-module, ends_so, line_of}
use Rattle.ks_output.proofs.Definitions.{plain_line}
use Rattle.ks_output.proofs.Entries.{AllEntries, all_entries}
use Rattle.ks_output.proofs.Texts.{texts_are_of_entries, name_of_symbol}
use Rattle.ks_output.proofs.WrittenLines.{is_plain, plain-append, plain_title, plain_text, lines-plain}
use Rattle.ks_hidden.specs.HeaderLines.{has_backslash, kind_for, definition, is_definition, defines_entry, is_of_entry, comment_after, is_explained, foreign_from, foreign_line}
use Rattle.ks_hidden.specs.HeaderLinesLaws.{IsDefinitionIn, EntriesExplainDefinitions, ClassesAreDefinedAlike, WrittenIsExplained, ConfIsExplained}

-- an explained line is a definition
found_of : (texts : Texts) (line name : List ℕ) (o : Option (Option Class × List ℕ)) → map.get texts name ≡ o → is_definition line name o ≡ true → IsDefinitionIn texts line
found_of texts line name (Some (Some k, text)) e is =
    let same = (bytes_decides line (definition name (kind_for k) text)).0 is in
    record { name = name; of = k; text = text; entry = e; spelled = ap (λ (l : List ℕ). l ++ codes "\n") same }
found_of texts line name (Some (None, text)) e is = absurd (cc is)
found_of texts line name None e is = absurd (cc is)

found_entry : (texts : Texts) (line name : List ℕ) → defines_entry texts line name ≡ true → IsDefinitionIn texts line
unfolding defines_entry
found_entry texts line name is = found_of texts line name (map.get texts name) refl is

found : (texts : Texts) (line : List ℕ) → is_of_entry texts line ≡ true → IsDefinitionIn texts line
unfolding is_of_entry
found texts line is = elim (or_cases _ _ is) [
  | inl own ↦ found_entry texts line (run_of line) own
  | inr other ↦ found_entry texts line (without_module (run_of line)) (and_parts _ _ other).1
]

-- what stands after a name: a space first, or the end of a module's macro and a space
Shape : List ℕ → Type 0
Shape d = (rest : List ℕ) × ((d ≡ 32 ∷ rest) ⊎ (d ≡ module_end ++ 32 ∷ rest))

switch_shape : (text : List ℕ) → Shape (switch_value text)
unfolding Shape
switch_shape text = elim (bytes_eq text (codes "m")) as (λ b. Shape (cond b (module_end ++ codes " 1") (codes " 1"))) [
  | true ↦ (49 ∷ [], inr refl)
  | false ↦ (49 ∷ [], inl refl)
]

shape : (k : Class) (text : List ℕ) → Shape (defined_as (kind_for k) text)
unfolding Shape
shape class.Switch text = switch_shape text
shape k text = (_, inl refl)

-- a definition is explained
run_found : (k : Class) (run rest : List ℕ) → list_all is_word_byte run ≡ true → run_of (front (kind_for k) ++ (run ++ 32 ∷ rest)) ≡ run
run_found k run rest h = search (rules, run_is, drop-append_seam)

own : (texts : Texts) (line name : List ℕ) → run_of line ≡ name → defines_entry texts line name ≡ true → is_of_entry texts line ≡ true
unfolding is_of_entry
own texts line name e is = grind arith

by_module : (texts : Texts) (line name : List ℕ) → run_of line ≡ name ++ module_end → defines_entry texts line name ≡ true → is_of_entry texts line ≡ true
unfolding is_of_entry
by_module texts line name e is = grind (arith, ends_so name, less-module name)

defined : (texts : Texts) (name : List ℕ) (k : Class) (text : List ℕ) → map.get texts name ≡ Some (Some k, text) → defines_entry texts (definition name (kind_for k) text) name ≡ true
unfolding defines_entry
defined texts name k text e = rw e ((bytes_decides (definition name (kind_for k) text) _).1 refl)

explained_by : (texts : Texts) (name : List ℕ) (k : Class) (text : List ℕ) → is_name name ≡ true → map.get texts name ≡ Some (Some k, text)
    → Shape (defined_as (kind_for k) text) → is_of_entry texts (definition name (kind_for k) text) ≡ true
unfolding Shape
explained_by texts name k text h e (rest, inl is) =
    own texts (definition name (kind_for k) text) name (search (rules, is, append_assoc, run_found, word_bytes)) (defined texts name k text e)
explained_by texts name k text h e (rest, inr is) =
    let word : list_all is_word_byte (name ++ module_end) ≡ true = list_all-append is_word_byte name module_end ∙ and_from _ _ (word_bytes name h) refl in
    by_module texts (definition name (kind_for k) text) name (search (rules, is, ← append_assoc, (run_found k (name ++ module_end) rest word))) (defined texts name k text e)

explains : (texts : Texts) (line : List ℕ) → HasNames texts → IsDefinitionIn texts line → is_of_entry texts line ≡ true
explains texts line names d =
    let same : line ≡ definition d.name (kind_for d.of) d.text = append_cancel_right line (definition d.name (kind_for d.of) d.text) (codes "\n") d.spelled in
    ap (is_of_entry texts) same ∙ explained_by texts d.name d.of d.text (names d.name (Some d.of, d.text) d.entry) d.entry (shape d.of d.text)

pub entries_explain : EntriesExplainDefinitions
entries_explain texts line names = (found texts line, explains texts line names)

pub classes_alike : ClassesAreDefinedAlike
unfolding is_text
classes_alike kind.Companion name text h = rw ((bytes_decides text (codes "y")).0 h) refl
classes_alike k name text h = refl

-- a line, and what follows it
stripped : (l : List ℕ) → is_plain l ≡ true → without_terminator (l ++ 10 ∷ []) ≡ l
stripped l h = grind (arith, common_steps, lt-ltb, byte_at_end, cond-true, eq-eqb, take-append_seam)

pub next : (l rest : List ℕ) → is_plain l ≡ true → lines (l ++ 10 ∷ rest) ≡ l ∷ lines rest
unfolding lines
next l rest h = search (rules, lines-plain, stripped)

goes_on : (d : Dialect) (texts : Texts) (in_comment : Bool) (n : ℕ) (l rest : List ℕ) → is_plain l ≡ true → is_explained d texts in_comment l ≡ true
    → foreign_from d texts in_comment n (lines (l ++ 10 ∷ rest)) ≡ foreign_from d texts (comment_after in_comment l) (n + 1) (lines rest)
unfolding foreign_from
goes_on d texts in_comment n l rest h e = search (rules, next, cond-true)

-- the lines of entries
abbrev Given : Texts → List ℕ × (Kind × List ℕ) → Type 0
Given texts e = IsEntry e.0 e.1 × (map.get texts e.0 ≡ Some (kept e.1))

opens_none : (name : List ℕ) (k : Kind) (text : List ℕ) → bytes_eq (line_of name (k, text)) (codes "/*") ≡ false
opens_none name kind.Flag text = refl
opens_none name k text = refl

entry_explained : (d : Dialect) (texts : Texts) (name : List ℕ) (k : Kind) (text : List ℕ) → IsEntry name (k, text) → map.get texts name ≡ Some (kept (k, text))
    → is_explained d texts false (line_of name (k, text)) ≡ true
entry_explained d texts name k text h e =
    let same : line_of name (k, text) ≡ definition name (kind_for (class_of k)) text = append_cancel_right _ _ (codes "\n") (classes_alike k name text h.typed) in
    let of_entry : is_of_entry texts (line_of name (k, text)) ≡ true =
    ap (is_of_entry texts) same ∙ explained_by texts name (class_of k) text (name_of_symbol k name h.named) e (shape (class_of k) text) in
    grind arith

none_left : (d : Dialect) (texts : Texts) (n : ℕ) → foreign_from d texts false n (lines []) ≡ None
unfolding foreign_from lines
none_left d texts n = search (rules, lines-nil)

entries_explained : (d : Dialect) (texts : Texts) (n : ℕ) (es : Entries) → AllByRecursion (Given texts) es → foreign_from d texts false n (lines (definition_lines es)) ≡ None
entries_explained d texts n [] h = none_left d texts n
entries_explained d texts n (e ∷ es) h =
    let split : definition_lines (e ∷ es) ≡ line_of e.0 e.1 ++ 10 ∷ definition_lines es = search (rules, append_assoc) in
    let plain : is_plain (line_of e.0 e.1) ≡ true = plain_line e.0 e.1 (h.0.0.named, plain_text e.1.0 e.1.1 h.0.0.typed) in
    ap (λ (t : List ℕ). foreign_from d texts false n (lines t)) split
    ∙ goes_on d texts false n (line_of e.0 e.1) (definition_lines es) plain (entry_explained d texts e.0 e.1.0 e.1.1 h.0.0 h.0.1)
    ∙ ap (λ (b : Bool). foreign_from d texts b (n + 1) (lines (definition_lines es))) (opens_none e.0 e.1.0 e.1.1)
    ∙ entries_explained d texts (n + 1) es h.1

-- the headings
unslashed : (b : ℕ) → is_title_byte b ≡ true → (b == 92) ≡ false
unslashed b h = not-true _ (and_parts _ _ h).1

no_backslash : (title : List ℕ) → list_all is_title_byte title ≡ true → has_backslash title ≡ false
no_backslash [] h = refl
no_backslash (b ∷ title) h =
    let parts = and_parts (is_title_byte b) (list_all is_title_byte title) h in
    let here = unslashed b parts.0 in
    let later = no_backslash title parts.1 in
    search (rules, here, later)

plain_comment : (title : List ℕ) → is_title title ≡ true → has_backslash (codes " * " ++ title) ≡ false
unfolding is_title
plain_comment title h = no_backslash title (and_parts _ _ (and_parts _ _ h).0).1

titled : (title : List ℕ) → is_title title ≡ true → ends_comment (codes " * " ++ title) ≡ false
unfolding is_title
titled title h = not-true _ (and_parts _ _ h).1

pub heading_lines : (title rest : List ℕ) → header_heading title ++ rest ≡ codes "/*" ++ 10
    ∷ (codes " * Automatically generated file; DO NOT EDIT." ++ 10 ∷ ((codes " * " ++ title) ++ 10 ∷ (codes " */" ++ 10 ∷ rest)))
heading_lines title rest = search (rules, append_assoc)

pub older_lines : (title rest : List ℕ) → older_heading title ++ rest ≡ codes "/*" ++ 10 ∷ (codes " *" ++ 10
    ∷ (codes " * Automatically generated file; DO NOT EDIT." ++ 10 ∷ ((codes " * " ++ title) ++ 10 ∷ (codes " *" ++ 10 ∷ (codes " */" ++ 10 ∷ rest)))))
older_lines title rest = search (rules, append_assoc)

-- what follows the line of the title
after_title : (d : Dialect) (texts : Texts) (n : ℕ) (title rest : List ℕ) → is_title title ≡ true
    → foreign_from d texts true n (lines ((codes " * " ++ title) ++ 10 ∷ rest)) ≡ foreign_from d texts true (n + 1) (lines rest)
after_title d texts n title rest h =
    goes_on d texts true n (codes " * " ++ title) rest (plain-append (codes " * ") title refl (plain_title title h)) (search (rules, (titled title h), (plain_comment title h)))

after_heading : (d : Dialect) (texts : Texts) (title rest : List ℕ) → is_title title ≡ true
    → (n : ℕ) × (foreign_from d texts false 1 (lines (header_heading title ++ rest)) ≡ foreign_from d texts false n (lines rest))
after_heading d texts title rest h =
    let last = codes " */" ++ 10 ∷ rest in
    let mid = (codes " * " ++ title) ++ 10 ∷ last in
    let said = codes " * Automatically generated file; DO NOT EDIT." in (
      _,
      ap (λ (t : List ℕ). foreign_from d texts false 1 (lines t)) (heading_lines title rest)
          ∙ goes_on d texts false 1 (codes "/*") (said ++ 10 ∷ mid) refl refl
          ∙ goes_on d texts true _ said mid refl refl
          ∙ after_title d texts _ title last h
          ∙ goes_on d texts true _ (codes " */") rest refl refl,
    )

after_older : (d : Dialect) (texts : Texts) (title rest : List ℕ) → is_title title ≡ true
    → (n : ℕ) × (foreign_from d texts false 1 (lines (older_heading title ++ rest)) ≡ foreign_from d texts false n (lines rest))
after_older d texts title rest h =
    let last = codes " */" ++ 10 ∷ rest in
    let more = codes " *" ++ 10 ∷ last in
    let mid = (codes " * " ++ title) ++ 10 ∷ more in
    let said = codes " * Automatically generated file; DO NOT EDIT." in (
      _,
      ap (λ (t : List ℕ). foreign_from d texts false 1 (lines t)) (older_lines title rest)
          ∙ goes_on d texts false 1 (codes "/*") (codes " *" ++ 10 ∷ (said ++ 10 ∷ mid)) refl refl
          ∙ goes_on d texts true _ (codes " *") (said ++ 10 ∷ mid) refl refl
          ∙ goes_on d texts true _ said mid refl refl
          ∙ after_title d texts _ title more h
          ∙ goes_on d texts true _ (codes " *") last refl refl
          ∙ goes_on d texts true _ (codes " */") rest refl refl,
    )

-- the whole
all_given : (settings : Configuration) → IsConfiguration settings → (es : Entries) → AllByRecursion (λ e. map.get settings e.0 ≡ Some e.1) es
    → AllByRecursion (Given (texts_of settings)) es
all_given settings are [] h = h
all_given settings are (e ∷ es) h =
    ((are e.0 e.1 h.0, texts_are_of_entries settings e.0 ∙ ap (option_map kept) h.0), all_given settings are es h.1)

pub conf_explained : ConfIsExplained
unfolding foreign_line
conf_explained d true title settings es h are of =
    let (n, after) = after_older d (texts_of settings) title (definition_lines es) h in
    after ∙ entries_explained d (texts_of settings) n es (all_given settings are es of)
conf_explained d false title settings es h are of =
    let (n, after) = after_heading d (texts_of settings) title (definition_lines es) h in
    after ∙ entries_explained d (texts_of settings) n es (all_given settings are es of)

by_recursion : (settings : Configuration) (es : Entries) → AllEntries (λ x s. map.get settings x ≡ Some s) es → AllByRecursion (λ e. map.get settings e.0 ≡ Some e.1) es
by_recursion settings [] h = h
by_recursion settings (e ∷ es) h = (h.0, by_recursion settings es h.1)

pub written_explained : WrittenIsExplained
unfolding header_text
written_explained d title settings h are =
    let all = all_entries (λ x s. map.get settings x ≡ Some s) settings (λ x s is. is) in
    conf_explained d false title settings (map.entries settings) h are (by_recursion settings (map.entries settings) all)
