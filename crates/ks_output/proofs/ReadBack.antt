-- What is written of a configuration reads back.
use Rattle.ks_output.proofs.Prelude.{common_steps, take-append_seam, eq-eqb, byte_at_end, lt-ltb, drop-append_seam, order, first, second, ◌≡◌, ℕ, ◌+◌, ◌<◌, ◌^◌, Bool, true, arith, T, List, [], ◌∷◌, ◌++◌, drop, codes, decimal, Option, Some, None, option_map, refl, sym, ap, ◌∙◌, append_assoc, nat_list_cmp_total, find, is_sorted, slice_cmp-IsAntisymmetric, nat_cmp-IsAntisymmetric, cases_Bool, cond-true, cond-false, ne_eqb, and_parts, or_right, digits_decimal, lines-nil, Kind, Class, class_of, is_name, is_symbol_name, Assigns, is_title, IsConfiguration, IsEntry, Configuration, own, reads_back, length, length-append, ◌≤◌, statements_are_spelled, run_is, word_bytes, heading, class_line, entry_line, entry_lines, generation_line, auto_text, Remark, Gives, Marks, Types, Numbers, CommentOrBlank, numbered, spelled_class, class_remark, stated_by, remark, remarks, is_typed, class_by, auto_map, texts_given, heard, first_faulty, auto_fault, Texts, kept, TextsReadBack, GenerationReadsBack, HasNoFault, IsAccepted, last_number, auto_generation, neighbours, rules, class_end}
use Rattle.std.proofs.Common.{map as map_list}
use Rattle.std.specs.FinMap as map
use Rattle.std.proofs.lemmas.Fmt.{length-decimal-le}
use Rattle.ks_output.specs.Laws.{NumberAloneReadsBack}
use Rattle.ks_output.specs.AutoConf.{fault_in}
use Rattle.ks_output.specs.declared.auto_conf.AutoError.TheVariants as fault
use Rattle.ks_symbols.specs.declared.kinds.Class.TheVariants as class
use Rattle.ks_output.proofs.Entries.{find_below, tied, AllEntries, all_entries}
use Rattle.ks_output.proofs.LastRemark.{with_given, texts_after, texts_after-empty, with_number, number_after, number_after-zero, not_large}
use Rattle.ks_output.proofs.Texts.{texts_are_of_entries}
use Rattle.ks_output.proofs.WrittenLines.{is_plain, plain-append, plain_name, plain_digits, plain_title, plain_text, lines-plain, ends_with-plain}

-- the remarks of a text by its first line
next : (l rest : List ℕ) (r : Remark) → is_plain l ≡ true → stated_by true l ≡ r → remarks (l ++ 10 ∷ rest) ≡ r ∷ remarks rest
next l rest r h is = grind (arith, common_steps, lines-plain, ends_with-plain, lt-ltb, byte_at_end, cond-true, eq-eqb, take-append_seam)

stated_by_comment : (l : List ℕ) → stated_by true (35 ∷ 32 ∷ l) ≡ CommentOrBlank
unfolding stated_by
stated_by_comment l = search (rules, or_right)

heading_lines : (title rest : List ℕ) → heading title ++ rest ≡ (35 ∷ []) ++ 10
    ∷ (codes "# Automatically generated file; DO NOT EDIT." ++ 10 ∷ ((codes "# " ++ title) ++ 10 ∷ ((35 ∷ []) ++ 10 ∷ (codes "#typed" ++ 10 ∷ rest))))
heading_lines title rest = search (rules, append_assoc)

headed : List Remark → List Remark
headed stated = CommentOrBlank ∷ CommentOrBlank ∷ CommentOrBlank ∷ CommentOrBlank ∷ Marks ∷ stated

heading_remarks : (title rest : List ℕ) → is_title title ≡ true → remarks (heading title ++ rest) ≡ headed (remarks rest)
unfolding headed stated_by
heading_remarks title rest h =
    let mark = codes "#typed" ++ 10 ∷ rest in
    let last = (35 ∷ []) ++ 10 ∷ mark in
    let comment = codes "# Automatically generated file; DO NOT EDIT." in
    let titled = (codes "# " ++ title) ++ 10 ∷ last in
    ap remarks (heading_lines title rest) ∙ next (35 ∷ []) (comment ++ 10 ∷ titled) CommentOrBlank refl refl
    ∙ ap (λ q. CommentOrBlank ∷ q) (next comment titled CommentOrBlank refl (stated_by_comment (codes "Automatically generated file; DO NOT EDIT."))
    ∙ ap (λ q. CommentOrBlank ∷ q) (next (codes "# " ++ title) last CommentOrBlank (plain-append (codes "# ") title refl (plain_title title h)) (stated_by_comment title)
    ∙ ap (λ q. CommentOrBlank ∷ q) (next (35 ∷ []) mark CommentOrBlank refl refl ∙ ap (λ q. CommentOrBlank ∷ q) (next (codes "#typed") rest Marks refl refl))))

-- the lines of the entries
pub stated_by_entry : (ended : Bool) (name text : List ℕ) → is_name name ≡ true → stated_by ended (codes "CONFIG_" ++ name ++ codes "=" ++ text) ≡ Gives name text
unfolding stated_by
stated_by_entry ended name text h =
    let known = (statements_are_spelled (codes "CONFIG_" ++ name ++ codes "=" ++ text) (Assigns name text)).1 (h, refl) in
    search (rules, ne_eqb, known)

pub entry_remark : (name text rest : List ℕ) → is_name name ≡ true → is_plain text ≡ true → remarks (entry_line name text ++ rest) ≡ Gives name text ∷ remarks rest
entry_remark name text rest h p =
    ap remarks (append_assoc (codes "CONFIG_" ++ name ++ codes "=" ++ text) (10 ∷ []) rest)
    ∙ next (codes "CONFIG_" ++ name ++ codes "=" ++ text) rest (Gives name text) (search (rules, plain-append, plain_name)) (stated_by_entry true name text h)

-- the remark, if there is one, that says the class of an entry
types : List ℕ → Class → List Remark
types name class.Switch = []
types name k = Types name k ∷ []

types_one : (name end rest : List ℕ) (k : Class) → is_name name ≡ true → is_plain (32 ∷ end) ≡ true → spelled_class (32 ∷ end) ≡ Some k
    → remarks ((codes "#type " ++ name ++ (32 ∷ end) ++ codes "\n") ++ rest) ≡ Types name k ∷ remarks rest
unfolding stated_by class_remark
types_one name end rest k h p is =
    let line = codes "#type " ++ name ++ 32 ∷ end in
    ap remarks (append_assoc line (10 ∷ []) rest)
    ∙ next line rest (Types name k) (search (rules, plain-append, plain_name, p)) (search (rules, run_is, word_bytes, drop-append_seam, is))

class_remarks : (name rest : List ℕ) (k : Class) → is_name name ≡ true → remarks (class_line name k ++ rest) ≡ types name k ++ remarks rest
unfolding types
class_remarks name rest class.Switch h = refl
class_remarks name rest k h = types_one name (drop 1 (class_end k)) rest k h refl refl

abbrev Written : List ℕ → Kind × List ℕ → Type 0
Written name s = (is_name name ≡ true) × (is_plain s.1 ≡ true)

gives_all : List (List ℕ × (Kind × List ℕ)) → List Remark
gives_all [] = []
gives_all (e ∷ es) = types e.0 (class_of e.1.0) ++ Gives e.0 e.1.1 ∷ gives_all es

entries_remarks : (es : List (List ℕ × (Kind × List ℕ))) (rest : List ℕ) → AllEntries Written es → remarks (entry_lines es ++ rest) ≡ gives_all es
    ++ remarks rest
unfolding gives_all
entries_remarks [] rest h = refl
entries_remarks (e ∷ es) rest h = search (rules, append_assoc, class_remarks, types, entry_remark, gives_all, (entries_remarks es rest h.1))

generation_remark : (g : ℕ) → g < 2 ^ 64 → remarks (generation_line g) ≡ Numbers g ∷ []
unfolding stated_by
generation_remark g h =
    let plain = plain-append (codes "#generation ") (decimal g) refl (plain_digits (decimal g) (digits_decimal own g h)) in
    next (codes "#generation " ++ decimal g) [] (Numbers g) plain (ap (numbered true) (reads_back g h))
    ∙ ap (λ (q : List (List ℕ)). Numbers g ∷ map_list remark q) lines-nil

-- the whole text
written : (x : List ℕ) (s : Kind × List ℕ) → IsEntry x s → Written x s
unfolding is_symbol_name
written x s h = ((and_parts _ _ h.named).0, plain_text s.0 s.1 h.typed)

body : List (List ℕ × (Kind × List ℕ)) → ℕ → List Remark
body es g = gives_all es ++ Numbers g ∷ []

text_remarks : (title : List ℕ) (settings : Configuration) (g : ℕ) → is_title title ≡ true → IsConfiguration settings → g < 2 ^ 64
    → remarks (auto_text title settings g) ≡ headed (body (map.entries settings) g)
unfolding auto_text body
text_remarks title settings g t h small =
    let each : AllEntries Written (map.entries settings) = all_entries Written settings (λ x s is. written x s (h x s is)) in
    search (rules, append_assoc, heading_remarks, entries_remarks, each, generation_remark)

entry_fault : (x t : List ℕ) (k : Class) (later : List Remark) (n : ℕ) → ((m : ℕ) → first_faulty m later ≡ None)
    → first_faulty n (types x k ++ Gives x t ∷ later) ≡ None
unfolding types first_faulty
entry_fault x t class.Switch later n h = h (n + 1)
entry_fault x t k later n h = search (rules, h)

body_fault : (es : List (List ℕ × (Kind × List ℕ))) (g n : ℕ) → first_faulty n (body es g) ≡ None
unfolding body gives_all first_faulty
body_fault [] g n = refl
body_fault (e ∷ es) g n = search (rules, append_assoc, entry_fault, (body_fault es g))

pub has_no_fault : HasNoFault
unfolding auto_fault headed is_typed heard first_faulty
has_no_fault title settings g t h small = search (rules, text_remarks, body_fault)

-- the generation is the number
entry_number : (x t : List ℕ) (k : Class) (later : List Remark) (n : ℕ) → number_after n (types x k ++ Gives x t ∷ later) ≡ number_after n later
unfolding types with_number number_after
entry_number x t class.Switch later n = refl
entry_number x t k later n = refl

body_number : (es : List (List ℕ × (Kind × List ℕ))) (n g : ℕ) → number_after n (body es g) ≡ g
unfolding body gives_all with_number number_after
body_number [] n g = refl
body_number (e ∷ es) n g = search (rules, append_assoc, entry_number, (body_number es))

pub generation_reads_back : GenerationReadsBack
unfolding headed with_number number_after
generation_reads_back title settings g t h small = sym (number_after-zero (auto_text title settings g)) ∙ search (rules, text_remarks, body_number)

-- each name has its text and its class
entry_text : (m : Texts) (before : Remark) (x t : List ℕ) (k : Class) (later : List Remark) → class_by true before ≡ Some class.Switch
    → texts_after true m before (types x k ++ Gives x t ∷ later) ≡ texts_after true (map.insert m x (Some k, t)) (Gives x t) later
unfolding types with_given texts_after
entry_text m before x t class.Switch later b = ap (λ (c : Option Class). texts_after true (map.insert m x (c, t)) (Gives x t) later) b
entry_text m before x t k later b = refl

after : Option (Option Class × List ℕ) → Option (Kind × List ℕ) → Option (Option Class × List ℕ)
after before None = before
after before (Some s) = Some (kept s)

texts_given_at : (es : List (List ℕ × (Kind × List ℕ))) (m : Texts) (before : Remark) (g : ℕ) (x : List ℕ) → T (is_sorted order es) → class_by true before
    ≡ Some class.Switch
    → map.get (texts_after true m before (body es g)) x ≡ after (map.get m x) (find order x es)
unfolding after body gives_all with_given texts_after
texts_given_at [] m before g x h b = refl
texts_given_at (e ∷ es) m before g x h b =
    let low = find_below e.0 es (first _ _ h) in
    search (rules, low, append_assoc, entry_text, second, (texts_given_at es), map.get-insert, nat_list_cmp_total, cases_Bool, cond-true, cond-false, tied)

headed_texts : (stated : List Remark) → texts_given (headed stated) ≡ texts_after true map.empty Marks stated
unfolding headed is_typed with_given texts_after
headed_texts stated = sym (texts_after-empty (headed stated))

texts_at : (title : List ℕ) (settings : Configuration) (g : ℕ) → is_title title ≡ true → IsConfiguration settings → g < 2 ^ 64
    → (x : List ℕ) → map.get (auto_map (auto_text title settings g)) x ≡ option_map kept (map.get settings x)
unfolding auto_map after
texts_at title settings g t h small x = search (rules, text_remarks, headed_texts, texts_given_at, map.entries_sorted, map.get-empty, map.get-entries)

pub texts_read_back : TextsReadBack
texts_read_back title settings g t h small =
    search (rules, map.same_map, nat_list_cmp_total, slice_cmp-IsAntisymmetric, nat_cmp-IsAntisymmetric, texts_at, texts_are_of_entries)

-- and the text is not refused
pub is_accepted : IsAccepted
unfolding auto_fault
is_accepted title settings g t h small few = search (rules, not_large, has_no_fault)

-- ---- the line of a generation alone

short : (g : ℕ) → g < 2 ^ 64 → length (generation_line g) ≤ 67108864
short g small = grind (arith, common_steps, length-append, (length-decimal-le 20 g))

pub number_alone : NumberAloneReadsBack
unfolding auto_fault auto_generation auto_map texts_given is_typed heard first_faulty neighbours
number_alone g small =
    let read = generation_remark g small in (
      not_large (generation_line g) (short g small) ∙ ap (λ stated. option_map fault.BadAuto (fault_in stated)) read,
      ap last_number read,
      ap texts_given read,
    )
