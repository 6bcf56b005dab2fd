-- What the blocks of BusyBox's header define, of which the definitions count that confstamp writes.
use Rattle.ks_output.proofs.Prelude.{◌≡◌, ◌∷◌, ◌++◌, ◌∙◌, ℕ, Bool, true, false, not, List, [], codes, cases_Bool, inl, inr, cond, cond-false, refl, sym, ap, append_assoc, arith, rules, bytes_eq, filter, is_word_byte, run_is, word_bytes, and_parts, Configuration, Kind, is_name, is_symbol_name, is_text, definitions, lf_lines, lines-nil, defines, run_of, front, defined_as, ap₂, is_companion, is_of_module, modules_last}
use Rattle.std.specs.FinMap as map
use Rattle.ks_symbols.specs.declared.kinds.Kind.TheVariants as kind
use Rattle.ks_output.specs.Header.{definition_line}
use Rattle.ks_output.specs.Blocks.{off_block, on_block, enabling}
use Rattle.ks_output.specs.BlocksLaws.{counts, is_flag, is_flag_kind}
use Rattle.std.proofs.lemmas.List.Elements.{filter-append}
use Rattle.ks_output.proofs.Companions.{line_of}
use Rattle.ks_output.proofs.Definitions.{flag_defines, next, line_defines, plain_line}
use Rattle.ks_output.proofs.WrittenLines.{is_plain, plain-append, plain_name, plain_text}

-- of a text what counts of a name, in the order of its lines
pub shown : Configuration → List ℕ → List ℕ → List (List ℕ)
shown s x text = filter (counts s) (filter (defines x) (lf_lines text))

uncounted : (p q : List ℕ → Bool) (l : List ℕ) (ls : List (List ℕ)) → p l ≡ false → filter p (filter q (l ∷ ls)) ≡ filter p (filter q ls)
uncounted p q l ls none = elim (cases_Bool (q l)) [
  | inl is ↦ grind (arith, none, is)
  | inr other ↦ grind (arith, other)
]

pub silent_line : (s : Configuration) (x l rest : List ℕ) → is_plain l ≡ true → defines x l ≡ false → shown s x (l ++ 10 ∷ rest) ≡ shown s x rest
unfolding shown
silent_line s x l rest plain none = let lines = next l rest plain in grind (arith, lines, none)

dropped_line : (s : Configuration) (x l rest : List ℕ) → is_plain l ≡ true → counts s l ≡ false → shown s x (l ++ 10 ∷ rest) ≡ shown s x rest
unfolding shown
dropped_line s x l rest plain none = ap (λ ls. filter (counts s) (filter (defines x) ls)) (next l rest plain) ∙ uncounted (counts s) (defines x) l (lf_lines rest) none

kept_line : (s : Configuration) (x l rest : List ℕ) (b : Bool) → is_plain l ≡ true → counts s l ≡ true → defines x l ≡ b
    → shown s x (l ++ 10 ∷ rest) ≡ cond b (l ∷ []) [] ++ shown s x rest
unfolding shown
kept_line s x l rest b plain all is = let lines = next l rest plain in grind (arith, lines, all, is)

plain_around : (a name b : List ℕ) → is_plain a ≡ true → is_plain name ≡ true → is_plain b ≡ true → is_plain (a ++ (name ++ b)) ≡ true
plain_around a name b p q r = plain-append a (name ++ b) p (plain-append name b q r)

-- the macros of a name
run_enable : (name rest : List ℕ) → is_name name ≡ true → run_of (codes "#define ENABLE_" ++ (name ++ 32 ∷ rest)) ≡ name
run_enable name rest h = run_is is_word_byte name 32 rest (word_bytes name h) refl

run_config : (name rest : List ℕ) → is_name name ≡ true → run_of (codes "#define CONFIG_" ++ (name ++ 32 ∷ rest)) ≡ name
run_config name rest h = run_is is_word_byte name 32 rest (word_bytes name h) refl

counts_enable : (s : Configuration) (name rest : List ℕ) → is_name name ≡ true → counts s (codes "#define ENABLE_" ++ (name ++ 32 ∷ rest)) ≡ is_flag (map.get s name)
counts_enable s name rest h = ap (λ run. is_flag (map.get s run)) (run_enable name rest h)

counts_config : (s : Configuration) (name rest : List ℕ) → is_name name ≡ true → counts s (codes "#define CONFIG_" ++ (name ++ 32 ∷ rest)) ≡ not (is_flag (map.get s name))
counts_config s name rest h = ap (λ run. not (is_flag (map.get s run))) (run_config name rest h)

legal_name : (k : Kind) (name : List ℕ) → is_symbol_name k name ≡ true → is_name name ≡ true
unfolding is_symbol_name
legal_name k name h = (and_parts _ _ h).0

-- a bool that is off
off_lines : (name rest : List ℕ) → off_block name ++ rest ≡ (codes "#undef CONFIG_" ++ name) ++ 10
    ∷ ((codes "#define ENABLE_" ++ (name ++ codes " 0")) ++ 10 ∷ ((codes "#define IF_" ++ (name ++ codes "(...)")) ++ 10
    ∷ ((codes "#define IF_NOT_" ++ (name ++ codes "(...) __VA_ARGS__")) ++ 10 ∷ rest)))
off_lines name rest = search (rules, append_assoc)

pub off_shown : (s : Configuration) (x name rest : List ℕ) → is_name name ≡ true → is_flag (map.get s name) ≡ false
    → shown s x (off_block name ++ rest) ≡ shown s x rest
off_shown s x name rest named off =
    let plain = plain_name name named in
    ap (shown s x) (off_lines name rest)
    ∙ silent_line s x (codes "#undef CONFIG_" ++ name) _ (plain-append (codes "#undef CONFIG_") name refl plain) refl
    ∙ dropped_line s x (codes "#define ENABLE_" ++ (name ++ codes " 0")) _ (plain_around (codes "#define ENABLE_") name (codes " 0") refl plain refl)
    (counts_enable s name (codes "0") named ∙ off)
    ∙ silent_line s x (codes "#define IF_" ++ (name ++ codes "(...)")) _ (plain_around (codes "#define IF_") name (codes "(...)") refl plain refl) refl
    ∙ silent_line s x (codes "#define IF_NOT_" ++ (name ++ codes "(...) __VA_ARGS__")) rest
    (plain_around (codes "#define IF_NOT_") name (codes "(...) __VA_ARGS__") refl plain refl) refl

-- what each symbol has besides that has a value: its first line, and then nothing
suid_lines : (name rest : List ℕ) → List ℕ
suid_lines name rest =
    codes "#ifdef MAKE_SUID" ++ 10 ∷ ((codes "# define IF_" ++ (name ++ (codes "(...) __VA_ARGS__ \"CONFIG_" ++ (name ++ codes "\"")))) ++ 10
    ∷ (codes "#else" ++ 10 ∷ ((codes "# define IF_" ++ (name ++ codes "(...) __VA_ARGS__")) ++ 10 ∷ (codes "#endif" ++ 10
    ∷ ((codes "#define IF_NOT_" ++ (name ++ codes "(...)")) ++ 10 ∷ rest)))))

suid_shown : (s : Configuration) (x name rest : List ℕ) → is_name name ≡ true → shown s x (suid_lines name rest) ≡ shown s x rest
unfolding suid_lines
suid_shown s x name rest named =
    let plain = plain_name name named in
    silent_line s x (codes "#ifdef MAKE_SUID") _ refl refl
    ∙ silent_line s x (codes "# define IF_" ++ (name ++ (codes "(...) __VA_ARGS__ \"CONFIG_" ++ (name ++ codes "\"")))) _
    (plain_around (codes "# define IF_") name (codes "(...) __VA_ARGS__ \"CONFIG_" ++ (name ++ codes "\"")) refl plain
    (plain_around (codes "(...) __VA_ARGS__ \"CONFIG_") name (codes "\"") refl plain refl)) refl
    ∙ silent_line s x (codes "#else") _ refl refl
    ∙ silent_line s x (codes "# define IF_" ++ (name ++ codes "(...) __VA_ARGS__")) _
    (plain_around (codes "# define IF_") name (codes "(...) __VA_ARGS__") refl plain refl) refl
    ∙ silent_line s x (codes "#endif") _ refl refl
    ∙ silent_line s x (codes "#define IF_NOT_" ++ (name ++ codes "(...)")) rest (plain_around (codes "#define IF_NOT_") name (codes "(...)") refl plain refl) refl

enabling_lines : (name rest : List ℕ) → enabling name ++ rest ≡ (codes "#define ENABLE_" ++ (name ++ codes " 1")) ++ 10 ∷ suid_lines name rest
unfolding suid_lines
enabling_lines name rest = search (rules, append_assoc)

-- the line that confstamp writes of an entry
abbrev pub one : List ℕ → List ℕ → Kind × List ℕ → List (List ℕ)
one x name s = cond (bytes_eq name x) (line_of name s ∷ []) []

enabling_dropped : (s : Configuration) (x name rest : List ℕ) → is_name name ≡ true → is_flag (map.get s name) ≡ false
    → shown s x (enabling name ++ rest) ≡ shown s x rest
enabling_dropped s x name rest named off =
    ap (shown s x) (enabling_lines name rest)
    ∙ dropped_line s x (codes "#define ENABLE_" ++ (name ++ codes " 1")) (suid_lines name rest) (plain_around (codes "#define ENABLE_") name (codes " 1") refl (plain_name name named) refl)
    (counts_enable s name (codes "1") named ∙ off)
    ∙ suid_shown s x name rest named

enabling_kept : (s : Configuration) (x name rest : List ℕ) → is_name name ≡ true → is_flag (map.get s name) ≡ true
    → shown s x (enabling name ++ rest) ≡ cond (bytes_eq name x) ((codes "#define ENABLE_" ++ (name ++ codes " 1")) ∷ []) [] ++ shown s x rest
enabling_kept s x name rest named on =
    ap (shown s x) (enabling_lines name rest)
    ∙ kept_line s x (codes "#define ENABLE_" ++ (name ++ codes " 1")) (suid_lines name rest) (bytes_eq name x)
    (plain_around (codes "#define ENABLE_") name (codes " 1") refl (plain_name name named) refl)
    (counts_enable s name (codes "1") named ∙ on) (flag_defines x name (codes "1") (word_bytes name named))
    ∙ ap (λ more. cond (bytes_eq name x) ((codes "#define ENABLE_" ++ (name ++ codes " 1")) ∷ []) [] ++ more) (suid_shown s x name rest named)

-- the kinds that have a block
unfoldable pub has_block : Kind → Bool
has_block kind.Flag = true
has_block kind.Int = true
has_block kind.Hex = true
has_block kind.Raw = true
has_block k = false

valued_lines : (name : List ℕ) (k : Kind) (value rest : List ℕ) → definition_line name k value ++ enabling name ++ rest ≡ line_of name (k, value) ++ 10 ∷ (enabling name ++ rest)
valued_lines name k value rest = append_assoc _ _ rest ∙ append_assoc (line_of name (k, value)) (codes "\n") (enabling name ++ rest)

-- CONFIG_X counts, and ENABLE_X doesn't
valued_shown : (s : Configuration) (x name : List ℕ) (k : Kind) (value d rest : List ℕ) → is_symbol_name k name ≡ true → is_text k value ≡ true
    → is_flag (map.get s name) ≡ false → is_companion k ≡ false → front k ≡ codes "#define CONFIG_" → defined_as k value ≡ 32 ∷ d
    → shown s x (definition_line name k value ++ enabling name ++ rest) ≡ one x name (k, value) ++ shown s x rest
valued_shown s x name k value d rest named typed other own at shape =
    let legal = legal_name k name named in
    let line : line_of name (k, value) ≡ codes "#define CONFIG_" ++ (name ++ 32 ∷ d) = ap (λ f. f ++ name ++ defined_as k value) at ∙ ap (λ v. codes "#define CONFIG_" ++ (name ++ v)) shape in
    ap (shown s x) (valued_lines name k value rest)
    ∙ kept_line s x (line_of name (k, value)) (enabling name ++ rest) (bytes_eq name x) (plain_line name (k, value) (named, plain_text k value typed))
    (ap (counts s) line ∙ counts_config s name d legal ∙ ap not other) (line_defines x name k value named ∙ cond-false _ _ _ own)
    ∙ ap (λ more. cond (bytes_eq name x) (line_of name (k, value) ∷ []) [] ++ more) (enabling_dropped s x name rest legal other)

flag_lines : (name value rest : List ℕ) → on_block name kind.Flag value ++ rest ≡ (codes "#define CONFIG_" ++ (name ++ codes " 1")) ++ 10 ∷ (enabling name ++ rest)
flag_lines name value rest = append_assoc (codes "#define CONFIG_" ++ name ++ codes " 1\n") (enabling name) rest ∙ append_assoc (codes "#define CONFIG_" ++ name) (codes " 1\n") (enabling name ++ rest)
    ∙ sym (append_assoc (codes "#define CONFIG_" ++ name) (codes " 1") (10 ∷ (enabling name ++ rest)))

pub on_shown : (s : Configuration) (x name : List ℕ) (k : Kind) (value rest : List ℕ) → has_block k ≡ true → is_symbol_name k name ≡ true → is_text k value ≡ true
    → is_flag (map.get s name) ≡ is_flag_kind k → shown s x (on_block name k value ++ rest) ≡ one x name (k, value) ++ shown s x rest
unfolding has_block
on_shown s x name kind.Flag value rest has named typed on =
    let legal = legal_name kind.Flag name named in
    ap (shown s x) (flag_lines name value rest)
    ∙ dropped_line s x (codes "#define CONFIG_" ++ (name ++ codes " 1")) (enabling name ++ rest) (plain_around (codes "#define CONFIG_") name (codes " 1") refl (plain_name name legal) refl)
    (counts_config s name (codes "1") legal ∙ ap not on)
    ∙ enabling_kept s x name rest legal on
on_shown s x name kind.Int value rest has named typed off = valued_shown s x name kind.Int value value rest named typed off refl refl refl
on_shown s x name kind.Hex value rest has named typed off = valued_shown s x name kind.Hex value _ rest named typed off refl refl refl
on_shown s x name kind.Raw value rest has named typed off = valued_shown s x name kind.Raw value value rest named typed off refl refl refl
on_shown s x name k value rest has named typed off = absurd (cc has)

pub shown_nothing : (s : Configuration) (x : List ℕ) → shown s x [] ≡ []
unfolding shown lf_lines
shown_nothing s x = search (rules, lines-nil)

-- Of the definitions of a name the same counts, those of its module last.
both_tests : (p q : List ℕ → Bool) (ls : List (List ℕ)) → filter p (filter q ls) ≡ filter q (filter p ls)
both_tests p q [] = refl
both_tests p q (l ∷ ls) =
    let later = both_tests p q ls in
    elim (cases_Bool (p l)) [
      | inl is ↦ elim (cases_Bool (q l)) [ inl too ↦ grind (arith, is, too, later) | inr other ↦ grind (arith, is, other, later) ]
      | inr none ↦ elim (cases_Bool (q l)) [ inl too ↦ grind (arith, none, too, later) | inr other ↦ grind (arith, none, other, later) ]
    ]

pub counted_last : (s : Configuration) (x text : List ℕ) → filter (counts s) (definitions x text) ≡ modules_last (shown s x text)
unfolding shown definitions modules_last
counted_last s x text =
    let ls = filter (defines x) (lf_lines text) in
    filter-append (counts s) (filter (λ line. not (is_of_module line)) ls) (filter is_of_module ls)
    ∙ ap₂ (λ a b. a ++ b) (both_tests (counts s) (λ line. not (is_of_module line)) ls) (both_tests (counts s) is_of_module ls)

pub not_companion : (k : Kind) → has_block k ≡ true → is_companion k ≡ false
unfolding has_block
not_companion kind.Companion h = absurd (cc h)
not_companion k h = refl
