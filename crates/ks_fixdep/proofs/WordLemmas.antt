-- A text that is scanned by its words.
use Rattle.ks_fixdep.proofs.Prelude.{all_noted, bare_name, if◌then◌else◌, ◌-◌, drop_all, get_or-drop, map, map-append, names_in, names_in_as, None, placed, Some, suc, take_all, take_while-cons, zero, ◌≤◌, cond_both, length-take, without_module, after_word, nothing, passed, word_names, Word, SourceNames, Known, Knows, at_start, ended_by, known_after, next, word_ended, StandsAfter, StandsAfterAs, ◌≡◌, ℕ, ◌+◌, ◌<◌, true, false, List, [], ◌∷◌, ◌++◌, length, take, drop, flat_map, get_or, Option, refl, sym, ap, ◌∙◌, and_from, list_all-append, take_more, take_while, take-append_seam, arith, ⊎_elim, append_assoc, append-nil, length-append, length-drop, cases_Bool, fold-append, bytes_eq-Decides, list_all, and_parts, is_word_byte, list_of, lengthened, common_steps, nat_tests}
unfoldable use Rattle.ks_fixdep.proofs.Prelude.{name_of, name_of_word, names_after}
unfoldable use Rattle.ks_fixdep.specs.Dialects.{patterns_of}
use Rattle.ks_fixdep.specs.Dialects.{config_pattern}
unfoldable use Rattle.ks_fixdep.specs.SymbolPatterns.{arguments_of, named_by, names_of_parts, parts}
use Rattle.ks_fixdep.specs.SymbolPatterns.{AreShort, SourcePatterns, WordPattern, WordMacro, is_short_pattern, is_short_macro, of_module, symbol_of}
use Rattle.ks_fixdep.specs.declared.pending_macro_args.PendingMacroArgs.{PendingMacroArgs}
use Rattle.ks_fixdep.specs.declared.source_scan.SourceScan.{SourceScan}
use Rattle.ks_fixdep.specs.declared.dialect.ScanRules.{ScanRules}
use Rattle.ks_fixdep.specs.declared.dialect.ScanRules.TheVariants as rules
use Rattle.std.proofs.lemmas.Bool.{leb-true}
use Rattle.ks_fixdep.proofs.RunLemmas.{legal-length}
use Rattle.ks_fixdep.proofs.ScanLemmas.{nameless, names-first, word, word-passes, word-split, word-stops}
use Rattle.ks_fixdep.proofs.StreamLemmas.{within-lengthened}

-- ---- a word that is too long

pub arguments-long : (macros : List WordMacro) (w : List ℕ) → list_all is_short_macro macros ≡ true → 142 < length w → arguments_of macros w ≡ 0
unfolding arguments_of
arguments-long [] w short long = refl
arguments-long (m ∷ macros) w short long =
    let both = and_parts (is_short_macro m) (list_all is_short_macro macros) short in
    grind (arith, common_steps, nat_tests, bytes_eq-Decides, both.0, (arguments-long macros w both.1 long))

-- what is cut off its end leaves it too long
module-long : (x : List ℕ) → 142 < length x → of_module x ≡ []
module-long x long = grind (arith, common_steps, cond_both, length-take, (legal-length (without_module x)))

symbol-long : (f : WordPattern) (x : List ℕ) → 128 + (if f.has_modules then 7 else 0) < length x → symbol_of f x ≡ []
symbol-long f x long = ⊎_elim
    (λ modules. grind (arith, modules, length-take, (legal-length (without_module x))))
    (λ none. grind (arith, none, (legal-length x)))
    (cases_Bool f.has_modules)

named-long : (f : WordPattern) (w : List ℕ) → is_short_pattern f ≡ true → 142 < length w → named_by f w ≡ []
unfolding named_by
named-long f w short long =
    let rest = drop (length f.begin) w in
    let name = take (length rest - length f.end) rest in
    let fits = leb-true (length f.begin + length f.end + (if f.has_modules then 7 else 0)) 14 short in
    let over : 128 + (if f.has_modules then 7 else 0) < length name = grind (arith, long, fits, length-drop, length-take) in
    grind (arith, cond_both, (symbol-long f name over))

patterns-long : (patterns : List WordPattern) (w : List ℕ) → list_all is_short_pattern patterns ≡ true → 142 < length w → flat_map (λ f. named_by f w) patterns ≡ []
patterns-long [] w short long = refl
patterns-long (f ∷ patterns) w short long =
    let both = and_parts (is_short_pattern f) (list_all is_short_pattern patterns) short in
    grind (arith, (named-long f w both.0 long), (patterns-long patterns w both.1 long))

pub names-long : (symbol_patterns : SourcePatterns) (a : PendingMacroArgs) (w : List ℕ) → AreShort symbol_patterns → 142 < length w → word_names symbol_patterns a w ≡ []
names-long symbol_patterns a w short long = grind (arith, common_steps, (legal-length (symbol_patterns.prefix ++ w)), (module-long (symbol_patterns.prefix ++ w)), length-append, (patterns-long symbol_patterns.patterns w short.patterns long))

-- ---- where a word ends

pub ended-long : (symbol_patterns : SourcePatterns) (k : Known) (w : List ℕ) → AreShort symbol_patterns → 142 < length w
    → ended_by symbol_patterns k w ≡ record { word = []; pending = after_word k.pending 0; names = k.names }
ended-long symbol_patterns k w short long = grind (arith, common_steps, (arguments-long symbol_patterns.macros w short.macros long), (names-long symbol_patterns k.pending w short long), append-nil)

-- ---- word bytes lengthen the word, and no more

pub word-known : (r : SourcePatterns) (k : Known) (h : List ℕ) → list_all is_word_byte h ≡ true
    → known_after r k h ≡ record { word = k.word ++ h; pending = k.pending; names = k.names }
word-known r k [] all = rw append-nil
word-known r k (b ∷ h) all =
    let parts = and_parts (is_word_byte b) (list_all is_word_byte h) all in
    rw (parts.0, word-known r (record { word = k.word ++ b ∷ []; pending = k.pending; names = k.names }) h parts.1, append_assoc)

-- the word that a text begins with, and one byte more
pub word-taken : (t head : List ℕ) → head ≡ take_while is_word_byte t → take (length head) t ≡ head
word-taken t head is = grind (arith, common_steps, word-split, take-append_seam)

pub word-more : (r : SourcePatterns) (k : Known) (t head : List ℕ) → head ≡ take_while is_word_byte t → length head < length t
    → known_after r k (take (length head + 1) t) ≡ next r (known_after r k head) (get_or t (length head) 0)
word-more r k t head is short = grind (arith, common_steps, take_more, word-taken, fold-append)

-- what a scan knows once it has taken word bytes
pub knows-pushed : (r : SourcePatterns) (k : Known) (old new : Option (List ℕ)) (a : PendingMacroArgs) (table : SourceNames) (h : List ℕ) → list_all is_word_byte h ≡ true
    → new ≡ lengthened old h → Knows (record { word = old; pending = a }) table k
    → Knows (record { word = new; pending = a }) table (known_after r k h)
knows-pushed r k old new a table h all is knows = grind (arith, common_steps, word-known, within-lengthened)

-- ---- the names of a whole text

-- v begins with no word byte
parts-word : (b : ℕ) (w v : List ℕ) → list_all is_word_byte (b ∷ w) ≡ true → is_word_byte (get_or v 0 0) ≡ false → parts (b ∷ (w ++ v)) ≡ Word (b ∷ w) ∷ parts v
unfolding parts
parts-word b [] [] all stops = rw (and_parts (is_word_byte b) true all).0
parts-word b [] (c ∷ v) all stops = rw ((and_parts (is_word_byte b) true all).0, stops)
parts-word b (c ∷ w) v all stops = let both = and_parts (is_word_byte b) (list_all is_word_byte (c ∷ w)) all in rw (both.0, parts-word c w v both.1 stops)

ended-parts : (r : SourcePatterns) (k : Known) (w v : List ℕ) → list_all is_word_byte w ≡ true → is_word_byte (get_or v 0 0) ≡ false
    → (ended_by r k w).names ++ names_of_parts r (ended_by r k w).pending (parts v) ≡ k.names ++ names_of_parts r k.pending (parts (w ++ v))
unfolding names_of_parts
ended-parts r k [] v all stops = refl
ended-parts r k (b ∷ w) v all stops = rw (parts-word b w v all stops, append_assoc)

-- What is noted of a text, once its last word has ended, are the names of its parts.
names-known : (r : SourcePatterns) (k : Known) (t : List ℕ) → list_all is_word_byte k.word ≡ true
    → (word_ended r (known_after r k t)).names ≡ k.names ++ names_of_parts r k.pending (parts (k.word ++ t))
unfolding names_of_parts parts
names-known r k [] all = sym (append-nil (word_ended r k).names) ∙ ended-parts r k k.word [] all refl
names-known r k (b ∷ t) all = ⊎_elim
    (λ word.
    let passes = list_all-append is_word_byte k.word (b ∷ []) ∙ and_from _ _ all (and_from _ _ word refl) in
    grind (arith, append_assoc, word, (names-known r (record { word = k.word ++ b ∷ []; pending = k.pending; names = k.names }) t passes)))
    (λ other. grind (
      arith,
      other,
      (ended-parts r k k.word (b ∷ t) all other),
      (names-known r (record { word = []; pending = passed (word_ended r k).pending b; names = (word_ended r k).names }) t refl),
    ))
    (cases_Bool (is_word_byte b))

pub names-whole : (r : SourcePatterns) (t : List ℕ) → (word_ended r (known_after r at_start t)).names ≡ names_of_parts r nothing (parts t)
names-whole r t = names-known r at_start t refl

-- ---- the words of Linux are those at its places

placed-bare : (i : ℕ) (name : Option (List ℕ)) → map bare_name (placed i name) ≡ list_of name
placed-bare i None = refl
placed-bare i (Some x) = refl

config-named : (w : List ℕ) → named_by config_pattern w ≡ list_of (name_of_word w)
unfolding named_by name_of_word name_of
config-named w = grind (arith, common_steps, drop_all, nat_tests, take_all)

linux-word : (w : List ℕ) → word_names (patterns_of rules.Linux) nothing w ≡ list_of (name_of_word w)
unfolding patterns_of arguments_of
linux-word w = grind (arith, append-nil, (config-named w))

-- nothing is ever awaited
linux-passed : (b : ℕ) → passed nothing b ≡ nothing
linux-passed b = grind (arith, cond_both)

-- after any byte that is no word byte the same names begin
names_after-other : (before i : ℕ) (t : List ℕ) → is_word_byte before ≡ false → names_after before i t ≡ names_after 0 i t
unfolding names_after
names_after-other before i [] other = refl
names_after-other before i (b ∷ t) other = rw other

linux-names : (n i : ℕ) (t : List ℕ) → length t ≤ n → map bare_name (names_after 0 i t) ≡ names_of_parts (patterns_of rules.Linux) nothing (parts t)
unfolding names_after names_of_parts parts patterns_of arguments_of
linux-names n i [] fits = refl
linux-names zero i (b ∷ t) fits = absurd (omega (arith, fits))
linux-names (suc n) i (b ∷ t) fits = ⊎_elim
    (λ is_word.
    let v = drop (length (word t)) t in
    let first = names-first (b ∷ t) 0 i in
    let head = take_while-cons is_word_byte b t in
    let passes = and_from _ _ is_word (word-passes t) in
    let stops : is_word_byte (get_or v 0 0) ≡ false = grind (arith, get_or-drop, (word-stops t)) in
    let whole = parts-word b (word t) v passes stops in
    let left = linux-names n (i + length (word (b ∷ t))) v (omega (arith, fits, length-drop (length (word t)) t)) in
    grind (arith, is_word, first, head, whole, left, map-append, placed-bare, linux-word, (word-split t)))
    (λ other. grind (
      arith,
      other,
      nameless,
      cond_both,
      (take_while-cons is_word_byte b t),
      (names_after-other b (i + 1) t other),
      linux-passed,
      (linux-names n (i + 1) t (omega (arith, fits))),
    ))
    (cases_Bool (is_word_byte b))

pub linux-places : (t : List ℕ) → names_in_as rules.Linux t ≡ names_in t
linux-places t = ap (all_noted []) (sym (linux-names (length t) 0 t (omega arith)))

-- ---- a source under the rules of an object

-- a scan that stands before a source does so under all rules
pub stands-first : (s : SourceScan) → StandsAfter s [] → Knows s.symbol_patterns s.table at_start → (r : ScanRules) → StandsAfterAs r s []
stands-first s linux symbol_patterns rules.Linux = linux
stands-first s linux symbol_patterns (rules.UBoot p) = symbol_patterns
stands-first s linux symbol_patterns rules.BusyBox = symbol_patterns
stands-first s linux symbol_patterns rules.Coreboot = symbol_patterns
