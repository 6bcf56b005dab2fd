-- Settings have names of symbols and texts of their kinds.
use Rattle.ks_symbols.proofs.Prelude.{is_title, ◌≡◌, ℕ, ◌+◌, false, List, [], ◌∷◌, ◌++◌, Option, Some, None, option_and_then, IsTrue, bytes_eq, refl, sym, ◌∙◌, lookup, cond-true, cond-false, cases_Bool, append-nil, Kind, is_name, is_symbol_name, is_text, is_off, text_of, lines, Statement, statement, setting, gives, last_about, LineKind, Title, Entry, HasKind, title_in, title_of, entry_of, declares, declarations, declared, story, line_kind_fault, kind_fault, goes_on, first_line_kind_fault, kconfig_refusal, IsConfiguration, HasSymbolNames, Configuration, SettingsAreConfigurations, KconfigText, rules, arith, option_and_then_some}
use Rattle.ks_symbols.specs.declared.kinds.Kind.TheVariants as kind
use Rattle.std.specs.FinMap as map
use Rattle.ks_symbols.proofs.Readings.{reads_are_texts}
use Rattle.ks_symbols.proofs.Story.{none_both, story_after, story_is}

-- each entry of a story has a name, which fits the kind that follows it, and each title is one
Fits : Kind → Option (List ℕ) → Type 0
Fits k None = Unit {0}
Fits k (Some x) = IsTrue (is_symbol_name k x)

Legal : List LineKind → Type 0
Legal [] = Unit {0}
Legal (Title t ∷ earlier) = IsTrue (is_title t) × Legal earlier
Legal (Entry x ∷ earlier) = IsTrue (is_name x) × Legal earlier
Legal (HasKind k ∷ earlier) = Fits k (entry_of earlier) × Legal earlier
Legal (f ∷ earlier) = Legal earlier

LegalName : Option (List ℕ) → Type 0
LegalName None = Unit {0}
LegalName (Some x) = IsTrue (is_name x)

entry_legal : (stated : List LineKind) → Legal stated → LegalName (entry_of stated)
unfolding Legal LegalName
entry_legal stated h = grind arith

kind_ok : (n : ℕ) (stated : List LineKind) (k : Kind) (o : Option (List ℕ)) → LegalName o → kind_fault n stated k o ≡ None → Fits k o
unfolding Fits LegalName is_symbol_name
kind_ok n stated k o h e = grind arith

one_more : (n : ℕ) (stated : List LineKind) (f : LineKind) (later : List LineKind) → Legal stated → line_kind_fault n stated f later ≡ None → Legal (goes_on f stated)
unfolding Legal
one_more n stated f later h e = grind (arith, kind_ok, entry_legal)

all_legal : (n : ℕ) (stated line_kinds : List LineKind) → Legal stated → first_line_kind_fault n stated line_kinds ≡ None → Legal (story_after stated line_kinds)
unfolding first_line_kind_fault story_after
all_legal n stated [] h e = h
all_legal n stated (f ∷ later) h e = search (rules, none_both, one_more, (all_legal (n + 1) (goes_on f stated) later))

declares_legal : (x : List ℕ) (k d : Kind) (o : Option (List ℕ)) (rest : List (List ℕ × Kind)) → Fits d o → lookup (bytes_eq x) (declares d o ++ rest)
    ≡ Some k
    → (lookup (bytes_eq x) rest ≡ Some k → IsTrue (is_symbol_name k x)) → IsTrue (is_symbol_name k x)
unfolding Fits
declares_legal x k d o rest h e later = search (rules, cond-true, cond-false, cases_Bool)

declared_legal : (stated : List LineKind) (x : List ℕ) (k : Kind) → Legal stated → lookup (bytes_eq x) (declarations stated) ≡ Some k → IsTrue (is_symbol_name k x)
unfolding declarations Legal
declared_legal [] x k h e = absurd (cc e)
declared_legal (HasKind d ∷ stated) x k h e = search (rules, declares_legal, (declared_legal stated x k))
declared_legal (f ∷ stated) x k h e = search (rules, (declared_legal stated x k))

story_legal : (text : KconfigText) → kconfig_refusal text ≡ None → Legal (story text)
unfolding kconfig_refusal Legal
story_legal text e = search (rules, cases_Bool, cond-true, cond-false, story_after, story_is, append-nil, Legal, all_legal)

latest : (stated : List LineKind) → Legal stated → IsTrue (is_title (title_in stated))
unfolding title_in Legal is_title
latest [] h = refl
latest (Title t ∷ stated) h = h.0
latest (f ∷ stated) h = search (rules, (latest stated))

-- the title of an accepted text is a title
pub title_is_title : (text : KconfigText) → kconfig_refusal text ≡ None → IsTrue (is_title (title_of text))
unfolding title_of
title_is_title text e = latest (story text) (story_legal text e)

pub chain : {X Y : Type 0} (f : X → Option Y) (o : Option X) (y : Y) → option_and_then f o ≡ Some y → (x : X) × (o ≡ Some x) × (f x ≡ Some y)
chain f o y e = option_and_then_some f o y e (λ x is gives. (x, is, gives))

text_ok : (k : Kind) (w t : List ℕ) → text_of k w ≡ Some t → IsTrue (is_text k t)
text_ok kind.Text w t e = ((reads_are_texts kind.Text w t).0 e).0
text_ok k w t e = search (rules, (reads_are_texts k w t))

-- what holds of an entry that a value gives
IsGiven : Kind → Kind × List ℕ → Type 0
IsGiven k s = (k ≡ s.0) × IsTrue (is_text s.0 s.1) × (is_off s.0 s.1 ≡ false)

gives_text : (k : Kind) (stated : Option Statement) (s : Kind × List ℕ) → gives k stated ≡ Some s → IsGiven k s
unfolding gives IsGiven
gives_text k stated s e = grind (arith, text_ok)

-- what symbols with legal names are set to is a configuration
pub configured : (kinds : List ℕ → Option Kind) (all : List (List ℕ)) (settings : Configuration) → HasSymbolNames kinds
    → ((x : List ℕ) → map.get settings x ≡ setting kinds all x) → IsConfiguration settings
unfolding setting IsGiven
configured kinds all settings names are x s e =
    option_and_then_some _ (kinds x) s (sym (are x) ∙ e) (λ k is known.
    option_and_then_some _ (last_about x all) s known (λ line at gave. search (rules, (gives_text k (statement line) s gave), (names x k is))))

-- accepted texts declare legal names
pub declares_names : (text : KconfigText) → kconfig_refusal text ≡ None → HasSymbolNames (declared text)
unfolding declared
declares_names text none x k e = search (rules, declared_legal, story_legal)

pub settings_are_configurations : SettingsAreConfigurations
settings_are_configurations kconfig dotconfig settings none are = configured (declared kconfig) (lines dotconfig) settings (declares_names kconfig none) are
