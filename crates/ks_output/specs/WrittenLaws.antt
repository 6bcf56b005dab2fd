-- Laws of what conf wrote: the header that confstamp writes of it defines each name as the header that was read does, and each pair that
-- conf can write is accepted, and gives each name its text and its class.
use Rattle.std.specs.Prelude.{◌≡◌, ◌≤◌, ℕ, Bool, true, false, List, ◌++◌, map as map_list, flat_map, length, bytes_eq, IsTrue, Ok, if◌then◌else◌}
use Rattle.std.specs.List.{AllByRecursion, IsDistinct}
use Rattle.std.specs.FinMap as map
use Rattle.ks_symbols.specs.declared.kinds.Kind.{Kind}
use Rattle.ks_symbols.specs.declared.kinds.Kind.TheVariants as kind
use Rattle.ks_symbols.specs.Kinds.{is_text}
use Rattle.ks_symbols.specs.Values.{quoted}
use Rattle.ks_symbols.specs.Titles.{is_title}
use Rattle.ks_symbols.specs.Lines.{max_bytes}
use Rattle.ks_symbols.specs.Configuration.{IsConfiguration, IsEntry, Configuration}
use Rattle.ks_output.specs.AutoText.{entry_line}
use Rattle.ks_output.specs.OldConfig.{texts_of}
use Rattle.ks_output.specs.Header.{header_heading, header_text, definition_line, definition_lines}
use Rattle.ks_output.specs.Definitions.{definitions}
use Rattle.ks_output.specs.Written.{conf_heading, older_heading, title_in, written}

-- What holds of each pair that is accepted
abbrev pub OfAccepted : (List ℕ → List ℕ → Configuration → Type 0) → Type 0
OfAccepted P = (auto header : List ℕ) (settings : Configuration) → written auto header ≡ Ok settings → P auto header settings

-- It means a configuration, and has a title.
abbrev pub AcceptedIsConfiguration : Type 0
AcceptedIsConfiguration = OfAccepted (λ auto header settings. IsTrue (is_title (title_in auto)) × IsConfiguration settings)

-- The header that is written of it defines each name in the same bytes as the header that was read.
abbrev pub HeadersDefineAlike : Type 0
HeadersDefineAlike = OfAccepted (λ auto header settings. (x : List ℕ) → definitions x header ≡ definitions x (header_text (title_in auto) settings))

-- What conf writes: a line for each symbol, in whatever order it has them (print_symbol_for_autoconf and print_symbol_for_c of
-- scripts/kconfig/confdata.c)
abbrev pub Entries : Type 0
Entries = List (List ℕ × (Kind × List ℕ))

abbrev pub conf_auto : List ℕ → Entries → List ℕ
conf_auto title es = conf_heading title ++ flat_map (λ e. entry_line e.0 e.1.1) es

-- .. under the heading of Linux, or the older one of U-Boot and Xen
abbrev pub conf_header : Bool → List ℕ → Entries → List ℕ
conf_header older title es = (if older then older_heading title else header_heading title) ++ definition_lines es

-- the kinds of its symbols: a bool that is on and whose name ends in _MODULE is a companion, and an int or hex without a value has a kind of
-- its own; a flag is BusyBox's, whose conf writes no auto.conf
abbrev pub is_of_conf : Kind → Bool
is_of_conf kind.Flag = false
is_of_conf k = true

-- Each symbol has a legal name, a kind of these and a text of this kind that isn't n, and each name stands once.
pub record AreOfConf (es : Entries) : Type 0 where
  pub entries : AllByRecursion (λ e. IsTrue (is_of_conf e.1.0) × IsEntry e.0 e.1) es
  pub once : IsDistinct bytes_eq (map_list (λ e. e.0) es)

-- Such a pair is accepted, if it isn't too large, and gives the title, and each name its text and its class.
abbrev pub ConfIsAccepted : Type 0
ConfIsAccepted =
    (older : Bool) (title : List ℕ) (es : Entries) → IsTrue (is_title title) → AreOfConf es
    → length (conf_auto title es) ≤ max_bytes → length (conf_header older title es) ≤ max_bytes
    → (settings : Configuration) × (written (conf_auto title es) (conf_header older title es) ≡ Ok settings)
    × (title_in (conf_auto title es) ≡ title) × (texts_of settings ≡ texts_of (map.from_entries es))

-- Up to Linux 5.16 a string stands in auto.conf as it does in the header: the text of a Raw, which the header defines as it does the string.
abbrev pub QuotedIsRaw : Type 0
QuotedIsRaw =
    (name text : List ℕ) → IsTrue (is_text kind.Text text)
    → IsTrue (is_text kind.Raw (quoted text)) × (definition_line name kind.Raw (quoted text) ≡ definition_line name kind.Text text)
