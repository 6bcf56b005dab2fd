-- What contracts see of symbols and settings, and what a configuration is.
use Rattle.std.specs.Prelude.{ℕ, List, ◌≡◌, IsTrue, Option, Some, refl, false, map as map_list}
use Rattle.std.specs.Coded.{Coded, code_by, coded_ℕ, coded_list, coded×}
use Rattle.ks_symbols.specs.declared.kinds.Kind.{Kind}
use Rattle.std.specs.Ordering.{nat_cmp}
use Rattle.std.specs.Cmp.Lexicographic.{slice_cmp}
use Rattle.std.specs.Borrow.{Bor}
use Rattle.std.specs.FinMap as map
use Rattle.ks_symbols.specs.Kinds.{is_symbol_name, is_text, is_off, coded_kind}

-- a finite map from names, in byte order
abbrev pub NameMap : Type 0 → Type 0
NameMap X = map.FinMap {K = List ℕ} (slice_cmp nat_cmp) X

-- from names to kinds and texts
abbrev pub Configuration : Type 0
Configuration = NameMap (Kind × List ℕ)

-- the declared symbols with their kinds, and the title
pub record Declarations : Type 0 where
  pub kinds : NameMap Kind
  pub title : List ℕ

abbrev pub coded_declarations : Coded Declarations
coded_declarations =
    code_by (NameMap Kind × List ℕ) (coded× (map.code (coded_list coded_ℕ) coded_kind) (coded_list coded_ℕ))
    (λ d. (d.kinds, d.title)) (λ p. record { kinds = p.0; title = p.1 }) (λ _. refl)

-- the symbols that have a value with their kinds and texts, and how many lines spoke of undeclared names
pub record SettingsView : Type 0 where
  pub entries : Configuration
  pub unknown : ℕ

abbrev pub coded_settings_view : Coded SettingsView
coded_settings_view =
    code_by (Configuration × ℕ) (coded× (map.code (coded_list coded_ℕ) (coded× coded_kind (coded_list coded_ℕ))) coded_ℕ)
    (λ d. (d.entries, d.unknown)) (λ p. record { entries = p.0; unknown = p.1 }) (λ _. refl)

-- the kinds of a table of names with kinds
unfoldable pub kinds_in : NameMap (Kind × List ℕ) → NameMap Kind
kinds_in table = map.from_entries (map_list (λ e. (e.0, e.1.0)) (map.entries table))

-- an entry as it is borrowed
abbrev pub borrowed_entry : Bor (List ℕ) × Kind × Bor (List ℕ) → List ℕ × (Kind × List ℕ)
borrowed_entry e = (e.0.now, (e.1, e.2.now))

-- Each name is that of a symbol of its kind.
abbrev pub HasSymbolNames : (List ℕ → Option Kind) → Type 0
HasSymbolNames kinds = (x : List ℕ) (k : Kind) → kinds x ≡ Some k → IsTrue (is_symbol_name k x)

-- Each name is that of a symbol of its kind, and each text is one of it, and not the n of a bool or tristate.
pub record IsEntry (x : List ℕ) (s : Kind × List ℕ) : Type 0 where
  pub named : IsTrue (is_symbol_name s.0 x)
  pub typed : IsTrue (is_text s.0 s.1)
  pub on : is_off s.0 s.1 ≡ false

abbrev pub IsConfiguration : Configuration → Type 0
IsConfiguration settings = (x : List ℕ) (s : Kind × List ℕ) → map.get settings x ≡ Some s → IsEntry x s
