-- The values that a `.config` writes, by the places of their symbols in the order of names. `DotConfig` says what a whole text means.
use Rattle.std.specs.Prelude.{ℕ, List, [], ◌∷◌, Option, Some, None, refl}
use Rattle.std.specs.Coded.{Coded, code_by, coded_ℕ, coded_list, coded×}
use Rattle.std.specs.FinMap as map
use Rattle.ks_symbols.specs.declared.kinds.Kind.{Kind}
use Rattle.ks_symbols.specs.Kinds.{coded_kind}
use Rattle.ks_symbols.specs.Values.{text_of}
use Rattle.ks_symbols.specs.DotConfig.{entry_with}
use Rattle.ks_symbols.specs.Configuration.{NameMap, Configuration}
use Rattle.ks_symbols.specs.Table.{with_entry}

-- what a symbol of a kind has by the value that was written for it last, if one was
abbrev pub given : Kind → Option (List ℕ) → Option (Kind × List ℕ)
given k None = None
given k (Some written) = entry_with k (text_of k written)

-- the entries of symbols that have something by the values at their places
unfoldable pub indexed : List (List ℕ × Kind) → List (Option (List ℕ)) → List (List ℕ × (Kind × List ℕ))
indexed [] values = []
indexed (e ∷ es) [] = []
indexed (e ∷ es) (v ∷ values) = with_entry e.0 (given e.1 v) (indexed es values)

-- the declared symbols with their kinds, what they have by the lines so far, and how many of these spoke of undeclared names
pub record WrittenView : Type 0 where
  pub kinds : NameMap Kind
  pub entries : Configuration
  pub unknown : ℕ

abbrev pub coded_written_view : Coded WrittenView
coded_written_view =
    code_by (NameMap Kind × (Configuration × ℕ))
    (coded× (map.code (coded_list coded_ℕ) coded_kind) (coded× (map.code (coded_list coded_ℕ) (coded× coded_kind (coded_list coded_ℕ))) coded_ℕ))
    (λ d. (d.kinds, (d.entries, d.unknown))) (λ p. record { kinds = p.0; entries = p.1.0; unknown = p.1.1 }) (λ _. refl)
