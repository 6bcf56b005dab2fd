-- The names whose entries or companions differ between an old auto.conf and new settings (conf_touch_deps of scripts/kconfig/confdata.c;
-- that classes and companions count and that the names rise are rules of this project).
use Rattle.std.specs.Prelude.{◌≡◌, ℕ, Bool, true, false, not, ◌&&◌, ◌||◌, ◌==◌, List, ◌++◌, length, bytes_eq, Option, Some, None, option_map}
use Rattle.std.specs.Ordering.{nat_cmp}
use Rattle.std.specs.Cmp.Lexicographic.{slice_cmp}
use Rattle.std.specs.Option.{option_eq}
use Rattle.std.specs.FinMap as map
use Rattle.std.specs.List.Sorted.{IsStrictlySortedBy}
use Rattle.ks_symbols.specs.declared.kinds.Kind.{Kind}
use Rattle.ks_symbols.specs.declared.kinds.Class.{Class}
use Rattle.ks_symbols.specs.Kinds.{class_of, class_number}
use Rattle.ks_symbols.specs.Names.{is_in, module_end}
use Rattle.ks_symbols.specs.Configuration.{Configuration}
use Rattle.ks_output.specs.OldConfig.{Texts, as_companion}

-- What of an entry counts: its class and its text
abbrev pub compared : Kind × List ℕ → Option Class × List ℕ
compared s = (Some (class_of s.0), s.1)

abbrev pub same_class : Option Class → Option Class → Bool
same_class a b = option_eq (λ k l. class_number k == class_number l) a b

-- whether two of them differ; one without a class differs from each that has one
abbrev pub unlike : Option Class × List ℕ → Option Class × List ℕ → Bool
unlike t u = not (same_class t.0 u.0 && bytes_eq t.1 u.1)

abbrev pub differ : Option (Option Class × List ℕ) → Option (Option Class × List ℕ) → Bool
differ None None = false
differ (Some t) (Some u) = unlike t u
differ t u = true

-- Whether a name has a text in one of the two alone, or two that differ
abbrev pub entry_differs : Texts → Configuration → List ℕ → Bool
entry_differs old new x = differ (map.get old x) (option_map compared (map.get new x))

-- .. and the same as companions
abbrev pub companion_differs : Texts → Configuration → List ℕ → Bool
companion_differs old new x = differ (as_companion (map.get old x)) (as_companion (option_map compared (map.get new x)))

-- Whether a name's entry differs, or its companion's
unfoldable pub differs : Texts → Configuration → List ℕ → Bool
differs old new x = entry_differs old new x || (not (length x == 0) && companion_differs old new (x ++ module_end))

-- The names that differ, rising, each once
pub record AreChanges (old : Texts) (new : Configuration) (names : List (List ℕ)) : Type 0 where
  pub rising : IsStrictlySortedBy (slice_cmp nat_cmp) names
  pub each : (x : List ℕ) → is_in names x ≡ differs old new x
