-- What contracts see of an auto.conf that was read, and what an auto.conf keeps of a configuration.
use Rattle.std.specs.Prelude.{◌≡◌, ◌==◌, ℕ, List, ◌++◌, length, map as map_list, Option, Some, None, IsTrue, refl, if◌then◌else◌}
use Rattle.std.specs.Option.{option_and_then}
use Rattle.std.specs.Borrow.{Bor}
use Rattle.std.specs.FinMap as map
use Rattle.std.specs.Coded.{Coded, code_by, coded_ℕ, coded_list, coded_option, coded×}
use Rattle.ks_symbols.specs.declared.kinds.Kind.{Kind}
use Rattle.ks_symbols.specs.declared.kinds.Class.{Class}
use Rattle.ks_symbols.specs.declared.kinds.Class.TheVariants as class
use Rattle.ks_symbols.specs.Kinds.{class_of, coded_class}
use Rattle.ks_symbols.specs.Names.{is_name, module_end}
use Rattle.ks_symbols.specs.Configuration.{NameMap, Configuration}

-- texts with their classes, of which the untyped form has none
abbrev pub Texts : Type 0
Texts = NameMap (Option Class × List ℕ)

-- the names with their texts, and the generation
pub record OldTexts : Type 0 where
  pub texts : Texts
  pub generation : ℕ

abbrev pub coded_text : Coded (Option Class × List ℕ)
coded_text = coded× (coded_option coded_class) (coded_list coded_ℕ)

abbrev pub coded_old_texts : Coded OldTexts
coded_old_texts =
    code_by (Texts × ℕ) (coded× (map.code (coded_list coded_ℕ) coded_text) coded_ℕ)
    (λ d. (d.texts, d.generation)) (λ p. record { texts = p.0; generation = p.1 }) (λ _. refl)

-- What counts of an entry whose name ends in _MODULE for the name without that: the macro of a flag begins otherwise, and is no module's.
abbrev pub as_companion : Option (Option Class × List ℕ) → Option (Option Class × List ℕ)
as_companion (Some (Some class.Flag, text)) = None
as_companion entry = entry

-- What texts say of a name: its entry, and that of its companion, a bool with the macro of the name's module
unfoldable pub about : Texts → List ℕ → Option (Option Class × List ℕ) × Option (Option Class × List ℕ)
about texts x = (map.get texts x, if length x == 0 then None else as_companion (map.get texts (x ++ module_end)))

-- an entry as it is borrowed
abbrev pub borrowed_old_entry : Bor (List ℕ) × Option Class × Bor (List ℕ) → List ℕ × (Option Class × List ℕ)
borrowed_old_entry e = (e.0.now, (e.1, e.2.now))

-- the class of a name, if it has a text and that a class
abbrev pub class_in : Texts → List ℕ → Option Class
class_in texts name = option_and_then (λ t. t.0) (map.get texts name)

-- Each name is legal.
abbrev pub HasNames : Texts → Type 0
HasNames texts = (x : List ℕ) (t : Option Class × List ℕ) → map.get texts x ≡ Some t → IsTrue (is_name x)

-- What an auto.conf keeps of an entry: its class and its text
abbrev pub kept : Kind × List ℕ → Option Class × List ℕ
kept s = (Some (class_of s.0), s.1)

-- .. and so of a configuration
unfoldable pub texts_of : Configuration → Texts
texts_of settings = map.from_entries (map_list (λ e. (e.0, kept e.1)) (map.entries settings))
