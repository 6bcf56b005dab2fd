-- Laws of the header: it defines each name by its entry and its companion's alone.
use Rattle.std.specs.Prelude.{◌≡◌, ◌↔◌, ℕ, Bool, true, false, List, [], ◌∷◌, ◌++◌, Option, Some, None, IsTrue, if◌then◌else◌}
use Rattle.std.specs.FinMap as map
use Rattle.ks_symbols.specs.declared.kinds.Kind.{Kind}
use Rattle.ks_symbols.specs.declared.kinds.Kind.TheVariants as kind
use Rattle.ks_symbols.specs.Names.{module_end}
use Rattle.ks_symbols.specs.Titles.{is_title}
use Rattle.ks_symbols.specs.Configuration.{IsConfiguration, Configuration}
use Rattle.ks_output.specs.OldConfig.{about, texts_of}
use Rattle.ks_output.specs.Header.{header_text, defined_as, front}
use Rattle.ks_output.specs.Definitions.{Defines, defines, definitions}

-- The test of a line finds what the relation says.
abbrev pub DefinitionsAreLines : Type 0
DefinitionsAreLines = (name line : List ℕ) → (defines name line ≡ true) ↔ Defines name line

-- A companion has the macro of another name's module, and none of its own.
abbrev pub is_companion : Kind → Bool
is_companion kind.Companion = true
is_companion k = false

-- the definition that the entry of a name has, if there is one
abbrev pub definition_of : List ℕ → Option (Kind × List ℕ) → List (List ℕ)
definition_of name None = []
definition_of name (Some s) = if is_companion s.0 then [] else ((front s.0 ++ name ++ defined_as s.0 s.1) ∷ [])

-- .. and that of the entry under the name and _MODULE, if that is a companion
abbrev pub companion_of : List ℕ → Option (Kind × List ℕ) → List (List ℕ)
companion_of name None = []
companion_of name (Some s) = if is_companion s.0 then ((front s.0 ++ (name ++ module_end) ++ defined_as s.0 s.1) ∷ []) else []

-- The header defines each name by its entry and its companion's alone.
abbrev pub DefinitionsAreOfEntries : Type 0
DefinitionsAreOfEntries =
    (title : List ℕ) (settings : Configuration) → IsTrue (is_title title) → IsConfiguration settings
    → (x : List ℕ) → definitions x (header_text title settings) ≡ definition_of x (map.get settings x) ++ companion_of x (map.get settings (x ++ module_end))

-- Where a name's texts and their classes are the same, and its companion's, two headers define it by the same lines.
abbrev pub AlikeIsDefinedAlike : Type 0
AlikeIsDefinedAlike =
    (title later : List ℕ) (old new : Configuration) → IsTrue (is_title title) → IsTrue (is_title later) → IsConfiguration old → IsConfiguration new
    → (x : List ℕ) → about (texts_of old) x ≡ about (texts_of new) x → definitions x (header_text title old) ≡ definitions x (header_text later new)
