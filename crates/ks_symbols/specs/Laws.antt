-- Laws: the definitions said in another way.
use Rattle.std.specs.Prelude.{◌≡◌, ◌↔◌, ℕ, IsTrue, List, Some, None}
use Rattle.std.specs.List.{concat, list_all}
use Rattle.std.specs.FinMap as map
use Rattle.bstr.specs.Text.{lines_of}
use Rattle.ks_symbols.specs.declared.kinds.Kind.{Kind}
use Rattle.ks_symbols.specs.Lines.{lines, is_no_line_feed}
use Rattle.ks_symbols.specs.Values.{Reads, text_of}
use Rattle.ks_symbols.specs.Configuration.{IsConfiguration, Configuration}
use Rattle.ks_symbols.specs.Statements.{Statement, Says, statement}
use Rattle.ks_symbols.specs.DotConfig.{setting}
use Rattle.ks_symbols.specs.Dialects.{KconfigText}
use Rattle.ks_symbols.specs.Kconfig.{declared, kconfig_refusal}

-- The lines of a text with their ends, joined, are the text, ..
abbrev pub LinesJoinToTheText : Type 0
LinesJoinToTheText = (text : List ℕ) → concat (lines_of text) ≡ text

-- .. and without their ends none holds a line feed.
abbrev pub NoLineHoldsALineFeed : Type 0
NoLineHoldsALineFeed = (text : List ℕ) → IsTrue (list_all (list_all is_no_line_feed) (lines text))

-- A written value has the text that it reads as, and no other.
abbrev pub ReadsAreTexts : Type 0
ReadsAreTexts = (k : Kind) (written text : List ℕ) → (text_of k written ≡ Some text) ↔ Reads k written text

-- A line says what it spells, and nothing else.
abbrev pub StatementsAreSpelled : Type 0
StatementsAreSpelled = (line : List ℕ) (stated : Statement) → (statement line ≡ Some stated) ↔ Says line stated

-- Two configurations that agree at each name are one.
abbrev pub AgreeingIsBeingOne : Type 0
AgreeingIsBeingOne = (first second : Configuration) → ((x : List ℕ) → map.get first x ≡ map.get second x) → first ≡ second

-- What two texts without a fault set is a configuration.
abbrev pub SettingsAreConfigurations : Type 0
SettingsAreConfigurations =
    (kconfig : KconfigText) (dotconfig : List ℕ) (settings : Configuration) → kconfig_refusal kconfig ≡ None
    → ((x : List ℕ) → map.get settings x ≡ setting (declared kconfig) (lines dotconfig) x) → IsConfiguration settings
