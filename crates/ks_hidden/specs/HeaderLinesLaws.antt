-- Laws of the lines that a configuration explains: they are those that confstamp writes of its entries, and neither confstamp nor conf writes
-- any other.
use Rattle.std.specs.Prelude.{◌≡◌, ◌↔◌, ℕ, Bool, true, false, List, ◌++◌, codes, Some, None, IsTrue}
use Rattle.std.specs.List.{AllByRecursion}
use Rattle.std.specs.FinMap as map
use Rattle.ks_symbols.specs.declared.dialect.Dialect.{Dialect}
use Rattle.ks_symbols.specs.declared.kinds.Class.{Class}
use Rattle.ks_symbols.specs.declared.kinds.Kind.{Kind}
use Rattle.ks_symbols.specs.Kinds.{class_of, is_text}
use Rattle.ks_symbols.specs.Titles.{is_title}
use Rattle.ks_symbols.specs.Configuration.{Configuration, IsConfiguration, IsEntry}
use Rattle.ks_output.specs.Header.{definition_line, header_text}
use Rattle.ks_output.specs.OldConfig.{HasNames, Texts, texts_of}
use Rattle.ks_output.specs.WrittenLaws.{Entries, conf_header}
use Rattle.ks_hidden.specs.HeaderLines.{kind_for, is_of_entry, foreign_line, lacks}

-- A line is what confstamp writes of an entry with a class, but for its LF.
pub record IsDefinitionIn (texts : Texts) (line : List ℕ) : Type 0 where
  pub name : List ℕ
  pub of : Class
  pub text : List ℕ
  pub entry : map.get texts name ≡ Some (Some of, text)
  pub spelled : line ++ codes "\n" ≡ definition_line name (kind_for of) text

-- The test of a line finds what the relation says.
abbrev pub EntriesExplainDefinitions : Type 0
EntriesExplainDefinitions = (texts : Texts) (line : List ℕ) → HasNames texts → (is_of_entry texts line ≡ true) ↔ IsDefinitionIn texts line

-- Kinds of one class are defined alike.
abbrev pub ClassesAreDefinedAlike : Type 0
ClassesAreDefinedAlike =
    (k : Kind) (name text : List ℕ) → IsTrue (is_text k text) → definition_line name k text ≡ definition_line name (kind_for (class_of k)) text

-- The header that confstamp writes of a configuration has no foreign line, ..
abbrev pub WrittenIsExplained : Type 0
WrittenIsExplained =
    (d : Dialect) (title : List ℕ) (settings : Configuration) → IsTrue (is_title title) → IsConfiguration settings
    → foreign_line d (texts_of settings) (header_text title settings) ≡ None

-- .. and so has one that conf writes of some of its entries, under either heading and in any order.
abbrev pub ConfIsExplained : Type 0
ConfIsExplained =
    (d : Dialect) (older : Bool) (title : List ℕ) (settings : Configuration) (es : Entries) → IsTrue (is_title title) → IsConfiguration settings
    → AllByRecursion (λ e. map.get settings e.0 ≡ Some e.1) es → foreign_line d (texts_of settings) (conf_header older title es) ≡ None

-- The header that confstamp writes of a configuration lacks none of its definitions, ..
abbrev pub WrittenLacksNone : Type 0
WrittenLacksNone =
    (title : List ℕ) (settings : Configuration) → IsTrue (is_title title) → IsConfiguration settings
    → lacks (texts_of settings) (header_text title settings) ≡ false

-- .. and one that conf writes of some entries lacks none of theirs.
abbrev pub ConfLacksNone : Type 0
ConfLacksNone =
    (older : Bool) (title : List ℕ) (es : Entries) → IsTrue (is_title title) → AllByRecursion (λ e. IsEntry e.0 e.1) es
    → lacks (texts_of (map.from_entries es)) (conf_header older title es) ≡ false
