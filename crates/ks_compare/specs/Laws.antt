-- Laws of the changes: there is one list of them, of legal names, and what did not change is defined alike.
use Rattle.std.specs.Prelude.{◌≡◌, ◌↔◌, ℕ, true, false, ◌&&◌, ◌||◌, ◌==◌, not, List, [], ◌++◌, length, is_some, option_map, IsTrue}
use Rattle.std.specs.FinMap as map
use Rattle.ks_symbols.specs.Names.{is_name, is_in, module_end}
use Rattle.ks_symbols.specs.Titles.{is_title}
use Rattle.ks_symbols.specs.Configuration.{IsConfiguration, Configuration}
use Rattle.ks_output.specs.OldConfig.{Texts, HasNames, about, as_companion, kept, texts_of}
use Rattle.ks_output.specs.Header.{header_text}
use Rattle.ks_output.specs.Definitions.{definitions}
use Rattle.ks_compare.specs.Changes.{differs, AreChanges}

-- Two maps have changes, ..
abbrev pub ChangesExist : Type 0
ChangesExist = (old : Texts) (new : Configuration) → (names : List (List ℕ)) × AreChanges old new names

-- .. in one list only, ..
abbrev pub ChangesAreOne : Type 0
ChangesAreOne =
    (old : Texts) (new : Configuration) (names others : List (List ℕ)) → AreChanges old new names → AreChanges old new others → names ≡ others

-- .. and each changed name is legal.
abbrev pub ChangesAreLegal : Type 0
ChangesAreLegal =
    (old : Texts) (new : Configuration) (names : List (List ℕ)) → HasNames old → IsConfiguration new → AreChanges old new names
    → (x : List ℕ) → is_in names x ≡ true → IsTrue (is_name x)

-- Against no texts at all a name changes that a configuration has, or whose companion it has; against its own texts none does.
abbrev pub FirstChangesAreNames : Type 0
FirstChangesAreNames =
    (settings : Configuration) (x : List ℕ)
    → differs map.empty settings x
    ≡ (map.contains_key settings x
    || (not (length x == 0) && is_some (as_companion (option_map kept (map.get settings (x ++ module_end))))))

abbrev pub NothingChanges : Type 0
NothingChanges = (settings : Configuration) → AreChanges (texts_of settings) settings []

-- A name that does not differ has, in the old auto.conf, what the next one keeps of it, and so has its companion.
abbrev pub UnchangedIsKept : Type 0
UnchangedIsKept =
    (old : Texts) (new : Configuration) (x : List ℕ) → (differs old new x ≡ false) ↔ (about old x ≡ about (texts_of new) x)

-- .. and the two headers define it by the same lines.
abbrev pub UnchangedIsDefinedAlike : Type 0
UnchangedIsDefinedAlike =
    (title later : List ℕ) (old new : Configuration) → IsTrue (is_title title) → IsTrue (is_title later) → IsConfiguration old → IsConfiguration new
    → (x : List ℕ) → differs (texts_of old) new x ≡ false → definitions x (header_text title old) ≡ definitions x (header_text later new)
