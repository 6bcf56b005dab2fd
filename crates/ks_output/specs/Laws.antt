-- Laws of auto.conf: the last line of a name counts, and what is written of a configuration reads back.
use Rattle.std.specs.Prelude.{◌≡◌, ◌≤◌, ◌<◌, ◌^◌, ℕ, nat_eq, List, ◌++◌, codes, length, drop, find, reverse, None, IsTrue, option_map, false}
use Rattle.std.specs.List.{starts_with}
use Rattle.std.specs.FinMap as map
use Rattle.ks_symbols.specs.Names.{is_name}
use Rattle.ks_symbols.specs.Lines.{lines, max_bytes}
use Rattle.ks_symbols.specs.Titles.{is_title}
use Rattle.ks_symbols.specs.Configuration.{IsConfiguration, Configuration}
use Rattle.ks_output.specs.AutoText.{auto_text, generation_line}
use Rattle.ks_output.specs.AutoLines.{remarks}
use Rattle.ks_output.specs.AutoConf.{is_typed, auto_map, auto_generation, auto_fault, auto_refusal}
use Rattle.ks_output.specs.OldConfig.{HasNames, class_in, kept, texts_of}

-- how a line begins that gives a name its text
abbrev pub beginning : List ℕ → List ℕ
beginning name = codes "CONFIG_" ++ name ++ codes "="

-- The text of a legal name is the rest of the last line that begins so.
abbrev pub LastLineCounts : Type 0
LastLineCounts =
    (text name : List ℕ) → IsTrue (is_name name)
    → option_map (λ t. t.1) (map.get (auto_map text) name) ≡ option_map (drop (length (beginning name)))
    (find (λ line. starts_with nat_eq line (beginning name)) (reverse (lines text)))

-- In an untyped file no name has a class.
abbrev pub UntypedHasNoClass : Type 0
UntypedHasNoClass = (text name : List ℕ) → is_typed (remarks text) ≡ false → class_in (auto_map text) name ≡ None

-- A generation that is read is below 2 ^ 64.
abbrev pub GenerationFits : Type 0
GenerationFits = (text : List ℕ) → auto_generation text < 2 ^ 64

-- What holds of each auto.conf that is written
abbrev pub OfWritten : (List ℕ → Configuration → ℕ → Type 0) → Type 0
OfWritten P =
    (title : List ℕ) (settings : Configuration) (g : ℕ) → IsTrue (is_title title) → IsConfiguration settings → g < 2 ^ 64 → P title settings g

-- It gives the texts back with their classes, ..
abbrev pub TextsReadBack : Type 0
TextsReadBack = OfWritten (λ title settings g. auto_map (auto_text title settings g) ≡ texts_of settings)

-- .. the generation, ..
abbrev pub GenerationReadsBack : Type 0
GenerationReadsBack = OfWritten (λ title settings g. auto_generation (auto_text title settings g) ≡ g)

-- .. has no faulty line, ..
abbrev pub HasNoFault : Type 0
HasNoFault = OfWritten (λ title settings g. auto_fault (auto_text title settings g) ≡ None)

-- .. and is not refused, unless it is too large.
abbrev pub IsAccepted : Type 0
IsAccepted = OfWritten (λ title settings g. length (auto_text title settings g) ≤ max_bytes → auto_refusal (auto_text title settings g) ≡ None)

-- An auto.conf that is the line of a generation alone is accepted, says that generation, and nothing of any name.
abbrev pub NumberAloneReadsBack : Type 0
NumberAloneReadsBack = (g : ℕ) → g < 2 ^ 64
    → (auto_refusal (generation_line g) ≡ None) × (auto_generation (generation_line g) ≡ g) × (auto_map (generation_line g) ≡ map.empty)

-- The texts of a configuration are those of its entries, with their classes and under legal names.
abbrev pub TextsAreOfEntries : Type 0
TextsAreOfEntries = (settings : Configuration) (x : List ℕ) → map.get (texts_of settings) x ≡ option_map kept (map.get settings x)

abbrev pub TextsHaveNames : Type 0
TextsHaveNames = (settings : Configuration) → IsConfiguration settings → HasNames (texts_of settings)
