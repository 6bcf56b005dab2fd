-- What other programs do to the files of a tree between two runs of the program, and which history these show then.
use Rattle.std.specs.Prelude.{◌≡◌, ◌<◌, ◌+◌, ℕ, List, Option, Some, Ok, Bool, true, false, if◌then◌else◌, IsTrue}
use Rattle.std.specs.List.{All}
use Rattle.std.specs.FinMap.{empty}
use Rattle.ks_symbols.specs.Configuration.{Configuration}
use Rattle.ks_symbols.specs.Names.{is_name, is_in, header_path}
use Rattle.ks_compare.specs.Changes.{differs}
use Rattle.ks_tree.specs.Files.{Files, content}
use Rattle.ks_tree.specs.Paths.{auto_path, stamp_path, command_path}
use Rattle.ks_tree.specs.Stamps.{HasNumber, stamp_text}
use Rattle.ks_engine.specs.History.{History, Begun, Broken, LastRecord, before, done}
use Rattle.ks_engine.specs.LastSync.{OldAuto, old_auto}
use Rattle.ks_engine.specs.Legal.{Defines, IsLegalSync}
use Rattle.ks_engine.specs.Repairs.{IsNumbered, IsRepaired as IsRepairedTree, PutsBack}
use Rattle.ks_engine.specs.Shows.{Shows, IsCommandFile, stamp}
use Rattle.ks_engine.specs.declared.repairing.Kept.{Kept}
use Rattle.ks_engine.specs.declared.repairing.Repaired.TheVariants.{BegunAgain}
use Rattle.ks_parallel.specs.Views.{without}

-- auto.conf and the header are as before, each stamp has the number that it had, and each command file says what it said, but those of these objects,
-- which may be gone, or be anybody's. All other files may be any: sources, objects, dependency files, `.config`.
pub record SaysTheSame (gone : List ℕ → Bool) (old new : Files) : Type 0 where
  pub auto : content new auto_path ≡ content old auto_path
  pub header : content new header_path ≡ content old header_path
  pub stamps : (x : List ℕ) (n : ℕ) → IsTrue (is_name x) → HasNumber (content old (stamp_path x)) n → HasNumber (content new (stamp_path x)) n
  pub commands : (o : List ℕ) (r : LastRecord) (b : List ℕ) → gone o ≡ false → content old (command_path o) ≡ Some b → IsCommandFile o r b
      → (now : List ℕ) × (content new (command_path o) ≡ Some now) × IsCommandFile o r now

-- Compilers, editors, `rm x.o`, what Kbuild appends to a command file, a stamp of 0 in the place of an empty one: the history stays.
abbrev pub OthersMayWrite : Type 0
OthersMayWrite = (h : History) (old new : Files) → Shows old h → SaysTheSame (λ o. false) old new → Shows new h

-- `make clean`, `rm .x.o.cmd`, another tool's fixdep: the records of these objects are none any more.
abbrev pub LostRecordsAreLeftOut : Type 0
LostRecordsAreLeftOut = (h : History) (gone : List ℕ → Bool) (old new : Files) → Shows old h → SaysTheSame gone old new → Shows new (without gone h)

-- Another tool synchronised, and it is repaired: auto.conf is what it was, the header defines what the other tool's configuration does, and each name
-- that this one sets otherwise than auto.conf has a stamp of the next number. What it compiled has no record any more.
pub record IsRepaired (gone : List ℕ → Bool) (title : List ℕ) (config : Configuration) (renewed : List (List ℕ)) (old new : Files) : Type 0 where
  pub last : OldAuto
  pub read : old_auto (content old auto_path) ≡ Ok last
  pub headroom : last.generation < 18446744073709551615
  pub legal : IsLegalSync title config
  pub each : (x : List ℕ) → is_in renewed x ≡ differs last.texts config x
  pub auto : content new auto_path ≡ content old auto_path
  pub header : (b : List ℕ) × (content new header_path ≡ Some b) × Defines b title config
  pub stamps : (x : List ℕ) → IsTrue (is_name x) → content new (stamp_path x)
      ≡ (if is_in renewed x then Some (stamp_text (last.generation + 1)) else content old (stamp_path x))
  pub commands : (o : List ℕ) → gone o ≡ false → content new (command_path o) ≡ content old (command_path o)

-- A foreign synchronisation, once repaired, is one that was broken off behind its header. So all that is proved of breaks holds of it.
abbrev pub RepairsAreBreaks : Type 0
RepairsAreBreaks =
    (h : History) (gone : List ℕ → Bool) (title : List ℕ) (config : Configuration) (renewed : List (List ℕ)) (old new : Files) → Shows old h
    → IsRepaired gone title config renewed old new → Shows new (Broken title config renewed (without gone h))

-- What another tool leaves before `confstamp repair` runs: each stamp but the lost ones says what it said, and so does each command file, but those
-- of these objects. auto.conf and the header may be any.
pub record LeavesTraces (gone : List ℕ → Bool) (lost : List (List ℕ)) (old found : Files) : Type 0 where
  pub stamps : (x : List ℕ) (n : ℕ) → IsTrue (is_name x) → is_in lost x ≡ false → HasNumber (content old (stamp_path x)) n → HasNumber (content found (stamp_path x)) n
  pub commands : (o : List ℕ) (r : LastRecord) (b : List ℕ) → gone o ≡ false → content old (command_path o) ≡ Some b → IsCommandFile o r b
      → (now : List ℕ) × (content found (command_path o) ≡ Some now) × IsCommandFile o r now

-- What was kept is the auto.conf and the header that stood here.
pub record IsCopyOf (old : Files) (k : Kept) : Type 0 where
  pub auto : content old auto_path ≡ Some k.auto.items
  pub header : content old header_path ≡ Some k.header.items

-- What `confstamp repair` puts back is a synchronisation that was broken off among the lost stamps, by each configuration that differs in these names.
abbrev pub PutBackIsShown : Type 0
PutBackIsShown =
    (h : History) (gone : List ℕ → Bool) (title : List ℕ) (config : Configuration) (old found new : Files) (kept : Option Kept) (names targets : List (List ℕ))
    (generation count : ℕ) (puts : PutsBack found new kept names targets generation count) → Shows old h → IsCopyOf old puts.k → LeavesTraces gone puts.lost old found
    → IsLegalSync title config → ((x : List ℕ) → is_in puts.lost x ≡ true → differs (before h) config x ≡ true)
    → Shows new (Broken title config puts.lost (without gone h))

-- Whatever happened in a tree, its files also show the history that begins now: so what is recorded after the next synchronisation is judged exactly.
abbrev pub TreesBeginAgain : Type 0
TreesBeginAgain = (h : History) (files : Files) → Shows files h → Shows files (Begun (before h) (done h) (stamp h))

-- What `confstamp repair` leaves where numbers were lost shows the history that begins then, and no record of these objects has a number. The premise: only
-- these names have a stamp with a number.
abbrev pub LostNumbersBeginAgain : Type 0
LostNumbersBeginAgain =
    (old new : Files) (kept : Option Kept) (names targets : List (List ℕ)) (generation : ℕ) → IsRepairedTree old new kept names targets (BegunAgain generation)
    → ((x : List ℕ) → IsTrue (is_name x) → is_in names x ≡ false → HasNumber (content old (stamp_path x)) 0)
    → Shows new (Begun empty generation (λ x. if is_in names x then generation else 0)) × All (λ o. IsNumbered new o → ⊥) targets
