-- What reading and writing a command file come to.
use Rattle.std.specs.Prelude.{◌≡◌, ℕ, List, Ok, Err}
use Rattle.ks_fixdep.specs.CommandLines.{lines}
use Rattle.ks_fixdep.specs.CommandFile.{CommandRecord, IsLegal, command_text}
use Rattle.ks_fixdep.specs.CommandReads.{CommandReads, IsFirstMisfit}
use Rattle.ks_fixdep.specs.CommandReading.{reading}

-- what is written of a command file is a text of it, and reads as it
abbrev pub WrittenReads : Type 0
WrittenReads = (f : CommandRecord) → IsLegal f → CommandReads (command_text f) f

abbrev pub ReadsBack : Type 0
ReadsBack = (f : CommandRecord) → IsLegal f → reading (command_text f) ≡ Ok f

-- what is read fits the layout line by line
abbrev pub ReadFits : Type 0
ReadFits = (text : List ℕ) (f : CommandRecord) → reading text ≡ Ok f → CommandReads text f

-- what fits is read
abbrev pub FitsRead : Type 0
FitsRead = (text : List ℕ) (f : CommandRecord) → CommandReads text f → reading text ≡ Ok f

-- a refusal names the first line that does not fit
abbrev pub RefusedAtFirst : Type 0
RefusedAtFirst = (text : List ℕ) (n : ℕ) → reading text ≡ Err n → IsFirstMisfit (lines text) n
