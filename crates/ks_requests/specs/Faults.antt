-- The texts of refusals, as users see them: a number, a name and the place.
use Rattle.std.specs.Prelude.{if◌then◌else◌, ℕ, List, [], ◌++◌, Option, Some, None, bytes_eq, codes, decimal}
use Rattle.std.specs.Char.{is_ascii_digit}
use Rattle.std.specs.List.{take_while}
use Rattle.ks_errors.specs.Errors.{Texts, error_of, hint, seen, title_of}
use Rattle.ks_symbols.specs.declared.error.SourceError.{SourceError}
use Rattle.ks_symbols.specs.declared.error.SourceError.TheVariants as source
use Rattle.ks_output.specs.declared.written.WrittenError.{WrittenError}
use Rattle.ks_output.specs.declared.written.WrittenError.TheVariants as written
use Rattle.ks_hidden.specs.declared.hidden.Hidden.{Hidden}
use Rattle.ks_hidden.specs.declared.hidden.Hidden.TheVariants as hidden
use Rattle.ks_engine.specs.declared.error.EngineError.{EngineError}
use Rattle.ks_engine.specs.declared.error.EngineError.TheVariants as engine
use Rattle.ks_requests.specs.declared.refusal.Refusal.{Refusal}
use Rattle.ks_requests.specs.declared.refusal.Refusal.TheVariants.{Engine, Hidden as OfHidden, BadScript, Output}
use Rattle.ks_requests.specs.declared.faults.FaultText.{FaultText}
use Rattle.ks_requests.specs.declared.faults.FaultPlace.{FaultPlace}
use Rattle.ks_requests.specs.declared.faults.FaultPlace.TheVariants.{Nowhere, Numbered, Named}

-- a number after its label
unfoldable pub counted : List ℕ → ℕ → List ℕ
counted label n = label ++ decimal n

unfoldable pub source_text : SourceError → List ℕ
source_text (source.NotBare line) = counted (codes "1 NotBare line ") line
source_text (source.BadName line) = counted (codes "2 BadName line ") line
source_text (source.ModuleName line) = counted (codes "3 ModuleName line ") line
source_text (source.NoType line) = counted (codes "4 NoType line ") line
source_text (source.TypeClash line) = counted (codes "5 TypeClash line ") line
source_text (source.BadTitle line) = counted (codes "6 BadTitle line ") line
source_text (source.NotAConfigLine line) = counted (codes "7 NotAConfigLine line ") line
source_text (source.BadValue line) = counted (codes "8 BadValue line ") line
source_text source.TooLarge = codes "9 TooLarge"
source_text source.OutOfMemory = codes "10 OutOfMemory"

unfoldable pub written_text : WrittenError → List ℕ
written_text written.TooLarge = codes "9 TooLarge"
written_text written.OutOfMemory = codes "10 OutOfMemory"
written_text written.BadHeading = codes "12 BadHeading"
written_text (written.NotAnEntry line) = counted (codes "13 NotAnEntry line ") line
written_text (written.ModuleSymbol line) = counted (codes "14 ModuleSymbol line ") line
written_text (written.Unexplained line) = counted (codes "15 Unexplained line ") line
written_text (written.Undefined line) = counted (codes "16 Undefined line ") line
written_text (written.Undeclared line) = counted (codes "17 Undeclared line ") line
written_text (written.Twice line) = counted (codes "18 Twice line ") line

unfoldable pub fault_text : EngineError → List ℕ
fault_text (engine.Source e) = source_text e
fault_text (engine.Written e) = written_text e
fault_text engine.TooLarge = codes "9 TooLarge"
fault_text engine.OutOfMemory = codes "10 OutOfMemory"
fault_text (engine.BadAuto line) = counted (codes "11 BadAuto line ") line
fault_text engine.NoTarget = codes "20 NoTarget"
fault_text (engine.BadPath token) = counted (codes "21 BadPath token ") token
fault_text engine.BadCommand = codes "22 BadCommand"
fault_text (engine.BadCommandFile line) = counted (codes "23 BadCommandFile line ") line
fault_text engine.Device = codes "30 Device"
fault_text (engine.BadStamp name) = codes "31 BadStamp " ++ name
fault_text (engine.MissingFile path) = codes "40 MissingFile " ++ path
fault_text engine.NeverSynced = codes "41 NeverSynced"
fault_text engine.GenerationFull = codes "42 GenerationFull"

unfoldable pub hidden_text : Hidden → List ℕ
hidden_text (hidden.Input path line) = codes "24 HiddenInput " ++ path
hidden_text (hidden.Line path line) = codes "25 ForeignLine " ++ path
hidden_text (hidden.OtherHeader path) = codes "26 OtherHeader " ++ path
hidden_text (hidden.Precompiled path) = codes "27 Precompiled " ++ path
hidden_text (hidden.MissingLine path) = codes "28 MissingLine " ++ path
hidden_text (hidden.Argument word) = counted (codes "29 UnknownArgument word ") word

unfoldable pub refusal_text : Refusal → List ℕ
refusal_text (Engine e) = fault_text e
refusal_text (OfHidden h) = hidden_text h
refusal_text (BadScript line) = counted (codes "50 BadScript line ") line
refusal_text Output = codes "51 Output"

-- the line on standard error of a command that is refused as a whole
unfoldable pub complaint : Refusal → List ℕ
complaint refusal = codes "confstamp: " ++ refusal_text refusal ++ codes "\n"

-- the error of the table with the number that a text begins with
unfoldable pub known_error : List ℕ → Option Texts
known_error text = error_of (take_while is_ascii_digit text)

-- Of a failure of the system the program prints it itself, below what the system said.
abbrev pub hint_line : Option Texts → List ℕ
hint_line None = []
hint_line (Some error) = if bytes_eq error.number (codes "30") then [] else hint error

-- the line below: what to do
unfoldable pub hint_of : Refusal → List ℕ
hint_of refusal = hint_line (known_error (refusal_text refusal))

-- a text as the code has it before it is written
abbrev pub place_text : FaultPlace → List ℕ
place_text Nowhere = []
place_text (Numbered n) = decimal n
place_text (Named bytes) = bytes.now

abbrev pub whole_text : FaultText → List ℕ
whole_text text = title_of (seen text.error) ++ text.label.now ++ place_text text.place
