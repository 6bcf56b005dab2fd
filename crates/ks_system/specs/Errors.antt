-- What an error of the system says. This table is the only place where errors are distinguished.
use Rattle.std.specs.Prelude.{◌≡◌, ◌⊎◌, Option, Some, None, Result, Ok, Err, ⊤}
use Rattle.std.specs.IoError.{error_kind}
use Rattle.std.specs.declared.io.Error.{Error}
use Rattle.std.specs.declared.io.ErrorKind.{ErrorKind}
use Rattle.std.specs.declared.io.ErrorKind.TheVariants as kind
use Rattle.ks_system.specs.declared.errors.Meaning.{Meaning}
use Rattle.ks_system.specs.declared.errors.Meaning.TheVariants.{Missing, Stands, Interrupted, Failed}

-- ENOENT is a missing file, EEXIST something in its place, EINTR an interrupted call.
abbrev pub meaning_by : ErrorKind → Meaning
meaning_by kind.NotFound = Missing
meaning_by kind.AlreadyExists = Stands
meaning_by kind.Interrupted = Interrupted
meaning_by kind = Failed

abbrev pub meaning_of : Error → Meaning
meaning_of e = meaning_by (error_kind e)

-- The call failed, and its error says that.
abbrev pub Says : {V : Type 0} → Meaning → Result V Error → Type 0
Says meaning (Ok v) = ⊥
Says meaning (Err e) = meaning_of e ≡ meaning

-- what a look-up by its meaning answers: None for a missing file alone
abbrev pub absent_or_error : {V : Type 0} → Error → Meaning → Result (Option V) Error
absent_or_error e Missing = Ok None
absent_or_error e meaning = Err e

abbrev pub found_of : {V : Type 0} → Result V Error → Result (Option V) Error
found_of (Ok v) = Ok (Some v)
found_of (Err e) = absent_or_error e (meaning_of e)

-- The last call went well, or its error has this meaning, which is passed over.
abbrev pub IsPassed : Meaning → Option Error → Type 0
IsPassed meaning None = ⊤
IsPassed meaning (Some e) = meaning_of e ≡ meaning

-- What is reported is the error of the last call, or one of this kind where that call went well.
abbrev pub IsReported : ErrorKind → Option Error → Error → Type 0
IsReported own last e = (last ≡ Some e) ⊎ ((last ≡ None) × (error_kind e ≡ own))

-- The same, where an error of this meaning is passed over.
abbrev pub IsReportedBut : Meaning → ErrorKind → Option Error → Error → Type 0
IsReportedBut meaning own last e = (last ≡ Some e) ⊎ (IsPassed meaning last × (error_kind e ≡ own))

-- What is reported of a write: the error of the last call, that it writes nothing more, or that it is interrupted without end.
abbrev pub IsReportedOfWriting : Option Error → Error → Type 0
IsReportedOfWriting last e = IsReported kind.WriteZero last e ⊎ IsReportedBut Interrupted kind.Other last e
