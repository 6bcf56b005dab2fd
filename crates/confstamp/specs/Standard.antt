-- What a failure of a writer of std says.
use Rattle.std.specs.IoError.{error_kind}
use Rattle.std.specs.declared.io.Error.{Error}
use Rattle.std.specs.declared.io.ErrorKind.{ErrorKind}
use Rattle.std.specs.declared.io.ErrorKind.TheVariants as kind
use Rattle.ks_streams.specs.declared.write_error.WriteError.{WriteError}
use Rattle.ks_streams.specs.declared.write_error.WriteError.TheVariants as fault

-- a signal came first; nobody reads any more; or anything else
abbrev pub fault_of_kind : ErrorKind → WriteError
fault_of_kind kind.Interrupted = fault.Interrupted
fault_of_kind kind.BrokenPipe = fault.NoReader
fault_of_kind _ = fault.Failed

abbrev pub fault_of : Error → WriteError
fault_of e = fault_of_kind (error_kind e)
