-- The refusals of the layers below as refusals of the engine, and what a call answers of a step that may refuse.
use Rattle.std.specs.Prelude.{◌≡◌, ◌⊎◌, Result, Ok, Err, ⊤}
use Rattle.ks_symbols.specs.declared.error.SourceError.{SourceError}
use Rattle.ks_symbols.specs.declared.error.SourceError.TheVariants as source
use Rattle.ks_output.specs.declared.auto_conf.AutoError.{AutoError}
use Rattle.ks_output.specs.declared.auto_conf.AutoError.TheVariants as auto
use Rattle.ks_output.specs.declared.written.WrittenError.{WrittenError}
use Rattle.ks_output.specs.declared.written.WrittenError.TheVariants as written
use Rattle.ks_tree.specs.declared.fault.TreeFault.{TreeFault}
use Rattle.ks_tree.specs.declared.fault.TreeFault.TheVariants as fault
use Rattle.ks_tree.specs.declared.fault.TreeError.{TreeError}
use Rattle.ks_tree.specs.declared.fault.TreeError.TheVariants as stamp
use Rattle.ks_fixdep.specs.declared.command_file.CommandError.{CommandError}
use Rattle.ks_fixdep.specs.declared.command_file.CommandError.TheVariants as command
use Rattle.ks_fixdep.specs.declared.dep_error.DepError.{DepError}
use Rattle.ks_fixdep.specs.declared.dep_error.DepError.TheVariants as dep
use Rattle.ks_engine.specs.declared.error.EngineError.{EngineError}
use Rattle.ks_engine.specs.declared.error.EngineError.TheVariants.{Source, Written, TooLarge, OutOfMemory, BadAuto, NoTarget, BadPath, BadCommand, BadCommandFile, BadStamp, Device}

abbrev pub of_source : SourceError → EngineError
of_source source.TooLarge = TooLarge
of_source source.OutOfMemory = OutOfMemory
of_source e = Source e

abbrev pub of_auto : AutoError → EngineError
of_auto (auto.BadAuto line) = BadAuto line
of_auto auto.TooLarge = TooLarge
of_auto auto.OutOfMemory = OutOfMemory

abbrev pub of_written : WrittenError → EngineError
of_written written.TooLarge = TooLarge
of_written written.OutOfMemory = OutOfMemory
of_written e = Written e

abbrev pub of_command : CommandError → EngineError
of_command (command.BadCommandFile line) = BadCommandFile line
of_command command.TooLarge = TooLarge
of_command command.OutOfMemory = OutOfMemory

abbrev pub of_dep : DepError → EngineError
of_dep dep.NoTarget = NoTarget
of_dep (dep.BadPath token) = BadPath token
of_dep dep.BadCommand = BadCommand
of_dep dep.TooLarge = TooLarge
of_dep dep.OutOfMemory = OutOfMemory

abbrev pub of_tree : TreeFault → EngineError
of_tree fault.TooLarge = TooLarge
of_tree fault.OutOfMemory = OutOfMemory
of_tree fault.Device = Device

abbrev pub of_stamp : TreeError → EngineError
of_stamp stamp.TooLarge = TooLarge
of_stamp stamp.OutOfMemory = OutOfMemory
of_stamp stamp.Device = Device
of_stamp (stamp.BadStamp name) = BadStamp name

-- want of memory, or a failure of the device: no file decides these
abbrev pub IsAborted : EngineError → Type 0
IsAborted OutOfMemory = ⊤
IsAborted Device = ⊤
IsAborted e = ⊥

-- an answer that is one of these two; no success is
abbrev pub IsAbortedAnswer : {A : Type 0} → Result A EngineError → Type 0
IsAbortedAnswer (Ok x) = ⊥
IsAbortedAnswer (Err e) = IsAborted e

-- A call answers what a step comes to, or gives up.
abbrev pub Answers : {A V : Type 0} → Result V EngineError → (A → V) → Result A EngineError → Type 0
Answers step view (Ok x) = step ≡ Ok (view x)
Answers step view (Err e) = IsAborted e ⊎ (step ≡ Err e)

-- the next step, unless this one refuses
abbrev pub and_then : {A B : Type 0} → Result A EngineError → (A → Result B EngineError) → Result B EngineError
and_then (Ok x) next = next x
and_then (Err e) next = Err e
