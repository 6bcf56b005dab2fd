-- A command file that lies in the memory of its text.
use Rattle.std.specs.Prelude.{map}
use Rattle.ks_fixdep.specs.declared.command_file.Dep.{Dep}
use Rattle.ks_fixdep.specs.declared.command_file.Dep.TheVariants as dep
use Rattle.ks_fixdep.specs.declared.command_file.borrowed.BorrowedDep.{BorrowedDep}
use Rattle.ks_fixdep.specs.declared.command_file.borrowed.BorrowedDep.TheVariants.{File, Config}
use Rattle.ks_fixdep.specs.declared.command_file.borrowed.BorrowedCommand.{BorrowedCommand}
use Rattle.ks_fixdep.specs.CommandFile.{CommandRecord}

-- a prerequisite or a name, without where its bytes lie
abbrev pub seen_dep : BorrowedDep → Dep
seen_dep (File path) = dep.File path.now
seen_dep (Config name) = dep.Config name.bytes.now

abbrev pub borrowed_view : BorrowedCommand → CommandRecord
borrowed_view f = record { target = f.target.now; command = f.command.now; source = f.source.now; deps = map seen_dep f.deps.items; generation = f.generation }
