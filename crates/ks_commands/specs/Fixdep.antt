-- What `fixdep` makes of the files: the arguments first, then each file in its order.
use Rattle.std.specs.Prelude.{ℕ, List, Result, Ok}
use Rattle.ks_fixdep.specs.CommandFile.{command_text}
use Rattle.ks_fixdep.specs.Dialects.{rules_for}
use Rattle.ks_fixdep.specs.Record.{record_of}
use Rattle.ks_symbols.specs.declared.dialect.Dialect.{Dialect}
use Rattle.ks_tree.specs.Files.{Files}
use Rattle.ks_engine.specs.declared.error.EngineError.{EngineError}
use Rattle.ks_engine.specs.Recording.{listed, scanned_all, args}
use Rattle.ks_engine.specs.Refusals.{and_then}
use Rattle.ks_requests.specs.Inputs.{given}

-- The command file of an object, without a generation: the arguments, the dependency file, then each prerequisite.
unfoldable pub command_file_at : Dialect → Files → List ℕ → List ℕ → List ℕ → Result (List ℕ) EngineError
command_file_at dialect files depfile target command =
    and_then (args depfile target command) (λ _.
    and_then (given files depfile) (λ b.
    and_then (listed dialect b) (λ ps.
    and_then (scanned_all (rules_for dialect target) files ps) (λ found. Ok (command_text (record_of target command ps found))))))
