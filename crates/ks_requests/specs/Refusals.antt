-- The refusals of a script as those of a whole command.
use Rattle.ks_engine.specs.declared.error.EngineError.TheVariants.{OutOfMemory, TooLarge}
use Rattle.ks_requests.specs.declared.script_error.ScriptError.{ScriptError}
use Rattle.ks_requests.specs.declared.script_error.ScriptError.TheVariants as script
use Rattle.ks_requests.specs.declared.refusal.Refusal.{Refusal}
use Rattle.ks_requests.specs.declared.refusal.Refusal.TheVariants.{BadScript, Engine}

abbrev pub of_script : ScriptError → Refusal
of_script (script.BadScript line) = BadScript line
of_script script.TooLarge = Engine TooLarge
of_script script.OutOfMemory = Engine OutOfMemory
