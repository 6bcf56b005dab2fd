-- What the program does with its arguments.
use Rattle.std.specs.Prelude.{◌≡◌, ℕ, List, [], Result, Ok, Err, true}
use Rattle.clap.specs.Words.{Text, takes}
use Rattle.ks_streams.specs.Streams.{State}
use Rattle.ks_symbols.specs.declared.dialect.Dialect.{Dialect}
use Rattle.ks_tree.specs.declared.tree.Tree.{Ghosts}
use Rattle.ks_tree.specs.Frames.{Reads}
use Rattle.ks_engine.specs.declared.error.EngineError.TheVariants.{OutOfMemory}
use Rattle.ks_requests.specs.declared.refusal.Refusal.TheVariants.{Engine}
use Rattle.ks_requests.specs.declared.request.Request.{Request}
use Rattle.ks_requests.specs.Endings.{Ending, Printed}
use Rattle.ks_requests.specs.Sites.{IsSiteLine, ending_site}
use Rattle.ks_commands.specs.Performed.{Performs}
use Rattle.ks_cli.specs.CommandLine.{command_line_app}
use Rattle.ks_cli.specs.Meaning.{Explains, IsReason, IsTakenAs, Makes}
use Rattle.ks_cli.specs.Args.{HasText}
use Rattle.ks_cli.specs.declared.args.WordsError.{WordsError}
use Rattle.ks_cli.specs.declared.args.WordsError.TheVariants as why

-- The arguments make this request; or they make none for this reason, or memory was refused.
abbrev pub IsAskedBy : List Text → Result Request WordsError → Type 0
IsAskedBy args (Ok request) = Makes args request
IsAskedBy args (Err e) = (takes command_line_app args ≡ true → IsTakenAs args e) × IsReason args e × HasText e

-- What is said of the arguments is printed; or memory was refused for them, and that is reported.
abbrev pub Refuses : List Text → WordsError → State → State → State → State → ℕ → Type 0
Refuses asked (why.Refused printed) before after err_before err_after status = Explains asked printed before after err_before err_after status
Refuses asked why.OutOfMemory before after err_before err_after status =
    Printed [] (Err (Engine OutOfMemory)) before after err_before err_after status

-- A request was performed, and then no more than read: a refusal is printed with where it points. Where there is none the tree is as before, and all
-- arguments that make none for this reason are explained, or memory was refused for them.
abbrev pub Executes : {T : Type 0} → Ghosts T → Dialect → Result Request WordsError → T → T → State → State → State → State → ℕ → Type 0
Executes {T} tree dialect (Ok request) old new before after err_before err_after status =
    (ended : Ending) × (done : T) × Performs tree dialect old done request ended × Reads tree done new ⊥
    × (following : List ℕ) × IsSiteLine tree.is_honest (tree.files new) (ending_site request ended) following
    × Printed following ended before after err_before err_after status
Executes tree dialect (Err e) old new before after err_before err_after status =
    (new ≡ old) × ((args : List Text) → IsAskedBy args (Err e) → Refuses args e before after err_before err_after status)
