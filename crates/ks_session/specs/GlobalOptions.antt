-- What stands in front of a command: options one after the other, and what they say together.
use Rattle.std.specs.Prelude.{◌≡◌, ◌≢◌, ◌||◌, ◌++◌, ℕ, Bool, false, true, List, [], ◌∷◌, None, Some, Result, Ok, Err, bytes_eq, codes, length, map, string_bytes, take, ◌<◌, ◌≤◌, ⊤}
use Rattle.std.specs.List.{fold}
use Rattle.ks_symbols.specs.Decimal.{decimal_value}
use Rattle.ks_symbols.specs.declared.dialect.Dialect.{Dialect}
use Rattle.ks_symbols.specs.declared.dialect.Dialect.TheVariants.{Linux}
use Rattle.ks_session.specs.Directories.{below, dialect_named}
use Rattle.ks_session.specs.declared.global_options.ArgError.{ArgError}
use Rattle.ks_session.specs.declared.global_options.ArgError.TheVariants as fault
use Rattle.ks_session.specs.declared.global_options.CommandArgs.{CommandArgs}
use Rattle.ks_session.specs.declared.global_options.GlobalOption.{GlobalOption}
use Rattle.ks_session.specs.declared.global_options.GlobalOption.TheVariants as seen
use Rattle.ks_session.specs.declared.global_options.NextOption.{NextOption}
use Rattle.ks_session.specs.declared.global_options.NextOption.TheVariants as beginning
use Rattle.ks_session.specs.declared.global_options.Settings.{Settings}

-- What an option says.
pub data OptionView : Type 0 where
  Below : (dir : List ℕ) → OptionView
  Begin : OptionView
  In : (dialect : Dialect) → OptionView
  Wait : (seconds : ℕ) → OptionView

abbrev pub seen_option : GlobalOption → OptionView
seen_option (seen.Below dir) = Below dir.now
seen_option seen.Begin = Begin
seen_option (seen.In dialect) = In dialect
seen_option (seen.Wait seconds) = Wait seconds

-- how it is spelled
abbrev pub Spells : List (List ℕ) → OptionView → Type 0
Spells args (Below dir) = (args ≡ codes "-C" ∷ dir ∷ []) × (dir ≢ [])
Spells args Begin = args ≡ codes "--begin" ∷ []
Spells args (In dialect) = (name : List ℕ) × (args ≡ codes "--dialect" ∷ name ∷ []) × (dialect_named name ≡ Some dialect)
Spells args (Wait seconds) = (number : List ℕ) × (args ≡ codes "--wait" ∷ number ∷ []) × (decimal_value number ≡ Some seconds)

-- options in front of the rest
abbrev pub SpellsAll : List (List ℕ) → List OptionView → List (List ℕ) → Type 0
SpellsAll args [] rest = args ≡ rest
SpellsAll args (o ∷ options) rest =
    (first : List (List ℕ)) × (after : List (List ℕ)) × Spells first o × (args ≡ first ++ after) × SpellsAll after options rest

-- ---- what they say

pub record Stated : Type 0 where
  pub directory : List ℕ
  pub may_begin : Bool
  pub dialect : Dialect
  pub seconds : ℕ

abbrev pub nothing : Stated
nothing = record { directory = []; may_begin = false; dialect = Linux; seconds = 0 }

-- Each directory is below the one before; of the rest the last counts.
abbrev pub stated : Stated → OptionView → Stated
stated before (Below dir) = record { directory = below before.directory dir; may_begin = before.may_begin; dialect = before.dialect; seconds = before.seconds }
stated before Begin = record { directory = before.directory; may_begin = true; dialect = before.dialect; seconds = before.seconds }
stated before (In dialect) = record { directory = before.directory; may_begin = before.may_begin; dialect = dialect; seconds = before.seconds }
stated before (Wait seconds) = record { directory = before.directory; may_begin = before.may_begin; dialect = before.dialect; seconds = seconds }

abbrev pub seen_settings : Settings → Stated
seen_settings s = record { directory = string_bytes s.directory; may_begin = s.may_begin; dialect = s.dialect; seconds = s.seconds }

-- ---- where they end

abbrev pub begins_option : List (List ℕ) → Bool
begins_option [] = false
begins_option (arg ∷ rest) =
    bytes_eq arg (codes "-C") || bytes_eq arg (codes "--begin") || bytes_eq arg (codes "--dialect") || bytes_eq arg (codes "--wait")

-- an argument that is missing, or is none of those that are needed
abbrev pub Lacks : (List ℕ → Type 0) → List (List ℕ) → Type 0
Lacks bad [] = ⊤
Lacks bad (arg ∷ rest) = bad arg

-- an option without an argument after it that does
abbrev pub IsFaulty : ArgError → List (List ℕ) → Type 0
IsFaulty fault.NoDirectory args = (rest : List (List ℕ)) × (args ≡ codes "-C" ∷ rest) × Lacks (λ dir. dir ≡ []) rest
IsFaulty fault.NoDialect args = (rest : List (List ℕ)) × (args ≡ codes "--dialect" ∷ rest) × Lacks (λ name. dialect_named name ≡ None) rest
IsFaulty fault.NoSeconds args = (rest : List (List ℕ)) × (args ≡ codes "--wait" ∷ rest) × Lacks (λ number. decimal_value number ≡ None) rest

-- The arguments begin with an option of so many of them; or with a faulty one; or with none.
abbrev pub BeginsWith : List (List ℕ) → NextOption → Type 0
BeginsWith args (beginning.Option option count) = Spells (take count args) (seen_option option) × (0 < count) × (count ≤ length args)
BeginsWith args (beginning.Faulty fault) = IsFaulty fault args
BeginsWith args beginning.Command = begins_option args ≡ false

-- ---- the whole

-- Options are taken off, up to arguments that begin with none; or one of them is faulty.
abbrev pub ParsesGlobalOptions : List (List ℕ) → Result CommandArgs ArgError → Type 0
ParsesGlobalOptions args (Ok command) = (options : List OptionView) × SpellsAll args options (map (λ w. w.now) command.args.now)
    × (begins_option (map (λ w. w.now) command.args.now) ≡ false) × (seen_settings command.settings ≡ fold stated nothing options)
ParsesGlobalOptions args (Err fault) = (options : List OptionView) × (rest : List (List ℕ)) × SpellsAll args options rest × IsFaulty fault rest
