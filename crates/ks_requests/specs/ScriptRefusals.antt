-- Why a script is refused: it is too large, or a line asks for nothing and is no comment.
use Rattle.std.specs.Prelude.{ℕ, ◌&&◌, Bool, not, nat_lt, is_none, List, length, Option, Some, None, option_map, if◌then◌else◌}
use Rattle.std.specs.List.{position_from}
use Rattle.ks_symbols.specs.Lines.{max_bytes, lines}
use Rattle.ks_symbols.specs.Statements.{is_comment_or_blank}
use Rattle.ks_requests.specs.declared.script_error.ScriptError.{ScriptError}
use Rattle.ks_requests.specs.declared.script_error.ScriptError.TheVariants as fault
use Rattle.ks_requests.specs.Script.{script_line}

-- neither a command nor a comment nor an empty line
abbrev pub is_faulty : List ℕ → Bool
is_faulty line = is_none (script_line line) && not (is_comment_or_blank line)

-- the refusal of the line of a number
unfoldable pub line_fault : ℕ → List ℕ → Option ScriptError
line_fault number line = if is_faulty line then Some (fault.BadScript number) else None

-- The first faulty line counts, by its number from 1 on.
unfoldable pub script_refusal : List ℕ → Option ScriptError
script_refusal text = if nat_lt max_bytes (length text) then Some fault.TooLarge else option_map fault.BadScript (position_from is_faulty 1 (lines text))
