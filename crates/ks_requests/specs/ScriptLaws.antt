-- Laws: the definitions said in another way.
use Rattle.std.specs.Prelude.{◌≡◌, ◌↔◌, ℕ, List, Some}
use Rattle.ks_requests.specs.Script.{Line, Says, script_line}

-- A line asks for what it spells, and for nothing else.
abbrev pub LinesAreSpelled : Type 0
LinesAreSpelled = (line : List ℕ) (stated : Line) → (script_line line ≡ Some stated) ↔ Says line stated
