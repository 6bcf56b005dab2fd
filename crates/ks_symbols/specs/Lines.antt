-- Lines of Kconfig, `.config` and auto.conf: a line ends at LF or CR LF, and the last line may lack its end. A rule of this project.
use Rattle.std.specs.Prelude.{ℕ, Bool, not, ◌==◌, List, map}
use Rattle.bstr.specs.Text.{lines_of, without_terminator}

-- the most bytes that a reader takes
abbrev pub max_bytes : ℕ
max_bytes = 67108864

-- the lines, without their ends
unfoldable pub lines : List ℕ → List (List ℕ)
lines text = map without_terminator (lines_of text)

-- a byte that is no line feed
abbrev pub is_no_line_feed : ℕ → Bool
is_no_line_feed b = not (b == 10)
