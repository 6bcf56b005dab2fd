-- Which texts read as a command file: those with the lines of its layout, and after them any that Kbuild appends. Among these the last
-- generation counts. Rules of this project.
use Rattle.std.specs.Prelude.{◌≡◌, ◌<◌, ◌≤◌, ◌+◌, ◌-◌, ℕ, Bool, not, ◌||◌, IsTrue, List, ◌++◌, length, take, Option, map, is_some, option_and_then}
use Rattle.std.specs.List.{list_all, filter_map}
use Rattle.memchr.specs.Find.{last_of}
use Rattle.ks_symbols.specs.Decimal.{decimal_value}
use Rattle.ks_fixdep.specs.CommandLines.{line_feed, lines, content, following, between}
use Rattle.ks_fixdep.specs.CommandLayout.{generation_mark}
use Rattle.ks_fixdep.specs.CommandFile.{CommandRecord, IsLegal, layout}

-- the generation that a line says: a decimal stands between the mark and the line feed
abbrev pub generation_in : List ℕ → Option ℕ
generation_in line = option_and_then decimal_value (between generation_mark line_feed line)

-- a line that begins as a generation line is one
abbrev pub is_sound : List ℕ → Bool
is_sound line = not (is_some (following generation_mark line)) || is_some (generation_in line)

-- The lines of a text, each with its end, are those of a command file. Of the layout's lines the contents count, so the last one may lack its line feed.
pub record LinesRead (ls : List (List ℕ)) (f : CommandRecord) : Type 0 where
  pub laid_out : List (List ℕ)
  pub appended : List (List ℕ)
  pub legal : IsLegal f
  pub parts : ls ≡ laid_out ++ appended
  pub fits : map content laid_out ≡ layout f
  pub sound : IsTrue (list_all is_sound appended)
  pub generation : f.generation ≡ last_of (filter_map generation_in appended)

abbrev pub CommandReads : List ℕ → CommandRecord → Type 0
CommandReads text f = LinesRead (lines text) f

-- lines that a command file begins with
pub record IsBeginning (ls : List (List ℕ)) : Type 0 where
  pub more : List (List ℕ)
  pub file : CommandRecord
  pub reads : LinesRead (ls ++ more) file

-- line n is the first that does not fit: a command file begins with the lines before it, and none with line n after them, where it is there
pub record IsFirstMisfit (ls : List (List ℕ)) (n : ℕ) : Type 0 where
  pub counted : 0 < n
  pub within : n ≤ length ls + 1
  pub before : IsBeginning (take (n - 1) ls)
  pub misfit : n ≤ length ls → IsBeginning (take n ls) → ⊥
