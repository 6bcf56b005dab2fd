-- What one line of an auto.conf says. Kbuild's lines are among those that are read; the lines of a generation, of the typed form
-- and of a class are rules of this project.
use Rattle.std.specs.Prelude.{◌≡◌, ℕ, Bool, true, nat_eq, List, ◌++◌, length, drop, take_while, codes, bytes_eq, map as map_list, Option, Some, None, if◌then◌else◌}
use Rattle.std.specs.List.{starts_with, ends_with}
use Rattle.bstr.specs.Text.{lines_of, without_terminator}
use Rattle.ks_symbols.specs.declared.kinds.Class.{Class}
use Rattle.ks_symbols.specs.declared.kinds.Class.TheVariants as class
use Rattle.ks_symbols.specs.Names.{is_word_byte, is_name}
use Rattle.ks_symbols.specs.Decimal.{decimal_value}
use Rattle.ks_symbols.specs.Statements.{Statement, Assigns, statement, is_comment_or_blank}
use Rattle.ks_output.specs.AutoText.{class_end}
use Rattle.ks_output.specs.declared.auto_lines.Remark as auto_lines
use Rattle.ks_output.specs.declared.auto_lines.Remark.TheVariants as seen

pub data Remark : Type 0 where
  -- a name has a text
  Gives : List ℕ → List ℕ → Remark
  -- the mark of the typed form
  Marks : Remark
  -- the name that the next line gives a text is of a class
  Types : List ℕ → Class → Remark
  -- a line that begins as one on a class, and is none
  Mistypes : Remark
  -- the generation
  Numbers : ℕ → Remark
  -- a comment or an empty line
  CommentOrBlank : Remark
  -- none of these
  Faulty : Remark

-- a remark of the code, without where its bytes lie
abbrev pub seen_remark : auto_lines.Remark → Remark
seen_remark (seen.Gives name text) = Gives name.now text.now
seen_remark seen.Marks = Marks
seen_remark (seen.Types name k) = Types name.now k
seen_remark seen.Mistypes = Mistypes
seen_remark (seen.Numbers g) = Numbers g
seen_remark seen.CommentOrBlank = CommentOrBlank
seen_remark seen.Faulty = Faulty

abbrev pub generation_mark : List ℕ
generation_mark = codes "#generation "

-- a generation's line has a decimal and its LF
abbrev pub numbered : Bool → Option ℕ → Remark
numbered true (Some g) = Numbers g
numbered ended value = Faulty

abbrev pub class_mark : List ℕ
class_mark = codes "#type "

-- the class that what stands after the name spells
abbrev pub spelled_class : List ℕ → Option Class
spelled_class following =
    if bytes_eq following (class_end class.Text) then Some class.Text
    else (if bytes_eq following (class_end class.Int) then Some class.Int
    else (if bytes_eq following (class_end class.Hex) then Some class.Hex
    else (if bytes_eq following (class_end class.Raw) then Some class.Raw
    else (if bytes_eq following (class_end class.Flag) then Some class.Flag else None))))

abbrev pub classed : List ℕ → Option Class → Remark
classed name (Some k) = Types name k
classed name None = Mistypes

-- the line of a class has a name, a blank and the class
unfoldable pub class_remark : List ℕ → Remark
class_remark rest =
    let name = take_while is_word_byte rest in
    if is_name name then classed name (spelled_class (drop (length name) rest)) else Mistypes

-- a text is given as in a `.config`, but as it stands
abbrev pub assigned : Option Statement → Remark
assigned (Some (Assigns name text)) = Gives name text
assigned stated = Faulty

-- what a line says, by what it is without its end and whether it had one
unfoldable pub stated_by : Bool → List ℕ → Remark
stated_by ended bare =
    if starts_with nat_eq bare generation_mark then numbered ended (decimal_value (drop 12 bare))
    else (if bytes_eq bare (codes "#typed") then Marks
    else (if starts_with nat_eq bare class_mark then class_remark (drop 6 bare)
    else (if is_comment_or_blank bare then CommentOrBlank else assigned (statement bare))))

-- what a line says, which is given with its end
abbrev pub remark : List ℕ → Remark
remark line = stated_by (ends_with nat_eq line (codes "\n")) (without_terminator line)

-- what the lines of a text say, in their order
abbrev pub remarks : List ℕ → List Remark
remarks text = map_list remark (lines_of text)

-- The bytes are whole lines: what follows them begins a line of its own.
abbrev pub AreWhole : List ℕ → Type 0
AreWhole bytes = (rest : List ℕ) → lines_of (bytes ++ rest) ≡ lines_of bytes ++ lines_of rest
