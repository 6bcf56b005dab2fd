-- The two lines of a `.config` that speak of a symbol (scripts/kconfig/confdata.c).
use Rattle.std.specs.Prelude.{ℕ, Bool, ◌||◌, ◌&&◌, ◌==◌, nat_eq, List, length, codes, ◌≡◌, IsTrue, ◌++◌, drop, bytes_eq, Option, Some, None, if◌then◌else◌, false, take_while}
use Rattle.std.specs.List.{starts_with}
use Rattle.ks_symbols.specs.declared.statements.Statement as dotconfig
use Rattle.ks_symbols.specs.declared.statements.Statement.TheVariants as stated
use Rattle.ks_symbols.specs.Names.{is_word_byte, is_name}

-- A line about a symbol gives it a value, or says that it is not set.
pub data Statement : Type 0 where
  Assigns : List ℕ → List ℕ → Statement
  Unsets : List ℕ → Statement

-- how each is spelled
abbrev pub Says : List ℕ → Statement → Type 0
Says line (Assigns name written) = IsTrue (is_name name) × (line ≡ codes "CONFIG_" ++ name ++ codes "=" ++ written)
Says line (Unsets name) = IsTrue (is_name name) × (line ≡ codes "# CONFIG_" ++ name ++ codes " is not set")

-- The same as a function: the one statement that the line is, if it is one.
unfoldable pub assignment : List ℕ → Option Statement
assignment rest =
    let name = take_while is_word_byte rest in
    let following = drop (length name) rest in
    if is_name name && starts_with nat_eq following (codes "=") then Some (Assigns name (drop 1 following)) else None

unfoldable pub unsetting : List ℕ → Option Statement
unsetting rest =
    let name = take_while is_word_byte rest in
    if is_name name && bytes_eq (drop (length name) rest) (codes " is not set") then Some (Unsets name) else None

unfoldable pub statement : List ℕ → Option Statement
statement line =
    if starts_with nat_eq line (codes "CONFIG_") then assignment (drop 7 line)
    else (if starts_with nat_eq line (codes "# CONFIG_") then unsetting (drop 9 line) else None)

-- a statement of the code, without where its bytes lie
abbrev pub seen_statement : dotconfig.Statement → Statement
seen_statement (stated.Assigns name written) = Assigns name.now written.now
seen_statement (stated.Unsets name) = Unsets name.now

abbrev pub name_of : Statement → List ℕ
name_of (Assigns name written) = name
name_of (Unsets name) = name

-- a line that need not be a statement: a comment or an empty line
abbrev pub is_comment_or_blank : List ℕ → Bool
is_comment_or_blank line = length line == 0 || starts_with nat_eq line (codes "#")

-- whether a statement, if there is one, is about the name
abbrev pub is_of : List ℕ → Option Statement → Bool
is_of name None = false
is_of name (Some stated) = bytes_eq (name_of stated) name
