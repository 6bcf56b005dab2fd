-- What any text of C says of a name: the lines that define one of its macros, or that of its module. It knows bytes alone.
use Rattle.std.specs.Prelude.{◌≡◌, ◌⊎◌, ℕ, ◌-◌, Bool, ◌&&◌, ◌||◌, not, nat_eq, List, ◌++◌, length, take, drop, codes, bytes_eq, take_while, map as map_list, filter, IsTrue, if◌then◌else◌}
use Rattle.std.specs.List.{starts_with, ends_with, list_all}
use Rattle.bstr.specs.Text.{lines_of}
use Rattle.ks_symbols.specs.Names.{is_word_byte, module_end, without_module}

-- a line as it stands in a text, without the LF at its end
abbrev pub without_lf : List ℕ → List ℕ
without_lf line = if ends_with nat_eq line (codes "\n") then take (length line - 1) line else line

-- the lines of a text, each of which ends at LF alone
unfoldable pub lf_lines : List ℕ → List (List ℕ)
lf_lines text = map_list without_lf (lines_of text)

-- A line defines the macro that such a beginning and a run of word bytes are.
pub record DefinesMacro (front run line : List ℕ) : Type 0 where
  pub value : List ℕ
  pub word : IsTrue (list_all is_word_byte run)
  pub spelled : line ≡ front ++ run ++ codes " " ++ value

-- A line defines a name: its macro, less one final _MODULE, is CONFIG_ and the name; or it is ENABLE_ and the name.
abbrev pub Defines : List ℕ → List ℕ → Type 0
Defines name line =
    ((run : List ℕ) × DefinesMacro (codes "#define CONFIG_") run line × (without_module run ≡ name)) ⊎ DefinesMacro (codes "#define ENABLE_") name line

-- The same as a test: of what a line gives the macros of a beginning, which takes 15 bytes, ..
abbrev pub run_of : List ℕ → List ℕ
run_of line = take_while is_word_byte (drop 15 line)

abbrev pub defines_macro : List ℕ → List ℕ → Bool
defines_macro front line = starts_with nat_eq line front && starts_with nat_eq (drop (length (run_of line)) (drop 15 line)) (codes " ")

-- .. and of both beginnings
abbrev pub defines : List ℕ → List ℕ → Bool
defines name line =
    (defines_macro (codes "#define ENABLE_") line && bytes_eq (run_of line) name)
    || (defines_macro (codes "#define CONFIG_") line && bytes_eq (without_module (run_of line)) name)

-- Whether the macro of a line is that of a module. It is another one than the name's own, so the order of the two says nothing to a compiler.
abbrev pub is_of_module : List ℕ → Bool
is_of_module line = starts_with nat_eq line (codes "#define CONFIG_") && ends_with nat_eq (run_of line) module_end

unfoldable pub modules_last : List (List ℕ) → List (List ℕ)
modules_last lines = filter (λ line. not (is_of_module line)) lines ++ filter is_of_module lines

-- The definitions of a name in a text: those of its own macro in their order, then those of its module's
unfoldable pub definitions : List ℕ → List ℕ → List (List ℕ)
definitions name text = modules_last (filter (defines name) (lf_lines text))
