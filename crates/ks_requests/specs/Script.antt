-- What a script asks for, line by line. A rule of this project.
use Rattle.std.specs.Prelude.{◌≡◌, ℕ, ◌++◌, ◌&&◌, ◌||◌, ◌==◌, Bool, not, nat_eq, IsTrue, List, length, drop, codes, take_while, Option, Some, None, option_map, option_and_then, if◌then◌else◌}
use Rattle.std.specs.List.{starts_with, list_all, filter_map}
use Rattle.ks_symbols.specs.Names.{is_path}
use Rattle.ks_symbols.specs.Lines.{lines}
use Rattle.ks_requests.specs.declared.script.ScriptLine as script
use Rattle.ks_requests.specs.declared.script.ScriptLine.TheVariants as seen

abbrev pub is_word_byte : ℕ → Bool
is_word_byte b = not (b == 32)

-- a word: some bytes, none of them a space
abbrev pub is_word : List ℕ → Bool
is_word word = not (length word == 0) && list_all is_word_byte word

-- What a line asks for.
pub data Line : Type 0 where
  Sync : (kconfig dotconfig : List ℕ) → Line
  Record : (depfile target command : List ℕ) → Line
  Stale : (target : List ℕ) → Line

-- how each is spelled
abbrev pub Says : List ℕ → Line → Type 0
Says line (Sync kconfig dotconfig) = IsTrue (is_path kconfig) × IsTrue (is_path dotconfig) × (line ≡ codes "sync " ++ kconfig ++ codes " " ++ dotconfig)
Says line (Record depfile target command) = IsTrue (is_word depfile) × IsTrue (is_word target)
    × (line ≡ codes "record " ++ depfile ++ codes " " ++ target ++ codes " " ++ command)
Says line (Stale target) = IsTrue (is_word target) × (line ≡ codes "stale " ++ target)

-- the first word, and what stands after the space that ends it
unfoldable pub first_word : List ℕ → Option (List ℕ × List ℕ)
first_word text =
    let word = take_while is_word_byte text in
    let rest = drop (length word) text in
    if not (length word == 0) && starts_with nat_eq rest (codes " ") then Some (word, drop 1 rest) else None

-- The same as a function: the one thing that a line asks for, word by word.
unfoldable pub sync_line : List ℕ → Option Line
sync_line args = option_and_then (λ cut. if is_path cut.0 && is_path cut.1 then Some (Sync cut.0 cut.1) else None) (first_word args)

unfoldable pub record_line : List ℕ → Option Line
record_line args = option_and_then (λ cut. option_map (λ following. Record cut.0 following.0 following.1) (first_word cut.1)) (first_word args)

unfoldable pub stale_line : List ℕ → Option Line
stale_line args = if is_word args then Some (Stale args) else None

unfoldable pub script_line : List ℕ → Option Line
script_line line =
    if starts_with nat_eq line (codes "sync ") then sync_line (drop 5 line)
    else (if starts_with nat_eq line (codes "record ") then record_line (drop 7 line)
    else (if starts_with nat_eq line (codes "stale ") then stale_line (drop 6 line) else None))

-- the name of a command and a space, as each line that asks for one begins
abbrev pub begins_command : List ℕ → Bool
begins_command line =
    starts_with nat_eq line (codes "sync ") || starts_with nat_eq line (codes "record ") || starts_with nat_eq line (codes "stale ")

-- .. and as each that asks for a `sync`
abbrev pub begins_sync : List ℕ → Bool
begins_sync line = starts_with nat_eq line (codes "sync ")

-- what the lines of a text ask for, in their order
unfoldable pub script_lines : List ℕ → List Line
script_lines text = filter_map script_line (lines text)

-- a line of the code, without where its bytes lie
abbrev pub seen_line : script.ScriptLine → Line
seen_line (seen.Sync kconfig dotconfig) = Sync kconfig.now dotconfig.now
seen_line (seen.Record depfile target command) = Record depfile.now target.now command.now
seen_line (seen.Stale target) = Stale target.now
