-- What a `.config` text sets the declared symbols to, and why one is refused.
use Rattle.std.specs.Prelude.{ℕ, Bool, List, length, [], ◌∷◌, Option, Some, None, if◌then◌else◌, ◌+◌, false, nat_lt, find, reverse, count_by, option_and_then, is_none}
use Rattle.ks_symbols.specs.declared.kinds.Kind.{Kind}
use Rattle.ks_symbols.specs.declared.error.SourceError.{SourceError}
use Rattle.ks_symbols.specs.declared.error.SourceError.TheVariants as fault
use Rattle.ks_symbols.specs.Lines.{max_bytes, lines}
use Rattle.ks_symbols.specs.Kinds.{is_off}
use Rattle.ks_symbols.specs.Values.{text_of}
use Rattle.ks_symbols.specs.Refusals.{or_else}
use Rattle.ks_symbols.specs.Statements.{Statement, statement, name_of, is_comment_or_blank, is_of, Assigns, Unsets}

abbrev pub is_about : List ℕ → List ℕ → Bool
is_about name line = is_of name (statement line)

-- the last line about a name
abbrev pub last_about : List ℕ → List (List ℕ) → Option (List ℕ)
last_about name lines = find (is_about name) (reverse lines)

-- what a statement gives a symbol of kind k: its kind and text, or nothing where it is off or not set
abbrev pub entry_with : Kind → Option (List ℕ) → Option (Kind × List ℕ)
entry_with k None = None
entry_with k (Some text) = if is_off k text then None else Some (k, text)

unfoldable pub gives : Kind → Option Statement → Option (Kind × List ℕ)
gives k (Some (Assigns name written)) = entry_with k (text_of k written)
gives k _ = None

-- What the lines set a symbol to: it is declared, and the last line about it gives it a value.
unfoldable pub setting : (List ℕ → Option Kind) → List (List ℕ) → List ℕ → Option (Kind × List ℕ)
setting kinds lines name = option_and_then (λ k. option_and_then (λ line. gives k (statement line)) (last_about name lines)) (kinds name)

-- a line about a name that is not declared
abbrev pub is_of_unknown : (List ℕ → Option Kind) → Option Statement → Bool
is_of_unknown kinds None = false
is_of_unknown kinds (Some stated) = is_none (kinds (name_of stated))

abbrev pub unknown_count : (List ℕ → Option Kind) → List (List ℕ) → ℕ
unknown_count kinds lines = count_by (λ line. is_of_unknown kinds (statement line)) lines

-- What is wrong with the line of a number: it is no line of a `.config`, or its value is not of the symbol's kind.
abbrev pub value_fault : ℕ → List ℕ → Option Kind → Option SourceError
value_fault number written None = None
value_fault number written (Some k) = if is_none (text_of k written) then Some (fault.BadValue number) else None

abbrev pub fault_of_statement : (List ℕ → Option Kind) → ℕ → List ℕ → Option Statement → Option SourceError
fault_of_statement kinds number line None = if is_comment_or_blank line then None else Some (fault.NotAConfigLine number)
fault_of_statement kinds number line (Some (Assigns name written)) = value_fault number written (kinds name)
fault_of_statement kinds number line (Some (Unsets name)) = None

unfoldable pub line_fault : (List ℕ → Option Kind) → ℕ → List ℕ → Option SourceError
line_fault kinds number line = fault_of_statement kinds number line (statement line)

unfoldable pub first_fault : (ℕ → List ℕ → Option SourceError) → ℕ → List (List ℕ) → Option SourceError
first_fault faults number [] = None
first_fault faults number (line ∷ lines) = or_else (faults number line) (first_fault faults (number + 1) lines)

-- why a text is refused
unfoldable pub dotconfig_refusal : (List ℕ → Option Kind) → List ℕ → Option SourceError
dotconfig_refusal kinds text = if nat_lt max_bytes (length text) then Some fault.TooLarge else first_fault (line_fault kinds) 1 (lines text)
