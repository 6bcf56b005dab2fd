-- How the words of a source name symbols. A project is a list of forms and a list of macros, of which `Dialects` has those of four
-- projects; all that is said here is said of any such lists. That blanks may stand round an argument, and that an argument may be the
-- macro of a module, are rules of this project.
use Rattle.std.specs.Prelude.{ℕ, Bool, ◌+◌, ◌-◌, ◌==◌, ◌||◌, IsTrue, List, [], ◌∷◌, ◌++◌, drop, flat_map, length, nat_eq, nat_le, nat_lt, take, if◌then◌else◌}
use Rattle.std.specs.List.{ends_with, list_all}
use Rattle.std.specs.Str.{bytes_eq}
use Rattle.ks_symbols.specs.Names.{is_word_byte, is_name, module_end, without_module}
use Rattle.ks_fixdep.specs.declared.pending_macro_args.PendingMacroArgs.{PendingMacroArgs}
use Rattle.ks_fixdep.specs.declared.symbol_patterns.Pattern.{Pattern}
use Rattle.ks_fixdep.specs.declared.symbol_patterns.Macro.{Macro}

-- A form of word that names a symbol: what stands between such a beginning and such an end is the name. Where the project has modules, one
-- final `_MODULE` is no part of it.
pub record WordPattern : Type 0 where
  pub begin : List ℕ
  pub end : List ℕ
  pub has_modules : Bool

-- a word that takes so many arguments which name symbols
pub record WordMacro : Type 0 where
  pub word : List ℕ
  pub arguments : ℕ

-- the words of a project, and what a symbol's name has in front of the argument that names it
pub record SourcePatterns : Type 0 where
  pub patterns : List WordPattern
  pub macros : List WordMacro
  pub prefix : List ℕ

abbrev pub seen_pattern : Pattern → WordPattern
seen_pattern f = record { begin = f.begin.now; end = f.end.now; has_modules = f.has_modules }

abbrev pub seen_macro : Macro → WordMacro
seen_macro m = record { word = m.word.now; arguments = m.arguments }

-- No word that names a symbol by these forms is over 142 bytes, and no macro is.
abbrev pub is_short_pattern : WordPattern → Bool
is_short_pattern f = nat_le (length f.begin + length f.end + (if f.has_modules then 7 else 0)) 14

abbrev pub is_short_macro : WordMacro → Bool
is_short_macro m = nat_le (length m.word) 142

pub record AreShort (symbol_patterns : SourcePatterns) : Type 0 where
  pub patterns : IsTrue (list_all is_short_pattern symbol_patterns.patterns)
  pub macros : IsTrue (list_all is_short_macro symbol_patterns.macros)

-- ---- the names of a word

-- a name, where it is a legal one
abbrev pub legal : List ℕ → List (List ℕ)
legal x = if is_name x then x ∷ [] else []

-- the symbol of what stands between a beginning and an end
abbrev pub symbol_of : WordPattern → List ℕ → List (List ℕ)
symbol_of pattern x = legal (if pattern.has_modules then without_module x else x)

-- .. of what stands after a beginning
abbrev pub before_end : WordPattern → List ℕ → List (List ℕ)
before_end pattern rest = if ends_with nat_eq rest pattern.end then symbol_of pattern (take (length rest - length pattern.end) rest) else []

-- what a word names by a form
unfoldable pub named_by : WordPattern → List ℕ → List (List ℕ)
named_by pattern w = if bytes_eq (take (length pattern.begin) w) pattern.begin then before_end pattern (drop (length pattern.begin) w) else []

-- how many arguments a word takes that name symbols: those of the first macro that is this word
unfoldable pub arguments_of : List WordMacro → List ℕ → ℕ
arguments_of [] w = 0
arguments_of (m ∷ macros) w = if bytes_eq m.word w then m.arguments else arguments_of macros w

-- the tristate whose macro, where it is a module, ends so
abbrev pub of_module : List ℕ → List (List ℕ)
of_module x = if ends_with nat_eq x module_end then legal (without_module x) else []

-- an argument names a symbol, and where it ends in `_MODULE` the tristate before that too
abbrev pub argument_names : List ℕ → Bool → List ℕ → List (List ℕ)
argument_names prefix is_argument w = if is_argument then of_module (prefix ++ w) ++ legal (prefix ++ w) else []

-- what a word names by itself, in the order of the forms: a macro is no symbol's
abbrev pub own_names : SourcePatterns → List ℕ → List (List ℕ)
own_names symbol_patterns w = if arguments_of symbol_patterns.macros w == 0 then flat_map (λ pattern. named_by pattern w) symbol_patterns.patterns else []

-- The names of a word where this is awaited. An argument names what it names by itself too, and a macro inside an argument is looked at
-- like any other.
abbrev pub word_names : SourcePatterns → PendingMacroArgs → List ℕ → List (List ℕ)
word_names symbol_patterns a w = argument_names symbol_patterns.prefix (nat_lt 0 a.args_at_word) w ++ own_names symbol_patterns w

-- ---- what is awaited

-- a byte that may stand between a macro and its arguments: a space, a tab, CR, LF or `\`
abbrev pub is_blank : ℕ → Bool
is_blank b = b == 32 || b == 9 || b == 13 || b == 10 || b == 92

abbrev pub nothing : PendingMacroArgs
nothing = record { args_at_word = 0; args_at_paren = 0; args_at_comma = 0 }

-- after a word with so many arguments: at a `(` they begin, and at a `,` those that the list has left in which the word was one
abbrev pub after_word : PendingMacroArgs → ℕ → PendingMacroArgs
after_word a arguments = record { args_at_word = 0; args_at_paren = arguments; args_at_comma = a.args_at_word - 1 }

-- after another byte
abbrev pub passed : PendingMacroArgs → ℕ → PendingMacroArgs
passed a b =
    if is_blank b then a
    else record { args_at_word = (if b == 44 then a.args_at_comma else (if b == 40 then a.args_at_paren else 0)); args_at_paren = 0; args_at_comma = 0 }

-- ---- the names of a text

-- a text by its parts: a word is a longest run of word bytes, and each other byte stands for itself
pub data Part : Type 0 where
  Word : List ℕ → Part
  Other : ℕ → Part

-- a word byte in front
abbrev pub onto_word : ℕ → List Part → List Part
onto_word b [] = Word (b ∷ []) ∷ []
onto_word b (Word w ∷ ps) = Word (b ∷ w) ∷ ps
onto_word b (Other c ∷ ps) = Word (b ∷ []) ∷ Other c ∷ ps

unfoldable pub parts : List ℕ → List Part
parts [] = []
parts (b ∷ t) = if is_word_byte b then onto_word b (parts t) else Other b ∷ parts t

-- the names of parts, by what is awaited in front of them
unfoldable pub names_of_parts : SourcePatterns → PendingMacroArgs → List Part → List (List ℕ)
names_of_parts symbol_patterns a [] = []
names_of_parts symbol_patterns a (Word w ∷ ps) = word_names symbol_patterns a w ++ names_of_parts symbol_patterns (after_word a (arguments_of symbol_patterns.macros w)) ps
names_of_parts symbol_patterns a (Other b ∷ ps) = names_of_parts symbol_patterns (passed a b) ps

-- the names of a text, in their order
abbrev pub names_by_patterns : SourcePatterns → List ℕ → List (List ℕ)
names_by_patterns symbol_patterns t = names_of_parts symbol_patterns nothing (parts t)
