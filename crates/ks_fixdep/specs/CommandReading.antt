-- What a text reads as, or the number of its first line that does not fit: the lines by their numbers, each in its form.
use Rattle.std.specs.Prelude.{ℕ, ◌+◌, List, [], ◌∷◌, length, drop, Option, Some, None, Result, Ok, Err, if◌then◌else◌, option_and_then}
use Rattle.std.specs.Option.{option_or}
use Rattle.std.specs.Str.{bytes_eq}
use Rattle.ks_symbols.specs.Decimal.{decimal_value}
use Rattle.ks_fixdep.specs.declared.command_file.Dep.{Dep}
use Rattle.ks_fixdep.specs.CommandLines.{line_feed, lines, content, following, before}
use Rattle.ks_fixdep.specs.CommandLayout.{deps_begin, target_line, deps_end, generation_mark}
use Rattle.ks_fixdep.specs.CommandFile.{CommandRecord}
use Rattle.ks_fixdep.specs.CommandPatterns.{saved_command, source_in, dep_in}

infixl 10 ◌>>=◌
abbrev pub ◌>>=◌ : {A B : Type 0} → Result A ℕ → (A → Result B ℕ) → Result B ℕ
(Ok x) >>= f = f x
(Err n) >>= f = Err n

abbrev pub or_fault : {A : Type 0} → ℕ → Option A → Result A ℕ
or_fault n None = Err n
or_fault n (Some x) = Ok x

-- the first line, which has this number, and the lines after it
abbrev pub line_at : ℕ → List (List ℕ) → Result (List ℕ × List (List ℕ)) ℕ
line_at n [] = Err n
line_at n (l ∷ ls) = Ok (content l, ls)

-- one line that is these bytes
unfoldable pub fixed_at : ℕ → List ℕ → List (List ℕ) → Result (List (List ℕ)) ℕ
fixed_at n bytes ls = do
  first ← line_at n ls
  if bytes_eq first.0 bytes then Ok first.1 else Err n

-- one line of a form
unfoldable pub pattern_at : {A : Type 0} → ℕ → (List ℕ → Option A) → List (List ℕ) → Result (A × List (List ℕ)) ℕ
pattern_at n pattern ls = do
  first ← line_at n ls
  x ← or_fault n (pattern first.0)
  Ok (x, first.1)

abbrev pub onto_deps : Option Dep → List Dep → List Dep
onto_deps None deps = []
onto_deps (Some dep) deps = dep ∷ deps

-- the dependency lines in front
unfoldable pub deps_in : List (List ℕ) → List Dep
deps_in [] = []
deps_in (l ∷ ls) = onto_deps (dep_in (content l)) (deps_in ls)

-- what a line after the layout says of the generation: a generation line has a decimal and its end
abbrev pub stated_after : ℕ → Option (List ℕ) → Result (Option ℕ) ℕ
stated_after n None = Ok None
stated_after n (Some x) = or_fault n (option_and_then decimal_value (before line_feed x)) >>= λ g. Ok (Some g)

unfoldable pub stated : ℕ → List ℕ → Result (Option ℕ) ℕ
stated n line = stated_after n (following generation_mark line)

-- the last one counts
unfoldable pub generation_from : ℕ → List (List ℕ) → Result (Option ℕ) ℕ
generation_from n [] = Ok None
generation_from n (l ∷ ls) = do
  own ← stated n l
  later ← generation_from (n + 1) ls
  Ok (option_or later own)

-- the generation of the lines after the dependency lines, the first of which has number n
unfoldable pub end_from : ℕ → List ℕ → List (List ℕ) → Result (Option ℕ) ℕ
end_from n target ls = do
  ls ← fixed_at n [] ls
  ls ← fixed_at (n + 1) (target_line target) ls
  ls ← fixed_at (n + 2) [] ls
  ls ← fixed_at (n + 3) (deps_end target) ls
  generation_from (n + 4) ls

unfoldable pub record_in : List (List ℕ) → Result CommandRecord ℕ
record_in ls = do
  saved ← pattern_at 1 saved_command ls
  ls ← fixed_at 2 [] saved.1
  source ← pattern_at 3 (source_in saved.0.0) ls
  ls ← fixed_at 4 [] source.1
  ls ← fixed_at 5 (deps_begin saved.0.0) ls
  generation ← end_from (6 + length (deps_in ls)) saved.0.0 (drop (length (deps_in ls)) ls)
  Ok (record { target = saved.0.0; command = saved.0.1; source = source.0; deps = deps_in ls; generation = generation })

-- what a text reads as, or the number of its first line that does not fit
abbrev pub reading : List ℕ → Result CommandRecord ℕ
reading text = record_in (lines text)
