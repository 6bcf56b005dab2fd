-- What is said of an error, by its row of the table in the code. The texts of the rows are this project's.
use Rattle.std.specs.Prelude.{◌||◌, ◌++◌, ℕ, List, Bool, Option, bytes_eq, codes, flat_map, map}
use Rattle.std.specs.Borrow.{Bor}
use Rattle.std.specs.List.{find}
use Rattle.ks_errors.specs.declared.table.KnownError.{KnownError}
use Rattle.ks_errors.specs.declared.table.TheConstants.{ERRORS}

abbrev pub Text : Type 0
Text = Bor (List ℕ)

pub record Texts : Type 0 where
  pub number : List ℕ
  pub name : List ℕ
  pub meaning : List ℕ
  pub example : List ℕ
  pub advice : List ℕ

abbrev pub seen : KnownError → Texts
seen error = record { number = error.number.now; name = error.name.now; meaning = error.meaning.now; example = error.example.now; advice = error.advice.now }

-- what a row of the table says
abbrev pub texts_of : Text × Text × Text × Text × Text → Texts
texts_of row = record { number = row.0.now; name = row.1.now; meaning = row.2.now; example = row.3.now; advice = row.4.now }

-- the table of the code
abbrev pub errors : List Texts
errors = map (λ row. record { number = row.0.now; name = row.1.now; meaning = row.2.now; example = row.3.now; advice = row.4.now }) ERRORS.now

-- the error of this number or name
abbrev pub is_named : List ℕ → Texts → Bool
is_named word error = bytes_eq error.number word || bytes_eq error.name word

abbrev pub error_of : List ℕ → Option Texts
error_of word = find (is_named word) errors

-- what `explain` prints of it
unfoldable pub page : Texts → List ℕ
page error =
    codes "error " ++ error.number ++ codes " " ++ error.name ++ codes ": " ++ error.meaning ++ codes "\n\nExample: " ++ error.example
    ++ codes "\nWhat to do: " ++ error.advice ++ codes "\n"

-- what `explain` prints where there is no such error: the numbers and names of all
unfoldable pub known_line : Texts → List ℕ
known_line error = codes "  " ++ error.number ++ codes " " ++ error.name ++ codes "\n"

abbrev pub known_errors : List ℕ
known_errors = codes "error: NUMBER is none of these\n\n" ++ flat_map known_line errors

-- how an error begins as it is printed
abbrev pub title_of : Texts → List ℕ
title_of error = error.number ++ codes " " ++ error.name

-- the line below a refusal: what to do, and where to read more
unfoldable pub hint : Texts → List ℕ
hint error = codes "hint: " ++ error.advice ++ codes " (confstamp explain " ++ error.number ++ codes ")\n"
