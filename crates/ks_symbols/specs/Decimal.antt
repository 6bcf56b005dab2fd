-- Numbers in decimal, as generations and stamps have them. A format of this project.
use Rattle.std.specs.Prelude.{ℕ, Bool, ◌&&◌, not, ◌==◌, List, ◌≡◌, [], ◌∷◌, Option, Some, None, if◌then◌else◌, false, nat_lt, true, ◌<◌, ◌^◌, decimal}
use Rattle.std.specs.List.{list_all}
use Rattle.std.specs.Char.{is_ascii_digit}
use Rattle.std.specs.Str.Parse.{digits_value}

-- the first digit is not 0, or it is the only one
abbrev pub starts_well : List ℕ → Bool
starts_well [] = false
starts_well (d ∷ []) = true
starts_well (d ∷ e ∷ rest) = not (d == 48)

-- `0` alone, or a digit 1 to 9 followed by digits
abbrev pub is_canonical : List ℕ → Bool
is_canonical text = starts_well text && list_all is_ascii_digit text

-- the number of a decimal below 2 ^ 64
abbrev pub decimal_value : List ℕ → Option ℕ
decimal_value text =
    if is_canonical text && nat_lt (digits_value 10 text) (2 ^ 64) then Some (digits_value 10 text) else None

-- what is written of a number is read as the number, and nothing else is
abbrev pub ReadsBack : Type 0
ReadsBack = (n : ℕ) → n < 2 ^ 64 → decimal_value (decimal n) ≡ Some n

abbrev pub ReadsOnlyWritten : Type 0
ReadsOnlyWritten = (text : List ℕ) (n : ℕ) → decimal_value text ≡ Some n → text ≡ decimal n
