-- The kinds of symbols and their texts (sym_string_valid of scripts/kconfig/symbol.c, where the kernel warns; that a text of another form
-- is refused is a rule of this project).
use Rattle.std.specs.Prelude.{ℕ, Bool, ◌||◌, ◌&&◌, not, ◌==◌, nat_eq, nat_lt, List, length, slice_index, codes, [], ◌∷◌, ◌≡◌, cond, drop, bytes_eq, if◌then◌else◌, refl, false, true}
use Rattle.std.specs.List.{list_all, starts_with, ends_with}
use Rattle.std.specs.Char.{is_ascii_digit, is_ascii_hexdigit}
use Rattle.std.specs.Coded.{Coded, code_by, coded_ℕ}
use Rattle.ks_symbols.specs.Names.{is_name, module_end}
use Rattle.ks_symbols.specs.declared.kinds.Kind.{Kind}
use Rattle.ks_symbols.specs.declared.kinds.Kind.TheVariants as kind
use Rattle.ks_symbols.specs.declared.kinds.Class.{Class}
use Rattle.ks_symbols.specs.declared.kinds.Class.TheVariants as class

-- 0 alone, or a digit 1 to 9 followed by digits
abbrev pub is_numeral : List ℕ → Bool
is_numeral digits = bytes_eq digits (codes "0") || (not (length digits == 0) && not (slice_index digits 0 == 48) && list_all is_ascii_digit digits)

-- a numeral, which a minus may precede
abbrev pub is_integer : List ℕ → Bool
is_integer text = is_numeral (cond (starts_with nat_eq text (codes "-")) (drop 1 text) text)

-- hexadecimal digits, which 0x or 0X may precede
abbrev pub is_hexadecimal : List ℕ → Bool
is_hexadecimal text =
    let digits = cond (starts_with nat_eq text (codes "0x") || starts_with nat_eq text (codes "0X")) (drop 2 text) text in
    not (length digits == 0) && list_all is_ascii_hexdigit digits

-- what no line and no C string can hold: LF, CR and NUL
abbrev pub is_string_byte : ℕ → Bool
is_string_byte b = not (b == 10 || b == 13 || b == 0)

-- a quote at both ends, and whatever a string can hold between them
abbrev pub is_raw : List ℕ → Bool
is_raw text = nat_lt 1 (length text) && starts_with nat_eq text (34 ∷ []) && ends_with nat_eq text (34 ∷ []) && list_all is_string_byte text

-- whether it is a text of the kind
unfoldable pub is_text : Kind → List ℕ → Bool
is_text kind.Bool text = bytes_eq text (codes "y") || bytes_eq text (codes "n")
is_text kind.Tristate text = bytes_eq text (codes "y") || bytes_eq text (codes "m") || bytes_eq text (codes "n")
is_text kind.Text text = list_all is_string_byte text
is_text kind.Int text = is_integer text
is_text kind.Hex text = is_hexadecimal text
is_text kind.Raw text = is_raw text
is_text kind.Flag text = bytes_eq text (codes "y") || bytes_eq text (codes "n")
is_text kind.Companion text = bytes_eq text (codes "y")
is_text kind.EmptyInt text = length text == 0
is_text kind.EmptyHex text = length text == 0

-- whether a symbol of the kind may have the name: with _MODULE at its end its macro would be that of a module, but a flag's begins otherwise,
-- and a companion's is that very macro
abbrev pub fits : Kind → List ℕ → Bool
fits kind.Flag name = true
fits kind.Companion name = nat_lt 7 (length name) && ends_with nat_eq name module_end
fits k name = not (ends_with nat_eq name module_end)

-- a name that a symbol of the kind may have
unfoldable pub is_symbol_name : Kind → List ℕ → Bool
is_symbol_name k name = is_name name && fits k name

-- a bool or tristate with the value n
abbrev pub is_off : Kind → List ℕ → Bool
is_off kind.Bool text = bytes_eq text (codes "n")
is_off kind.Tristate text = bytes_eq text (codes "n")
is_off kind.Flag text = bytes_eq text (codes "n")
is_off k text = false

-- bool and tristate count as one
abbrev pub class_of : Kind → Class
class_of kind.Bool = class.Switch
class_of kind.Tristate = class.Switch
class_of kind.Text = class.Text
class_of kind.Int = class.Int
class_of kind.Hex = class.Hex
class_of kind.Raw = class.Raw
class_of kind.Flag = class.Flag
class_of kind.Companion = class.Switch
class_of kind.EmptyInt = class.Int
class_of kind.EmptyHex = class.Hex

-- kinds as numbers, by which a proof tells them apart
abbrev pub kind_number : Kind → ℕ
kind_number kind.Bool = 0
kind_number kind.Tristate = 1
kind_number kind.Text = 2
kind_number kind.Int = 3
kind_number kind.Hex = 4
kind_number kind.Raw = 5
kind_number kind.Flag = 6
kind_number kind.Companion = 7
kind_number kind.EmptyInt = 8
kind_number kind.EmptyHex = 9

abbrev pub numbered_kind : ℕ → Kind
numbered_kind n = if n == 0 then kind.Bool else if n == 1 then kind.Tristate else if n == 2 then kind.Text else if n == 3 then kind.Int else if n == 4 then kind.Hex else if n == 5 then kind.Raw else if n == 6 then kind.Flag else if n == 7 then kind.Companion else if n == 8 then kind.EmptyInt else kind.EmptyHex

abbrev pub numbered_again : (k : Kind) → numbered_kind (kind_number k) ≡ k
numbered_again kind.Bool = refl
numbered_again kind.Tristate = refl
numbered_again kind.Text = refl
numbered_again kind.Int = refl
numbered_again kind.Hex = refl
numbered_again kind.Raw = refl
numbered_again kind.Flag = refl
numbered_again kind.Companion = refl
numbered_again kind.EmptyInt = refl
numbered_again kind.EmptyHex = refl

abbrev pub coded_kind : Coded Kind
coded_kind = code_by ℕ coded_ℕ kind_number numbered_kind numbered_again

-- classes as numbers, likewise
abbrev pub class_number : Class → ℕ
class_number class.Switch = 0
class_number class.Text = 1
class_number class.Int = 2
class_number class.Hex = 3
class_number class.Raw = 4
class_number class.Flag = 5

abbrev pub numbered_class : ℕ → Class
numbered_class n = if n == 0 then class.Switch else if n == 1 then class.Text else if n == 2 then class.Int else if n == 3 then class.Hex else if n == 4 then class.Raw else class.Flag

abbrev pub class_again : (k : Class) → numbered_class (class_number k) ≡ k
class_again class.Switch = refl
class_again class.Text = refl
class_again class.Int = refl
class_again class.Hex = refl
class_again class.Raw = refl
class_again class.Flag = refl

abbrev pub coded_class : Coded Class
coded_class = code_by ℕ coded_ℕ class_number numbered_class class_again
