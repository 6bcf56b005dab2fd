-- What an auto.conf says when it is read, and why one is refused. The last line about a name counts, as in scripts/kconfig/confdata.c; the
-- typed form, and that a line that says nothing known is refused, are rules of this project.
use Rattle.std.specs.Prelude.{ℕ, ◌+◌, Bool, true, false, not, nat_lt, List, [], ◌∷◌, length, bytes_eq, reverse, slice_index, Option, Some, None, option_map, if◌then◌else◌}
use Rattle.std.specs.List.{filter_map}
use Rattle.std.specs.FinMap as map
use Rattle.ks_symbols.specs.declared.kinds.Class.{Class}
use Rattle.ks_symbols.specs.declared.kinds.Class.TheVariants as class
use Rattle.ks_symbols.specs.Lines.{max_bytes}
use Rattle.ks_output.specs.declared.auto_conf.AutoError.{AutoError}
use Rattle.ks_output.specs.declared.auto_conf.AutoError.TheVariants as fault
use Rattle.ks_output.specs.AutoLines.{Remark, Gives, Marks, Types, Mistypes, Numbers, CommentOrBlank, Faulty, remarks}
use Rattle.ks_output.specs.OldConfig.{Texts}

-- A file is typed where the mark stands before its first entry.
unfoldable pub is_typed : List Remark → Bool
is_typed [] = false
is_typed (Marks ∷ stated) = true
is_typed (Gives name text ∷ stated) = false
is_typed (r ∷ stated) = is_typed stated

-- each remark after the one of the line before it
unfoldable pub neighbours : Remark → List Remark → List (Remark × Remark)
neighbours before [] = []
neighbours before (r ∷ stated) = (before, r) ∷ neighbours r stated

-- In a typed file the line right before an entry says its class, and where it says none the entry is a bool or tristate.
abbrev pub class_by : Bool → Remark → Option Class
class_by false before = None
class_by true (Types name k) = Some k
class_by true before = Some class.Switch

abbrev pub given : Bool → Remark × Remark → Option (List ℕ × (Option Class × List ℕ))
given typed (before, Gives name text) = Some (name, (class_by typed before, text))
given typed pair = None

-- The texts with their classes: of each name the last line counts.
unfoldable pub texts_given : List Remark → Texts
texts_given stated = map.from_entries (filter_map (given (is_typed stated)) (reverse (neighbours CommentOrBlank stated)))

unfoldable pub auto_map : List ℕ → Texts
auto_map text = texts_given (remarks text)

abbrev pub number : Remark → Option ℕ
number (Numbers g) = Some g
number r = None

-- The generation: the last line counts, and none is 0.
abbrev pub last_number : List Remark → ℕ
last_number stated = slice_index (filter_map number (reverse stated)) 0

unfoldable pub auto_generation : List ℕ → ℕ
auto_generation text = last_number (remarks text)

abbrev pub without_class : Remark → Remark
without_class (Types name k) = CommentOrBlank
without_class Mistypes = CommentOrBlank
without_class r = r

-- Lines on classes say nothing in an untyped file, nor before the mark of a typed one.
unfoldable pub heard : Bool → List Remark → List Remark
heard typed [] = []
heard typed (Marks ∷ stated) = Marks ∷ (if typed then stated else heard typed stated)
heard typed (r ∷ stated) = without_class r ∷ heard typed stated

-- The line of a class stands right before an entry of its name.
abbrev pub is_followed : List ℕ → List Remark → Bool
is_followed name (Gives other text ∷ later) = bytes_eq name other
is_followed name later = false

-- whether a line is faulty, by the lines after it
abbrev pub is_faulty : Remark → List Remark → Bool
is_faulty Faulty later = true
is_faulty Mistypes later = true
is_faulty (Types name k) later = not (is_followed name later)
is_faulty r later = false

-- the number of the first faulty line, where they are counted from n on
unfoldable pub first_faulty : ℕ → List Remark → Option ℕ
first_faulty n [] = None
first_faulty n (r ∷ later) = if is_faulty r later then Some n else first_faulty (n + 1) later

abbrev pub fault_in : List Remark → Option ℕ
fault_in stated = first_faulty 1 (heard (is_typed stated) stated)

unfoldable pub auto_fault : List ℕ → Option ℕ
auto_fault text = fault_in (remarks text)

-- Why a text is refused: it is too large, or a line is faulty.
unfoldable pub auto_refusal : List ℕ → Option AutoError
auto_refusal text = if nat_lt max_bytes (length text) then Some fault.TooLarge else option_map fault.BadAuto (auto_fault text)
