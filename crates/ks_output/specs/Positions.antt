-- Where a line of an auto.conf stands, by what the lines before it said. `AutoConf` says what a whole text comes to.
use Rattle.std.specs.Prelude.{◌≡◌, ◌⊎◌, ⊤, ℕ, ◌+◌, ◌-◌, ◌≤◌, Bool, true, false, List, [], ◌∷◌, ◌++◌, bytes_eq, length, map as map_list, Option, Some, None, option_map, Result, Ok, Err, if◌then◌else◌}
use Rattle.ks_symbols.specs.declared.kinds.Class.{Class}
use Rattle.ks_symbols.specs.declared.kinds.Class.TheVariants as class
use Rattle.ks_output.specs.AutoLines.{Remark, Gives, Marks, Types, Mistypes, Numbers, Faulty, seen_remark, remark}
use Rattle.ks_output.specs.AutoConf.{is_typed, heard, first_faulty, last_number, auto_fault}
use Rattle.ks_output.specs.declared.auto_conf.AutoError.{AutoError}
use Rattle.ks_output.specs.declared.auto_conf.AutoError.TheVariants as fault
use Rattle.ks_output.specs.declared.auto_conf.Lines.{Lines}
use Rattle.ks_output.specs.declared.auto_lines.Remark as auto_lines
use Rattle.ks_output.specs.declared.positions.Position as positions
use Rattle.ks_output.specs.declared.positions.Position.TheVariants as seen

pub data Position : Type 0 where
  -- before the mark and the first entry
  Front : Position
  -- after the first entry of an untyped file
  Untyped : Position
  -- after the mark of a typed file
  Typed : Position
  -- right after the line of a name's class
  Entry : List ℕ → Class → Position

-- a position of the code, without where its bytes lie
abbrev pub seen_position : positions.Position → Position
seen_position seen.Front = Front
seen_position seen.Untyped = Untyped
seen_position seen.Typed = Typed
seen_position (seen.Entry name k) = Entry name.now k

-- the class of an entry that stands there
abbrev pub class_at : Position → Option Class
class_at Front = None
class_at Untyped = None
class_at Typed = Some class.Switch
class_at (Entry name k) = Some k

-- the position after a line, if the line may stand there
abbrev pub following : Position → Remark → Option Position
following (Entry name k) (Gives other text) = if bytes_eq name other then Some Typed else None
following (Entry name k) r = None
following position Faulty = None
following Typed Mistypes = None
following Typed (Types name k) = Some (Entry name k)
following Front Marks = Some Typed
following Front (Gives name text) = Some Untyped
following position r = Some position

-- whether an entry has to stand there
abbrev pub wants_entry : Position → Bool
wants_entry (Entry name k) = true
wants_entry position = false

-- the position before the line of a class that stands right before it, or itself
abbrev pub before_class : Position → Position
before_class (Entry name k) = Typed
before_class position = position

-- the line to blame where line n can't stand there: itself, or that of the class right before it
abbrev pub blamed : Position → ℕ → ℕ
blamed (Entry name k) n = n - 1
blamed position n = n

-- the first faulty line, where the lines that are left are counted from n on
unfoldable pub fault_left : Position → ℕ → List Remark → Option ℕ
fault_left Front n stated = first_faulty n (heard (is_typed stated) stated)
fault_left Untyped n stated = first_faulty n (heard false stated)
fault_left Typed n stated = first_faulty n stated
fault_left (Entry x k) n stated = first_faulty (n - 1) (Types x k ∷ stated)

-- what the lines say that are left
abbrev pub stated_left : Lines → List Remark
stated_left l = map_list remark l.left

-- why a text is refused whose other lines, from where these lines stand on, say so much
abbrev pub refusal_with : Lines → List Remark → Option AutoError
refusal_with l stated = option_map fault.BadAuto (fault_left (seen_position l.position) l.number stated)

-- The lines are those of a text that are left: their first fault is the text's.
pub record AreLeftOf (text : List ℕ) (l : Lines) : Type 0 where
  pub small : length text ≤ 67108864
  pub fault : fault_left (seen_position l.position) l.number (stated_left l) ≡ auto_fault text

-- An entry is wanted only right after the line of its class; and this is what that line and those before it leave.
abbrev pub IsWantedAfter : List Remark → Lines → Lines → Position → Type 0
IsWantedAfter said old new (Entry name k) = ((said ≡ []) × (seen_position old.position ≡ Entry name k)) ⊎ ((front : List Remark) × (said ≡ front ++ Types name k ∷ [])
    × ((later : List Remark) → fault_left Typed (new.number - 1) later ≡ fault_left (seen_position old.position) old.number (front ++ later)))
IsWantedAfter said old new position = ⊤

-- Lines were passed over that said so much: whatever follows, its first fault is that of both together.
pub record Passed (said : List Remark) (old new : Lines) : Type 0 where
  pub stated : stated_left old ≡ said ++ stated_left new
  pub fault : (later : List Remark) → fault_left (seen_position new.position) new.number later ≡ fault_left (seen_position old.position) old.number (said ++ later)
  pub wanted : IsWantedAfter said old new (seen_position new.position)
  pub numbers : new.number ≡ old.number + length said

-- the same of entries
abbrev pub PassedEntries : Lines → Lines → Type 0
PassedEntries old new = (entries : List (List ℕ × List ℕ)) × Passed (map_list (λ e. Gives e.0 e.1) entries) old new × (new.position ≡ old.position)

-- The lines are refused, whatever follows them.
abbrev pub AreRefused : Lines → AutoError → Type 0
AreRefused l e = (later : List Remark) → refusal_with l (stated_left l ++ later) ≡ Some e

-- one line further on, or none was left, or it is refused
abbrev pub Evaluated : Lines → Result (Option (auto_lines.Remark × Option Class)) AutoError → Lines → Type 0
Evaluated old (Ok None) new = (stated_left old ≡ []) × Passed [] old new
Evaluated old (Ok (Some x)) new = Passed (seen_remark x.0 ∷ []) old new
    × (Some (seen_position new.position) ≡ following (seen_position old.position) (seen_remark x.0)) × (x.1 ≡ class_at (seen_position old.position))
Evaluated old (Err e) new = AreRefused old e

-- All lines were passed over, and this is the generation after them; or they are refused.
abbrev pub RanOut : ℕ → Lines → Result ℕ AutoError → Lines → Type 0
RanOut before old (Ok g) new = Passed (stated_left old) old new × (g ≡ last_number (Numbers before ∷ stated_left old))
RanOut before old (Err e) new = AreRefused old e
