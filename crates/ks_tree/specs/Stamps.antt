-- The number that a stamp holds, and what touching leaves. A format of this project: Kbuild's stamps are empty, and their time counts.
use Rattle.std.specs.Prelude.{◌≡◌, ◌≢◌, ℕ, ◌<◌, ◌^◌, List, [], ◌∷◌, ◌++◌, ◌⊎◌, Option, Some, None, decimal, true, if◌then◌else◌, IsTrue, ⊤}
use Rattle.ks_symbols.specs.Names.{is_name, is_in}
use Rattle.ks_tree.specs.declared.fault.TreeError.{TreeError}
use Rattle.ks_tree.specs.declared.fault.TreeError.TheVariants as error
use Rattle.ks_tree.specs.Files.{Files, content, kept_or, IsTooLarge}
use Rattle.ks_tree.specs.Paths.{stamp_path, stamp_temporary}

-- the bytes of the stamp of generation g
abbrev pub stamp_text : ℕ → List ℕ
stamp_text g = decimal g ++ 10 ∷ []

-- A missing or empty stamp counts as 0, and else it is the decimal of its number and LF.
abbrev pub HasNumber : Option (List ℕ) → ℕ → Type 0
HasNumber None n = n ≡ 0
HasNumber (Some stamp) n = ((stamp ≡ []) × (n ≡ 0)) ⊎ ((stamp ≡ stamp_text n) × (n < 2 ^ 64))

-- It holds no number.
abbrev pub IsNoStamp : Option (List ℕ) → Type 0
IsNoStamp file = (n : ℕ) → HasNumber file n → ⊥

-- Why the stamp of a name was not read, memory and device aside.
abbrev pub IsStampRefusal : List ℕ → Option (List ℕ) → TreeError → Type 0
IsStampRefusal x file (error.BadStamp y) = (y ≡ x) × IsNoStamp file × (IsTooLarge file → ⊥)
IsStampRefusal x file error.TooLarge = IsTooLarge file
IsStampRefusal x file e = ⊤

-- Each of these names has the stamp that it had, or an empty one, whose number is 0, where it had none. Nothing else has changed.
pub record MakesStamps (xs : List (List ℕ)) (old new : Files) : Type 0 where
  pub made : (x : List ℕ) → is_in xs x ≡ true → content new (stamp_path x) ≡ Some (kept_or (content old (stamp_path x)) [])
  pub others : (q : List ℕ) → ((x : List ℕ) → is_in xs x ≡ true → q ≢ stamp_path x) → content new q ≡ content old q

-- These names' stamps are set, and nothing else has changed but the temporary file.
pub record Touches (xs : List (List ℕ)) (g : ℕ) (old new : Files) : Type 0 where
  pub stamps : (x : List ℕ) → IsTrue (is_name x) → content new (stamp_path x) ≡ (if is_in xs x then Some (stamp_text g) else content old (stamp_path x))
  pub others : (q : List ℕ) → q ≢ stamp_temporary → ((x : List ℕ) → is_in xs x ≡ true → q ≢ stamp_path x) → content new q ≡ content old q

-- what the temporary file of the stamps holds once these names' are set: it is gone, or where there are none what it was
abbrev pub left_over : List (List ℕ) → Option (List ℕ) → Option (List ℕ)
left_over [] old = old
left_over (x ∷ xs) old = None
