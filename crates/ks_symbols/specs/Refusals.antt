-- Refusals: which one a text earns, and what a reader may answer.
use Rattle.std.specs.Prelude.{◌≡◌, ◌⊎◌, Option, Some, None, Result, Ok, Err}

-- the first refusal, or the second where there is none
abbrev pub or_else : {E : Type 0} → Option E → Option E → Option E
or_else None later = later
or_else (Some e) later = Some e

-- An error is the refusal that the definitions have, or want of memory, whichever type of error it is.
abbrev pub IsRefusal : {E : Type 0} → E → E → Option E → Type 0
IsRefusal memory e refusal = (e ≡ memory) ⊎ (refusal ≡ Some e)

-- A reader's result against the refusal that the definitions have: want of memory aside, it refuses exactly then, and so.
abbrev pub RefusedBy : {X E : Type 0} → E → Result X E → Option E → Type 0
RefusedBy memory (Ok x) refusal = refusal ≡ None
RefusedBy memory (Err e) refusal = IsRefusal memory e refusal
