-- Which files were read of a tree, one after the other, where nothing else was asked of it.
use Rattle.std.specs.Prelude.{◌≡◌, ◌⊎◌, ℕ, List, [], ◌∷◌, Option, Some, None}

-- the path that may be named
abbrev pub if_named : Option (List ℕ) → List (List ℕ)
if_named None = []
if_named (Some path) = path ∷ []

-- Each of these files was read, in their order and once. What one reading does is the tree's to say.
abbrev pub ReadsEach : {T : Type 0} → (T → List ℕ → T → Type 0) → T → List (List ℕ) → T → Type 0
ReadsEach {T} reads old [] new = new ≡ old
ReadsEach {T} reads old (path ∷ paths) new = (next : T) × reads old path next × ReadsEach reads next paths new

-- .. or a beginning of them
abbrev pub ReadsSome : {T : Type 0} → (T → List ℕ → T → Type 0) → T → List (List ℕ) → T → Type 0
ReadsSome {T} reads old [] new = new ≡ old
ReadsSome {T} reads old (path ∷ paths) new = (new ≡ old) ⊎ ((next : T) × reads old path next × ReadsSome reads next paths new)
