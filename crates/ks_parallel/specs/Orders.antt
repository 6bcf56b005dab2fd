-- What several processes do to one tree, in the order in which it happens: each thing with the number of its process.
use Rattle.std.specs.Prelude.{◌≡◌, ℕ, List, [], ◌∷◌, Bool, true, false, nat_eq, map, if◌then◌else◌, ⊤}
use Rattle.ks_tree.specs.Files.{Files}
use Rattle.ks_parallel.specs.Calls.{Call, after_all, AllFind, writes, uses, view}

-- what a process does of its own, and what all of them do
abbrev pub own : {A : Type 0} → ℕ → List (ℕ × A) → List A
own i [] = []
own i (x ∷ xs) = if nat_eq x.0 i then x.1 ∷ own i xs else own i xs

abbrev pub all : {A : Type 0} → List (ℕ × A) → List A
all xs = map (λ x. x.1) xs

-- An order of what these processes do: a shuffle, in which each one's own stays in its order.
abbrev pub IsOrderOf : {A : Type 0} → (ℕ → List A) → List (ℕ × A) → Type 0
IsOrderOf parts xs = (i : ℕ) → own i xs ≡ parts i

-- It holds of each thing and its process.
abbrev pub EachOf : {A : Type 0} → (ℕ → A → Type 0) → List (ℕ × A) → Type 0
EachOf P [] = ⊤
EachOf P (x ∷ xs) = P x.0 x.1 × EachOf P xs

-- A call of a process uses only what this process sees, and no other process sees what it writes.
pub record KeepsApart (sees : ℕ → List ℕ → Bool) (i : ℕ) (c : Call) : Type 0 where
  pub seen : (q : List ℕ) → uses c q ≡ true → sees i q ≡ true
  pub unseen : (q : List ℕ) (j : ℕ) → writes c q ≡ true → (i ≡ j → ⊥) → sees j q ≡ false

-- To a process its view is the whole tree: its own calls alone, made of its view, find the same and leave the same.
abbrev pub ViewsAreHonest : Type 0
ViewsAreHonest =
    (sees : ℕ → List ℕ → Bool) (files : Files) (calls : List (ℕ × Call)) (i : ℕ) → EachOf (KeepsApart sees) calls → AllFind files (all calls)
    → AllFind (view (sees i) files) (own i calls)
    × (view (sees i) (after_all files (all calls)) ≡ after_all (view (sees i) files) (own i calls))

-- Any other order of the same calls finds the same and leaves the same files.
abbrev pub OrdersLeaveTheSame : Type 0
OrdersLeaveTheSame =
    (sees : ℕ → List ℕ → Bool) (files : Files) (calls other : List (ℕ × Call)) → EachOf (KeepsApart sees) calls → IsOrderOf (λ i. own i calls) other
    → AllFind files (all calls) → AllFind files (all other) × (after_all files (all other) ≡ after_all files (all calls))
