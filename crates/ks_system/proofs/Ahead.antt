-- What was read ahead is given in turn, and none is left out.
use Rattle.std.proofs.Common.{◌≡◌, ◌≤◌, ◌<◌, ◌+◌, ◌-◌, ◌++◌, ℕ, List, [], Option, Some, None, true, is_some, length, take, drop, subst, sym, ap, min, arith, refl, rules}
use Rattle.std.proofs.lemmas.List.{length-take-le, drop-take, take-take, length-drop, length-take, drop-drop, take_at}
use Rattle.ks_system.specs.System.{IsSomeReadAt}
use Rattle.ks_system.specs.Reading.{Ahead, IsAheadOf, nothing_of}
use Rattle.ks_system.proofs.Pieces.{piece_read, some_same}

is_there : (file : Option (List ℕ)) (b : List ℕ) → file ≡ Some b → is_some file ≡ true
is_there file b p = subst (λ o. is_some o ≡ true) (sym p) refl

pub the_file : (file : Option (List ℕ)) → is_some file ≡ true → (b : List ℕ) × (file ≡ Some b)
the_file (Some x) p = (x, refl)
the_file None p = search rules

-- nothing was read ahead of a file that is there
pub nothing_ahead : (file : Option (List ℕ)) (a : Ahead) (path : List ℕ) (offset : ℕ) → IsAheadOf file a → IsAheadOf file (nothing_of path offset)
nothing_ahead file a path offset is = (is.0, λ b there. refl)

-- what was read from the system is ahead
pub ahead_read : (file : Option (List ℕ)) (offset n : ℕ) (old new : List ℕ) (a : Ahead) → IsSomeReadAt file offset old new n → n ≤ length new
    → a.offset ≡ offset → a.bytes ≡ take n new → IsAheadOf file a
ahead_read file offset n old new a some within at bytes = (
  is_there file some.0 some.1,
  λ b is.
      let same = some_same file some.0 b some.1 is in
      let piece = piece_read some.0 old new offset n some.2 in
      let long = length-take-le n new within in cc,
)

-- what was read into the room is ahead
pub ahead_in_buffer : (file : Option (List ℕ)) (offset o n size : ℕ) (old new rest : List ℕ) → IsSomeReadAt file offset old new n → n ≤ length new
    → length new ≡ size → o ≡ offset
    → (is_some file ≡ true) × ((b : List ℕ) → file ≡ Some b
    → take n (take size (new ++ rest)) ≡ take (length (take n (take size (new ++ rest)))) (drop o b))
ahead_in_buffer file offset o n size old new rest some within long at =
    ahead_read file offset n old new (record { path = []; offset = o; bytes = take n (take size (new ++ rest)) }) some within at
    (ap (take n) (take_at new rest size long))

-- none is read at the end alone
pub read_none : (file : Option (List ℕ)) (offset o n : ℕ) (old new : List ℕ) → IsSomeReadAt file offset old new n → 0 < length old → o ≡ offset → n ≡ 0
    → (b : List ℕ) → file ≡ Some b → length b ≤ o
read_none file offset o n old new some buffer at none b there =
    let end = some.2.end none buffer in
    subst (λ b. length b ≤ o) (some_same file some.0 b some.1 there) (subst (λ k. length some.0 ≤ k) (sym at) end)

-- what is left after some was given is ahead
pub served_ahead : (file : Option (List ℕ)) (o o' n : ℕ) (xs xs' : List ℕ)
    → (is_some file ≡ true) × ((b : List ℕ) → file ≡ Some b → xs ≡ take (length xs) (drop o b)) → n ≤ length xs → xs' ≡ drop n xs → o' ≡ o + n
    → (is_some file ≡ true) × ((b : List ℕ) → file ≡ Some b → xs' ≡ take (length xs') (drop o' b))
served_ahead file o o' n xs xs' is within left at = (
  is.0,
  λ b there.
      let whole = is.1 b there in
      let sum : n + (length xs - n) ≡ length xs = omega arith in
      let cut = drop-take n (length xs - n) (drop o b) in
      let past = drop-drop n o b in
      let long = length-drop n xs in
      let same = ap length left in cc,
)

empty : (a b n : ℕ) → n ≡ min a b → n ≡ 0 → 0 < b → a ≡ 0
empty a b n is none buffer = omega arith

-- what was given are the next bytes
pub served : (file : Option (List ℕ)) (a : Ahead) (old new : List ℕ) (n : ℕ) → IsAheadOf file a → n ≡ min (length a.bytes) (length old)
    → new ≡ take n a.bytes ++ drop n old → (length a.bytes ≡ 0 → (b : List ℕ) → file ≡ Some b → length b ≤ a.offset) → IsSomeReadAt file a.offset old new n
served file a old new n is count given end =
    let b = the_file file is.0 in
    let whole = is.1 b.0 b.1 in
    let long = ap length whole in
    let cut = length-take (length a.bytes) (drop a.offset b.0) in (
      b.0,
      b.1,
      record {
        bytes = let twice = take-take n (length a.bytes) (drop a.offset b.0) (omega arith) in cc;
        within = grind arith;
        end = λ none buffer. end (empty (length a.bytes) (length old) n count none buffer) b.0 b.1;
      },
    )
