-- A room that is filled piece by piece.
use Rattle.std.proofs.Common.{◌≡◌, ◌≤◌, ◌+◌, ◌-◌, ◌++◌, ℕ, List, Option, Some, true, is_some, length, take, drop, subst, sym, ap, min, ◌∙◌, arith, refl}
use Rattle.std.proofs.lemmas.List.{length-drop, drop-drop, append_assoc, take_at, length-take-le, length-take, take_min}
use Rattle.std.proofs.Math.Seq.{drop-append_seam}
use Rattle.ks_tree.specs.Files.{IsPieceRead, IsReadAt}
use Rattle.ks_system.specs.System.{IsSomeRead, IsSomeReadAt}
use Rattle.ks_system.proofs.Pieces.{some_same, take_on}
use Rattle.ks_system.proofs.Ahead.{the_file}

-- what the room holds so far
pub record IsFilledTo (file : Option (List ℕ)) (offset : ℕ) (old new : List ℕ) (given : ℕ) : Type 0 where
  pub is : (b : List ℕ) → file ≡ Some b → new ≡ take given (drop offset b) ++ drop given old
  pub within : (b : List ℕ) → file ≡ Some b → given ≤ length (drop offset b)

pub nothing_filled : (file : Option (List ℕ)) (offset : ℕ) (into : List ℕ) → IsFilledTo file offset into into 0
nothing_filled file offset into = record { is = λ b there. refl; within = λ b there. omega arith }

-- one more piece in the room
filled_on : (b old into new buffer rest : List ℕ) (offset given n : ℕ) → into ≡ take given (drop offset b) ++ drop given old → given ≤ length (drop offset b)
    → IsSomeRead b (offset + given) rest new n → rest ≡ drop given into → buffer ≡ take given into ++ new
    → buffer ≡ take (given + n) (drop offset b) ++ drop (given + n) old
filled_on b old into new buffer rest offset given n is within some left put =
    let part = drop offset b in let short = length-take-le given part within in
    let kept = take_at (take given part) (drop given old) given short in
    let seam = drop-append_seam (take given part) (drop given old) in
    let past = subst (λ k. drop k (take given part ++ drop given old) ≡ drop given old) short seam in
    let one = drop-drop given offset b in let two = drop-drop n given old in let whole = take_on given n part in
    let parts = append_assoc (take given part) (take n (drop given part)) (drop (given + n) old) in let bytes = some.bytes in cc

add_none : (given n : ℕ) → n ≡ 0 → given + n ≡ given
add_none given n none = omega arith

fits : (b offset given n d e : ℕ) → d ≡ b - offset → e ≡ b - (offset + given) → given ≤ d → n ≤ e → given + n ≤ d
fits b offset given n d e is is' below more = omega arith

-- the room holds all that there is room for, or all that the file has
given_is : (b old into rest new : List ℕ) (offset given n : ℕ) → given ≤ length (drop offset b) → IsSomeRead b (offset + given) rest new n
    → rest ≡ drop given into → n ≡ 0 → length into ≡ length old → given ≤ length into → given ≡ min (length old) (length (drop offset b))
given_is b old into rest new offset given n within some left none same buffer =
    let end = some.end none in let part = length-drop offset b in let more = length-drop given into in let long = ap length left in grind arith

ended : (b old into new buffer rest : List ℕ) (offset given n : ℕ) → into ≡ take given (drop offset b) ++ drop given old → given ≤ length (drop offset b)
    → IsSomeRead b (offset + given) rest new n → rest ≡ drop given into → buffer ≡ take given into ++ new → n ≡ 0 → length into ≡ length old
    → given ≤ length into → IsPieceRead b offset old buffer given
ended b old into new buffer rest offset given n is within some left put none same below =
    let count = given_is b old into rest new offset given n within some left none same below in
    let filled = filled_on b old into new buffer rest offset given n is within some left put in
    let all = take_min (length old) (drop offset b) in
    let stays = add_none given n none in record {
      is = count ∙ sym (length-take (length old) (drop offset b));
      bytes = cc;
    }

pub filled_at : (file now : Option (List ℕ)) (old into new buffer rest : List ℕ) (offset given k n : ℕ) → IsFilledTo file offset old into given
    → now ≡ file → IsSomeReadAt now k rest new n → k ≡ offset + given → rest ≡ drop given into → buffer ≡ take given into ++ new
    → IsFilledTo file offset old buffer (given + n)
filled_at file now old into new buffer rest offset given k n so_far same some here left put =
    let there = sym same ∙ some.1 in
    let piece = subst (λ k. IsSomeRead some.0 k rest new n) here some.2 in
    let filled = filled_on some.0 old into new buffer rest offset given n (so_far.is some.0 there) (so_far.within some.0 there) piece left put in
    let one = length-drop offset some.0 in let two = length-drop (offset + given) some.0 in let before = so_far.within some.0 there in let after = piece.within in
    let short = fits (length some.0) offset given n _ _ one two before after in record {
      is = λ b' there'. subst (λ b. buffer ≡ take (given + n) (drop offset b) ++ drop (given + n) old) (some_same file some.0 b' there there') filled;
      within = λ b' there'. subst (λ b. given + n ≤ length (drop offset b)) (some_same file some.0 b' there there') short;
    }

pub read_end : (file now : Option (List ℕ)) (old into new buffer rest : List ℕ) (offset given k n : ℕ) → IsFilledTo file offset old into given
    → now ≡ file → IsSomeReadAt now k rest new n → k ≡ offset + given → rest ≡ drop given into → buffer ≡ take given into ++ new
    → n ≡ 0 → length into ≡ length old → given ≤ length into → IsReadAt file offset old buffer (Some given)
read_end file now old into new buffer rest offset given k n so_far same some here left put none long below =
    let there = sym same ∙ some.1 in
    let piece = subst (λ k. IsSomeRead some.0 k rest new n) here some.2 in
    (some.0, there, ended some.0 old into new buffer rest offset given n (so_far.is some.0 there) (so_far.within some.0 there) piece left put none long below)

all_is : (old part : List ℕ) (given : ℕ) → given ≤ length part → given ≡ length old → given ≡ min (length old) (length part)
all_is old part given within all = omega arith

-- the room is full
pub read_full : (file : Option (List ℕ)) (old into : List ℕ) (offset given : ℕ) → IsFilledTo file offset old into given → is_some file ≡ true
    → given ≡ length into → length into ≡ length old → IsReadAt file offset old into (Some given)
read_full file old into offset given so_far there all long =
    let b = the_file file there in
    let count = all_is old (drop offset b.0) given (so_far.within b.0 b.1) (all ∙ long) in
    let whole = take_min (length old) (drop offset b.0) in
    let is = so_far.is b.0 b.1 in (
      b.0,
      b.1,
      record {
        is = count ∙ sym (length-take (length old) (drop offset b.0));
        bytes = cc;
      },
    )
