-- A source read in pieces.
use Rattle.ks_engine.proofs.Prelude.{◌≡◌, ℕ, ◌+◌, ◌-◌, ◌≤◌, ◌<◌, List, ◌++◌, Option, Some, Ok, Err, sym, ap, ◌∙◌, length, take, drop, min, arith, lt-ltb, le-ltb, cond-true, cond-false, length-take, length-drop, take-append-drop, take-take, drop-take, take-append_seam, IsPieceRead, names_in_as, ScanRules, scanned, TooLarge, common_steps, rules}
use Rattle.std.proofs.Common.{append_assoc, subst, length-append}
use Rattle.std.proofs.lemmas.List.{append-nil, take_all, drop_all, append_cancel_left, length-take-le}
use Rattle.std.proofs.Math.Seq.{drop-append_seam}
use Rattle.ks_tree.specs.Files.{IsReadAt, IsTooLarge}
use Rattle.ks_engine.specs.LastSync.{IsReadBehind}
use borrow.Rule.Slice.PartMut.{put_mid}

take_further : (n m : ℕ) (xs : List ℕ) → take (n + m) xs ≡ take n xs ++ take m (drop n xs)
take_further n m xs = let same = take-take n (n + m) xs (omega arith) in cc (take-append-drop n (take (n + m) xs), drop-take n m xs)

-- how many bytes a piece has
count_is : (b old new : List ℕ) (offset n : ℕ) → IsPieceRead b offset old new n → n ≡ min (length old) (length b - offset)
count_is b old new offset n read = read.is ∙ length-take (length old) (drop offset b) ∙ ap (min (length old)) (length-drop offset b)

-- The room was not filled: all has been read.
pub scanned_whole : (r : ScanRules) (path b old new : List ℕ) (found : List (List ℕ)) (offset n : ℕ) → IsPieceRead b offset old new n → length old ≡ 4096 → n < 4096 → offset
    + n ≤ 67108864
    → found ≡ names_in_as r (take (offset + n) b) → scanned r path (Some b) ≡ Ok found
scanned_whole r path b old new found offset n read buffer short small names = grind (arith, common_steps, count_is, cond-false, le-ltb, take_all)

-- A byte past the limit has been read.
pub scanned_large : (r : ScanRules) (path b old new : List ℕ) (offset n : ℕ) → IsPieceRead b offset old new n → 67108864 < offset + n → offset ≤ 67108864
    → scanned r path (Some b) ≡ Err TooLarge
scanned_large r path b old new offset n read large small = grind (arith, common_steps, count_is, cond-true, lt-ltb)

-- The next piece stands after what has been read.
pub piece_after : (b old new : List ℕ) (offset n : ℕ) → IsPieceRead b offset old new n → take offset b ++ take n new ≡ take (offset + n) b
piece_after b old new offset n read = search (rules, length-take, take-append_seam, take_all, take-take, take_further)

pub same_source : (file : Option (List ℕ)) (a b : List ℕ) → file ≡ Some a → file ≡ Some b → a ≡ b
same_source file a b p q = let e : Some a ≡ Some b = sym p ∙ q in cc

-- ---- auto.conf, read behind what is kept

put_all : (g : ℕ) (into new : List ℕ) → g ≤ length into → put_mid g (length into - g) into new ≡ take g into ++ new
put_all g into new within =
    let left = length-drop g into in let none = drop_all (length into - g) (drop g into) (omega arith) in let nil = append-nil new in cc

seam_taken : (k n : ℕ) (xs ys : List ℕ) → length xs ≡ k → take (k + n) (xs ++ ys) ≡ xs ++ take n ys
seam_taken k n xs ys long =
    let first = subst (λ j. take j (xs ++ ys) ≡ xs) long (take-append_seam xs ys) in
    let rest = subst (λ j. drop j (xs ++ ys) ≡ ys) long (drop-append_seam xs ys) in
    take_further k n (xs ++ ys) ∙ ap (λ l. l ++ take n (drop k (xs ++ ys))) first ∙ ap (λ r. xs ++ take n r) rest

given_is : (b rest into : List ℕ) (offset n : ℕ) → IsPieceRead b offset rest into n → take n into ≡ take n (drop offset b)
given_is b rest into offset n read = append_cancel_left (take offset b) (take n into) (take n (drop offset b)) (piece_after b rest into offset n read ∙ take_further offset n b)

room_long : (b rest into : List ℕ) (offset n : ℕ) → IsPieceRead b offset rest into n → length into ≡ length rest
room_long b rest into offset n read =
    let count = count_is b rest into offset n read in
    let whole = ap length read.bytes ∙ length-append (take (length rest) (drop offset b)) (drop n rest) in
    let first = read.is in
    let left = length-drop n rest in
    omega (arith, count, whole, first, left)

-- The room's first bytes, and the piece behind them.
pub behind : (file : Option (List ℕ)) (offset kept n : ℕ) (old rest into : List ℕ) → kept ≤ length old → rest ≡ drop kept old → IsReadAt file offset rest into (Some n)
    → IsReadBehind file offset kept old (put_mid kept (length old - kept) old into) (Some (kept + n))
behind file offset kept n old rest into within is (b, at, read) =
    let room = put_mid kept (length old - kept) old into in
    let put = put_all kept old into within in
    let short = length-take-le kept old within in
    let less : kept + n - kept ≡ n = omega arith in
    let count = count_is b rest into offset n read in
    let long = room_long b rest into offset n read in
    let whole : length room ≡ kept + length into = ap length put ∙ length-append (take kept old) into ∙ ap (λ k. k + length into) short in
    let bytes : take (kept + n) room ≡ take kept old ++ take (kept + n - kept) (drop offset b) =
    ap (take (kept + n)) put ∙ seam_taken kept n (take kept old) into short ∙ ap (λ p. take kept old ++ p) (given_is b rest into offset n read)
    ∙ ap (λ k. take kept old ++ take k (drop offset b)) (sym less) in
    (b, at, bytes, λ more. omega (arith, more, whole, long, count, less))

pub text_behind : (t b old new : List ℕ) (offset kept end : ℕ) → t ++ take kept old ≡ take offset b → take end new ≡ take kept old ++ take (end - kept) (drop offset b)
    → t ++ take end new ≡ take (offset + (end - kept)) b
text_behind t b old new offset kept end so_far next =
    ap (λ p. t ++ p) next ∙ sym (append_assoc t (take kept old) (take (end - kept) (drop offset b))) ∙ ap (λ p. p ++ take (end - kept) (drop offset b)) so_far
    ∙ sym (take_further offset (end - kept) b)

-- what a room holds that was lent out of a vector
pub back : (n : ℕ) (new items : List ℕ) → n ≡ length items → length new ≡ length items → take n (new ++ drop (length new) items) ≡ new
back n new items long same = subst (λ k. take k (new ++ drop (length new) items) ≡ new) (same ∙ sym long) (take-append_seam new (drop (length new) items))

pub last_text : (file : Option (List ℕ)) (t old new : List ℕ) (offset kept end : ℕ) → ((b : List ℕ) → file ≡ Some b → t ++ take kept old ≡ take offset b)
    → IsReadBehind file offset kept old new (Some end) → end < length new → file ≡ Some (t ++ take end new)
last_text file t old new offset kept end so_far (b, at, bytes, whole) more =
    let text = text_behind t b old new offset kept end (so_far b at) bytes ∙ take_all (offset + (end - kept)) b (whole more) in
    at ∙ ap (λ (x : List ℕ). Some x) (sym text)

pub full_text : (file : Option (List ℕ)) (t old new : List ℕ) (offset kept end : ℕ) → ((b : List ℕ) → file ≡ Some b → t ++ take kept old ≡ take offset b)
    → IsReadBehind file offset kept old new (Some end) → end ≡ length new → (b : List ℕ) → file ≡ Some b → t ++ new ≡ take (offset + (end - kept)) b
full_text file t old new offset kept end so_far (b, at, bytes, whole) all c is =
    let same = same_source file b c at is in
    let text = text_behind t b old new offset kept end (so_far b at) bytes in
    let filled : take end new ≡ new = take_all end new (omega (arith, all)) in
    ap (λ n. t ++ n) (sym filled) ∙ text ∙ ap (take (offset + (end - kept))) same

-- more was read than may be
pub large_text : (file : Option (List ℕ)) (t old new : List ℕ) (offset kept end : ℕ) → ((b : List ℕ) → file ≡ Some b → t ++ take kept old ≡ take offset b)
    → IsReadBehind file offset kept old new (Some end) → end ≡ length new → 67108864 < length (t ++ new) → IsTooLarge file
large_text file t old new offset kept end so_far (b, at, bytes, whole) all large =
    let text = full_text file t old new offset kept end so_far (b, at, bytes, whole) all b at in
    let long = ap length text ∙ length-take (offset + (end - kept)) b in
    (b, at, omega (arith, large, long))

-- what is taken and what is kept are what was there
pub kept_text : (t room rest : List ℕ) (taken n : ℕ) → take n rest ≡ drop taken room → (t ++ take taken room) ++ take n rest ≡ t ++ room
kept_text t room rest taken n is = append_assoc t (take taken room) (take n rest) ∙ ap (λ r. t ++ (take taken room ++ r)) is ∙ ap (λ r. t ++ r) (take-append-drop taken room)
