-- Pieces that are read or written in turn make up the whole.
use Rattle.std.proofs.Common.{◌≡◌, ◌≢◌, ◌≤◌, ◌<◌, ◌+◌, ◌-◌, ◌++◌, ℕ, List, Option, Some, length, take, drop, subst, sym, ap, ◌∙◌, arith, refl}
use Rattle.std.proofs.lemmas.List.{take-append-drop, take_at, take_all, length-take-le, drop-take, take_rest, take-take, length-append, length-drop, drop_all, append-nil}
use Rattle.std.proofs.Math.Seq.{take-append-add}
use borrow.Rule.Slice.PartMut.{put_mid}
use Rattle.ks_symbols.specs.Lines.{max_bytes}
use Rattle.ks_tree.specs.Files.{Files, IsTooLarge}
use Rattle.ks_system.specs.System.{Opened, IsSomeRead, IsSomeReadAt, IsAppended, Begun}
use Rattle.ks_system.specs.Reading.{IsReadTo}

-- two beginnings in a row
pub take_on : (k n : ℕ) (b : List ℕ) → take k b ++ take n (drop k b) ≡ take (k + n) b
take_on k n b = let whole = take-append-drop k (take (k + n) b) in let one = take-take k (k + n) b (omega arith) in let two = drop-take k n b in cc

-- the bytes that were read are those that follow
pub piece_read : (b old new : List ℕ) (offset n : ℕ) → IsSomeRead b offset old new n → take n new ≡ take n (drop offset b)
piece_read b old new offset n is =
    let at = take_at (take n (drop offset b)) (drop n old) n (length-take-le n (drop offset b) is.within) in let whole = is.bytes in cc

longer : (b read more old new : List ℕ) (n : ℕ) → IsSomeRead b (length read) old new n → more ≡ read ++ take n new → length more ≡ length read + n
longer b read more old new n some is =
    let piece = piece_read b old new (length read) n some in let short = length-take-le n (drop (length read) b) some.within in
    let long = length-append read (take n new) in cc

grown : (b read more old new : List ℕ) (n : ℕ) → read ≡ take (length read) b → IsSomeRead b (length read) old new n → more ≡ read ++ take n new
    → more ≡ take (length more) b
grown b read more old new n so_far some is =
    let piece = piece_read b old new (length read) n some in let whole = take_on (length read) n b in let long = longer b read more old new n some is in cc

short_of : (b read more old new : List ℕ) (n : ℕ) → length read ≤ length b → IsSomeRead b (length read) old new n → more ≡ read ++ take n new
    → length more ≤ length b
short_of b read more old new n so_far some is =
    let long = longer b read more old new n some is in let left = length-drop (length read) b in let within = some.within in omega arith

pub some_same : (o : Option (List ℕ)) (a b : List ℕ) → o ≡ Some a → o ≡ Some b → a ≡ b
some_same o a b p q = cc

pub read_on : (file : Option (List ℕ)) (b read old new more : List ℕ) (n : ℕ) → IsReadTo file read → file ≡ Some b → IsSomeRead b (length read) old new n
    → more ≡ read ++ take n new → IsReadTo file more
read_on file b read old new more n so_far there some is = record {
  is = λ b' there'. subst (λ x. more ≡ take (length more) x) (some_same file b b' there there') (grown b read more old new n (so_far.is b there) some is);
  within = λ b' there'. subst (λ x. length more ≤ length x) (some_same file b b' there there') (short_of b read more old new n (so_far.within b there) some is);
}

pub read_whole : (file : Option (List ℕ)) (b read old new : List ℕ) (n : ℕ) → IsReadTo file read → file ≡ Some b → IsSomeRead b (length read) old new n
    → n ≡ 0 → 0 < length old → file ≡ Some read
read_whole file b read old new n so_far there some none buffer =
    let all = take_all (length read) b (some.end none buffer) in let is = so_far.is b there in cc

-- the same of a file as a call found it
pub read_on_at : (file now : Option (List ℕ)) (read old new more : List ℕ) (k n : ℕ) → IsReadTo file read → now ≡ file
    → IsSomeReadAt now k old new n → k ≡ length read → more ≡ read ++ take n new → IsReadTo file more
read_on_at file now read old new more k n so_far same some here grows =
    read_on file some.0 read old new more n so_far (sym same ∙ some.1) (subst (λ k. IsSomeRead some.0 k old new n) here some.2) grows

pub read_whole_at : (file now : Option (List ℕ)) (read old new : List ℕ) (k n : ℕ) → IsReadTo file read → now ≡ file
    → IsSomeReadAt now k old new n → k ≡ length read → n ≡ 0 → 0 < length old → file ≡ Some read
read_whole_at file now read old new k n so_far same some here none buffer =
    read_whole file some.0 read old new n so_far (sym same ∙ some.1) (subst (λ k. IsSomeRead some.0 k old new n) here some.2) none buffer

pub large_at : (file now : Option (List ℕ)) (read old new : List ℕ) (k n : ℕ) → IsReadTo file read → now ≡ file
    → IsSomeReadAt now k old new n → k ≡ length read → max_bytes < length read + n → IsTooLarge file
large_at file now read old new k n so_far same some here more =
    let there = sym same ∙ some.1 in
    let left = length-drop (length read) some.0 in
    let within = (subst (λ k. IsSomeRead some.0 k old new n) here some.2).within in
    let whole = so_far.within some.0 there in (some.0, there, omega arith)

-- nothing was read yet
pub nothing_read : (file : Option (List ℕ)) (into : List ℕ) → IsReadTo file (take 0 into)
nothing_read file into = record { is = λ b there. refl; within = λ b there. omega arith }

pub put_all : (g : ℕ) (into new : List ℕ) → g ≤ length into → put_mid g (length into - g) into new ≡ take g into ++ new
put_all g into new within =
    let left = length-drop g into in let none = drop_all (length into - g) (drop g into) (omega arith) in let nil = append-nil new in cc

pub put_long : (g : ℕ) (into new : List ℕ) → g ≤ length into → length new ≡ length (take (length into - g) (drop g into))
    → length (put_mid g (length into - g) into new) ≡ length into
put_long g into new within same =
    let whole = ap length (put_all g into new within) in let parts = length-append (take g into) new in let before = length-take-le g into within in
    let rest = ap length (take_rest into g) in let after = length-drop g into in omega arith

pub rest_buffer : (g : ℕ) (into : List ℕ) → g ≤ length into → g ≢ length into → 0 < length (take (length into - g) (drop g into))
rest_buffer g into within differs = let rest = ap length (take_rest into g) in let after = length-drop g into in omega arith

-- what was put after the first bytes follows them
take_past : (g n : ℕ) (xs ys : List ℕ) → length xs ≡ g → take (g + n) (xs ++ ys) ≡ xs ++ take n ys
take_past g n xs ys is = subst (λ g. take (g + n) (xs ++ ys) ≡ xs ++ take n ys) is (take-append-add xs ys n)

pub put_more : (g n : ℕ) (into new : List ℕ) → g ≤ length into → take (g + n) (put_mid g (length into - g) into new) ≡ take g into ++ take n new
put_more g n into new within =
    let whole = put_all g into new within in let before = length-take-le g into within in
    subst (λ w. take (g + n) w ≡ take g into ++ take n new) (sym whole) (take_past g n (take g into) new before)

pub put_before : (g : ℕ) (into new : List ℕ) → g ≤ length into → take g (put_mid g (length into - g) into new) ≡ take g into
put_before g into new within =
    let whole = put_all g into new within in let before = length-take-le g into within in
    let at = take_at (take g into) new g before in cc

pub written_on : (path bytes : List ℕ) (w n : ℕ) (old new : Files) → Begun old path bytes w → IsAppended path (take n (drop w bytes)) old new → Begun new path bytes (w + n)
written_on path bytes w n old new begun more = let is = more.more _ begun in let whole = take_on w n bytes in cc

pub written_rest : (path bytes : List ℕ) (w n : ℕ) (old new : Files) → Begun old path bytes w
    → IsAppended path (take n (take (length bytes - w) (drop w bytes))) old new → Begun new path bytes (w + n)
written_rest path bytes w n old new begun more =
    written_on path bytes w n old new begun (subst (λ l. IsAppended path (take n l) old new) (take_rest bytes w) more)

pub appended_at : (o o' : Opened) (bytes : List ℕ) (old new : Files) → o ≡ o' → IsAppended o.path bytes old new → IsAppended o'.path bytes old new
appended_at o o' bytes old new is more = subst (λ o. IsAppended o.path bytes old new) is more
