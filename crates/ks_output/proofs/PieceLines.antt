-- The whole lines of a piece.
use Rattle.ks_output.proofs.Prelude.{◌≡◌, ℕ, ◌+◌, ◌<◌, List, [], ◌∷◌, ◌++◌, length, take, drop, slice_index, Some, None, ap, sym, ◌∙◌, inr, arith, lines_of, lines-nil, AreWhole}
use Rattle.std.proofs.Common.{◌-◌, get_or-take, length-take-le}
use Rattle.std.proofs.lemmas.Bool.{eqb-true}
use Rattle.memchr.specs.Find.{is_byte, IsLastByte}
use Rattle.bstr.proofs.lemmas.LineLemmas.{EndsLine, lines-append, lines-back_none, lines-back_some}

pub none_whole : AreWhole []
none_whole = λ rest. sym (ap (λ ls. ls ++ lines_of rest) lines-nil)

-- up to a line feed
whole_at : (text : List ℕ) (end : ℕ) → end < length text → slice_index text end ≡ 10 → AreWhole (take (end + 1) text)
whole_at text end high feed =
    let long = length-take-le (end + 1) text (omega arith) in
    let place : length (take (end + 1) text) - 1 ≡ end = omega arith in
    let ends : EndsLine (take (end + 1) text) = inr (ap (slice_index (take (end + 1) text)) place ∙ get_or-take (end + 1) text end 0 (omega arith) ∙ feed) in
    λ rest. lines-append (length (take (end + 1) text)) (take (end + 1) text) rest (omega arith) ends

pub whole_to : (text : List ℕ) (end : ℕ) → IsLastByte (is_byte 10) text (Some end) → AreWhole (take (end + 1) text)
whole_to text end last = whole_at text end last.0.high (eqb-true _ _ last.1)

-- the same of a text without its last byte
pub whole_before : (text : List ℕ) (end : ℕ) → 0 < length text → IsLastByte (is_byte 10) (take (length text - 1) text) (Some end) → AreWhole (take (end + 1) text)
whole_before text end some last =
    let short = length-take-le (length text - 1) text (omega arith) in
    let high = last.0.high in
    whole_at text end (omega arith) (sym (get_or-take (length text - 1) text end 0 (omega arith)) ∙ eqb-true _ _ last.1)

pub last_of_more : (text : List ℕ) (end : ℕ) → 0 < length text → IsLastByte (is_byte 10) (take (length text - 1) text) (Some end)
    → (line : List ℕ) × (lines_of text ≡ lines_of (take (end + 1) text) ++ line ∷ [])
last_of_more text end some last = (_, lines-back_some text end some last)

pub last_of_one : (text : List ℕ) → 0 < length text → IsLastByte (is_byte 10) (take (length text - 1) text) None
    → (line : List ℕ) × (lines_of text ≡ lines_of [] ++ line ∷ [])
last_of_one text some last =
    let zero : length text - length text ≡ 0 = omega arith in
    let gone : take (length text - length text) (drop (length text) text) ≡ [] = ap (λ k. take k (drop (length text) text)) zero in
    (text, lines-back_none text some last ∙ ap (λ t. lines_of t ++ text ∷ []) gone)
