-- The word at the front of a text ends at the first space.
use Rattle.ks_requests.proofs.Prelude.{false_from_ne_true, ◌≡◌, ℕ, List, length, Option, Some, None, unwrap_or, arith, position_or_len, position_or_len_is, IsFirstByte, is_byte, rules}

pub first_space : (text : List ℕ) (r : Option ℕ) → IsFirstByte (is_byte 32) text r → position_or_len (is_byte 32) text ≡ unwrap_or r (length text)
first_space text None h = position_or_len_is (is_byte 32) text (length text) 0 (omega arith) (λ k low. false_from_ne_true _ (h k (omega arith) low))
    (λ low. absurd (omega (arith, low)))
first_space text (Some k) h = search (rules, position_or_len_is, false_from_ne_true)
