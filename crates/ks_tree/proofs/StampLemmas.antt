-- A stamp has one number at most.
use Rattle.ks_tree.proofs.Prelude.{◌≡◌, ℕ, ◌≤◌, List, Option, Some, arith, length, length-append, decimal_injective, length-decimal-le, append_cancel_right, HasNumber, common_steps}

pub number_unique : (stamp : Option (List ℕ)) (m n : ℕ) → HasNumber stamp m → HasNumber stamp n → m ≡ n
number_unique stamp m n a b = grind (arith, common_steps, length-append, decimal_injective, append_cancel_right)

-- so a file that is too large to be read is no stamp
pub number_short : (s : List ℕ) (n : ℕ) → HasNumber (Some s) n → length s ≤ 21
number_short s n has = grind (arith, common_steps, (length-decimal-le 20 n))
