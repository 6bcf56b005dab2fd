-- Names and paths are ASCII.
use Rattle.ks_symbols.proofs.Prelude.{AllPass-from_list_all, get_or_past, cases_lt, ◌≡◌, ◌<◌, ℕ, Bool, true, List, arith, slice_index, list_all, IsAscii, and_parts, is_name, is_path, common_steps}

ascii : (test : ℕ → Bool) → ((b : ℕ) → test b ≡ true → b < 128) → (bs : List ℕ) → list_all test bs ≡ true → (i : ℕ) → slice_index bs i < 128
ascii test below bs all i = grind (arith, common_steps, AllPass-from_list_all, get_or_past, cases_lt)

pub name-IsAscii : (x : List ℕ) → is_name x ≡ true → IsAscii x
unfolding is_name
name-IsAscii x is = grind (arith, common_steps, and_parts, ascii)

pub path-IsAscii : (x : List ℕ) → is_path x ≡ true → IsAscii x
unfolding is_path
path-IsAscii x is = grind (arith, common_steps, and_parts, ascii)
