-- Runs of word bytes, and the names that they have.
use Rattle.ks_fixdep.proofs.Prelude.{◌≡◌, ℕ, ◌-◌, ◌≤◌, true, List, length, take, arith, cond_both, list_all, ends_with, AllPass-from_list_all, list_all-from_AllPass, All-take, nat_eq, is_word_byte, is_name, without_module, module_end, nat_tests, common_steps}

-- a run without its last `_MODULE` has word bytes too
pub list_all-less : (r : List ℕ) → list_all is_word_byte r ≡ true → list_all is_word_byte (without_module r) ≡ true
list_all-less r all = cond_both (ends_with nat_eq r module_end) (take (length r - 7) r) r (λ l. list_all is_word_byte l ≡ true)
    (λ _. list_all-from_AllPass is_word_byte _ (All-take (λ x. is_word_byte x ≡ true) (length r - 7) r (AllPass-from_list_all is_word_byte r all))) (λ _. all)

-- a legal name has 1 to 128 bytes
pub legal-length : (x : List ℕ) → is_name x ≡ true → (1 ≤ length x) × (length x ≤ 128)
unfolding is_name
legal-length x legal = grind (arith, common_steps, nat_tests)
