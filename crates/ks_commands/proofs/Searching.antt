-- A name that is looked for among symbols.
use Rattle.ks_commands.proofs.Prelude.{Bor, Err, List, Ok, Result, [], ap, arith, bytes_eq, cases_lt, false, get_or, inl, inr, length, map, sym, ℕ, ◌∙◌, ◌≡◌, eq_by_cmp_equiv, nat_list_cmp_total, All-from_get_or, list_any_at, list_any_none, searchable_from_sorted, is_eq-slice_cmp, slice_cmp, IsBinarySearchResult, IsSearchInRange, IsSortedByKey, is_eq, nat_cmp, is_ok, is_in}
use Rattle.ks_requests.proofs.Viewed.{list_any-map}

abbrev Symbol : Type 0
Symbol = Bor (List ℕ)

abbrev text : Symbol → List ℕ
text s = s.now

nothing : Symbol
nothing = record { ref_ptr = (0, 0); now = [] }

alike : (q x : List ℕ) → bytes_eq q x ≡ is_eq (slice_cmp nat_cmp x q)
alike q x = sym (is_eq-slice_cmp q x) ∙ (eq_by_cmp_equiv nat_list_cmp_total).symm q x

-- a search by halves finds a name that is one of them, where they are in order
pub search_reports : (q : List ℕ) (symbols : List Symbol) (r : Result ℕ ℕ) → IsSearchInRange r (length symbols)
    → IsBinarySearchResult (λ s. slice_cmp nat_cmp s.now q) symbols r → IsSortedByKey (λ s. s.now) (slice_cmp nat_cmp) symbols
    → is_ok r ≡ is_in (map (λ s. s.now) symbols) q
search_reports q symbols (Ok i) range at in_order =
    sym (list_any-map (bytes_eq q) text symbols
    ∙ list_any_at (λ s. bytes_eq q s.now) symbols i nothing range (alike q (get_or symbols i nothing).now ∙ ap is_eq (at nothing)))
search_reports q symbols (Err i) range parted in_order =
    let parts = parted (searchable_from_sorted nat_list_cmp_total (λ (s : Symbol). s.now) symbols q in_order) in
    sym (list_any-map (bytes_eq q) text symbols
    ∙ list_any_none (λ s. bytes_eq q s.now) symbols (All-from_get_or (λ s. bytes_eq q s.now ≡ false) symbols nothing (λ k lt.
    alike q (get_or symbols k nothing).now ∙ (elim (cases_lt k i) [
      | inl less ↦ ap is_eq (parts.0 k nothing (omega arith) less)
      | inr more ↦ ap is_eq (parts.1 k nothing more lt)
    ]))))
