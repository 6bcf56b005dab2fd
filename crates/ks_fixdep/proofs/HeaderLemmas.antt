-- The usual header is told from most paths by its last bytes.
use Rattle.ks_fixdep.proofs.Prelude.{◌≡◌, ℕ, ◌+◌, ◌-◌, true, false, List, length, drop, drop-drop, length-drop, ends_with, nat_eq, codes, bytes_eq, sym, ap, ◌∙◌, false_from_ne_true, false≢true, header_path, arith}
use Rattle.ks_fixdep.proofs.CommandPatternLemmas.{bytes-same}

header_end : (token : List ℕ) → ends_with nat_eq token header_path ≡ true → ends_with nat_eq token (codes "nf.h") ≡ true
unfolding header_path
header_end token e =
    let same : header_path ≡ drop (length token - 28) token = bytes-same _ _ e in
    let place : length token - 28 + 24 ≡ length token - 4 = omega (arith, ap length same, length-drop (length token - 28) token) in
    let end : codes "nf.h" ≡ drop (length token - 4) token = ap (drop 24) same ∙ drop-drop 24 (length token - 28) token ∙ ap (λ n. drop n token) place in
    ap (bytes_eq (codes "nf.h")) (sym end)

pub no_header : (token : List ℕ) → ends_with nat_eq token (codes "nf.h") ≡ false → ends_with nat_eq token header_path ≡ false
no_header token e = false_from_ne_true _ (λ is. false≢true (sym e ∙ header_end token is))
