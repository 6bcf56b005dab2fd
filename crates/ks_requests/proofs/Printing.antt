-- The lines of replies, from a place on.
use Rattle.ks_requests.proofs.Prelude.{◌≡◌, ◌∙◌, ◌<◌, ◌+◌, ℕ, suc, List, [], ◌++◌, length, drop, take, map, get_or, max, refl, sym, ap, ap₂, subst, arith, drop-cons, append_assoc, map_more, fold-append, Command, Reply, action, reply_line, reply_lines, worst, common_steps}

pub lines_from : (cs : List Command) (rs : List Reply) (i : ℕ) (c : Command) (r : Reply) → i < length cs → i < length rs
    → reply_lines (map action (drop i cs)) (drop i rs) ≡ reply_line (action (get_or cs i c)) (get_or rs i r)
    ++ reply_lines (map action (drop (suc i) cs)) (drop (suc i) rs)
unfolding reply_lines
lines_from cs rs i c r in_cs in_rs = ap₂ (λ xs ys. reply_lines (map action xs) ys) (drop-cons cs i c in_cs) (drop-cons rs i r in_rs)

pub no_lines : (rs : List Reply) → reply_lines [] rs ≡ []
unfolding reply_lines
no_lines rs = refl

-- one line more
pub lines_more : (cs : List Command) (rs : List Reply) (i : ℕ) (c : Command) (r : Reply) (old new all : List ℕ) → i < length cs → i < length rs
    → old ++ reply_lines (map action (drop i cs)) (drop i rs) ≡ all → r ≡ get_or rs i r → new ≡ old ++ reply_line (action (get_or cs i c)) r
    → new ++ reply_lines (map action (drop (i + 1) cs)) (drop (i + 1) rs) ≡ all
lines_more cs rs i c r old new all in_cs in_rs so_far at more =
    let next : suc i ≡ i + 1 = omega arith in
    subst (λ (j : ℕ). new ++ reply_lines (map action (drop j cs)) (drop j rs) ≡ all) next
    (ap (λ xs. xs ++ reply_lines (map action (drop (suc i) cs)) (drop (suc i) rs)) (more ∙ ap (λ x. old ++ reply_line (action (get_or cs i c)) x) at)
    ∙ append_assoc old (reply_line (action (get_or cs i c)) (get_or rs i r)) (reply_lines (map action (drop (suc i) cs)) (drop (suc i) rs))
    ∙ ap (λ xs. old ++ xs) (sym (lines_from cs rs i c r in_cs in_rs))
    ∙ so_far)

-- a piece after what was appended already
pub then_appended : (old one new a b : List ℕ) → one ≡ old ++ a → new ≡ one ++ b → new ≡ old ++ (a ++ b)
then_appended old one new a b first second = second ∙ ap (λ xs. xs ++ b) first ∙ append_assoc old a b

-- the worst of one status more
pub worst_more : {X : Type 0} (f : X → ℕ) (xs : List X) (i : ℕ) (x : X) (status one all : ℕ) → i < length xs → x ≡ get_or xs i x
    → status ≡ worst (map f (take i xs)) → one ≡ f x → all ≡ max status one → all ≡ worst (map f (take (i + 1) xs))
worst_more f xs i x status one all within at so_far this now = grind (arith, common_steps, map_more, fold-append)
