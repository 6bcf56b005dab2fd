-- One more stamp is set, or made.
use Rattle.ks_tree.proofs.Prelude.{◌≡◌, ◌≢◌, ◌<◌, ◌+◌, ℕ, List, [], ◌∷◌, ◌++◌, Option, Some, None, length, take, left_over, arith, bytes_eq, cases_Bool, bytes_eq-Decides, Files, content, SameButBoth, kept_or, SameBut, MakesStamps, stamp_path, stamp_temporary, stamp_text, Touches, Result, OnErr, common_steps, rules}
use Rattle.ks_tree.proofs.PathLemmas.{apart, ending-stamp, ending-stamp_temporary, stamp-injective}

pub touches_more : (xs : List (List ℕ)) (y : List ℕ) (g : ℕ) (old mid new : Files) → Touches xs g old mid
    → content new (stamp_path y) ≡ Some (stamp_text g) → SameButBoth stamp_temporary (stamp_path y) mid new → Touches (xs ++ y ∷ []) g old new
touches_more xs y g old mid new touched set others = grind (arith, common_steps, bytes_eq-Decides, apart, ending-stamp, ending-stamp_temporary, stamp-injective)

-- What a path that was written holds may be what it held.
pub kept_at : (p q : List ℕ) (mid new : Files) → content new p ≡ content mid p → (q ≢ p → content new q ≡ content mid q) → content new q ≡ content mid q
kept_at p q mid new kept others = grind (arith, common_steps, (bytes_eq-Decides q p), (cases_Bool (bytes_eq q p)))

-- a stamp that was not set leaves the first ones
pub touches_same : (xs : List (List ℕ)) (y : List ℕ) (g : ℕ) (old mid new : Files) → Touches xs g old mid
    → content new (stamp_path y) ≡ content mid (stamp_path y) → SameButBoth stamp_temporary (stamp_path y) mid new → Touches xs g old new
touches_same xs y g old mid new touched kept others =
    let all = λ (q : List ℕ) (other : q ≢ stamp_temporary). kept_at (stamp_path y) q mid new kept (others q other) in
    search (rules, all, apart, ending-stamp, ending-stamp_temporary, touched.stamps, touched.others)

-- an empty one, where there was none
pub made_more : (xs : List (List ℕ)) (y : List ℕ) (old mid new : Files) → MakesStamps xs old mid
    → content new (stamp_path y) ≡ Some (kept_or (content mid (stamp_path y)) []) → SameBut (stamp_path y) mid new → MakesStamps (xs ++ y ∷ []) old new
made_more xs y old mid new made at others = grind (arith, common_steps, bytes_eq-Decides, stamp-injective)

-- a stamp that was not made leaves the first ones
pub made_same : (xs : List (List ℕ)) (y : List ℕ) (old mid new : Files) → MakesStamps xs old mid
    → content new (stamp_path y) ≡ content mid (stamp_path y) → SameBut (stamp_path y) mid new → MakesStamps xs old new
made_same xs y old mid new made kept others =
    let all = λ (q : List ℕ). kept_at (stamp_path y) q mid new kept (others q) in search (rules, all, made.made, made.others)

-- once one stamp is set nothing is left over
pub none_left : (xs : List (List ℕ)) (n : ℕ) (old : Option (List ℕ)) → n < length xs → left_over (take (n + 1) xs) old ≡ None
none_left [] n old within = absurd (omega (arith, within))
none_left (x ∷ xs) n old within = grind (arith, common_steps)

-- the answer of a call that failed
pub on_err : {T E : Type 0} (r : Result T E) (P : Type 0) → P → OnErr r P
on_err r P p = search rules
