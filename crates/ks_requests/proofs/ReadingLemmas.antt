-- Readings one after the other.
use Rattle.ks_requests.proofs.Prelude.{◌≡◌, ◌++◌, ℕ, List, [], ◌∷◌, Bool, true, false, inl, inr, refl, subst, sym}
use Rattle.std.specs.Bool.{MatchBool}
use Rattle.ks_requests.specs.Readings.{ReadsEach, ReadsSome}

-- no file of these
pub none_read : {T : Type 0} (reads : T → List ℕ → T → Type 0) (old : T) (paths : List (List ℕ)) → ReadsSome reads old paths old
none_read reads old [] = refl
none_read reads old (path ∷ paths) = inl refl

-- the first at most
pub one_read : {T : Type 0} (reads : T → List ℕ → T → Type 0) (legal : Bool) (old new : T) (path : List ℕ) (paths : List (List ℕ))
    → MatchBool legal (reads old path new) (new ≡ old) → ReadsSome reads old (path ∷ paths) new
one_read reads true old new path paths read = inr (new, read, none_read reads new paths)
one_read reads false old new path paths same = inl same

-- more after a beginning, after some of them, and each of them
pub some_more : {T : Type 0} (reads : T → List ℕ → T → Type 0) (old new : T) (paths more : List (List ℕ))
    → ReadsSome reads old paths new → ReadsSome reads old (paths ++ more) new
some_more {T} reads old new [] more same = subst (λ (t : T). ReadsSome reads old more t) (sym same) (none_read reads old more)
some_more reads old new (path ∷ paths) more (inl same) = inl same
some_more reads old new (path ∷ paths) more (inr (next, read, some)) = inr (next, read, some_more reads next new paths more some)

pub then_some : {T : Type 0} (reads : T → List ℕ → T → Type 0) (old mid new : T) (paths more : List (List ℕ))
    → ReadsEach reads old paths mid → ReadsSome reads mid more new → ReadsSome reads old (paths ++ more) new
then_some {T} reads old mid new [] more same some = subst (λ (t : T). ReadsSome reads t more new) same some
then_some reads old mid new (path ∷ paths) more (next, read, each) some = inr (next, read, then_some reads next mid new paths more each some)

pub then_each : {T : Type 0} (reads : T → List ℕ → T → Type 0) (old mid new : T) (paths more : List (List ℕ))
    → ReadsEach reads old paths mid → ReadsEach reads mid more new → ReadsEach reads old (paths ++ more) new
then_each {T} reads old mid new [] more same each = subst (λ (t : T). ReadsEach reads t more new) same each
then_each reads old mid new (path ∷ paths) more (next, read, first) each = (next, read, then_each reads next mid new paths more first each)
