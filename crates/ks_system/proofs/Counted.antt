-- What a call that went well, or failed, did to the count of failed calls.
use Rattle.std.proofs.Common.{◌≡◌, ◌⊎◌, ◌≤◌, ◌<◌, ◌+◌, ℕ, Result, Ok, Err, OnErr, subst, inl, inr, arith, rules}
use Rattle.std.specs.declared.io.Error.{Error}
use Rattle.ks_tree.specs.Files.{HasRisen}
use Rattle.ks_system.specs.System.{Counts, HasFailed}

pub passed : {V : Type 0} (r : Result V Error) (v : V) (before now : ℕ) → r ≡ Ok v → Counts r before now → now ≡ before
passed r v before now is counts = subst (λ r. Counts r before now) is counts

pub failed : {V : Type 0} (r : Result V Error) (e : Error) (before now : ℕ) → r ≡ Err e → Counts r before now → HasRisen before now
failed r e before now is counts = subst (λ r. Counts r before now) is counts

-- a failure has this cause, or another
pub cause : {V : Type 0} (r : Result V Error) (before middle now : ℕ) (other : Type 0) → middle ≡ before → Counts r middle now
    → OnErr r (HasRisen before now ⊎ other)
cause (Ok v) before middle now other same counts = search rules
cause (Err e) before middle now other same counts = inl (subst (λ n. HasRisen n now) same counts)

pub caused : {V : Type 0} (r : Result V Error) (before now : ℕ) (other : Type 0) → HasRisen before now → OnErr r (HasRisen before now ⊎ other)
caused (Ok v) before now other risen = search rules
caused (Err e) before now other risen = inl risen

pub failed_after : {V : Type 0} (r : Result V Error) (e : Error) (before middle now : ℕ) → r ≡ Err e → middle ≡ before → Counts r middle now
    → HasRisen before now
failed_after r e before middle now is same counts = subst (λ n. HasRisen n now) same (failed r e middle now is counts)

-- the answer of a call that failed
pub on_err : {V : Type 0} (r : Result V Error) (P : Type 0) → P → OnErr r P
on_err (Ok v) P p = search rules
on_err (Err e) P p = p

-- a failure since the count was the same
pub failed_since : (before middle now signals : ℕ) → middle ≡ before → HasFailed middle now signals → HasFailed before now signals
failed_since before middle now signals same failed = subst (λ n. HasFailed n now signals) same failed

-- the same of a piece of what was asked for
pub failed_at : (before middle now signals at offset given long : ℕ) → middle ≡ before → at ≡ offset + given → given ≤ long
    → HasFailed middle now signals ⊎ (18446744073709551615 < at) → HasFailed before now signals ⊎ (18446744073709551615 < offset + long)
failed_at before middle now signals at offset given long same is within (inl failed) = inl (failed_since before middle now signals same failed)
failed_at before middle now signals at offset given long same is within (inr far) = inr (omega arith)
