-- What is known of a writer, and what each answer to a call leaves of that.
use Rattle.std.specs.Prelude.{◌≡◌, ◌+◌, ℕ, Bool, true, false, List, Option, min}
use Rattle.std.specs.Io.KnownBytes.{Appends, Keeps}

-- the bytes that it took, in turn, where they are known; whether a call has found that nobody reads any more; whether it may keep back what it took;
-- how many calls have failed; and how many of the latest ones were interrupted, one after the other
pub record State : Type 0 where
  pub bytes : Option (List ℕ)
  pub is_unread : Bool
  pub held : Bool
  pub failures : ℕ
  pub interruptions : ℕ

-- one more, up to the end of a count, where it stays
abbrev pub counted : ℕ → ℕ
counted n = min (n + 1) 18446744073709551615

-- ---- answers

-- These bytes were taken, and may be kept back.
pub record HasTaken (text : List ℕ) (before after : State) : Type 0 where
  pub bytes : Appends before.bytes after.bytes text
  pub is_unread : after.is_unread ≡ before.is_unread
  pub held : after.held ≡ true
  pub failures : after.failures ≡ before.failures
  pub interruptions : after.interruptions ≡ 0

-- Nothing is kept back any more.
pub record IsSeenOut (before after : State) : Type 0 where
  pub bytes : Keeps before.bytes after.bytes
  pub is_unread : after.is_unread ≡ before.is_unread
  pub held : after.held ≡ false
  pub failures : after.failures ≡ before.failures
  pub interruptions : after.interruptions ≡ 0

-- A signal came before anything was done.
pub record IsInterrupted (before after : State) : Type 0 where
  pub bytes : Keeps before.bytes after.bytes
  pub is_unread : after.is_unread ≡ before.is_unread
  pub failures : after.failures ≡ before.failures
  pub interruptions : after.interruptions ≡ counted before.interruptions

-- Nobody reads any more.
pub record IsLeft (before after : State) : Type 0 where
  pub bytes : Keeps before.bytes after.bytes
  pub is_unread : after.is_unread ≡ true
  pub failures : after.failures ≡ before.failures

-- The call failed, and is counted.
pub record HasFailed (before after : State) : Type 0 where
  pub bytes : Keeps before.bytes after.bytes
  pub is_unread : after.is_unread ≡ before.is_unread
  pub failures : after.failures ≡ counted before.failures
