-- What is left of a stream by a text that is written to it: all of the text is taken, or a beginning of it for a cause.
use Rattle.std.specs.Prelude.{◌≡◌, ◌⊎◌, ◌≤◌, ◌++◌, ℕ, true, false, List, Option}
use Rattle.std.specs.Io.KnownBytes.{Appends, Keeps}
use Rattle.ks_streams.specs.Writers.{State as WriterState, counted}
use Rattle.ks_streams.specs.declared.writer.Writer.{Ghosts}
use Rattle.ks_streams.specs.declared.stream.Stream.{Stream}

-- what is known of a stream is what is known of its writer
abbrev pub State : Type 0
State = WriterState

abbrev pub state_of : {W : Type 0} → Ghosts W → Stream W → State
state_of writer s = writer.state s.writer

-- how often a call is made that is interrupted each time
abbrev pub tries : ℕ
tries = 1000

-- Known bytes grow by a beginning of some bytes.
abbrev pub IsPart : List ℕ → Option (List ℕ) → Option (List ℕ) → Type 0
IsPart bytes before after = (part : List ℕ) × (rest : List ℕ) × (bytes ≡ part ++ rest) × Appends before after part

-- All of a text was taken, and no call failed. But where nobody reads any more it was a beginning, and nothing after that.
pub record Takes (text : List ℕ) (before after : State) : Type 0 where
  pub bytes : after.is_unread ≡ false → Appends before.bytes after.bytes text
  pub lost : after.is_unread ≡ true → IsPart text before.bytes after.bytes
  pub stays : before.is_unread ≡ true → (after.is_unread ≡ true) × Keeps before.bytes after.bytes
  pub failures : after.failures ≡ before.failures

-- .. and nothing is kept back.
pub record Prints (text : List ℕ) (before after : State) : Type 0 where
  pub takes : Takes text before after
  pub seen_out : after.is_unread ≡ false → after.held ≡ false

-- A call failed, or was interrupted each time that it was made.
abbrev pub IsCause : State → State → Type 0
IsCause before after = (after.failures ≡ counted before.failures) ⊎ (tries ≤ after.interruptions)

-- Nothing was taken, for a cause.
pub record IsAborted (before after : State) : Type 0 where
  pub bytes : Keeps before.bytes after.bytes
  pub is_unread : after.is_unread ≡ before.is_unread
  pub cause : IsCause before after

-- A beginning of a text was taken, by a writer that is read, and then there was a cause to end.
pub record Breaks (text : List ℕ) (before after : State) : Type 0 where
  pub bytes : IsPart text before.bytes after.bytes
  pub is_read : before.is_unread ≡ false
  pub cause : IsCause before after

-- A text was printed, as much of it as goes out before there is a cause to end.
abbrev pub PrintsOrBreaks : List ℕ → State → State → Type 0
PrintsOrBreaks text before after = Prints text before after ⊎ Breaks text before after
