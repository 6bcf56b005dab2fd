-- What notes of a writer's answers say of it, beside its bytes.
use Rattle.std.specs.Prelude.{ℕ, List, Option}
use Rattle.ks_streams.specs.Writers.{State}
use Rattle.ks_streams.specs.declared.notes.Notes.{Notes}

abbrev pub noted : Option (List ℕ) → Notes → State
noted bytes n = record { bytes = bytes; is_unread = n.is_unread; held = n.held; failures = n.failures; interruptions = n.interruptions }
