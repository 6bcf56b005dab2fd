-- The exit statuses of commands that don't run: those of sysexits that say why, and else that of a refusal.
use Rattle.std.specs.Prelude.{ℕ}
use Rattle.std.specs.declared.fs.locks.TryLockError.TheVariants.{WouldBlock}
use Rattle.ks_session.specs.declared.start.Stop.{Stop}
use Rattle.ks_session.specs.declared.start.Stop.TheVariants as stop

-- another program is at work; numbers would be lost
abbrev pub stop_status : Stop → ℕ
stop_status (stop.NoLock WouldBlock) = 75
stop_status (stop.Lost loss) = 65
stop_status other = 2
