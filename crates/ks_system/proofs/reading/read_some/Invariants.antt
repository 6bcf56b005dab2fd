use Rattle.std.proofs.Common.{◌≡◌, ◌≤◌, length}
use Rattle.ks_system.proofs.reading.read_some.Given as goal

abbrev pub invariant-loop : goal.invariant-loop
invariant-loop g l = record {
  world : g.S.System.is_honest → g.S.System.world l.system ≡ g.S.System.world l.fn.system;
  into : g.S.System.is_honest → l.into ≡ l.fn.into;
  buffer : length l.into ≡ length l.fn.into;
  kept : g.S.System.backdated l.system ≡ g.S.System.backdated l.fn.system;
  faults : g.S.System.is_honest → g.S.System.faults l.system ≡ g.S.System.faults l.fn.system;
  signals : g.S.System.is_honest → l.counter ≤ g.S.System.signals l.system;
}
