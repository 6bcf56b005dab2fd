use Rattle.std.proofs.Common.{◌≡◌, ◌≤◌, ◌+◌, length}
use Rattle.ks_tree.specs.Files.{content}
use Rattle.ks_system.specs.Reading.{IsAheadOf}
use Rattle.ks_system.proofs.Filled.{IsFilledTo}
use Rattle.ks_system.proofs.kept_file.KeptFile.read.Given as goal

abbrev pub invariant-loop : goal.invariant-loop
invariant-loop g l = record {
  world : g.S.System.is_honest → g.S.System.world l.system ≡ g.S.System.world l.fn.system;
  read : g.S.System.is_honest → IsFilledTo (content (g.S.System.world l.fn.system).files (g.S.System.opened l.fn.self.file).path) l.offset l.fn.into l.into l.given;
  ahead : g.S.System.is_honest → IsAheadOf (content (g.S.System.world l.fn.system).files (g.S.System.opened l.fn.self.file).path) l.self.ahead;
  at : l.self.ahead.offset ≡ l.offset + l.given;
  within : l.given ≤ length l.into;
  buffer : length l.into ≡ length l.fn.into;
  path : l.self.ahead.path ≡ l.fn.self.ahead.path;
  file : l.self.file ≡ l.fn.self.file;
  kept : g.S.System.backdated l.system ≡ g.S.System.backdated l.fn.system;
  faults : g.S.System.is_honest → g.S.System.faults l.system ≡ g.S.System.faults l.fn.system;
  many : l.counter ≤ l.given;
}
