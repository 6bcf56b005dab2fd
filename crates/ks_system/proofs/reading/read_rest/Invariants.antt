use Rattle.std.proofs.Common.{◌≡◌, ◌≤◌, length}
use Rattle.ks_symbols.specs.Lines.{max_bytes}
use Rattle.ks_tree.specs.Files.{content}
use Rattle.ks_system.specs.Reading.{IsReadTo}
use Rattle.ks_system.proofs.reading.read_rest.Given as goal

abbrev pub invariant-loop : goal.invariant-loop
invariant-loop g l = record {
  world : g.S.System.is_honest → g.S.System.world l.system ≡ g.S.System.world l.fn.system;
  read : g.S.System.is_honest → IsReadTo (content (g.S.System.world l.fn.system).files (g.S.System.opened l.handle).path) l.bytes.items;
  buffer : length l.buffer ≡ length l.fn.buffer;
  small : length l.bytes.items ≤ max_bytes;
  kept : g.S.System.backdated l.system ≡ g.S.System.backdated l.fn.system;
  faults : g.S.System.is_honest → g.S.System.faults l.system ≡ g.S.System.faults l.fn.system;
  many : l.counter ≤ length l.bytes.items;
}
