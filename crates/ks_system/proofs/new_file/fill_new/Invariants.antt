use Rattle.std.proofs.Common.{◌≡◌, ◌≤◌, ◌<◌, None, length}
use Rattle.ks_tree.specs.Files.{SameBut}
use Rattle.ks_system.specs.System.{Begun}
use Rattle.ks_system.proofs.new_file.fill_new.Given as goal

abbrev pub invariant-loop : goal.invariant-loop
invariant-loop g l = record {
  within : l.written ≤ length l.bytes;
  begun : g.S.System.is_honest → Begun (g.S.System.world l.system).files (g.S.System.opened l.fn.handle).path l.bytes l.written;
  others : g.S.System.is_honest → SameBut (g.S.System.opened l.fn.handle).path (g.S.System.world l.fn.system).files (g.S.System.world l.system).files;
  names : g.S.System.is_honest → (g.S.System.world l.system).names ≡ (g.S.System.world l.fn.system).names;
  dated : g.S.System.is_honest → (g.S.System.world l.system).dated ≡ (g.S.System.world l.fn.system).dated;
  opened : g.S.System.opened l.handle ≡ g.S.System.opened l.fn.handle;
  claimed : g.S.System.is_claimed l.handle ≡ g.S.System.is_claimed l.fn.handle;
  last : g.S.System.is_honest → 0 < l.counter → g.S.System.last_error l.system ≡ None;
  kept : g.S.System.backdated l.system ≡ g.S.System.backdated l.fn.system;
}
