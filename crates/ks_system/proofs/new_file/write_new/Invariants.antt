use Rattle.std.proofs.Common.{◌≡◌, ◌<◌}
use Rattle.ks_system.specs.Errors.{IsPassed}
use Rattle.ks_system.specs.declared.errors.Meaning.TheVariants.{Missing}
use Rattle.ks_tree.specs.Files.{SameBut}
use Rattle.ks_system.proofs.new_file.write_new.Given as goal

abbrev pub invariant-loop : goal.invariant-loop
invariant-loop g l = record {
  others : g.S.System.is_honest → SameBut (g.S.System.path_at l.host_path) (g.S.System.world l.fn.system).files (g.S.System.world l.system).files;
  dated : g.S.System.is_honest → (g.S.System.world l.system).dated ≡ (g.S.System.world l.fn.system).dated;
  last : g.S.System.is_honest → 0 < l.counter → IsPassed Missing (g.S.System.last_error l.system);
  kept : g.S.System.backdated l.system ≡ g.S.System.backdated l.fn.system;
}
