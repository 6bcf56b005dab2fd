use Rattle.std.proofs.Common.{◌≡◌, ◌<◌}
use Rattle.ks_system.specs.Errors.{IsPassed}
use Rattle.ks_system.specs.declared.errors.Meaning.TheVariants.{Interrupted}
use Rattle.ks_system.proofs.new_file.write_some.Given as goal

abbrev pub invariant-loop : goal.invariant-loop
invariant-loop g l = record {
  world : g.S.System.is_honest → g.S.System.world l.system ≡ g.S.System.world l.fn.system;
  opened : g.S.System.opened l.handle ≡ g.S.System.opened l.fn.handle;
  claimed : g.S.System.is_claimed l.handle ≡ g.S.System.is_claimed l.fn.handle;
  last : g.S.System.is_honest → 0 < l.counter → IsPassed Interrupted (g.S.System.last_error l.system);
  kept : g.S.System.backdated l.system ≡ g.S.System.backdated l.fn.system;
}
