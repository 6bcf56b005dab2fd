use Rattle.ks_commands.proofs.Prelude.{◌≡◌, ◌≤◌, false, length}
use Rattle.ks_commands.specs.Looking.{AreFirst, is_source}
use Rattle.ks_commands.proofs.looking.has_source.Given as goal

-- none of those that were looked at is compiled
abbrev pub invariant-loop-place : goal.invariant-loop-place
invariant-loop-place l = record {
  within : l.place ≤ length l.prerequisites;
  none : AreFirst (λ p. is_source l.header p.0 ≡ false) l.prerequisites l.place;
}
