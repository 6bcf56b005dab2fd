use Rattle.ks_commands.proofs.Prelude.{◌≡◌, map, drop, take, Files, action, seen_line, AreGiven, actions_at, line_of, without_files}
use Rattle.ks_commands.proofs.Loading.{following}
use Rattle.ks_commands.proofs.batch.commands.Given as goal

abbrev pub invariant-loop-line : goal.invariant-loop-line
invariant-loop-line l = record {
  spelled : map line_of (map action l.commands.items) ≡ map without_files (map seen_line (take l.line-index l.line-items));
  given : (files : Files) → AreGiven files l.kept
      → following (map action l.commands.items) (actions_at files (map seen_line (drop l.line-index l.line-items)))
      ≡ actions_at files (map seen_line l.line-items);
}
