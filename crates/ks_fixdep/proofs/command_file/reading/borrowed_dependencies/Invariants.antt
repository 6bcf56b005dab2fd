use Rattle.ks_fixdep.proofs.Prelude.{◌≡◌, ◌+◌, ◌≤◌, ◌++◌, drop, length, map, seen_dep, lines}
use Rattle.ks_fixdep.specs.CommandReading as Reading
use Rattle.ks_fixdep.proofs.command_file.reading.borrowed_dependencies.Given as goal

-- the dependency lines so far and those of the rest are all
abbrev pub invariant-lines : goal.invariant-lines
invariant-lines l = record {
  same : map seen_dep l.deps.items ++ Reading.deps_in (lines l.rest) ≡ Reading.deps_in (lines l.fn.text);
  rest : lines l.rest ≡ drop (length l.deps.items) (lines l.fn.text);
  fits : length l.deps.items + length l.rest ≤ length l.fn.text;
}

abbrev pub decreases-lines : goal.decreases-lines
decreases-lines l = length l.rest
