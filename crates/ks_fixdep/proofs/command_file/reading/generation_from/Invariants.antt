use Rattle.ks_fixdep.proofs.Prelude.{◌≡◌, ◌+◌, ◌<◌, ◌^◌, length, lines}
use Rattle.ks_fixdep.specs.CommandReading as Reading
use Rattle.ks_fixdep.proofs.CommandStepLemmas.{with_found}
use Rattle.ks_fixdep.proofs.command_file.reading.generation_from.Given as goal

-- what the rest says, and what was found, is what all of it says
abbrev pub invariant-loop-rest : goal.invariant-loop-rest
invariant-loop-rest l = record {
  same : with_found l.generation (Reading.generation_from l.number (lines l.rest)) ≡ Reading.generation_from l.fn.first (lines l.fn.text);
  fits : l.number + length l.rest < 2 ^ 64;
}

abbrev pub decreases-loop-rest : goal.decreases-loop-rest
decreases-loop-rest l = length l.rest
