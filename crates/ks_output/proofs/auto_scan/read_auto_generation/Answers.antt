use Rattle.ks_output.proofs.Prelude.{[]}
use Rattle.ks_output.proofs.auto_scan.read_auto_generation.Goals as goal

pub returns-clause-generation : goal.returns-clause-generation
returns-clause-generation c = c.finish.ensures.generation [] c.new.ensures

pub returns-clause-refusal : goal.returns-clause-refusal
returns-clause-refusal c = c.finish.ensures.refusal [] c.new.ensures

pub returns-clause-memory : goal.returns-clause-memory
returns-clause-memory c = c.finish.ensures.memory [] c.new.ensures
