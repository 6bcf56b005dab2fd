use Rattle.ks_engine.proofs.Prelude.{rules, bytes_eq-Decides}
use Rattle.ks_fixdep.specs.CommandFile.{view}
use Rattle.ks_engine.proofs.BeginningAgain.{loses_number}
use Rattle.ks_engine.proofs.repairing.without_number.Goals as goal

pub returns : goal.returns
returns c = loses_number c.args.target.now c.args.text.now c.write_command.new.out.items (view c.in-Ok.file)
    (λ large. (let never = c.in-Ok.ensures.large large in cc))
    (λ small. c.in-Ok.ensures.exact small)
    (search (rules, bytes_eq-Decides))
    (search rules)
    (search rules)
