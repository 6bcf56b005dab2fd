use Rattle.ks_commands.proofs.Prelude.{refl}
use Rattle.ks_commands.proofs.program.report_why.Goals as goal

pub returns-in-Refused : goal.returns-in-Refused
returns-in-Refused g c = rw (c.in-Refused.is) (λ args asked. record {
  refused = asked.0;
  reason = asked.1;
  visible = asked.2;
  printed = c.print_help.ensures;
})

pub returns-in-OutOfMemory : goal.returns-in-OutOfMemory
returns-in-OutOfMemory g c = rw (c.in-OutOfMemory.is) (λ args asked. (refl, c.refuse.ensures.reported, c.refuse.ensures.status))
