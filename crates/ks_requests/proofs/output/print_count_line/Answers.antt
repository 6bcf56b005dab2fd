use Rattle.ks_requests.proofs.Prelude.{codes, subst, reported, PrintsOrBreaks, state_of}
use Rattle.ks_requests.proofs.Writing.{fault_pieces}
use Rattle.ks_requests.proofs.output.print_count_line.Goals as goal

pub returns : goal.returns
returns g c =
    subst (λ text. PrintsOrBreaks text (state_of g.E.Writer c.args.err.now) (state_of g.E.Writer c.print.new.self))
    (fault_pieces c.args.some.now (codes " of ") c.args.all.now c.args.kind.now)
    (reported _ _ _ _ c.print.ensures.whole c.print.ensures.broken)
