use Rattle.ks_requests.proofs.Prelude.{append-nil, complaint, hint_of, subst, sym, Prints, state_of}
use Rattle.ks_requests.proofs.Writing.{hinted}
use Rattle.ks_requests.proofs.output.refuse.Goals as goal

pub returns-then-print_complaint-clause-reported : goal.returns-then-print_complaint-clause-reported
returns-then-print_complaint-clause-reported g c =
    hinted _ (hint_of c.args.error.now) _ _ _
    (subst (λ text. Prints text (state_of g.E.Writer c.args.err.now) (state_of g.E.Writer c.print_complaint.new.err))
    (sym (append-nil (complaint c.args.error.now))) (c.print_complaint.ensures.whole c.if-print_complaint.true))
    c.print_hint.ensures
