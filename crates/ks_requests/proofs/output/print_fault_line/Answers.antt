use Rattle.ks_requests.proofs.Prelude.{[], ◌∷◌, codes, subst, Breaks, Prints, state_of}
use Rattle.ks_requests.proofs.Writing.{error_pieces}
use Rattle.ks_requests.proofs.output.print_fault_line.Goals as goal

pub returns-clause-whole : goal.returns-clause-whole
returns-clause-whole g c = λ all.
    subst (λ text. Prints text (state_of g.E.Writer c.args.err.now) (state_of g.E.Writer c.print.new.self))
    (error_pieces (codes "confstamp: ") c.args.number.now (codes " ") c.args.name.now c.args.label.now c.args.place.now (10 ∷ []))
    (c.print.ensures.whole all)

pub returns-clause-broken : goal.returns-clause-broken
returns-clause-broken g c = λ no.
    subst (λ text. Breaks text (state_of g.E.Writer c.args.err.now) (state_of g.E.Writer c.print.new.self))
    (error_pieces (codes "confstamp: ") c.args.number.now (codes " ") c.args.name.now c.args.label.now c.args.place.now (10 ∷ []))
    (c.print.ensures.broken no)
