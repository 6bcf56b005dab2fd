use Rattle.ks_requests.proofs.Prelude.{[], ◌∷◌, codes, subst, Breaks, state_of, arith, common_steps}
use Rattle.ks_requests.proofs.Writing.{site_pieces}
use Rattle.ks_requests.proofs.output.print_site_line.Goals as goal

pub returns-in-Some-clause-whole : goal.returns-in-Some-clause-whole
returns-in-Some-clause-whole g c = grind (arith, common_steps, site_pieces)

pub returns-in-Some-clause-broken : goal.returns-in-Some-clause-broken
returns-in-Some-clause-broken g c = λ no.
    rw c.in-Some.is
    (subst (λ text. Breaks text (state_of g.E.Writer c.args.err.now) (state_of g.E.Writer c.print.new.self))
    (site_pieces (codes "  ") c.args.path.now c.args.label.now c.args.number.now (codes ": ") c.in-Some.text.now (10 ∷ [])) (c.print.ensures.broken no))
