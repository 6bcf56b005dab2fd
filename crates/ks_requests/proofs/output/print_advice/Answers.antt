use Rattle.ks_requests.proofs.Prelude.{◌∙◌, ap₂, codes, hint, reported, subst, PrintsOrBreaks, state_of, ◌++◌}
use Rattle.ks_requests.proofs.Writing.{hint_pieces}
use Rattle.ks_requests.proofs.output.print_advice.Goals as goal

pub returns : goal.returns
unfolding hint
returns g c =
    subst (λ text. PrintsOrBreaks text (state_of g.E.Writer c.args.err.now) (state_of g.E.Writer c.print.new.self))
    (hint_pieces (codes "hint: ") c.as_bytes-advice.result.now (codes " (confstamp explain ") c.as_bytes-number.result.now (codes ")\n")
    ∙ ap₂ (λ l m. codes "hint: " ++ l ++ codes " (confstamp explain " ++ m ++ codes ")\n") c.as_bytes-advice.ensures.value c.as_bytes-number.ensures.value)
    (reported _ _ _ _ c.print.ensures.whole c.print.ensures.broken)
