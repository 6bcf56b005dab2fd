use Rattle.ks_requests.proofs.Prelude.{ap, complaint, subst, sym, Breaks, Prints, state_of, ◌∙◌}
use Rattle.ks_requests.proofs.Writing.{fault_line}
use Rattle.ks_requests.specs.Faults.{place_text}
use Rattle.ks_requests.proofs.output.print_complaint.Goals as goal

pub returns-in-Nowhere-clause-whole : goal.returns-in-Nowhere-clause-whole
unfolding complaint
returns-in-Nowhere-clause-whole g c = λ is.
    subst (λ text. Prints text (state_of g.E.Writer c.args.err.now) (state_of g.E.Writer c.print_fault_line.new.err))
    (fault_line c.refusal_fault-fault.result _ _ _ _ _ c.as_bytes-number.ensures.value c.as_bytes-name.ensures.value c.as_bytes-label.ensures.value
    (ap place_text (sym c.in-Nowhere.is)) c.refusal_fault-fault.ensures.text) (c.print_fault_line.ensures.whole is)

pub returns-in-Nowhere-clause-broken : goal.returns-in-Nowhere-clause-broken
unfolding complaint
returns-in-Nowhere-clause-broken g c = λ is.
    subst (λ text. Breaks text (state_of g.E.Writer c.args.err.now) (state_of g.E.Writer c.print_fault_line.new.err))
    (fault_line c.refusal_fault-fault.result _ _ _ _ _ c.as_bytes-number.ensures.value c.as_bytes-name.ensures.value c.as_bytes-label.ensures.value
    (ap place_text (sym c.in-Nowhere.is)) c.refusal_fault-fault.ensures.text) (c.print_fault_line.ensures.broken is)

pub returns-in-Numbered-clause-whole : goal.returns-in-Numbered-clause-whole
unfolding complaint
returns-in-Numbered-clause-whole g c = λ is.
    subst (λ text. Prints text (state_of g.E.Writer c.args.err.now) (state_of g.E.Writer c.print_fault_line-in-Numbered.new.err))
    (fault_line c.refusal_fault-fault.result _ _ _ _ _ c.as_bytes-number.ensures.value c.as_bytes-name.ensures.value c.as_bytes-label.ensures.value
    (c.as_bytes.ensures.value ∙ c.format.ensures.text ∙ ap place_text (sym c.in-Numbered.is)) c.refusal_fault-fault.ensures.text) (c.print_fault_line-in-Numbered.ensures.whole is)

pub returns-in-Numbered-clause-broken : goal.returns-in-Numbered-clause-broken
unfolding complaint
returns-in-Numbered-clause-broken g c = λ is.
    subst (λ text. Breaks text (state_of g.E.Writer c.args.err.now) (state_of g.E.Writer c.print_fault_line-in-Numbered.new.err))
    (fault_line c.refusal_fault-fault.result _ _ _ _ _ c.as_bytes-number.ensures.value c.as_bytes-name.ensures.value c.as_bytes-label.ensures.value
    (c.as_bytes.ensures.value ∙ c.format.ensures.text ∙ ap place_text (sym c.in-Numbered.is)) c.refusal_fault-fault.ensures.text) (c.print_fault_line-in-Numbered.ensures.broken is)

pub returns-in-Named-clause-whole : goal.returns-in-Named-clause-whole
unfolding complaint
returns-in-Named-clause-whole g c = λ is.
    subst (λ text. Prints text (state_of g.E.Writer c.args.err.now) (state_of g.E.Writer c.print_fault_line-in-Named.new.err))
    (fault_line c.refusal_fault-fault.result _ _ _ _ _ c.as_bytes-number.ensures.value c.as_bytes-name.ensures.value c.as_bytes-label.ensures.value
    (ap place_text (sym c.in-Named.is)) c.refusal_fault-fault.ensures.text) (c.print_fault_line-in-Named.ensures.whole is)

pub returns-in-Named-clause-broken : goal.returns-in-Named-clause-broken
unfolding complaint
returns-in-Named-clause-broken g c = λ is.
    subst (λ text. Breaks text (state_of g.E.Writer c.args.err.now) (state_of g.E.Writer c.print_fault_line-in-Named.new.err))
    (fault_line c.refusal_fault-fault.result _ _ _ _ _ c.as_bytes-number.ensures.value c.as_bytes-name.ensures.value c.as_bytes-label.ensures.value
    (ap place_text (sym c.in-Named.is)) c.refusal_fault-fault.ensures.text) (c.print_fault_line-in-Named.ensures.broken is)
