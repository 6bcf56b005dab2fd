use Rattle.ks_requests.proofs.Prelude.{arith, common_steps, inr, length, ◌≡◌, lines, rules, sym, ◌∙◌}
use Rattle.ks_requests.proofs.NameLines.{bad_line}
use Rattle.ks_requests.proofs.name_list.names_in.Goals as goal

pub loop-line-init : goal.loop-line-init
unfolding lines
loop-line-init c = search rules

pub returns-then-not-name_is_legal-clause-names : goal.returns-then-not-name_is_legal-clause-names
returns-then-not-name_is_legal-clause-names c =
    let same : c.len-before.result ≡ length c.loop-line.names.items = grind (arith, common_steps, c.len-before.ensures, c.loop-line.names.ok) in
    inr (rw same (bad_line c.args.text.now c.loop-line.names.items c.in-Some.line.now c.next.new.self
    (rw c.in-Some.ensures.steps at c.loop-line.invariant.rest) c.loop-line.invariant.all (sym c.name_is_legal.ensures ∙ c.if-not-name_is_legal.true)))
