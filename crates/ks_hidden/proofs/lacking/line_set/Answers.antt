use Rattle.std.proofs.Common.{ℕ, List, Bor, rules, arith}
use Rattle.std.proofs.lemmas.Grind.{common_steps}
use Rattle.ks_symbols.specs.Lines.{lines}
use Rattle.ks_hidden.proofs.TextLemmas.{mirrored, moved}
use Rattle.ks_hidden.proofs.lacking.line_set.Goals as goal

pub loop-line-init : goal.loop-line-init
unfolding lines
loop-line-init c = λ x. search rules

pub loop-line-preserved : goal.loop-line-preserved
loop-line-preserved c = λ x.
    let q : Bor (List ℕ) = record { ref_ptr = (0, 0); now = x } in
    let step = c.in_ok-insert.ensures.updates.0 q in
    grind (arith, common_steps, mirrored, moved, step, c.loop-line.invariant x)

pub returns : goal.returns
returns c = λ x. grind (arith, common_steps, c.loop-line.invariant x)
