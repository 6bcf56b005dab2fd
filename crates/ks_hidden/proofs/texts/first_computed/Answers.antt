use Rattle.std.proofs.Common.{rules, arith}
use Rattle.std.proofs.lemmas.Grind.{common_steps}
use Rattle.ks_symbols.specs.Lines.{lines}
use Rattle.ks_hidden.specs.Texts.{computed_from, first_computed, included_macros}
use Rattle.ks_hidden.proofs.TextLemmas.{macros_from}
use Rattle.ks_hidden.proofs.texts.first_computed.Goals as goal

pub loop-line-init : goal.loop-line-init
unfolding first_computed lines included_macros
loop-line-init c = record { found = search rules; numbers = grind (arith, common_steps); noted = λ x. search rules }

pub loop-line-preserved : goal.loop-line-preserved
unfolding computed_from
loop-line-preserved c = record {
  found = search rules;
  numbers = search rules;
  noted = λ x.
      let next = macros_from x c.in-Some.line.now c.next.new.self in
      let before = c.loop-line.invariant.noted x in
      let told = c.in_ok-note_include.ensures.noted x in
      grind (arith, common_steps, next, before, told);
}
