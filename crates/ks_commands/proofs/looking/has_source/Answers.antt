use Rattle.ks_commands.proofs.Prelude.{◌≡◌, ◌∙◌, arith, false, rules, sym}
use Rattle.ks_commands.specs.Looking.{is_source}
use Rattle.ks_commands.proofs.LookingLemmas.{one_more, source_there, source_nowhere}
use Rattle.ks_commands.proofs.looking.has_source.Goals as goal

pub returns-then-is_source : goal.returns-then-is_source
returns-then-is_source c =
    sym (source_there (λ p. is_source c.args.header p.0) c.args.prerequisites.now c.loop-place.place (c.in-Some.path.now, c.in-Some.field-0-1)
    (sym c.in-Some.ensures.value) (sym c.is_source.ensures ∙ c.if-is_source.true))

pub loop-place-preserved : goal.loop-place-preserved
loop-place-preserved c = record {
  within = search rules;
  none = one_more (λ p. is_source c.args.header p.0 ≡ false) c.args.prerequisites.now c.loop-place.place (c.in-Some.path.now, c.in-Some.field-0-1)
      (sym c.in-Some.ensures.value) (sym c.is_source.ensures ∙ c.if-is_source.false) c.loop-place.invariant.none;
}

pub returns : goal.returns
returns c = sym (source_nowhere (λ p. is_source c.args.header p.0) c.args.prerequisites.now c.loop-place.place
    (omega (arith, c.loop-place-test.false, c.len-place-end.ensures.len)) c.loop-place.invariant.none)
