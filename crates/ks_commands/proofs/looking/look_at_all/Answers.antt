use Rattle.ks_commands.proofs.Prelude.{arith, common_steps, rules, sym}
use Rattle.ks_commands.specs.Looking.{IsPlain, looked_by}
use Rattle.ks_commands.proofs.LookingLemmas.{included_from, none_left, one_more}
use Rattle.ks_commands.proofs.looking.look_at_all.Goals as goal

pub loop-place-preserved : goal.loop-place-preserved
loop-place-preserved g c = record {
  unchanged = search rules;
  kept = search rules;
  same = search rules;
  within = search rules;
  plain = λ honest.
      let looked = rw (c.loop-place.invariant.unchanged honest, c.in_default-2.is) at (c.in_ok-hidden.ensures.looked honest) in
      one_more (IsPlain (looked_by c.args.look.now) (g.T.Tree.files c.args.tree.now)) c.args.prerequisites.now c.loop-place.place
      (c.in-Some.path.now, c.in-Some.field-0-1) (sym c.in-Some.ensures.value) looked (c.loop-place.invariant.plain honest);
  noted = λ honest x.
      let look = looked_by c.args.look.now in
      let files = g.T.Tree.files c.args.tree.now in
      let more = rw (c.loop-place.invariant.unchanged honest) at (c.in_ok-hidden.ensures.noted honest c.in_default-2.is x) in
      let split = included_from look files x c.args.prerequisites.now c.loop-place.place (c.in-Some.path.now, c.in-Some.field-0-1) (sym c.in-Some.ensures.value) in
      grind (arith, common_steps, more, split, c.loop-place.invariant.noted honest x);
}

pub returns-clause-found : goal.returns-clause-found
returns-clause-found g c = λ honest i p within at.
    c.loop-place.invariant.plain honest i p (omega (arith, c.loop-place-test.false, c.len-place-end.ensures.len, within)) at

pub returns-clause-noted : goal.returns-clause-noted
returns-clause-noted g c = λ honest none x.
    let left = none_left (looked_by c.args.look.now) (g.T.Tree.files c.args.tree.now) x c.args.prerequisites.now c.loop-place.place
    (omega (arith, c.loop-place-test.false, c.len-place-end.ensures.len)) in
    grind (arith, common_steps, left, c.loop-place.invariant.noted honest x)
