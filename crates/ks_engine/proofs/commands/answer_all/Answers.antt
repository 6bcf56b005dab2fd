use Rattle.ks_engine.proofs.Prelude.{◌≡◌, ◌∙◌, refl, ◌∷◌, ◌++◌, [], arith, length, rules, common_steps}
use Rattle.ks_engine.proofs.FileRunning.{more}
use Rattle.ks_engine.proofs.commands.answer_all.Goals as goal

pub loop-command-preserved : goal.loop-command-preserved
loop-command-preserved g c = record {
  run = let items : c.push.new.self.items ≡ c.loop-command.replies.items ++ c.answer-reply.result ∷ [] = grind (arith, common_steps) in
      let many : length c.loop-command.replies.items ≡ c.loop-command.command-index = grind (arith, common_steps, c.loop-command.invariant.reported) in search (rules, more);
  later = omega (arith, c.loop-command.invariant.later, c.answer-reply.ensures.step.later);
  kept = c.answer-reply.ensures.kept ∙ c.loop-command.invariant.kept;
  cache = c.answer-reply.ensures.cache;
  reported = grind (arith, common_steps);
  headroom = grind (arith, common_steps);
}

pub returns-clause-steps : goal.returns-clause-steps
returns-clause-steps g c = grind (arith, common_steps)

pub loop-command-init : goal.loop-command-init
loop-command-init g c = record {
  run = search (rules, c.requires.none);
  later = omega arith;
  kept = refl;
  cache = c.requires.cache;
  reported = grind (arith, common_steps);
  headroom = c.requires.headroom;
}
