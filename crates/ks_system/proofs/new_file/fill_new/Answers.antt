use Rattle.std.proofs.Common.{rules, arith, ◌∙◌, ap, length}
use Rattle.std.proofs.lemmas.List.{length-drop, take_rest}
use Rattle.ks_system.proofs.Pieces.{appended_at, written_rest}
use Rattle.ks_system.proofs.new_file.fill_new.Goals as goal

pub loop-preserved : goal.loop-preserved
loop-preserved g c = record {
  within = let rest = ap length (take_rest c.args.bytes.now c.loop.written) in let short = length-drop c.loop.written c.args.bytes.now in
      let count = c.in_ok-count.ensures.within in omega arith;
  begun = λ honest. written_rest _ _ _ _ _ _ (c.loop.invariant.begun honest)
      (appended_at _ _ _ _ _ c.loop.invariant.opened (c.in_ok-count.ensures.written honest));
  others = λ honest q differs.
      (appended_at _ _ _ _ _ c.loop.invariant.opened (c.in_ok-count.ensures.written honest)).others q differs ∙ c.loop.invariant.others honest q differs;
  names = search rules;
  dated = search rules;
  opened = search rules;
  claimed = search rules;
  last = search rules;
  kept = search rules;
}

pub returns-then-count-eq0-clause-begun : goal.returns-then-count-eq0-clause-begun
returns-then-count-eq0-clause-begun g c = λ honest. (
  _,
  written_rest _ _ _ _ _ _ (c.loop.invariant.begun honest)
      (appended_at _ _ _ _ _ c.loop.invariant.opened (c.in_ok-count.ensures.written honest)),
)

pub returns-then-count-eq0-clause-others : goal.returns-then-count-eq0-clause-others
returns-then-count-eq0-clause-others g c = λ honest q differs.
    (appended_at _ _ _ _ _ c.loop.invariant.opened (c.in_ok-count.ensures.written honest)).others q differs ∙ c.loop.invariant.others honest q differs
