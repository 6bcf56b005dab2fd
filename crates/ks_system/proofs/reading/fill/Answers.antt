use Rattle.std.proofs.Common.{rules, arith, [], Some, ap, sym, ◌∙◌, length}
use Rattle.std.proofs.lemmas.List.{length-drop, length-take-le, take_rest}
use Rattle.ks_tree.specs.Files.{content}
use Rattle.ks_system.proofs.Counted.{failed_since, on_err}
use Rattle.ks_system.proofs.Pieces.{nothing_read, put_before, put_long, put_more, read_on_at, read_whole_at, rest_buffer}
use Rattle.ks_system.proofs.reading.fill.Goals as goal

pub loop-init : goal.loop-init
loop-init g c = record {
  world = search rules;
  read = λ honest. nothing_read _ [];
  within = search rules;
  buffer = search rules;
  kept = search rules;
  faults = search rules;
  many = search rules;
}

pub loop-preserved : goal.loop-preserved
loop-preserved g c = record {
  world = search rules;
  read = λ honest.
      read_on_at _ _ _ _ _ _ _ _ (c.loop.invariant.read honest) (ap (λ w. content w.files (g.S.System.opened c.args.handle.now).path) (c.loop.invariant.world honest))
      (c.in_ok-count.ensures.read honest) (sym (length-take-le _ _ c.loop.invariant.within)) (put_more _ _ _ _ c.loop.invariant.within);
  within =
      let long = put_long _ _ _ c.loop.invariant.within c.in_ok-count.ensures.buffer in
      let count = c.in_ok-count.ensures.within in
      let buffer = c.in_ok-count.ensures.buffer in let rest = ap length (take_rest c.loop.into c.loop.given) in let after = length-drop c.loop.given c.loop.into in
      let before = c.loop.invariant.within in omega arith;
  buffer = put_long _ _ _ c.loop.invariant.within c.in_ok-count.ensures.buffer ∙ c.loop.invariant.buffer;
  kept = search rules;
  faults = search rules;
  many = search rules;
}

pub returns-then-count-eq0-clause-whole : goal.returns-then-count-eq0-clause-whole
returns-then-count-eq0-clause-whole g c = λ honest less.
    read_whole_at _ _ _ _ _ _ _ (c.loop.invariant.read honest) (ap (λ w. content w.files (g.S.System.opened c.args.handle.now).path) (c.loop.invariant.world honest))
    (c.in_ok-count.ensures.read honest) (sym (length-take-le _ _ c.loop.invariant.within)) c.if-count-eq0.true
    (rest_buffer _ _ c.loop.invariant.within (search rules)) ∙ ap Some (sym (put_before _ _ _ c.loop.invariant.within))

pub returns-in_err-count-clause-cause : goal.returns-in_err-count-clause-cause
returns-in_err-count-clause-cause g c = λ honest. on_err _ _ (failed_since _ _ _ _ (c.loop.invariant.faults honest) (c.in_err-count.ensures.cause honest))
