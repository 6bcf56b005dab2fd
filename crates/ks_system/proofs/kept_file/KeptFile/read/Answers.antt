use Rattle.std.proofs.Common.{◌≤◌, rules, arith, ap, ap₂, subst, ◌∙◌, length}
use Rattle.std.proofs.lemmas.List.{length-drop, take_rest}
use Rattle.ks_tree.specs.Files.{content}
use Rattle.ks_system.specs.Reading.{IsAheadOf}
use Rattle.ks_system.proofs.Counted.{failed_at, on_err}
use Rattle.ks_system.proofs.Pieces.{put_all, put_long}
use Rattle.ks_system.proofs.Filled.{filled_at, nothing_filled, read_end, read_full}
use Rattle.ks_system.proofs.kept_file.KeptFile.read.Goals as goal

pub returns-then-count-eq0-clause-found : goal.returns-then-count-eq0-clause-found
returns-then-count-eq0-clause-found g c = λ honest.
    read_end _ _ _ _ _ _ _ _ _ _ _ (c.loop.invariant.read honest)
    (ap₂ (λ w h. content w.files (g.S.System.opened h).path) (c.loop.invariant.world honest) c.loop.invariant.file)
    (c.in_ok-count.ensures.read honest) c.loop.invariant.at (take_rest c.loop.into c.loop.given)
    (put_all _ _ _ c.loop.invariant.within) c.if-count-eq0.true c.loop.invariant.buffer c.loop.invariant.within

pub loop-init : goal.loop-init
loop-init g c = record {
  world = search rules;
  read = λ honest. nothing_filled _ _ _;
  ahead = λ honest. c.go_to.ensures.ahead _ (c.requires.ahead honest);
  at = search rules;
  within = search rules;
  buffer = search rules;
  path = search rules;
  file = search rules;
  kept = search rules;
  faults = search rules;
  many = search rules;
}

pub loop-preserved : goal.loop-preserved
loop-preserved g c = record {
  world = λ honest. c.in_ok-count.ensures.unchanged honest ∙ c.loop.invariant.world honest;
  read = λ honest.
      filled_at _ _ _ _ _ _ _ _ _ _ _ (c.loop.invariant.read honest)
      (ap₂ (λ w h. content w.files (g.S.System.opened h).path) (c.loop.invariant.world honest) c.loop.invariant.file)
      (c.in_ok-count.ensures.read honest) c.loop.invariant.at (take_rest c.loop.into c.loop.given)
      (put_all _ _ _ c.loop.invariant.within);
  ahead = λ honest.
      subst (λ file. IsAheadOf file c.give_some.new.self.ahead)
      (ap₂ (λ w h. content w.files (g.S.System.opened h).path) (c.loop.invariant.world honest) c.loop.invariant.file)
      (c.in_ok-count.ensures.ahead honest);
  at = let moved = c.in_ok-count.ensures.offset in let at = c.loop.invariant.at in omega arith;
  within =
      let long = put_long _ _ _ c.loop.invariant.within c.in_ok-count.ensures.buffer in
      let count = c.in_ok-count.ensures.within in
      let buffer = c.in_ok-count.ensures.buffer in let rest = ap length (take_rest c.loop.into c.loop.given) in let after = length-drop c.loop.given c.loop.into in
      let before = c.loop.invariant.within in omega arith;
  buffer = put_long _ _ _ c.loop.invariant.within c.in_ok-count.ensures.buffer ∙ c.loop.invariant.buffer;
  path = c.in_ok-count.ensures.path ∙ c.loop.invariant.path;
  file = c.in_ok-count.ensures.file ∙ c.loop.invariant.file;
  kept = c.in_ok-count.ensures.kept ∙ c.loop.invariant.kept;
  faults = λ honest. c.in_ok-count.ensures.passed honest ∙ c.loop.invariant.faults honest;
  many = omega arith;
}

pub returns-in_err-count-clause-cause : goal.returns-in_err-count-clause-cause
returns-in_err-count-clause-cause g c = λ honest.
    let within = subst (λ n. c.loop.given ≤ n) c.loop.invariant.buffer c.loop.invariant.within in
    on_err _ _ (failed_at _ _ _ _ _ _ _ _ (c.loop.invariant.faults honest) c.loop.invariant.at within (c.in_err-count.ensures.cause honest))

pub returns-then-given-into-clause-found : goal.returns-then-given-into-clause-found
returns-then-given-into-clause-found g c = λ honest.
    read_full _ _ _ _ _ (c.loop.invariant.read honest) (c.loop.invariant.ahead honest).0 c.if-given-into.true c.loop.invariant.buffer
