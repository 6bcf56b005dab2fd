use Rattle.ks_engine.proofs.Prelude.{refl, rules, sym, ◌∙◌, arith, length-append, err_from_is_err_and}
use Rattle.ks_engine.proofs.Drafting.{or_given}
use Rattle.ks_engine.proofs.Scanning.{picked_next, scanned_step, after_next, scanned_end, following_none}
use Rattle.ks_engine.proofs.sources.scan_all_by.Goals as goal

pub returns-in_err-source-clause-refused : goal.returns-in_err-source-clause-refused
returns-in_err-source-clause-refused g c = λ honest.
    let p = err_from_is_err_and c.from_residual-in_err-source.result c.from_residual-in_err-source.ensures.1 in
    let stated = rw (c.loop-place.invariant.unchanged honest, c.loop-place.invariant.rules) at (c.in_err-source.ensures.refused honest) in
    rw (p.1, p.2) (or_given (λ bad. scanned_step _ _ c.args.prerequisites.now c.loop-place.place _ _ _ _ (sym c.in-Some.ensures.value) bad
    (c.loop-place.invariant.scanned honest).1) stated)

pub loop-place-init : goal.loop-place-init
loop-place-init g c = record {
  unchanged = λ honest. refl;
  kept = refl;
  same = refl;
  within = omega arith;
  rules = refl;
  buffer = search rules;
  cache = c.requires.cache;
  counts = search rules;
  scanned = λ honest. rw c.in_ok-sources.ensures.items (refl, following_none _);
}

pub source_at-requires : goal.source_at-requires
source_at-requires g c = record { cache = c.loop-place.invariant.cache; path = search rules; buffer = c.loop-place.invariant.buffer }

pub loop-place-preserved : goal.loop-place-preserved
loop-place-preserved g c = record {
  unchanged = search rules;
  kept = search rules;
  same = search rules;
  cache = c.in_ok-source.ensures.cache;
  within = omega arith;
  rules = search rules;
  buffer = search rules;
  counts = search (rules, length-append);
  scanned = λ honest.
      let so_far = c.loop-place.invariant.scanned honest in
      let kept = rw (c.loop-place.invariant.unchanged honest, c.loop-place.invariant.rules) at (c.in_ok-source.ensures.scanned honest) in
      let next = picked_next _ _ _ _ _ c.in_ok-source.ensures.grows so_far.0 kept.0 c.in_ok-push.ensures.items in
      (next.0, rw next.1 (scanned_step _ _ c.args.prerequisites.now c.loop-place.place _ _ _ _ (sym c.in-Some.ensures.value) kept.1 so_far.1 ∙ after_next _ _ _));
}

pub returns-clause-cache : goal.returns-clause-cache
returns-clause-cache g c = search rules

pub returns-clause-names : goal.returns-clause-names
returns-clause-names g c = search (rules, scanned_end)

pub returns-clause-placed : goal.returns-clause-placed
returns-clause-placed g c = λ honest. (c.loop-place.invariant.scanned honest).0

pub returns-clause-each : goal.returns-clause-each
returns-clause-each g c = omega (arith, c.loop-place.invariant.counts, c.loop-place.invariant.within)
