use Rattle.ks_symbols.proofs.Prelude.{◌+◌, arith, is_path_byte}
use Rattle.ks_symbols.proofs.WordRuns.{all_from_run, passes_on}
use Rattle.ks_symbols.proofs.path_runs.path_run.Goals as goal

pub loop-end-init : goal.loop-end-init
loop-end-init c = (omega arith, λ k none. absurd (omega arith))

pub loop-end-preserved : goal.loop-end-preserved
loop-end-preserved c =
    let l = c.loop-end in
    let run = c.path_run_at-run.ensures in
    (omega (arith, run.fits, c.loop-end-test.true), passes_on is_path_byte c.args.text.now l.end l.end (l.end + 16) (omega arith) l.invariant.1 (λ k from to. run.passes k from (omega (arith, run.fits))))

pub returns-then-run-lt-LANES-clause-passes : goal.returns-then-run-lt-LANES-clause-passes
returns-then-run-lt-LANES-clause-passes c =
    let l = c.loop-end in
    let run = c.path_run_at-run.ensures in
    all_from_run is_path_byte c.args.text.now _ (passes_on is_path_byte c.args.text.now l.end l.end _ (omega arith) l.invariant.1 run.passes) (omega (arith, run.fits))

pub returns-clause-passes : goal.returns-clause-passes
returns-clause-passes c = all_from_run is_path_byte c.args.text.now c.loop-end.end c.loop-end.invariant.1 c.loop-end.invariant.0
