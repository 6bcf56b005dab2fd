use Rattle.ks_symbols.proofs.Prelude.{◌+◌, arith, is_word_byte}
use Rattle.ks_symbols.proofs.WordRuns.{known_pass, passes_on, run_ends}
use Rattle.ks_symbols.proofs.word_runs.word_end.Goals as goal

pub loop-end-init : goal.loop-end-init
loop-end-init c = (c.requires.fits, known_pass is_word_byte c.args.text.now c.args.known c.requires.fits c.requires.passes)

pub loop-end-preserved : goal.loop-end-preserved
loop-end-preserved c =
    let l = c.loop-end in
    let run = c.run_at-run.ensures in
    (omega (arith, run.fits), passes_on is_word_byte c.args.text.now l.end l.end (l.end + 16) (omega arith) l.invariant.1 (λ k from to. run.passes k from (omega (arith, run.fits))))

pub returns-then-run-lt-LANES-clause-value : goal.returns-then-run-lt-LANES-clause-value
returns-then-run-lt-LANES-clause-value c =
    let l = c.loop-end in
    let run = c.run_at-run.ensures in
    run_ends is_word_byte c.args.text.now l.end l.end _ (omega arith) (omega (arith, run.fits)) l.invariant.1 run.passes (λ _. run.stops (omega arith))

pub returns-clause-value : goal.returns-clause-value
returns-clause-value c =
    let l = c.loop-end in
    let run = c.run_at.ensures in
    run_ends is_word_byte c.args.text.now l.end _ _ (omega arith) (omega (arith, run.fits)) l.invariant.1 run.passes (λ short. run.stops (omega (arith, short)))
