use Rattle.ks_symbols.proofs.Prelude.{arith, rules}
use Rattle.ks_symbols.proofs.WordRuns.{short_entry}
use Rattle.ks_symbols.proofs.statements.entry_ahead.Goals as goal

pub returns-then-run-lt-WIDE : goal.returns-then-run-lt-WIDE
returns-then-run-lt-WIDE c =
    let run = c.wide_run_at-run in
    short_entry c.args.text.now run.result (search rules) (omega (arith, c.if-text.false)) (omega (arith, c.if-run-eq0.false)) c.if-run-lt-WIDE.true run.ensures.passes (run.ensures.stops c.if-run-lt-WIDE.true)
