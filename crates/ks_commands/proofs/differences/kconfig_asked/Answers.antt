use Rattle.ks_commands.proofs.Prelude.{ℕ, List, Option, ◌∙◌, err_from_is_err_and, Kind}
use Rattle.std.specs.FinMap as map
use Rattle.ks_commands.proofs.Unknowns.{counted_unknown, reported_unknown, engine_refused}
use Rattle.ks_commands.proofs.differences.kconfig_asked.Goals as goal

pub returns-clause-read : goal.returns-clause-read
returns-clause-read c =
    let sources = c.in_ok-parsed.ensures.read in
    let kinds : List ℕ → Option Kind = map.get c.in_ok-parsed.parsed.symbols.kinds in (
      sources,
      reported_unknown c.args.report_style c.args.kconfig.now c.args.dotconfig.now kinds _ c.in_ok-parsed.ensures.declared
          (c.in_ok-count.ensures (counted_unknown c.args.kconfig.now c.args.dotconfig.now kinds _ c.in_ok-parsed.ensures.declared (c.unknown-unknown.ensures ∙ sources.unknown))),
    )

pub returns-in_err-parsed-clause-refused : goal.returns-in_err-parsed-clause-refused
returns-in_err-parsed-clause-refused c =
    let p = err_from_is_err_and c.from_residual.result c.from_residual.ensures.1 in
    rw (p.1, p.2) (engine_refused _ _ c.in_err-parsed.ensures.refusal)
