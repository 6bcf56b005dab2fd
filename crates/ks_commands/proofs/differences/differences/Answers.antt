use Rattle.ks_commands.proofs.Prelude.{ℕ, List, ◌∙◌, ap, ap₂, flat_map, err_from_is_err_and, Configuration, Texts, difference_line, difference_status, lines_asked}
use Rattle.ks_engine.proofs.Reading.{source_refused}
use Rattle.ks_engine.specs.Sources.{config_source}
use Rattle.ks_commands.proofs.differences.differences.Goals as goal

pub returns-clause-reported : goal.returns-clause-reported
returns-clause-reported g c = λ honest.
    let asked = c.in_ok-asked.ensures.read in
    let planned = c.in_ok-planned.ensures.planned honest (config_source c.args.texts.now) asked.0 in
    let read = c.in_ok-planned.planned in
    let names = read.report.touched.items in
    let lines : Texts → Configuration → List (List ℕ) → List ℕ = λ old new names. lines_asked c.args.report_style (flat_map (difference_line old new) names) in (
      (
        planned.0,
        planned.1,
        record {
          names = names;
          changed = planned.2.report.changed.are;
          lines = c.in_ok-text.ensures
              ∙ ap (lines read.old.texts read.sources.settings.entries) c.deref.ensures.value
              ∙ ap₂ (λ old new. lines old new names) planned.2.old planned.2.config;
          status_of = c.difference_status-status.ensures.status ∙ ap (difference_status c.args.report_style) c.deref-2.ensures.value;
        },
      ),
      asked.1,
    )

pub returns-in_err-asked-clause-refused : goal.returns-in_err-asked-clause-refused
returns-in_err-asked-clause-refused g c = λ honest.
    let p = err_from_is_err_and c.from_residual.result c.from_residual.ensures.1 in
    rw (p.1, p.2) (source_refused _ (config_source c.args.texts.now) _ c.in_err-asked.ensures.refused)

pub returns-in_err-planned-clause-refused : goal.returns-in_err-planned-clause-refused
returns-in_err-planned-clause-refused g c = λ honest.
    let p = err_from_is_err_and c.from_residual-in_err-planned.result c.from_residual-in_err-planned.ensures.1 in
    rw (p.1, p.2) (c.in_err-planned.ensures.refused honest (config_source c.args.texts.now) c.in_ok-asked.ensures.read.0)
