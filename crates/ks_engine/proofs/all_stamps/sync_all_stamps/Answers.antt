use Rattle.ks_engine.proofs.Prelude.{FromKconfig, inl, inr, ◌∙◌, ap, is_some, subst, sym, take, Ok, Err, err_from_is_err_and, IsSynced, MakesStamps, rules}
use Rattle.ks_engine.specs.AllStamps.{AreDeclared}
use Rattle.ks_engine.proofs.Reading.{given_fault}
use Rattle.ks_engine.proofs.Following.{unwritten}
use Rattle.ks_engine.proofs.Stamping.{refused_follows, stamped_follows}
use Rattle.ks_engine.proofs.Writes.{beginning}
use Rattle.ks_engine.proofs.all_stamps.sync_all_stamps.Given as given
use Rattle.ks_engine.proofs.all_stamps.sync_all_stamps.Goals as goal
use Rattle.ks_engine.proofs.all_stamps.sync_all_stamps.Goals.{After-make_stamps}

-- what was done before the stamps is a synchronisation
synced : (g : given.Over) (c : After-make_stamps g) → g.T.Tree.is_honest
    → IsSynced (g.T.Tree.files c.args.tree.now) (g.T.Tree.files c.carry_out.new.tree) (FromKconfig c.args.kconfig.now c.args.dotconfig.now) c.in_ok-report.report
synced g c honest =
    (rw (c.plan_config_inputs.ensures.reads.unchanged honest) at (c.in_ok-report.ensures.synced honest (FromKconfig c.args.kconfig.now c.args.dotconfig.now)))
    (c.in_ok-planned.ensures.planned honest (FromKconfig c.args.kconfig.now c.args.dotconfig.now) c.in_ok-parsed.ensures.read)

-- the names are those that the Kconfig declares
all_declared : (g : given.Over) (c : After-make_stamps g) → AreDeclared c.args.kconfig.now c.in_ok-names.names.items
all_declared g c = λ x. c.in_ok-names.ensures.all x ∙ ap is_some (c.in_ok-parsed.ensures.declared x)

pub returns-in_err-parsed-clause-refused : goal.returns-in_err-parsed-clause-refused
returns-in_err-parsed-clause-refused g c = search (rules, err_from_is_err_and)

pub returns-in_err-parsed-clause-follows : goal.returns-in_err-parsed-clause-follows
returns-in_err-parsed-clause-follows g c = search (rules, err_from_is_err_and)

pub returns-in_err-planned-clause-refused : goal.returns-in_err-planned-clause-refused
returns-in_err-planned-clause-refused g c = λ honest.
    let p = err_from_is_err_and c.from_residual-in_err-planned.result c.from_residual-in_err-planned.ensures.1 in
    rw (p.1, p.2) (inl (unwritten _ _ (FromKconfig c.args.kconfig.now c.args.dotconfig.now) _ (c.plan_config_inputs.ensures.reads.unchanged honest)
    (c.in_err-planned.ensures.refused honest (FromKconfig c.args.kconfig.now c.args.dotconfig.now) c.in_ok-parsed.ensures.read)))

pub returns-in_err-planned-clause-follows : goal.returns-in_err-planned-clause-follows
returns-in_err-planned-clause-follows g c = λ honest h shows.
    let p = err_from_is_err_and c.from_residual-in_err-planned.result c.from_residual-in_err-planned.ensures.1 in
    rw (p.1, p.2) (refused_follows _ _ _ _ h _ _ _ shows (unwritten _ _ (FromKconfig c.args.kconfig.now c.args.dotconfig.now) _ (c.plan_config_inputs.ensures.reads.unchanged honest)
    (c.in_err-planned.ensures.refused honest (FromKconfig c.args.kconfig.now c.args.dotconfig.now) c.in_ok-parsed.ensures.read)))

pub returns-in_err-report-clause-refused : goal.returns-in_err-report-clause-refused
returns-in_err-report-clause-refused g c = λ honest.
    let p = err_from_is_err_and c.from_residual-in_err-report.result c.from_residual-in_err-report.ensures.1 in
    let refused = rw (c.plan_config_inputs.ensures.reads.unchanged honest) at (c.in_err-report.ensures.refused honest (FromKconfig c.args.kconfig.now c.args.dotconfig.now)) in
    rw (p.1, p.2) (inl (refused (c.in_ok-planned.ensures.planned honest (FromKconfig c.args.kconfig.now c.args.dotconfig.now) c.in_ok-parsed.ensures.read)))

pub returns-in_err-report-clause-follows : goal.returns-in_err-report-clause-follows
returns-in_err-report-clause-follows g c = λ honest h shows.
    let p = err_from_is_err_and c.from_residual-in_err-report.result c.from_residual-in_err-report.ensures.1 in
    let refused = rw (c.plan_config_inputs.ensures.reads.unchanged honest) at (c.in_err-report.ensures.refused honest (FromKconfig c.args.kconfig.now c.args.dotconfig.now)) in
    rw (p.1, p.2) (refused_follows _ _ _ _ h _ _ _ shows (refused (c.in_ok-planned.ensures.planned honest (FromKconfig c.args.kconfig.now c.args.dotconfig.now) c.in_ok-parsed.ensures.read)))

pub returns-in_err-make_stamps-clause-refused : goal.returns-in_err-make_stamps-clause-refused
returns-in_err-make_stamps-clause-refused g c = λ honest.
    let p = err_from_is_err_and c.from_residual-in_err-make_stamps.result c.from_residual-in_err-make_stamps.ensures.1 in
    let made = c.in_err-make_stamps.ensures.some honest in
    rw (p.1, p.2) (inr (
      given_fault _ (λ e. c.in_err-make_stamps.ensures.never (ap (λ f. Err f) e)),
      record {
        report = c.in_ok-report.report;
        between = g.T.Tree.files c.carry_out.new.tree;
        synced = synced g (goal.at.returns-in_err-make_stamps-clause-refused g c).After-make_stamps honest;
        names = take made.0 c.in_ok-names.names.items;
        declared = λ x among. sym (all_declared g (goal.at.returns-in_err-make_stamps-clause-refused g c).After-make_stamps x) ∙ beginning c.in_ok-names.names.items made.0 x among;
        stamps = subst (λ ns. MakesStamps (take made.0 ns) (g.T.Tree.files c.carry_out.new.tree) (g.T.Tree.files c.make_stamps.new.tree)) c.deref.ensures.value made.1;
      },
    ))

pub returns-in_err-make_stamps-clause-follows : goal.returns-in_err-make_stamps-clause-follows
returns-in_err-make_stamps-clause-follows g c = λ honest h shows.
    stamped_follows _ _ _ _ h _ _ _ shows (search (rules, err_from_is_err_and)) (returns-in_err-make_stamps-clause-refused g c honest)

pub returns-clause-stamped : goal.returns-clause-stamped
returns-clause-stamped g c = λ honest. record {
  between = g.T.Tree.files c.carry_out.new.tree;
  synced = synced g (goal.at.returns-clause-stamped g c).After-make_stamps honest;
  names = c.in_ok-names.names.items;
  declared = all_declared g (goal.at.returns-clause-stamped g c).After-make_stamps;
  stamps = subst (λ ns. MakesStamps ns (g.T.Tree.files c.carry_out.new.tree) (g.T.Tree.files c.make_stamps.new.tree)) c.deref.ensures.value
      (c.in_ok-make_stamps.ensures.all honest);
}

pub returns-clause-follows : goal.returns-clause-follows
returns-clause-follows g c = λ honest h shows.
    stamped_follows _ _ (g.T.Tree.failures c.args.tree.now) (g.T.Tree.failures c.make_stamps.new.tree) h _ _ (Ok c.in_ok-report.report) shows
    (returns-clause-stamped g c honest) tt
