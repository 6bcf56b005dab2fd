use Rattle.ks_engine.proofs.Prelude.{AutoConf, AutoTemporary, is_name, IsTrue, take}
use Rattle.ks_engine.proofs.LowerLaws.{apart}
use Rattle.ks_engine.proofs.PuttingBack.{among}
use Rattle.ks_engine.proofs.Writes.{beginning, on_err}
use Rattle.ks_engine.proofs.BeginningAgain.{after_auto, after_names, after_records, all_begun}
use Rattle.ks_engine.proofs.repairing.write_beginning.Goals as goal

pub returns-in_err-touch_all-clause-some : goal.returns-in_err-touch_all-clause-some
returns-in_err-touch_all-clause-some g c = λ honest.
    let names = c.args.names.now in
    let touched = c.in_err-touch_all.ensures.some honest in
    on_err c.from_residual-in_err-touch_all.result _ (
      take touched.0 names,
      after_names (g.T.Tree.files c.args.tree.now) c.args.number names _ (among (λ x. IsTrue (is_name x)) names (c.requires.legal honest)) _ _ (beginning names touched.0) touched.1,
    )

pub returns-in_err-forget_records-clause-some : goal.returns-in_err-forget_records-clause-some
returns-in_err-forget_records-clause-some g c = λ honest.
    let names = c.args.names.now in
    on_err c.from_residual-in_err-forget_records.result _ (
      names,
      after_records (g.T.Tree.files c.args.tree.now) c.args.number names _ (among (λ x. IsTrue (is_name x)) names (c.requires.legal honest)) _ _
          (c.in_ok-touch_all.ensures.all honest) (c.in_err-forget_records.ensures.some honest),
    )

pub replace-requires : goal.replace-requires
replace-requires g c = rw (c.auto_temporary.ensures, c.auto_path.ensures) (apart AutoTemporary AutoConf tt tt (λ e. cc))

pub returns-in_err-replace-clause-some : goal.returns-in_err-replace-clause-some
returns-in_err-replace-clause-some g c = λ honest.
    let names = c.args.names.now in
    let others = rw (c.auto_temporary.ensures, c.auto_path.ensures) at (c.replace.ensures.others honest) in
    let either = rw (c.auto_path.ensures, c.deref.ensures.value, c.in_ok-append_generation.ensures.written, c.new-auto.ensures.items) at (c.in_err-replace.ensures.old_or_new honest) in
    on_err c.from_residual-in_err-replace.result _ (
      names,
      after_auto (g.T.Tree.files c.args.tree.now) c.args.number names _ (among (λ x. IsTrue (is_name x)) names (c.requires.legal honest)) _ _ _
          (c.in_ok-touch_all.ensures.all honest) (c.in_ok-forget_records.ensures.all honest) others either,
    )

pub returns-clause-all : goal.returns-clause-all
returns-clause-all g c = λ honest.
    let names = c.args.names.now in
    let others = rw (c.auto_temporary.ensures, c.auto_path.ensures) at (c.replace.ensures.others honest) in
    let made = rw (c.auto_path.ensures, c.deref.ensures.value, c.in_ok-append_generation.ensures.written, c.new-auto.ensures.items) at (c.in_ok-replace.ensures.written honest) in
    let gone = rw c.auto_temporary.ensures at (c.in_ok-replace.ensures.gone honest) in
    all_begun (g.T.Tree.files c.args.tree.now) c.args.number names _ (among (λ x. IsTrue (is_name x)) names (c.requires.legal honest)) _ _ _
    (c.in_ok-touch_all.ensures.all honest) (c.in_ok-touch_all.ensures.gone honest) (c.in_ok-forget_records.ensures.all honest) others made gone
