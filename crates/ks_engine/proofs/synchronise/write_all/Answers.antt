use Rattle.ks_engine.proofs.Prelude.{Header, AreCleared, IsWork, on_ok_weaker, on_err_weaker, ◌≡◌, ◌⊎◌, ◌+◌, inr, Some, None, ◌∙◌, take, content, header_path, header_text, auto_path, auto_temporary, auto_text, AutoConf, HeaderTemporary, AutoTemporary, Plan, SyncLeaves, rules}
use Rattle.ks_engine.proofs.LowerLaws.{apart}
use Rattle.ks_engine.proofs.Writes.{after_stamps, both_ok, cleared, headed, finished, header_stays, on_err, beginning}
use Rattle.ks_engine.proofs.synchronise.write_all.Given as given
use Rattle.ks_engine.proofs.synchronise.write_all.Goals as goal

-- what the last write leaves: the header, and all of it where auto.conf is the old one or the new one
last_write : (g : given.Over) (c : goal.After-replace-2 g) → g.T.Tree.is_honest → (plan : Plan) → IsWork plan c.args.work.now
    → (content (g.T.Tree.files c.replace-2.new.tree) header_path ≡ Some (header_text plan.title plan.config))
    × ((content (g.T.Tree.files c.replace-2.new.tree) auto_path ≡ content (g.T.Tree.files c.replace.new.tree) auto_path)
    ⊎ (content (g.T.Tree.files c.replace-2.new.tree) auto_path ≡ Some (auto_text plan.title plan.config (plan.generation + 1)))
    → SyncLeaves (g.T.Tree.files c.args.tree.now) (g.T.Tree.files c.replace-2.new.tree) plan c.args.work.now.report.touched.items
    c.args.work.now.report.touched.items)
last_write g c honest plan work =
    let others_then = rw (c.auto_temporary.ensures, c.auto_path.ensures) at (c.replace-2.ensures.others honest) in
    let others = rw (c.header_temporary.ensures, c.header_path.ensures) at (c.replace.ensures.others honest) in
    let headed_by = rw (c.header_path.ensures, c.deref-2.ensures.value, work.header) at (c.in_ok-replace.ensures.written honest) in
    let touched = rw c.deref.ensures.value at (c.in_ok-touch_all.ensures.all honest) in (
      header_stays (g.T.Tree.files c.args.tree.now) plan c.args.work.now.report.touched.items work.report.changed _ _ others_then ∙ headed_by,
      finished (g.T.Tree.files c.args.tree.now) plan c.args.work.now.report.touched.items work.report.changed _ _ _ _ work.report.generation touched others headed_by others_then,
    )

-- no temporary file is left where that of auto.conf isn't
last_cleared : (g : given.Over) (c : goal.After-replace-2 g) → g.T.Tree.is_honest → content (g.T.Tree.files c.replace-2.new.tree) auto_temporary ≡ None
    → AreCleared (g.T.Tree.files c.args.tree.now) (g.T.Tree.files c.replace-2.new.tree) c.args.work.now.report.touched.items
last_cleared g c honest auto =
    let stamps = rw c.deref.ensures.value at (c.in_ok-touch_all.ensures.gone honest) in
    let others = rw (c.header_temporary.ensures, c.header_path.ensures) at (c.replace.ensures.others honest) in
    let header = rw c.header_temporary.ensures at (c.in_ok-replace.ensures.gone honest) in
    let others_then = rw (c.auto_temporary.ensures, c.auto_path.ensures) at (c.replace-2.ensures.others honest) in
    cleared (g.T.Tree.files c.args.tree.now) _ _ _ c.args.work.now.report.touched.items stamps others header others_then auto

pub replace-requires : goal.replace-requires
replace-requires g c = rw (c.header_temporary.ensures, c.header_path.ensures) (apart HeaderTemporary Header tt tt (λ e. cc))

pub replace-requires-2 : goal.replace-requires-2
replace-requires-2 g c = rw (c.auto_temporary.ensures, c.auto_path.ensures) (apart AutoTemporary AutoConf tt tt (λ e. cc))

pub returns-in_err-touch_all-clause-some : goal.returns-in_err-touch_all-clause-some
returns-in_err-touch_all-clause-some g c = λ honest plan work.
    let touched = c.in_err-touch_all.ensures.some honest in
    let names = c.args.work.now.report.touched.items in
    on_err c.from_residual.result _ (
      take touched.0 names,
      after_stamps (g.T.Tree.files c.args.tree.now) plan names work.report.changed _ _ (beginning names touched.0)
          (rw (c.deref.ensures.value, work.report.generation) at touched.1),
    )

pub returns-in_err-replace-clause-some : goal.returns-in_err-replace-clause-some
returns-in_err-replace-clause-some g c = search (rules, on_err, headed)

pub returns-clause-all : goal.returns-clause-all
returns-clause-all g c = λ honest plan work.
    let last = last_write g c honest plan work in
    let written = rw (c.auto_path.ensures, c.deref-3.ensures.value, work.auto) at (c.replace-2.ensures.written honest) in
    let gone = rw c.auto_temporary.ensures at (c.replace-2.ensures.gone honest) in
    on_ok_weaker c.replace-2.result
    (λ both. record { leaves = last.1 (inr both.0); header = last.0; auto = both.0; cleared = last_cleared g c honest both.1 })
    (both_ok c.replace-2.result _ _ written gone)

pub returns-clause-some : goal.returns-clause-some
returns-clause-some g c = search (rules, on_err_weaker, last_write)
