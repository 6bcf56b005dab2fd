use Rattle.ks_engine.proofs.Prelude.{Header, AreCleared, on_ok_weaker, on_err_weaker, ◌≡◌, ◌⊎◌, inr, Some, None, ◌∙◌, take, content, is_name, IsTrue, header_path, auto_path, auto_temporary, AutoConf, HeaderTemporary, AutoTemporary}
use Rattle.ks_engine.proofs.LowerLaws.{apart}
use Rattle.ks_engine.proofs.Writes.{beginning, both_ok, cleared, on_err}
use Rattle.ks_engine.proofs.PuttingBack.{after_stamps, among, finished, headed, header_stays}
use Rattle.ks_engine.specs.Repairs.{RepairLeaves}
use Rattle.ks_engine.proofs.repairing.write_back.Given as given
use Rattle.ks_engine.proofs.repairing.write_back.Goals as goal

-- what the last write leaves: the header, and all of it where auto.conf is the old one or the kept one
last_write : (g : given.Over) (c : goal.After-replace-2 g) → g.T.Tree.is_honest
    → (content (g.T.Tree.files c.replace-2.new.tree) header_path ≡ Some c.args.kept.now.header.items)
    × ((content (g.T.Tree.files c.replace-2.new.tree) auto_path ≡ content (g.T.Tree.files c.replace.new.tree) auto_path)
    ⊎ (content (g.T.Tree.files c.replace-2.new.tree) auto_path ≡ Some c.args.kept.now.auto.items)
    → RepairLeaves (g.T.Tree.files c.args.tree.now) (g.T.Tree.files c.replace-2.new.tree) c.args.kept.now c.args.number c.args.lost.now c.args.lost.now)
last_write g c honest =
    let others_then = rw (c.auto_temporary.ensures, c.auto_path.ensures) at (c.replace-2.ensures.others honest) in
    let others = rw (c.header_temporary.ensures, c.header_path.ensures) at (c.replace.ensures.others honest) in
    let headed_by = rw (c.header_path.ensures, c.deref.ensures.value) at (c.in_ok-replace.ensures.written honest) in
    let touched = c.in_ok-touch_all.ensures.all honest in
    let legal = among (λ x. IsTrue (is_name x)) c.args.lost.now (c.requires.legal honest) in (
      header_stays (g.T.Tree.files c.args.tree.now) c.args.kept.now c.args.number c.args.lost.now legal _ _ others_then ∙ headed_by,
      finished (g.T.Tree.files c.args.tree.now) c.args.kept.now c.args.number c.args.lost.now legal _ _ _ touched others headed_by others_then,
    )

-- no temporary file is left where that of auto.conf isn't
last_cleared : (g : given.Over) (c : goal.After-replace-2 g) → g.T.Tree.is_honest → content (g.T.Tree.files c.replace-2.new.tree) auto_temporary ≡ None
    → AreCleared (g.T.Tree.files c.args.tree.now) (g.T.Tree.files c.replace-2.new.tree) c.args.lost.now
last_cleared g c honest auto =
    let others = rw (c.header_temporary.ensures, c.header_path.ensures) at (c.replace.ensures.others honest) in
    let header = rw c.header_temporary.ensures at (c.in_ok-replace.ensures.gone honest) in
    let others_then = rw (c.auto_temporary.ensures, c.auto_path.ensures) at (c.replace-2.ensures.others honest) in
    cleared (g.T.Tree.files c.args.tree.now) _ _ _ c.args.lost.now (c.in_ok-touch_all.ensures.gone honest) others header others_then auto

pub replace-requires : goal.replace-requires
replace-requires g c = rw (c.header_temporary.ensures, c.header_path.ensures) (apart HeaderTemporary Header tt tt (λ e. cc))

pub replace-requires-2 : goal.replace-requires-2
replace-requires-2 g c = rw (c.auto_temporary.ensures, c.auto_path.ensures) (apart AutoTemporary AutoConf tt tt (λ e. cc))

pub returns-in_err-touch_all-clause-some : goal.returns-in_err-touch_all-clause-some
returns-in_err-touch_all-clause-some g c = λ honest.
    let touched = c.in_err-touch_all.ensures.some honest in
    let names = c.args.lost.now in
    on_err c.from_residual.result _ (
      take touched.0 names,
      after_stamps (g.T.Tree.files c.args.tree.now) c.args.kept.now c.args.number names (among (λ x. IsTrue (is_name x)) names (c.requires.legal honest)) _ _
          (beginning names touched.0) touched.1,
    )

pub returns-in_err-replace-clause-some : goal.returns-in_err-replace-clause-some
returns-in_err-replace-clause-some g c = λ honest.
    let others = rw (c.header_temporary.ensures, c.header_path.ensures) at (c.replace.ensures.others honest) in
    let either = rw (c.header_path.ensures, c.deref.ensures.value) at (c.in_err-replace.ensures.old_or_new honest) in
    on_err c.from_residual-in_err-replace.result _ (
      c.args.lost.now,
      headed (g.T.Tree.files c.args.tree.now) c.args.kept.now c.args.number c.args.lost.now
          (among (λ x. IsTrue (is_name x)) c.args.lost.now (c.requires.legal honest)) _ _ (c.in_ok-touch_all.ensures.all honest) others either,
    )

pub returns-clause-all : goal.returns-clause-all
returns-clause-all g c = λ honest.
    let last = last_write g c honest in
    let written = rw (c.auto_path.ensures, c.deref-2.ensures.value) at (c.replace-2.ensures.written honest) in
    let gone = rw c.auto_temporary.ensures at (c.replace-2.ensures.gone honest) in
    on_ok_weaker c.replace-2.result
    (λ both. record { leaves = last.1 (inr both.0); header = last.0; auto = both.0; cleared = last_cleared g c honest both.1 })
    (both_ok c.replace-2.result _ _ written gone)

pub returns-clause-some : goal.returns-clause-some
returns-clause-some g c = λ honest.
    let last = last_write g c honest in
    let either = rw (c.auto_path.ensures, c.deref-2.ensures.value) at (c.replace-2.ensures.old_or_new honest) in
    on_err_weaker c.replace-2.result (λ is. (c.args.lost.now, last.1 is)) either
