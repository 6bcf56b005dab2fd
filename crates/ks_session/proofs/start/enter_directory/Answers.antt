use Rattle.std.proofs.lemmas.Result.{err_from_is_err_and}
use Rattle.ks_session.proofs.Starting.{of_looking, stopped}
use Rattle.ks_session.proofs.start.enter_directory.Goals as goal

pub returns-in_err-auto : goal.returns-in_err-auto
returns-in_err-auto g c =
    let p = err_from_is_err_and c.from_residual-in_err-auto.result c.from_residual-in_err-auto.ensures.1 in
    let why = of_looking _ _ _ _ _ _ _ _ c.in_err-auto.ensures in
    rw (p.1, p.2) (stopped g.H.WorkTree.Tree (g.H.Host.did c.args.host.now) g.H.WorkTree.Reading.reads c.args.settings.now c.args.asked.now
    c.in_ok-script.script c.in-Ok.lock c.in_err-auto.field-0.0 c.look_if_needed.new.work_tree record {
      before = c.take_lock.new.work_tree;
      locked = record {
        first = c.in_ok-work_tree.work_tree;
        opened = c.in_ok-work_tree.ensures;
        second = c.script_of.new.tree;
        looked = c.in_ok-script.ensures.looked;
        asked_for = rw (← c.lock_needed-needed.ensures) c.in-Ok.ensures;
      };
      looks = rw (← c.lock_needed-needed.ensures) c.in_err-auto.ensures;
    } why)
