use Rattle.ks_engine.proofs.Prelude.{err_from_is_err_and, content, auto_path, rules, refl}
use Rattle.ks_engine.proofs.Reading.{old_fault, old_refused, old_read, old_none}
use Rattle.ks_engine.proofs.last_sync.read_old.Goals as goal

pub returns-in_err-text-clause-read : goal.returns-in_err-text-clause-read
returns-in_err-text-clause-read g c = search (rules, err_from_is_err_and, old_fault)

pub returns-in_err-read_auto-in-Some-clause-read : goal.returns-in_err-read_auto-in-Some-clause-read
returns-in_err-read_auto-in-Some-clause-read g c = search (rules, err_from_is_err_and, old_refused)

pub returns-in_ok-read_auto-in-Some-clause-read : goal.returns-in_ok-read_auto-in-Some-clause-read
returns-in_ok-read_auto-in-Some-clause-read g c = λ honest.
    old_read c.in_ok-read_auto-in-Some.field-0 (content (g.T.Tree.files c.args.tree.now) auto_path) c.deref.result.now
    (rw (← c.auto_path.ensures, ← c.in_ok-text.ensures.found honest, c.in-Some.is, ← c.deref.ensures.value) refl)
    c.in_ok-read_auto-in-Some.ensures.refusal c.in_ok-read_auto-in-Some.ensures.texts c.in_ok-read_auto-in-Some.ensures.generation

pub returns-in-None-clause-read : goal.returns-in-None-clause-read
returns-in-None-clause-read g c = λ honest. old_none c.empty.result (content (g.T.Tree.files c.args.tree.now) auto_path)
    (rw (← c.auto_path.ensures, ← c.in_ok-text.ensures.found honest, c.in-None.is) refl) c.empty.ensures.texts c.empty.ensures.generation
