use Rattle.std.specs.Prelude.{refl}
use Rattle.std.proofs.Common.{rules}
use Rattle.std.proofs.lemmas.Result.{err_from_is_err_and}
use Rattle.ks_tree.specs.Files.{content}
use Rattle.ks_engine.proofs.Reading.{old_fault, old_refused}
use Rattle.ks_session.proofs.Generations.{of_none, of_some, refused}
use Rattle.ks_session.proofs.numbers.is_another_tree.Goals as goal

pub returns-in_err-text-clause-read : goal.returns-in_err-text-clause-read
returns-in_err-text-clause-read g c = rw (← c.in_ok-path.ensures, ← c.as_bytes.ensures.value) (search (rules, err_from_is_err_and, refused, old_fault))

pub returns-in_default-clause-read : goal.returns-in_default-clause-read
returns-in_default-clause-read g c = λ honest.
    rw (← c.in_ok-path.ensures, ← c.as_bytes.ensures.value)
    (of_none (content (g.T.Tree.files c.args.tree.now) c.as_bytes.result.now) (rw (← c.in_ok-text.ensures.found honest, c.in_default.is) refl))

pub returns-in_err-read_auto_generation-clause-read : goal.returns-in_err-read_auto_generation-clause-read
returns-in_err-read_auto_generation-clause-read g c = λ honest.
    let file = content (g.T.Tree.files c.args.tree.now) c.as_bytes.result.now in
    let stopped = refused file _ (old_refused c.in_err-read_auto_generation.field-0.0 file c.deref.result.now
    (rw (← c.in_ok-text.ensures.found honest, c.in-Some.is, ← c.deref.ensures.value) refl) c.in_err-read_auto_generation.ensures.refusal) in
    rw (← c.in_ok-path.ensures, ← c.as_bytes.ensures.value) (search (rules, err_from_is_err_and, stopped))

pub returns-clause-read : goal.returns-clause-read
returns-clause-read g c = λ honest.
    rw (← c.in_ok-path.ensures, ← c.as_bytes.ensures.value)
    (of_some (content (g.T.Tree.files c.args.tree.now) c.as_bytes.result.now) c.deref.result.now c.in_ok-read_auto_generation.field-0
    (rw (← c.in_ok-text.ensures.found honest, c.in-Some.is, ← c.deref.ensures.value) refl)
    c.in_ok-read_auto_generation.ensures.refusal c.in_ok-read_auto_generation.ensures.generation)
