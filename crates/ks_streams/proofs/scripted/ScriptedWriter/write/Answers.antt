use Rattle.ks_streams.proofs.Prelude.{Some, refl}
use Rattle.ks_streams.proofs.Writing.{keeps_same, same_refusal}
use Rattle.ks_streams.proofs.scripted.ScriptedWriter.write.Goals as goal

pub returns-in-Refuse-clause-interrupted : goal.returns-in-Refuse-clause-interrupted
returns-in-Refuse-clause-interrupted c = λ is.
    c.refuse.ensures.interrupted (same_refusal _ _ _ c.refuse.ensures.reported is) _ _ (keeps_same (Some c.args.self.now.taken.items))

pub returns-in-Refuse-clause-unread : goal.returns-in-Refuse-clause-unread
returns-in-Refuse-clause-unread c = λ is.
    c.refuse.ensures.unread (same_refusal _ _ _ c.refuse.ensures.reported is) _ _ (keeps_same (Some c.args.self.now.taken.items))

pub returns-in-Refuse-clause-failed : goal.returns-in-Refuse-clause-failed
returns-in-Refuse-clause-failed c = λ is.
    c.refuse.ensures.failed (same_refusal _ _ _ c.refuse.ensures.reported is) _ _ (keeps_same (Some c.args.self.now.taken.items))

pub returns-in-Ok-clause-taken : goal.returns-in-Ok-clause-taken
returns-in-Ok-clause-taken c = c.took.ensures (Some c.args.self.now.taken.items) (Some c.extend_from_slice.new.self.items) _ c.in-Ok.ensures.items

pub returns-in-Err-clause-failed : goal.returns-in-Err-clause-failed
returns-in-Err-clause-failed c = λ is.
    c.refuse-in-Err.ensures.failed refl (Some c.args.self.now.taken.items) (Some c.extend_from_slice.new.self.items) c.in-Err.ensures.items
