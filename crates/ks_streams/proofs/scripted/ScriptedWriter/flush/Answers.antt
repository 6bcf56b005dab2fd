use Rattle.ks_streams.proofs.Prelude.{Some}
use Rattle.ks_streams.proofs.Writing.{keeps_same, same_refusal}
use Rattle.ks_streams.proofs.scripted.ScriptedWriter.flush.Goals as goal

pub returns-in-Refuse-clause-interrupted : goal.returns-in-Refuse-clause-interrupted
returns-in-Refuse-clause-interrupted c = λ is.
    c.refuse.ensures.interrupted (same_refusal _ _ _ c.refuse.ensures.reported is) _ _ (keeps_same (Some c.args.self.now.taken.items))

pub returns-in-Refuse-clause-unread : goal.returns-in-Refuse-clause-unread
returns-in-Refuse-clause-unread c = λ is.
    c.refuse.ensures.unread (same_refusal _ _ _ c.refuse.ensures.reported is) _ _ (keeps_same (Some c.args.self.now.taken.items))

pub returns-in-Refuse-clause-failed : goal.returns-in-Refuse-clause-failed
returns-in-Refuse-clause-failed c = λ is.
    c.refuse.ensures.failed (same_refusal _ _ _ c.refuse.ensures.reported is) _ _ (keeps_same (Some c.args.self.now.taken.items))

pub returns-clause-seen_out : goal.returns-clause-seen_out
returns-clause-seen_out c = c.saw_out.ensures _ _ (keeps_same (Some c.args.self.now.taken.items))
