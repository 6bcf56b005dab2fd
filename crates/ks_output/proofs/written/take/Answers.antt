use Rattle.ks_output.proofs.Prelude.{rules}
use Rattle.ks_output.proofs.SeenLemmas.{names_of_later}
use Rattle.ks_output.proofs.written.take.Goals as goal

pub returns-clause-seen : goal.returns-clause-seen
returns-clause-seen c =
    names_of_later c.args.draft.now c.put.new.self c.in-Some.name.now (c.in-Some-2.kind, c.in-Some.value.now) c.args.seen.now c.note.new.self (search rules) c.requires
    c.in_ok-note.ensures.noted
