use Rattle.ks_fixdep.proofs.Prelude.{append_assoc, append-nil}
use Rattle.ks_fixdep.proofs.command_file.writing.push_generation.Goals as goal

pub returns-in_ok-push-clause-ok : goal.returns-in_ok-push-clause-ok
returns-in_ok-push-clause-ok c =
    rw (c.in_ok-push.ensures.items, c.in_ok-write_decimal.ensures.written, c.in_ok-extend_from_slice.ensures.items, c.in-Some.is)
    (simp (append_assoc, append-nil))
