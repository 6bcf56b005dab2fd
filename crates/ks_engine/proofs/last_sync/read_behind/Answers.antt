use Rattle.std.proofs.lemmas.List.{take_rest}
use Rattle.ks_engine.proofs.Pieces.{behind}
use Rattle.ks_engine.proofs.last_sync.read_behind.Goals as goal

pub returns-in-Some-clause-read : goal.returns-in-Some-clause-read
returns-in-Some-clause-read g c = λ honest.
    let read = rw (c.in-Some.is, c.auto_path.ensures) at (c.in_ok-count.ensures.found honest) in
    behind _ c.args.offset c.args.kept c.in-Some.count c.args.buffer.now _ c.read_at.new.into c.requires.within (take_rest c.args.buffer.now c.args.kept) read
