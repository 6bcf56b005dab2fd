use Rattle.ks_engine.proofs.Prelude.{rules}
use Rattle.ks_engine.proofs.RecordSteps.{record_follows_under}
use Rattle.ks_engine.proofs.recording.record_object_with.Goals as goal

pub record_by-requires : goal.record_by-requires
record_by-requires g c = record { cache = λ honest. c.of_one_object-cache.ensures (g.T.Tree.files c.args.tree.now) }

pub returns-clause-follows : goal.returns-clause-follows
returns-clause-follows g c = λ honest h shows. search (rules, record_follows_under)
