use Rattle.ks_engine.proofs.Prelude.{CommandFile, CommandTemporary, rules}
use Rattle.ks_engine.proofs.LowerLaws.{apart}
use Rattle.ks_engine.proofs.recording.write_record.Goals as goal

pub replace-requires : goal.replace-requires
replace-requires g c = search (rules, (apart (CommandTemporary c.args.target.now) (CommandFile c.args.target.now) tt tt (λ e. cc)))
