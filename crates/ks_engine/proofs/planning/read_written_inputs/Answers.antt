use Rattle.ks_engine.proofs.Prelude.{IsTrue, is_title, subst, sym, rules}
use Rattle.ks_output.proofs.ConfTexts.{written_is_configuration}
use Rattle.ks_engine.proofs.planning.read_written_inputs.Goals as goal

pub returns-clause-read : goal.returns-clause-read
returns-clause-read c =
    let read = c.in_ok-title.ensures in
    let good = written_is_configuration c.args.dialect c.args.first.now c.args.header.now _ read.read in
    record {
      settings = search rules;
      title = search rules;
      unknown = search rules;
      legal = record { title = subst (λ t. IsTrue (is_title t)) (sym read.title) good.0; config = good.1 };
    }
