use Rattle.ks_engine.proofs.Prelude.{names_of, lt-ltb, le-ltb, cond-true, cond-false, arith, length-map, record_of, names_by, numbered, command_text, rules}
use Rattle.ks_engine.specs.Recorded.{with_further_lines}
use Rattle.ks_engine.proofs.LowerLaws.{names_of_record}
use Rattle.ks_engine.proofs.recording.make_draft.Goals as goal

pub returns-then-len-gt-MAX_BYTES-clause-refused : goal.returns-then-len-gt-MAX_BYTES-clause-refused
returns-then-len-gt-MAX_BYTES-clause-refused c = search (rules, cond-true, lt-ltb)

pub returns-clause-drafted : goal.returns-clause-drafted
returns-clause-drafted c =
    let ps = c.args.prerequisites.now in
    let found = names_by c.args.found.now in
    let file = numbered (record_of c.args.target.now c.args.command.now ps found) c.args.generation in (
      record {
        file = file;
        generation = c.args.generation;
        names = names_of found;
        text = with_further_lines c.args.conventions c.args.target.now (names_of found) (command_text file);
      },
      search (rules, arith, cond-false, le-ltb),
      search (rules, arith),
      search (rules, names_of_record, length-map),
    )
