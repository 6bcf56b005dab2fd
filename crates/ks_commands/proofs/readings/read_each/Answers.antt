use Rattle.ks_commands.proofs.Prelude.{◌∙◌, refl, ap, map, option_map, reading, state, with_file, args_of}
use Rattle.ks_commands.proofs.Objects.{read_over}
use Rattle.ks_commands.proofs.Walks.{steps_weaker}
use Rattle.ks_commands.proofs.readings.read_each.Goals as goal

pub returns-clause-reported : goal.returns-clause-reported
returns-clause-reported g c =
    let found = c.in_ok-from.ensures in
    let targets = map (λ t. t.now) c.deref.result.now in
    let (parts, reports, kept, counted) = c.in_ok-read_once.ensures.reported in
    let first = state g.T.Tree c.read_targets.new.tree in
    let last = state g.T.Tree c.read_once.new.tree in
    let line = g.R.Reader.line (g.R.Reader.asked c.args.reader.now) in
    let then = reading g.T.Tree.is_honest (g.T.Tree.files c.read_targets.new.tree) line in
    let querying = reading g.T.Tree.is_honest (g.T.Tree.files c.args.tree.now) line in (
      targets,
      first,
      record {
        from = option_map (λ v. v.items) c.in_ok-from.from;
        named = λ none. ap (option_map (λ v. v.items)) (found.none none);
        there = found.text;
        all = ap (map (λ t. t.now)) c.deref.ensures.value ∙ c.in_ok-targets.ensures ∙ ap (with_file (args_of c.args.targets.now)) c.borrowed.ensures;
        later = found.reads.counted.later;
        backdated = found.reads.kept;
      },
      (
        parts,
        record {
          of_objects = reports.of_objects;
          walks = steps_weaker then querying first parts last
              (read_over g.T.Tree.is_honest (g.T.Tree.files c.read_targets.new.tree) (g.T.Tree.files c.args.tree.now) line line found.reads.unchanged refl) reports.walks;
          lines = reports.lines;
          worst_of = reports.worst_of;
        },
        kept,
        counted,
      ),
    )
