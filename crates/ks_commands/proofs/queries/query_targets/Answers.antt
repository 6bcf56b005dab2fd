use Rattle.ks_commands.proofs.Prelude.{◌∙◌, ap, err_from_is_err_and, inr, map, option_map, state, with_file, args_of}
use Rattle.ks_commands.proofs.queries.query_targets.Goals as goal

pub returns-clause-reported : goal.returns-clause-reported
returns-clause-reported g c =
    let found = c.in_ok-text.ensures in
    let (parts, walks, reported) = c.in_ok-query_all.ensures.reported (g.T.Tree.files c.args.tree.now) found.reads.unchanged in
    inr (
      map (λ t. t.now) c.deref.result.now,
      state g.T.Tree c.read_targets.new.tree,
      parts,
      record {
        from = option_map (λ v. v.items) c.in_ok-text.text;
        named = λ none. ap (option_map (λ v. v.items)) (found.none none);
        there = found.text;
        all = ap (map (λ t. t.now)) c.deref.ensures.value ∙ c.in_ok-targets.ensures ∙ ap (with_file (args_of c.args.targets.now)) c.borrowed.ensures;
        later = found.reads.counted.later;
        backdated = found.reads.kept;
      },
      walks,
      reported,
      tt,
    )

pub returns-in_err-query_all-clause-reported : goal.returns-in_err-query_all-clause-reported
returns-in_err-query_all-clause-reported g c =
    let found = c.in_ok-text.ensures in
    let (parts, walks, reported) = c.in_err-query_all.ensures.reported (g.T.Tree.files c.args.tree.now) found.reads.unchanged in
    let p = err_from_is_err_and c.from_residual-in_err-query_all.result c.from_residual-in_err-query_all.ensures.1 in
    rw p.1 (inr (
      map (λ t. t.now) c.deref.result.now,
      state g.T.Tree c.read_targets.new.tree,
      parts,
      record {
        from = option_map (λ v. v.items) c.in_ok-text.text;
        named = λ none. ap (option_map (λ v. v.items)) (found.none none);
        there = found.text;
        all = ap (map (λ t. t.now)) c.deref.ensures.value ∙ c.in_ok-targets.ensures ∙ ap (with_file (args_of c.args.targets.now)) c.borrowed.ensures;
        later = found.reads.counted.later;
        backdated = found.reads.kept;
      },
      walks,
      reported,
      p.2,
    ))
