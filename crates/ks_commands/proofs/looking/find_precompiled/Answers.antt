use Rattle.ks_commands.proofs.Prelude.{◌≡◌, ◌≢◌, inl, None, Some, content, map, rules}
use Rattle.std.specs.Prelude.{slice_get, vec_items}
use Rattle.std.proofs.lemmas.Option.{slice_get-map, slice_get_read, slice_get-get_or}
use Rattle.ks_commands.specs.Looking.{IsAbsent}
use Rattle.ks_commands.proofs.LookingLemmas.{one_more}
use Rattle.ks_commands.proofs.looking.find_precompiled.Goals as goal

pub loop-place-preserved : goal.loop-place-preserved
loop-place-preserved g c = record {
  unchanged = search rules;
  kept = search rules;
  same = search rules;
  within = search rules;
  absent = λ honest.
      let there : slice_get (map vec_items c.args.paths.now) c.loop-place.place ≡ Some c.as_slice-path.result.now =
      search (rules, slice_get-map, slice_get_read, slice_get-get_or) in
      let none : content (g.T.Tree.files c.args.tree.now) c.as_slice-path.result.now ≡ None = search rules in
      one_more (IsAbsent (g.T.Tree.files c.args.tree.now)) (map vec_items c.args.paths.now) c.loop-place.place
      c.as_slice-path.result.now there none (c.loop-place.invariant.absent honest);
}

pub returns-then-branch-clause-found : goal.returns-then-branch-clause-found
returns-then-branch-clause-found g c = λ honest.
    let there : slice_get (map vec_items c.args.paths.now) c.loop-place.place ≡ Some c.as_slice-path.result.now =
    search (rules, slice_get-map, slice_get_read, slice_get-get_or) in
    let same : c.in_ok-new-2.field-0 ≡ c.as_slice-path.result.now = search rules in
    let found : content (g.T.Tree.files c.args.tree.now) c.as_slice-path.result.now ≢ None = search rules in
    (c.loop-place.place, c.as_slice-path.result.now, there, c.loop-place.invariant.absent honest, inl (same, found))
