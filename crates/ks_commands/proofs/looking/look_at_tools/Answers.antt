use Rattle.ks_commands.proofs.Prelude.{◌≡◌, ap, inr, Err, Some, content, map, rules, true, false}
use Rattle.ks_engine.specs.declared.error.EngineError.TheVariants.{BadPath}
use Rattle.ks_hidden.specs.declared.hidden.Hidden.TheVariants as hidden
use Rattle.ks_requests.specs.Inputs.{legal}
use Rattle.std.specs.Prelude.{slice_get, string_bytes}
use Rattle.std.proofs.lemmas.Option.{slice_get-map, slice_get_read, slice_get-get_or}
use Rattle.ks_commands.specs.Looking.{IsProgram, is_program}
use Rattle.ks_commands.proofs.LookingLemmas.{one_more}
use Rattle.ks_commands.proofs.looking.look_at_tools.Goals as goal

pub loop-place-preserved : goal.loop-place-preserved
loop-place-preserved g c = record {
  unchanged = search rules;
  kept = search rules;
  same = search rules;
  within = search rules;
  are = λ honest.
      let there : slice_get (map (λ tool. string_bytes tool) c.args.tools.now) c.loop-place.place ≡ Some c.as_bytes-tool.result.now =
      search (rules, slice_get-map, slice_get_read, slice_get-get_or) in
      let is : is_program (content (g.T.Tree.files c.args.tree.now) c.as_bytes-tool.result.now) ≡ true = search rules in
      one_more (IsProgram (g.T.Tree.files c.args.tree.now)) (map (λ tool. string_bytes tool) c.args.tools.now) c.loop-place.place
      c.as_bytes-tool.result.now there is (c.loop-place.invariant.are honest);
}

pub returns-then-not-path_is_legal-clause-refused : goal.returns-then-not-path_is_legal-clause-refused
returns-then-not-path_is_legal-clause-refused g c = λ honest.
    let there : slice_get (map (λ tool. string_bytes tool) c.args.tools.now) c.loop-place.place ≡ Some c.as_bytes-tool.result.now =
    search (rules, slice_get-map, slice_get_read, slice_get-get_or) in
    let refused : legal c.as_bytes-tool.result.now ≡ Err (BadPath 0) = search rules in
    inr (c.loop-place.place, c.as_bytes-tool.result.now, there, c.loop-place.invariant.are honest, refused)

pub returns-then-not-branch-clause-found : goal.returns-then-not-branch-clause-found
returns-then-not-branch-clause-found g c = λ honest.
    let there : slice_get (map (λ tool. string_bytes tool) c.args.tools.now) c.loop-place.place ≡ Some c.as_bytes-tool.result.now =
    search (rules, slice_get-map, slice_get_read, slice_get-get_or) in
    let same : c.in_ok-new.field-0 ≡ c.as_bytes-tool.result.now = search rules in
    let isn't : is_program (content (g.T.Tree.files c.args.tree.now) c.as_bytes-tool.result.now) ≡ false = search rules in
    (c.loop-place.place, c.as_bytes-tool.result.now, there, c.loop-place.invariant.are honest, (isn't, ap (λ p. hidden.Input p 1) same))
