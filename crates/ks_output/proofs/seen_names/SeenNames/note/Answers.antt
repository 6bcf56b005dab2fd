use Rattle.ks_output.proofs.Prelude.{arith, common_steps}
use Rattle.ks_output.specs.SeenNames.{is_in}
use Rattle.ks_output.proofs.SeenLemmas.{names-any, keys_grow, keys_after}
use Rattle.ks_output.proofs.seen_names.SeenNames.note.Goals as goal

pub returns-clause-new : goal.returns-clause-new
unfolding is_in
returns-clause-new c = let any = names-any c.args.name.now c.self.inside.names.keys in grind (arith, common_steps, any)

pub returns-clause-noted : goal.returns-clause-noted
unfolding is_in
returns-clause-noted c x = let grown = keys_grow x c.self.inside.names.keys c.in_ok-owned.owned in grind (arith, common_steps, grown)

pub returns-clause-kept : goal.returns-clause-kept
unfolding is_in
returns-clause-kept c = let after = keys_after c.self.inside.names.keys c.in_ok-owned.owned in grind (arith, common_steps, after)
