use Rattle.ks_commands.proofs.Prelude.{ℕ, List, arith, common_steps, rules, sym}
use Rattle.std.specs.Borrow.{Bor}
use Rattle.ks_hidden.proofs.TextLemmas.{mirrored, moved}
use Rattle.ks_commands.proofs.LookingLemmas.{listed_from}
use Rattle.ks_commands.proofs.looking.path_set.Goals as goal

pub loop-place-preserved : goal.loop-place-preserved
loop-place-preserved c = record {
  within = search rules;
  paths = λ x.
      let q : Bor (List ℕ) = record { ref_ptr = (0, 0); now = x } in
      let step = c.in_ok-insert.ensures.updates.0 q in
      let split = listed_from x c.args.prerequisites.now c.loop-place.place (c.in-Some.path.now, c.in-Some.field-0-1) (sym c.in-Some.ensures.value) in
      grind (arith, common_steps, mirrored, moved, step, split, c.loop-place.invariant.paths x);
}
