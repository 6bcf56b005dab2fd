use Rattle.ks_compare.proofs.Prelude.{rules, arith, common_steps, is_in, ◌≡◌, ◌∷◌}
use Rattle.ks_compare.proofs.BaseLemmas.{name_left, name_legal}
use Rattle.std.specs.Prelude.{drop, ◌+◌}
use Rattle.ks_compare.proofs.bases.note_names.Goals as goal

pub loop-name-preserved : goal.loop-name-preserved
loop-name-preserved c =
    let next : drop c.loop-name.name-index c.args.names.now ≡ c.as_bytes.result.now ∷ drop (c.loop-name.name-index + 1) c.args.names.now = grind (arith, common_steps) in record {
      noted = name_left c.args.draft.now c.loop-name.draft c.put.new.self c.as_bytes.result.now _ _ (is_in c.args.names.now) next c.in_ok-put.ensures c.loop-name.invariant.noted;
      legal = search (rules, name_legal);
    }
