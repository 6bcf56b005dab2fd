use Rattle.ks_compare.proofs.Prelude.{rules, arith, common_steps, is_base_of, ◌≡◌, ◌∷◌}
use Rattle.ks_compare.proofs.BaseLemmas.{base_left}
use Rattle.std.specs.Prelude.{drop, ◌+◌}
use Rattle.ks_compare.proofs.bases.note_bases.Goals as goal

pub loop-name-preserved : goal.loop-name-preserved
loop-name-preserved c =
    let next : drop c.loop-name.name-index c.args.companions.now ≡ c.name-item.result ∷ drop (c.loop-name.name-index + 1) c.args.companions.now = grind (arith, common_steps) in record {
      noted = base_left c.args.draft.now c.loop-name.draft c.note_base.new.draft c.name-item.result _ _ (is_base_of c.args.companions.now) next c.in_ok-note_base.ensures.noted c.loop-name.invariant.noted;
      legal = search rules;
    }
