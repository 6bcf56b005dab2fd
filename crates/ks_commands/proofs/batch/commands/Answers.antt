use Rattle.ks_commands.proofs.Prelude.{◌≡◌, [], ◌∷◌, sym, ◌∙◌, ◌+◌, ap, subst, map, drop, take, map-append, action, seen_line, actions_at, line_of, without_files}
use Rattle.ks_commands.proofs.Loading.{actions_next, following, spelled_next}
use Rattle.ks_commands.proofs.batch.commands.Goals as goal

pub loop-line-preserved : goal.loop-line-preserved
loop-line-preserved c =
    let xs = c.deref-line-items.result.now in
    let i = c.loop-line.line-index in
    let before = c.loop-line.commands.items in
    let more = ap (map action) c.in_ok-push.ensures.items ∙ map-append action before (c.command.result ∷ []) in
    record {
      spelled =
          subst (λ l. map line_of l ≡ map without_files (map seen_line (take (i + 1) xs))) (sym more)
          (spelled_next seen_line xs i _ (map action before) (action c.command.result) c.loop-line-test.true c.command.ensures.spelled
          c.loop-line.invariant.spelled);
      given = λ files given.
          let all = actions_at files (map seen_line xs) in
          subst (λ l. following l (actions_at files (map seen_line (drop (i + 1) xs))) ≡ all) (sym more)
          (actions_next files seen_line xs i _ (map action before) (action c.command.result) all c.loop-line-test.true
          (c.command.ensures.given files given) (c.loop-line.invariant.given files given));
    }
