use Rattle.ks_fixdep.proofs.Prelude.{append-nil, list_all-map, list_all-append, and_from, ◌≡◌, ◌+◌, ◌++◌, ◌∷◌, List, ℕ, suc, ap, append_assoc, arith, drop, drop-cons, get_or, length-append, map, sym, ◌∙◌, and_parts, fold-append, drop_all, nil_from_length, list_all, is_path, new_names, own_line, names_at, Config, Role, common_steps}
use Rattle.ks_fixdep.proofs.DepsLemmas.{deps_text-append, legal-own, new_after}
use Rattle.ks_fixdep.proofs.listing.push_dependencies.Goals.{in-Some+in_ok-push_own_line, in_default}
use Rattle.ks_fixdep.proofs.listing.push_dependencies.Goals as goal

pub loop-source-preserved : goal.loop-source-preserved
loop-source-preserved c =
    let i = c.loop-source.invariant in
    let sources = c.args.sources.now in
    let at = c.loop-source.source-index in
    let news = new_names (names_at c.args.table.now.names c.loop-source.listed) (names_at c.args.table.now.names c.source.result.now) in
    let one : suc at ≡ at + 1 = omega arith in
    let next = drop-cons sources at 0 c.loop-source-test.true ∙ ap (λ n. get_or sources at 0 ∷ drop n sources) one in
    elim c.match-next.branch [
      | in-Some+in_ok-push_own_line w ↦ (
          let p : List ℕ × Role = (w.in-Some.path.now, w.in-Some.role.now) in
          record {
            deps = (i.deps ++ own_line p) ++ map Config news;
            text = grind (arith, common_steps, append_assoc, deps_text-append);
            whole = grind (arith, common_steps, append_assoc);
            legal = grind (arith, common_steps, list_all-append, list_all-map, and_from, legal-own);
            names = grind (arith, common_steps, fold-append);
            many = grind (arith, common_steps, length-append, new_after);
            paths = (and_parts _ _ (sym (ap (list_all (λ q. is_path q.0)) w.in-Some.ensures.steps) ∙ i.paths)).1;
          })
      | in_default w ↦ (
          record {
            deps = i.deps ++ map Config news;
            text = grind (arith, common_steps, append_assoc, deps_text-append);
            whole = grind (arith, common_steps, append_assoc);
            legal = grind (arith, common_steps, list_all-append, list_all-map, and_from);
            names = grind (arith, common_steps, fold-append);
            many = grind (arith, common_steps, length-append, new_after);
            paths = grind (arith, common_steps);
          })
    ]

pub returns-clause-text : goal.returns-clause-text
returns-clause-text c = grind (arith, common_steps, drop_all, nil_from_length, append-nil)

pub returns-clause-legal : goal.returns-clause-legal
returns-clause-legal c = grind (arith, common_steps, drop_all, nil_from_length, append-nil)
