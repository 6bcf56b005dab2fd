use Rattle.ks_fixdep.proofs.Prelude.{ap, ◌∙◌, rules, unwrap_or}
use Rattle.ks_fixdep.proofs.NotedLemmas.{noted_by}
use Rattle.ks_fixdep.proofs.dependency_file.note.Goals as goal

pub returns : goal.returns
returns c =
    let key = c.in_ok-owned.owned in
    let value = c.or_insert.result.now in
    let entry = c.in_ok-by_path.ensures in
    let update = entry.update in
    noted_by _ c.args.by_path.now.entries key c.args.path.now c.args.role value
    (search rules)
    (c.or_insert.ensures.value ∙ ap (λ o. unwrap_or o c.args.role) entry.value)
    c.in_ok-owned.ensures.ok
