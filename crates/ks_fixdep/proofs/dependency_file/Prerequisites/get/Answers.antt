use Rattle.ks_fixdep.proofs.Prelude.{sym, ap, ◌∙◌, option_map, string_bytes, is_path, paths_of}
use Rattle.ks_fixdep.proofs.NotedLemmas.{passes_at, path-at}
use Rattle.ks_fixdep.proofs.dependency_file.Prerequisites.get.Goals as goal

pub returns-in-Some-clause-legal : goal.returns-in-Some-clause-legal
returns-in-Some-clause-legal c =
    ap is_path c.as_bytes.ensures.value
    ∙ passes_at (λ e. is_path e.0) (paths_of c.self.inside.by_path.entries) c.args.place (string_bytes c.in-Some.path.now, c.in-Some.role.now)
    c.self.invariant.legal
    (path-at c.args.place c.self.inside.by_path.entries ∙ ap (option_map (λ e. (string_bytes e.0, e.1))) (sym c.in-Some.ensures.entry))
