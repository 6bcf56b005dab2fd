use Rattle.ks_commands.proofs.Prelude.{◌≡◌, Ok, subst, names_by, scanned_all}
use Rattle.ks_commands.proofs.fixdep.scanned_lines.Goals as goal

pub returns-clause-text : goal.returns-clause-text
returns-clause-text g c = λ honest.
    rw (subst (λ r. scanned_all r (g.T.Tree.files c.args.tree.now) c.args.prerequisites.now ≡ Ok (names_by c.in_ok-found.found)) c.for_target.ensures
    (c.in_ok-found.ensures.names honest)) c.lines_of.ensures.text
