use Rattle.ks_commands.proofs.Prelude.{◌∙◌, ap, rules, ◌≡◌, given}
use Rattle.ks_commands.proofs.Loading.{given_more}
use Rattle.ks_commands.proofs.batch.keep_file.Goals as goal

pub returns-clause-given : goal.returns-clause-given
returns-clause-given g c = λ honest.
    let at : c.in_ok-path.path.items ≡ c.args.path.now = search rules in
    given_more (g.T.Tree.files c.args.tree.now) c.args.kept.now c.put.new.self c.in_ok-path.path.items c.in_ok-text.text.items
    (ap (given (g.T.Tree.files c.args.tree.now)) at ∙ c.in_ok-text.ensures.bytes honest) c.in_ok-put.ensures.written c.put.ensures.others
    (c.requires.given honest)
