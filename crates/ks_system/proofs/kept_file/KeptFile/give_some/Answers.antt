use Rattle.std.proofs.Common.{arith, subst}
use Rattle.ks_tree.specs.Files.{content}
use Rattle.ks_system.specs.System.{IsSomeReadAt}
use Rattle.ks_system.proofs.Ahead.{served, served_ahead}
use Rattle.ks_system.proofs.kept_file.KeptFile.give_some.Goals as goal

pub returns-clause-ahead : goal.returns-clause-ahead
returns-clause-ahead g c = λ honest.
    served_ahead _ _ _ _ _ _ (c.in_ok-refill.ensures.ahead honest) (let count = c.serve.ensures.count in omega arith) c.serve.ensures.left c.serve.ensures.offset

pub returns-clause-read : goal.returns-clause-read
returns-clause-read g c = λ honest.
    let file = content (g.S.System.world c.args.system.now).files (g.S.System.opened c.args.self.now.file).path in
    subst (λ offset. IsSomeReadAt file offset c.args.into.now c.serve.new.into c.serve.result) c.in_ok-refill.ensures.offset
    (served file c.refill.new.self.ahead _ _ _ (c.in_ok-refill.ensures.ahead honest) c.serve.ensures.count c.serve.ensures.given (c.in_ok-refill.ensures.end honest))
