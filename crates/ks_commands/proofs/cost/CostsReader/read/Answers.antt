use Rattle.ks_commands.proofs.Prelude.{◌≡◌, ◌+◌, ℕ, List, OnOk, map, is_in, BorrowedDep, borrowed_view, config_names, cost_of, one_if, seen_dep, subst}
use Rattle.ks_commands.proofs.Objects.{costs_more}
use Rattle.ks_commands.proofs.cost.CostsReader.read.Goals as goal

pub returns-clause-more : goal.returns-clause-more
returns-clause-more c = λ before had.
    costs_more c.add.result c.args.self.now c.add.new.self before (borrowed_view c.args.file.now) c.add.ensures.more c.add.ensures.sound
    (subst (λ (ds : List BorrowedDep). OnOk c.add.result ((x : List ℕ) → cost_of c.add.new.self x
    ≡ cost_of c.args.self.now x + one_if (is_in (config_names (map seen_dep ds)) x))) c.deref.ensures.value c.add.ensures.costs) had
