use Rattle.ks_fixdep.proofs.Prelude.{length-append, arith, common_steps}
use Rattle.std.proofs.lemmas.List.Sums.{fold-append}
use Rattle.ks_fixdep.proofs.RoleLemmas.{target-yes, target-no, kept-no, role-target, role-no, role-yes, roles-no, roles-yes, not-kept-target, kept-when, some-added, legal-added}
use Rattle.ks_fixdep.proofs.dependency_file.Progress.take.Goals as goal

pub returns-then-names_target-clause-stands : goal.returns-then-names_target-clause-stands
returns-then-names_target-clause-stands c seen s = grind (arith, common_steps, not-kept-target, target-yes, role-target, length-append, roles-no, kept-no)

pub returns-then-names_header-clause-stands : goal.returns-then-names_header-clause-stands
returns-then-names_header-clause-stands c seen s = grind (arith, common_steps, kept-when, target-no, role-no, length-append, roles-no, kept-no)

pub returns-clause-stands : goal.returns-clause-stands
returns-clause-stands c seen s = grind (arith, common_steps, kept-when, roles-yes, fold-append, target-no, role-yes, length-append, some-added, legal-added)
