-- What follows from how a request ended.
use Rattle.ks_commands.proofs.Prelude.{◌≤◌, Ok, lit≤, Status, code_of, PreviewsArePerformed, RefusalsChangeNothing, StatusesAreAtMostTwo, rules}
use Rattle.ks_requests.specs.declared.request.Request.TheVariants as request
use Rattle.ks_requests.specs.declared.request.Stamps.TheVariants as stamps
use Rattle.ks_requests.specs.declared.status.Status.TheVariants as status

-- ---- refusals

pub refusals_change_nothing : RefusalsChangeNothing
refusals_change_nothing dialect (request.Sync c stamps.Declared) r old new plain ends = search rules
refusals_change_nothing dialect asked r old new plain ends = search rules

-- ---- statuses

code_at_most : (s : Status) → code_of s ≤ 2
code_at_most status.Done = lit≤ tt
code_at_most s = lit≤ tt

pub statuses_are_at_most_two : StatusesAreAtMostTwo
statuses_are_at_most_two ended following b a eb ea s printed = search (rules, code_at_most)

-- ---- previews

pub previews_are_performed : PreviewsArePerformed
previews_are_performed dialect form k d o (request.Preview c o') (Ok outcome) following old new b a eb ea s is ends printed = search rules
previews_are_performed dialect form k d o asked ended following old new b a eb ea s is ends printed = search rules
