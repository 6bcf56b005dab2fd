use Rattle.ks_builds.proofs.Stories.{stories_are_shown, stories_report_changes}
use Rattle.ks_builds.proofs.laws.stories_are_shown.Goals as goal

pub returns : goal.returns
returns c = record { shown = stories_are_shown; changes = stories_report_changes }
