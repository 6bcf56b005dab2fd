use Rattle.std.proofs.lemmas.Result.{IfOk-weaker}
use Rattle.ks_engine.proofs.Prelude.{IfErr-weaker, IsLegal, Ok, RecordPlan, refl, found_of, ◌≡◌, ◌∙◌, ap, sym, err_from_is_err_and, with_command, rules, drafted, names_by}
use Rattle.ks_fixdep.specs.SourceScan.{listed_of}
use Rattle.ks_engine.specs.declared.recording.Draft.{Draft}
use Rattle.ks_engine.specs.Drafts.{IsDraft, drafted_by}
use Rattle.ks_engine.proofs.Keeping.{grows_none, cache_grown}
use Rattle.ks_engine.proofs.RecordSteps.{drafted_of}
use Rattle.ks_engine.proofs.Drafting.{at_drafted, both, or_given}
use Rattle.ks_engine.proofs.recording.draft_by.Given as given
use Rattle.ks_engine.proofs.recording.draft_by.Goals as goal
use Rattle.ks_engine.proofs.recording.draft_by.Goals.{After-make_draft}

pub returns-in_err-generation-clause-refused : goal.returns-in_err-generation-clause-refused
returns-in_err-generation-clause-refused g c = search (rules, err_from_is_err_and)

pub returns-in_err-scan_all_by-clause-refused : goal.returns-in_err-scan_all_by-clause-refused
returns-in_err-scan_all_by-clause-refused g c = search (rules, err_from_is_err_and)

-- nothing was refused before the draft
at_draft : (g : given.Over) (c : After-make_draft g) → g.T.Tree.is_honest
    → drafted_by c.args.cache.now.rules c.args.conventions (g.T.Tree.files c.args.tree.now) c.args.target.now c.args.command.now c.args.prerequisites.now
    ≡ drafted c.args.conventions c.args.target.now c.args.command.now c.args.prerequisites.now c.in_ok-generation.generation (names_by c.scan_command_by.new.cache.found)
at_draft g c honest = at_drafted c.args.conventions _ _ _ _ _ _ _ _ _ _ (c.in_ok-generation.ensures.read honest) (c.in_ok-generation.ensures.reads.unchanged honest)
    c.in_ok-generation.ensures.rules (c.in_ok-scan_all_by.ensures.names honest)
    (c.in_ok-scan_command_by.ensures.names (c.in_ok-scan_all_by.ensures.placed honest)
    ∙ ap (λ r. with_command c.args.conventions.scans_command r c.args.command.now (names_by c.scan_all_by.new.cache.found)) c.in_ok-scan_all_by.ensures.rules)

pub returns-clause-refused : goal.returns-clause-refused
returns-clause-refused g c = λ honest.
    let at = at_draft g (goal.at.returns-clause-refused g c).After-make_draft honest in
    IfErr-weaker _ _ _ (λ e. or_given (λ bad. at ∙ bad)) c.make_draft.ensures.refused

pub returns-clause-drafted : goal.returns-clause-drafted
returns-clause-drafted g c = λ honest.
    let at = at_draft g (goal.at.returns-clause-drafted g c).After-make_draft honest in
    let Drafts : Draft → Type 0 = λ d. (plan : RecordPlan)
    × (drafted_by c.args.cache.now.rules c.args.conventions (g.T.Tree.files c.args.tree.now) c.args.target.now c.args.command.now c.args.prerequisites.now ≡ Ok plan)
    × IsLegal plan.file × IsDraft plan d × (plan.names ≡ listed_of c.make_draft.new.found) in
    IfOk-weaker _ _ Drafts (λ d made. (
      made.0.0,
      at ∙ made.0.1,
      made.0.2,
      made.0.3,
      (drafted_of c.args.conventions _ _ c.args.prerequisites.now c.in_ok-generation.generation (names_by c.scan_command_by.new.cache.found) made.0.0 made.0.1).names ∙ sym made.1,
    )) (both _ _ _ c.make_draft.ensures.drafted c.make_draft.ensures.listed)

pub returns-in_err-scan_command_by-clause-cache : goal.returns-in_err-scan_command_by-clause-cache
returns-in_err-scan_command_by-clause-cache g c = λ honest. c.scan_command_by.ensures.cache _ (c.in_ok-scan_all_by.ensures.cache honest)

-- the draft changes nothing of what is kept
pub returns-clause-cache : goal.returns-clause-cache
returns-clause-cache g c = λ honest.
    cache_grown _ c.scan_command_by.new.cache _ refl refl refl refl (grows_none _ _ (ap found_of c.make_draft.ensures.scan))
    (c.scan_command_by.ensures.cache _ (c.in_ok-scan_all_by.ensures.cache honest))
