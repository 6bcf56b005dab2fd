use Rattle.ks_engine.proofs.Prelude.{◌≡◌, Ok, ◌∙◌, ap, err_from_is_err_and, record_plan_under, rules, sym, subst, IsCacheOf}
use Rattle.ks_engine.specs.Drafts.{drafted_by}
use Rattle.ks_engine.proofs.Drafting.{at_prerequisites, or_given}
use Rattle.ks_engine.proofs.recording.prepare.Given as given
use Rattle.ks_engine.proofs.recording.prepare.Goals as goal
use Rattle.ks_engine.proofs.recording.prepare.Goals.{After-draft_by}

pub returns-in_err-check_args-clause-refused : goal.returns-in_err-check_args-clause-refused
unfolding record_plan_under
returns-in_err-check_args-clause-refused g c = search (rules, err_from_is_err_and)

pub returns-in_err-check_elsewhere-clause-refused : goal.returns-in_err-check_elsewhere-clause-refused
unfolding record_plan_under
returns-in_err-check_elsewhere-clause-refused g c = search (rules, err_from_is_err_and)

pub returns-in_err-text-clause-refused : goal.returns-in_err-text-clause-refused
unfolding record_plan_under
returns-in_err-text-clause-refused g c = search (rules, err_from_is_err_and)

pub returns-in_err-prerequisites-clause-refused : goal.returns-in_err-prerequisites-clause-refused
unfolding record_plan_under
returns-in_err-prerequisites-clause-refused g c = search (rules, err_from_is_err_and)

pub draft_by-requires-clause-cache : goal.draft_by-requires-clause-cache
draft_by-requires-clause-cache g c = λ honest.
    c.scan_by.ensures.cache _ (subst (λ f. IsCacheOf f c.args.cache.now) (sym (c.in_ok-text.ensures.reads.unchanged honest)) (c.requires.cache honest))

-- nothing was refused before the draft
at_draft : (g : given.Over) (c : After-draft_by g) → g.T.Tree.is_honest
    → record_plan_under c.args.conventions (g.T.Tree.files c.args.tree.now) c.args.depfile.now c.args.target.now c.args.command.now
    ≡ drafted_by c.scan_by.new.self.rules c.args.conventions (g.T.Tree.files c.read_depfile_at.new.tree) c.args.target.now c.args.command.now c.in_ok-prerequisites.prerequisites
at_draft g c honest = at_prerequisites _ _ _ _ _ _ _ _ _ (sym c.in_ok-check_args.ensures.args) (sym c.in_ok-check_elsewhere.ensures.place)
    (c.in_ok-text.ensures.bytes honest ∙ ap (λ b. Ok b) (sym c.deref.ensures.value)) c.in_ok-prerequisites.ensures.refusal c.in_ok-prerequisites.ensures.value
    (c.in_ok-text.ensures.reads.unchanged honest) (c.scan_by.ensures.rules ∙ c.for_target.ensures)

pub returns-in_err-draft-clause-refused : goal.returns-in_err-draft-clause-refused
returns-in_err-draft-clause-refused g c = λ honest.
    let p = err_from_is_err_and c.from_residual-in_err-draft.result c.from_residual-in_err-draft.ensures.1 in
    let at = at_draft g (goal.at.returns-in_err-draft-clause-refused g c).After-draft_by honest in
    rw (p.1, p.2) (or_given (λ bad. at ∙ bad) (c.in_err-draft.ensures.refused honest))

pub returns-clause-planned : goal.returns-clause-planned
returns-clause-planned g c = λ honest.
    let made = c.in_ok-draft.ensures.drafted honest in (
      made.0,
      record { planned = at_draft g (goal.at.returns-clause-planned g c).After-draft_by honest ∙ made.1; legal = made.2 },
      record { draft = made.3; text = c.in_ok-text.ensures.bytes honest; prerequisites = search rules; names = made.4 },
    )
