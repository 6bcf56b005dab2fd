use Rattle.ks_requests.proofs.Prelude.{◌+◌, ◌++◌, ℕ, ap, subst, ◌∙◌, err_from_is_err_and, Texts, auto_text, AreLegalChanges, PlansOver, Reports, old_of, sources_of, touch_lines, rules}
use Rattle.ks_requests.proofs.Refusing.{texts_refused, auto_refused, preview_refusal-old, preview_refusal-full, full_refusal-full, full_refusal-below}
use Rattle.ks_requests.proofs.preview.preview_of.Goals as goal

pub returns-in_err-sources-clause-refusal : goal.returns-in_err-sources-clause-refusal
returns-in_err-sources-clause-refusal c =
    let p = err_from_is_err_and c.from_residual.result c.from_residual.ensures.1 in
    rw (p.1, p.2) (texts_refused _ _ _ c.in_err-sources.ensures.refusal)

pub returns-in_err-before-clause-refusal : goal.returns-in_err-before-clause-refusal
returns-in_err-before-clause-refusal c = search (rules, err_from_is_err_and, preview_refusal-old, auto_refused)

pub returns-in_default-clause-refusal : goal.returns-in_default-clause-refusal
returns-in_default-clause-refusal c = search (rules, preview_refusal-full, full_refusal-full)

pub returns-clause-refusal : goal.returns-clause-refusal
returns-clause-refusal c = search (rules, preview_refusal-full, full_refusal-below)

pub returns-clause-text : goal.returns-clause-text
returns-clause-text c =
    let s = sources_of c.in_ok-sources.sources in
    let names = c.in-Some.report.touched.items in
    let planned : Reports s (old_of c.in_ok-before.before) c.in-Some.report
    = subst (PlansOver s (old_of c.in_ok-before.before)) c.in-Some.is c.in_ok-report.ensures in
    record {
      accepted = returns-clause-refusal c;
      sources = s;
      names = names;
      are_inputs = c.in_ok-sources.ensures.read;
      changed = subst (λ (texts : Texts). AreLegalChanges texts s.config names) c.in_ok-before.ensures.texts planned.changed;
      whole = c.in_ok-preview_text.ensures ∙ ap (λ (g : ℕ). touch_lines names ++ auto_text s.title s.config g)
          (planned.generation ∙ ap (λ n. n + 1) c.in_ok-before.ensures.generation);
    }
