use Rattle.ks_requests.proofs.Prelude.{◌∙◌, ◌++◌, ap, touch_lines, report_lines}
use Rattle.ks_requests.proofs.Printing.{then_appended}
use Rattle.ks_requests.proofs.replies.write_report.Goals as goal

pub returns : goal.returns
unfolding report_lines
returns c =
    let touched = c.in_ok-write_touches.ensures ∙ ap (λ names. c.extend_from_slice.new.self.items ++ touch_lines names) c.deref.ensures.value in
    then_appended _ _ _ _ _
    (then_appended _ _ _ _ _ (then_appended _ _ _ _ _ (then_appended _ _ _ _ _ c.in_ok-write_count.ensures c.in_ok-extend_from_slice.ensures.items) touched)
    c.in_ok-write_count-2.ensures)
    c.in_ok-push.ensures.items
