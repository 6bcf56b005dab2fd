use Rattle.ks_requests.proofs.Prelude.{◌∙◌, ◌++◌, ap, codes, counted, synced_line}
use Rattle.ks_requests.proofs.Printing.{then_appended}
use Rattle.ks_requests.proofs.replies.write_synced_line.Goals as goal

pub returns : goal.returns
unfolding synced_line
returns c =
    let touched = c.in_ok-write_count-2.ensures ∙ ap (λ n. c.write_count.new.text.items ++ counted (codes " touched ") n)
    (c.len.ensures ∙ c.args.report.now.touched.ok.0) in
    then_appended _ _ _ _ _ (then_appended _ _ _ _ _ (then_appended _ _ _ _ _ c.in_ok-write_count.ensures touched) c.in_ok-write_count-3.ensures)
    c.in_ok-push.ensures.items
