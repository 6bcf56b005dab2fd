use Rattle.ks_tree.specs.declared.fault.TreeFault.TheVariants.{OutOfMemory}
use Rattle.ks_streams.proofs.Writing.{breaks_longer, breaks_more}
use Rattle.ks_requests.proofs.Prelude.{Err, None, refl, reported_first, complaint, hint_of, site_line, seen_site, ◌++◌}
use Rattle.ks_requests.proofs.Writing.{hinted, prints_more}
use Rattle.ks_requests.proofs.output.refuse_at.Goals as goal

pub returns-then-print_found-clause-reported : goal.returns-then-print_found-clause-reported
returns-then-print_found-clause-reported g c =
    let line = c.print_found.ensures.line.0 in (
      line,
      c.print_found.ensures.line.1,
      hinted (complaint c.args.refusal.now ++ line) (hint_of c.args.refusal.now) _ _ _
          (prints_more (complaint c.args.refusal.now) line _ _ _ (c.print_complaint.ensures.whole c.if-print_complaint.true)
          (c.print_found.ensures.line.2 c.if-print_found.true))
          c.print_hint.ensures,
    )

pub returns-else-print_found-clause-reported : goal.returns-else-print_found-clause-reported
returns-else-print_found-clause-reported g c =
    let line = c.print_found.ensures.line.0 in (
      line,
      c.print_found.ensures.line.1,
      reported_first (complaint c.args.refusal.now ++ line) (hint_of c.args.refusal.now) _ _
          (breaks_more (complaint c.args.refusal.now) line _ _ _ (c.print_complaint.ensures.whole c.if-print_complaint.true).takes
          (c.print_found.ensures.line.3 c.if-print_found.false)),
    )

pub returns-else-print_complaint-clause-reported : goal.returns-else-print_complaint-clause-reported
returns-else-print_complaint-clause-reported g c =
    let line = site_line (seen_site c.args.site.now) None in (
      line,
      (Err OutOfMemory, tt, refl),
      reported_first (complaint c.args.refusal.now ++ line) (hint_of c.args.refusal.now) _ _
          (breaks_longer (complaint c.args.refusal.now) line _ _ (c.print_complaint.ensures.broken c.if-print_complaint.false)),
    )
