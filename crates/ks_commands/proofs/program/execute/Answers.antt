use Rattle.ks_commands.proofs.Prelude.{◌≡◌, [], Some, Err, refl, subst, IsSiteLine, site_of, seen_site, rules}
use Rattle.ks_commands.proofs.Siting.{nothing_read, site_line_kept}
use Rattle.ks_commands.proofs.program.execute.Goals as goal

pub returns-in-Err : goal.returns-in-Err
returns-in-Err g c = rw (c.in-Err.is) (refl, c.report_why.ensures)

pub returns-in-Ok-outcome : goal.returns-in-Ok-outcome
returns-in-Ok-outcome g c = search (rules, nothing_read)

pub returns : goal.returns
returns g c =
    let did = c.in-Err-outcome.ensures in
    rw (c.in-Ok.is) (
      Err c.in-Err-outcome.refusal,
      c.outcome.new.tree,
      record { done = did.done; ends = did.ends; cause = did.cause; memory = did.memory; kept = did.kept },
      nothing_read g.T.Tree c.outcome.new.tree,
      [],
      subst (λ site. IsSiteLine g.T.Tree.is_honest (g.T.Tree.files c.outcome.new.tree) site []) c.in-None.ensures refl,
      (refl, c.refuse.ensures.reported, c.refuse.ensures.status),
    )

pub returns-in-Some : goal.returns-in-Some
returns-in-Some g c =
    let request = c.in-Ok.request in
    let refusal = c.in-Err-outcome.refusal in
    let did = c.in-Err-outcome.ensures in
    let site = seen_site c.in-Some.site in
    let found : Some site ≡ site_of request refusal = c.in-Some.ensures in
    let reported = c.refuse_at.ensures.reported in
    let reads = c.refuse_at.ensures.reads in
    rw (c.in-Ok.is) (
      Err refusal,
      c.outcome.new.tree,
      record { done = did.done; ends = did.ends; cause = did.cause; memory = did.memory; kept = did.kept },
      reads,
      reported.0,
      subst (λ s. IsSiteLine g.T.Tree.is_honest (g.T.Tree.files c.refuse_at.new.tree) s reported.0) found
          (site_line_kept g.T.Tree.is_honest (g.T.Tree.files c.outcome.new.tree) (g.T.Tree.files c.refuse_at.new.tree) (Some site) reported.0 reads.unchanged
          reported.1),
      (refl, reported.2, c.refuse_at.ensures.status),
    )
