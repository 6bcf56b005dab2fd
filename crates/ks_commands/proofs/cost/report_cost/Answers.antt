use Rattle.ks_commands.proofs.Prelude.{◌∙◌, refl, inr, map, cost_among, cost_of, names_it, seen_cost}
use Rattle.ks_commands.proofs.Objects.{count_records, same_costs}
use Rattle.ks_commands.proofs.cost.report_cost.Goals as goal

pub returns-clause-reported : goal.returns-clause-reported
returns-clause-reported g c =
    let (objects, first, are, (parts, reports, kept, all)) = c.in_ok-text.ensures.reported in
    let costs = map seen_cost c.in_ok-most_expensive.most_expensive.items in
    inr (
      objects,
      first,
      parts,
      are,
      reports.walks,
      (
        reports.of_objects,
        (
          costs,
          same_costs (cost_of c.read_each.new.reader) (cost_among parts) costs
              (λ x. kept.costs_of x ∙ count_records (names_it x) refl (λ e. refl) parts) c.in_ok-most_expensive.ensures,
          cc (c.of.ensures.text, c.in_ok-write_costs.ensures, c.deref.ensures.value, c.in_ok-text.text-is, reports.lines),
          cc (c.of.ensures.status, c.in_ok-text.status-is, reports.worst_of),
          c.of.ensures.count,
        ),
      ),
      tt,
    )
