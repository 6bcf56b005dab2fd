use Rattle.ks_commands.proofs.Prelude.{◌≡◌, ◌∙◌, ℕ, List, Option, CommandRecord, Some, Part, Walks, ap, fun_ext, inr, refl, state, subst, count_by, is_in, is_user, reading, symbols_in, symbols_of}
use Rattle.ks_requests.specs.declared.status.Count.TheVariants.{Users}
use Rattle.ks_commands.proofs.Objects.{count_records, same_lines, same_user}
use Rattle.ks_commands.proofs.users.report_users.Goals as goal

pub returns-clause-reported : goal.returns-clause-reported
returns-clause-reported g c =
    let (objects, first, are, (parts, reports, kept, all)) = c.in_ok-text.ensures.reported in
    let honest = g.T.Tree.is_honest in
    let files = g.T.Tree.files c.args.tree.now in
    let found = symbols_in c.new-symbols.result in
    let args = symbols_of c.args.args.now in
    let asked : (x : List ℕ) → is_in found x ≡ is_in args x
    = λ x. c.new-symbols.ensures x ∙ ap (λ (ss : List (List ℕ)). is_in ss x) c.in_ok-symbols_of.ensures in
    let users : c.read_each.new.reader.users ≡ count_by (λ (p : Part (Option CommandRecord)). is_user args p.answer) parts
    = kept ∙ count_records (is_user (symbols_in c.read_each.new.reader.symbols)) refl (λ e. refl) parts
    ∙ ap (λ (ss : List (List ℕ)). count_by (λ (p : Part (Option CommandRecord)). is_user ss p.answer) parts) c.in_ok-text.ensures.same
    ∙ ap (λ is_found. count_by (λ (p : Part (Option CommandRecord)). is_found p.answer) parts) (fun_ext (same_user found args asked)) in
    inr (
      objects,
      first,
      parts,
      are,
      subst (λ line. Walks (reading honest files line) first parts (state g.T.Tree c.read_each.new.tree)) (same_lines found args asked) reports.walks,
      (
        reports.of_objects,
        (
          reports.lines,
          reports.worst_of,
          ap (λ n. Some (Users n c.in_ok-text.field-0.all)) users
              ∙ ap (λ n. Some (Users (count_by (λ (p : Part (Option CommandRecord)). is_user args p.answer) parts) n)) all,
        ),
      ),
      tt,
    )
