use Rattle.ks_commands.proofs.Prelude.{◌≡◌, ◌∙◌, ℕ, List, Option, ap, sym, inr, rules, map, and_then, Ok, Err, Files, Targets, err_from_is_err_and, file_of, given_if_named, with_file, args_of, targets_at}
use Rattle.ks_commands.proofs.marks.mark_targets.Goals as goal

-- the objects that the words and their file name
named : (files : Files) (targets : Targets) (text : Option (List ℕ)) (objects : List (List ℕ)) → given_if_named files (file_of targets) ≡ Ok text
    → objects ≡ with_file (args_of targets) text → targets_at files targets ≡ Ok objects
named files targets text objects read are = ap (λ r. and_then r (λ text. Ok (with_file (args_of targets) text))) read ∙ ap (λ l. Ok l) (sym are)

pub returns-in_err-marked-clause-files : goal.returns-in_err-marked-clause-files
returns-in_err-marked-clause-files g c = λ honest dialect.
    let some = rw (c.in_ok-text.ensures.reads.unchanged honest) at (c.in_err-marked.ensures.some honest) in
    let are = ap (map (λ t. t.now)) c.deref.ensures.value ∙ c.in_ok-objects.ensures ∙ ap (with_file (args_of c.args.targets.now)) c.borrowed.ensures in
    inr (_, named _ c.args.targets.now _ _ (c.in_ok-text.ensures.text honest) are, Err c.in_err-marked.field-0.0, (c.in_err-marked.ensures.given, some), search (rules, err_from_is_err_and))

pub returns-in_err-report_marked-clause-files : goal.returns-in_err-report_marked-clause-files
returns-in_err-report_marked-clause-files g c = λ honest dialect.
    let all = rw (c.in_ok-text.ensures.reads.unchanged honest) at (c.in_ok-marked.ensures.marked honest) in
    let are = ap (map (λ t. t.now)) c.deref.ensures.value ∙ c.in_ok-objects.ensures ∙ ap (with_file (args_of c.args.targets.now)) c.borrowed.ensures in
    inr (_, named _ c.args.targets.now _ _ (c.in_ok-text.ensures.text honest) are, Ok c.in_ok-marked.marked, all, search (rules, err_from_is_err_and))

pub returns-clause-files : goal.returns-clause-files
returns-clause-files g c = λ honest dialect.
    let all = rw (c.in_ok-text.ensures.reads.unchanged honest) at (c.in_ok-marked.ensures.marked honest) in
    let are = ap (map (λ t. t.now)) c.deref.ensures.value ∙ c.in_ok-objects.ensures ∙ ap (with_file (args_of c.args.targets.now)) c.borrowed.ensures in
    inr (_, named _ c.args.targets.now _ _ (c.in_ok-text.ensures.text honest) are, Ok c.in_ok-marked.marked, all, search rules)
