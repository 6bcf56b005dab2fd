use Rattle.ks_engine.proofs.Prelude.{IfErr-weaker, inl, inr, sym, ◌∙◌, Ok, err_from_is_err_and, rules}
use Rattle.ks_engine.proofs.DepfileLemmas.{depfile_follows, legal_names, names_command, old_or_rule, recorded_from, tried_from}
use Rattle.ks_engine.proofs.depfile.record_depfile.Goals as goal

pub leave_rule-requires-clause-legal : goal.leave_rule-requires-clause-legal
leave_rule-requires-clause-legal g c = search (rules, legal_names)

pub returns-in_err-write_record-clause-refused : goal.returns-in_err-write_record-clause-refused
returns-in_err-write_record-clause-refused g c = λ honest.
    let p = err_from_is_err_and c.from_residual-in_err-write_record.result c.from_residual-in_err-write_record.ensures.1 in
    let planned = c.in_ok-ruled.ensures.planned honest in
    rw (p.1, p.2) (inr (inl (sym c.is_own_file.ensures ∙ c.if-is_own_file.false, inr (c.in_err-write_record.ensures.given, inr (search (rules, tried_from))))))

pub returns-in_err-write_record-clause-old_or_rule : goal.returns-in_err-write_record-clause-old_or_rule
returns-in_err-write_record-clause-old_or_rule g c = λ honest.
    IfErr-weaker _ _ _ (λ e. old_or_rule) (returns-in_err-write_record-clause-refused g c honest)

pub returns-in_err-write_record-clause-follows : goal.returns-in_err-write_record-clause-follows
returns-in_err-write_record-clause-follows g c = λ honest h shows.
    depfile_follows _ _ _ h _ _ _ _ shows (search (rules, err_from_is_err_and)) (returns-in_err-write_record-clause-refused g c honest)

pub returns-in_err-leave_rule-clause-refused : goal.returns-in_err-leave_rule-clause-refused
returns-in_err-leave_rule-clause-refused g c = λ honest.
    let p = err_from_is_err_and c.from_residual-in_err-leave_rule.result c.from_residual-in_err-leave_rule.ensures.1 in
    let planned = c.in_ok-ruled.ensures.planned honest in
    rw (p.1, p.2) (inr (inr (
      c.in_err-leave_rule.ensures.given,
      record {
        free = search rules;
        answer = c.in_ok-ruled.ruled.draft.answer;
        between = g.T.Tree.files c.write_record.new.tree;
        recorded = recorded_from planned.1 planned.2.draft (c.prepare_rule.ensures.reads.unchanged honest) c.deref.ensures.value
            (c.in_ok-write_record.ensures.others honest) (c.in_ok-write_record.ensures.written honest) (c.in_ok-write_record.ensures.gone honest);
        was = planned.2.was;
        was_there = planned.2.was_there;
        rule = search rules;
      },
    )))

pub returns-in_err-leave_rule-clause-old_or_rule : goal.returns-in_err-leave_rule-clause-old_or_rule
returns-in_err-leave_rule-clause-old_or_rule g c = λ honest.
    IfErr-weaker _ _ _ (λ e. old_or_rule) (returns-in_err-leave_rule-clause-refused g c honest)

pub returns-in_err-leave_rule-clause-follows : goal.returns-in_err-leave_rule-clause-follows
returns-in_err-leave_rule-clause-follows g c = λ honest h shows.
    depfile_follows _ _ _ h _ _ _ _ shows (search (rules, err_from_is_err_and)) (returns-in_err-leave_rule-clause-refused g c honest)

pub returns-clause-recorded : goal.returns-clause-recorded
returns-clause-recorded g c = λ honest.
    let planned = c.in_ok-ruled.ensures.planned honest in
    record {
      free = search rules;
      between = g.T.Tree.files c.write_record.new.tree;
      recorded = recorded_from planned.1 planned.2.draft (c.prepare_rule.ensures.reads.unchanged honest) c.deref.ensures.value
          (c.in_ok-write_record.ensures.others honest) (c.in_ok-write_record.ensures.written honest) (c.in_ok-write_record.ensures.gone honest);
      was = planned.2.was;
      was_there = planned.2.was_there;
      rule = search rules;
    }

pub returns-clause-names : goal.returns-clause-names
returns-clause-names g c = λ honest. names_command _ _ _ _ _ _ _ _ _ (returns-clause-recorded g c honest)

pub returns-clause-follows : goal.returns-clause-follows
returns-clause-follows g c = λ honest h shows.
    depfile_follows _ (g.T.Tree.failures c.args.tree.now) (g.T.Tree.failures c.leave_rule.new.tree) h _ _ _ (Ok c.in_ok-ruled.ruled.draft.answer) shows
    (returns-clause-recorded g c honest) tt
