use Rattle.ks_commands.proofs.Prelude.{Err, ◌∙◌, None, Ok, Some, ap, inl, inr, option_map, refl, sym, ⊎_elim, ◌++◌, command_file}
use Rattle.ks_fixdep.specs.Borrowed.{borrowed_view}
use Rattle.ks_commands.proofs.Objects.{err_as, nothing_added, read_part}
use Rattle.ks_commands.proofs.readings.read_one.Goals as goal
use Rattle.ks_commands.proofs.readings.read_one.Goals.{in-Ok-Some+in-Err-borrow_record, in-Err}

pub returns-in-Ok-None-clause-reported : goal.returns-in-Ok-None-clause-reported
returns-in-Ok-None-clause-reported g c =
    let o = c.args.target.now in
    let line = g.R.Reader.line (g.R.Reader.asked c.args.reader.now) in (
      record {
        part = read_part line o (Ok None);
        of_object = refl;
        step = record {
          reported = record {
            read = λ honest. inr (sym (c.in-Ok-None.ensures.read honest ∙ ap (λ f. command_file o (option_map (λ v. v.items) f)) c.in-Ok-None.field-0-is));
            lines = refl;
            status = refl;
          };
          counted = record { later = c.read_record.ensures.reads.counted.later; cause = λ is. absurd cc };
          backdated = c.read_record.ensures.reads.kept;
        };
        lines = c.in_ok-write_unrecorded-in-Ok-None.ensures ∙ ap (λ l. c.args.text.now.items ++ l) (sym (g.met.R.Reader.unrecorded (g.R.Reader.asked c.args.reader.now) o));
        status_of = refl;
      },
      nothing_added (g.R.Reader.has_read c.args.reader.now),
    )

pub returns-in-Ok-clause-reported : goal.returns-in-Ok-clause-reported
returns-in-Ok-clause-reported g c =
    let o = c.args.target.now in
    let line = g.R.Reader.line (g.R.Reader.asked c.args.reader.now) in (
      record {
        part = read_part line o (Ok (Some (borrowed_view c.in-Ok.file)));
        of_object = refl;
        step = record {
          reported = record {
            read = λ honest. inr (sym (c.in-Ok-Some.ensures.read honest
                ∙ ap (λ f. command_file o (option_map (λ v. v.items) f)) c.in-Ok-Some.field-0-is
                ∙ ap (λ t. command_file o (Some t)) (sym c.deref.ensures.value)
                ∙ c.in-Ok.ensures.read));
            lines = refl;
            status = refl;
          };
          counted = record { later = c.read_record.ensures.reads.counted.later; cause = λ is. absurd cc };
          backdated = c.read_record.ensures.reads.kept;
        };
        lines = c.in_ok-read-in-Ok.ensures.lines;
        status_of = refl;
      },
      c.in_ok-read-in-Ok.ensures.more,
    )

pub returns-clause-reported : goal.returns-clause-reported
returns-clause-reported g c =
    let o = c.args.target.now in
    let line = g.R.Reader.line (g.R.Reader.asked c.args.reader.now) in
    let error = c.match-read_record.error in (
      record {
        part = read_part line o (Err error);
        of_object = refl;
        step = record {
          reported = record {
            read = λ honest. elim c.match-read_record.branch [
              | in-Ok-Some+in-Err-borrow_record w ↦ rw w.error-is (⊎_elim (λ up. inl up) (λ bad. inr (sym (w.in-Ok-Some.ensures.read honest
                  ∙ ap (λ f. command_file o (option_map (λ v. v.items) f)) w.in-Ok-Some.field-0-is
                  ∙ ap (λ t. command_file o (Some t)) (sym w.deref.ensures.value)
                  ∙ bad))) w.in-Err-borrow_record.ensures.read)
              | in-Err w ↦ rw w.error-is (⊎_elim (λ up. inl up) (λ bad. inr (sym bad)) (w.in-Err.ensures.refused honest))
            ];
            lines = refl;
            status = refl;
          };
          counted = record {
            later = c.read_record.ensures.reads.counted.later;
            cause = λ is. elim c.match-read_record.branch [
              | in-Ok-Some+in-Err-borrow_record w ↦ absurd (w.in-Err-borrow_record.ensures.no_device (err_as (rw w.error-is at is)))
              | in-Err w ↦ w.in-Err.ensures.reads.counted.cause (err_as (rw w.error-is at is))
            ];
          };
          backdated = c.read_record.ensures.reads.kept;
        };
        lines = c.in_ok-write_refused_target.ensures;
        status_of = refl;
      },
      nothing_added (g.R.Reader.has_read c.args.reader.now),
    )
