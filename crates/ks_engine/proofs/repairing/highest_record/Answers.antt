use Rattle.ks_engine.proofs.Prelude.{[], List, ℕ, BadPath, inr, refl, sym, ◌∙◌, err_from_is_err_and, rules}
use Rattle.std.specs.Borrow.{Bor}
use Rattle.std.proofs.lemmas.List.{map_more}
use Rattle.ks_engine.proofs.Surveying.{bad_target, max_is, no_records, reads_more, records_more}
use Rattle.ks_engine.proofs.repairing.highest_record.Goals as goal

abbrev nothing : Bor (List ℕ)
nothing = record { ref_ptr = (0, 0); now = [] }

pub loop-target-init : goal.loop-target-init
loop-target-init g c = record { highest = λ honest. no_records (g.T.Tree.files c.args.tree.now); reads = search rules }

pub loop-target-preserved : goal.loop-target-preserved
loop-target-preserved g c =
    let before = c.loop-target.invariant in
    record {
      highest = λ honest. rw (c.max-highest.ensures, max_is, map_more (λ (t : Bor (List ℕ)). t.now) c.args.targets.now c.loop-target.target-index nothing c.loop-target-test.true)
          (records_more _ _ _ _ _ (before.highest honest) (rw (before.reads.unchanged honest) at (c.in_ok-record_number.ensures.number honest)));
      reads = reads_more g.T.Tree _ _ _ _ before.reads c.record_number.ensures.reads;
    }

pub returns-then-not-target_is_legal-clause-refused : goal.returns-then-not-target_is_legal-clause-refused
returns-then-not-target_is_legal-clause-refused g c =
    bad_target c.args.targets.now c.loop-target.target-index nothing (BadPath 0) c.loop-target-test.true (inr (sym c.target_is_legal.ensures ∙ c.if-not-target_is_legal.true, refl))

pub returns-in_err-record_number-clause-refused : goal.returns-in_err-record_number-clause-refused
returns-in_err-record_number-clause-refused g c = search (rules, err_from_is_err_and)
