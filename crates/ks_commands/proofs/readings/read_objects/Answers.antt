use Rattle.ks_commands.proofs.Prelude.{length-take, ◌≡◌, ◌∙◌, ◌+◌, ◌++◌, ◌∷◌, refl, ℕ, List, [], Bor, ReportsAll, ap, arith, code_of, length-map, map, map_more, reading, records_in, state, subst, sym, take, take_all, rules}
use Rattle.ks_commands.proofs.Objects.{few_records, kept_more, read_over}
use Rattle.ks_commands.proofs.Walks.{as_many, nothing_reported, reported_more}
use Rattle.ks_commands.proofs.readings.read_objects.Goals as goal

pub read_one-requires : goal.read_one-requires
read_one-requires g c =
    let (parts, reports, kept) = c.loop-target.invariant.reported in
    let ts = c.args.objects.now in
    let i = c.loop-target.target-index in
    (records_in parts, omega (arith, few_records parts, as_many parts _ reports.of_objects, length-map (take i ts) (λ t. t.now), length-take i ts), kept)

pub loop-target-init : goal.loop-target-init
loop-target-init g c =
    let first = state g.T.Tree c.args.tree.now in
    let querying = reading g.T.Tree.is_honest (g.T.Tree.files c.args.tree.now) (g.R.Reader.line (g.R.Reader.asked c.args.reader.now)) in
    record {
      unchanged = λ honest. refl;
      kept = refl;
      later = search rules;
      same = refl;
      reported = ([], subst (λ l. ReportsAll querying [] first [] l 0 first) (sym c.new-text.ensures.items) (nothing_reported querying first), c.requires);
    }

pub loop-target-preserved : goal.loop-target-preserved
loop-target-preserved g c =
    let was = c.loop-target.invariant in
    let (parts, reports, kept) = was.reported in
    let reads = c.in_ok-one.ensures.reads in
    let (one, adds) = c.in_ok-one.ensures.reported in
    let ts = c.args.objects.now in
    let i = c.loop-target.target-index in
    let nothing : Bor (List ℕ) = record { ref_ptr = (0, 0); now = [] } in
    let files = g.T.Tree.files c.args.tree.now in
    let line = g.R.Reader.line (g.R.Reader.asked c.args.reader.now) in
    let now = g.R.Reader.line (g.R.Reader.asked c.loop-target.reader) in
    record {
      unchanged = λ honest. reads.unchanged honest ∙ was.unchanged honest;
      kept = reads.kept ∙ was.kept;
      later = omega (arith, was.later, reads.counted.later);
      same = c.in_ok-one.ensures.same ∙ was.same;
      reported = (
        parts ++ one.part ∷ [],
        reported_more (reading g.T.Tree.is_honest files line) (map (λ t. t.now) (take (i + 1) ts)) (code_of c.worse-status.result) reports
            (record {
              part = one.part;
              of_object = one.of_object;
              step = read_over g.T.Tree.is_honest (g.T.Tree.files c.loop-target.tree) files now line was.unchanged (ap g.R.Reader.line was.same)
                  (state g.T.Tree c.loop-target.tree) one.part (state g.T.Tree c.read_one.new.tree) one.step;
              lines = one.lines;
              status_of = one.status_of;
            })
            (map_more (λ t. t.now) ts i nothing c.loop-target-test.true) c.worse-status.ensures,
        kept_more (g.R.Reader.has_read c.loop-target.reader) (g.R.Reader.has_read c.read_one.new.reader) parts one.part kept adds,
      );
    }

pub returns-clause-reported : goal.returns-clause-reported
returns-clause-reported g c =
    let ts = c.args.objects.now in
    let (parts, reports, kept) = c.loop-target.invariant.reported in
    let all : map (λ t. t.now) (take c.loop-target.target-index ts) ≡ map (λ t. t.now) ts
    = ap (map (λ t. t.now)) (take_all c.loop-target.target-index ts c.loop-target-test.false) in (
      parts,
      record { of_objects = reports.of_objects ∙ all; walks = reports.walks; lines = reports.lines; worst_of = reports.worst_of },
      kept,
      sym (length-map ts (λ t. t.now)) ∙ sym (as_many parts _ (reports.of_objects ∙ all)),
    )
