use Rattle.ks_engine.proofs.Prelude.{rules, ◌++◌, arith, sym, ap, ◌∙◌, take, content, names_in_as, scanned, common_steps}
use Rattle.ks_engine.proofs.Pieces.{scanned_whole, scanned_large, piece_after, same_source}
use Rattle.ks_engine.proofs.sources.scan_file.Goals as goal

pub returns-then-count-lt-PIECE-clause-scanned : goal.returns-then-count-lt-PIECE-clause-scanned
returns-then-count-lt-PIECE-clause-scanned g c =
    let stood = c.loop-count.invariant.stands in
    let fed = c.in_ok-feed_as.ensures.stands stood.0 stood.1 in
    let piece = take c.in-Some.count c.read_at.new.into in (
      names_in_as c.args.rules (stood.0 ++ piece),
      search (rules, (c.in_ok-end_source_as.ensures.found (stood.0 ++ piece) fed)),
      λ honest.
          (let read = rw c.in-Some.is at (c.in_ok-count.ensures.found honest) in
          let at = ap (λ f. content f c.args.path.now) (sym (c.loop-count.invariant.unchanged honest)) ∙ read.1 in
          let text = ap (λ t. t ++ piece) (stood.2 honest read.0 at) ∙ piece_after _ _ _ _ _ read.2 in
          ap (scanned c.args.rules c.args.path.now) at
          ∙ scanned_whole _ c.args.path.now _ _ _ _ _ _ read.2 c.loop-count.invariant.full c.if-count-lt-PIECE.true c.if-offset.false (ap (names_in_as c.args.rules) text)),
    )

pub returns-then-offset-clause-refused : goal.returns-then-offset-clause-refused
returns-then-offset-clause-refused g c = grind (arith, common_steps, scanned_large)

pub loop-count-init : goal.loop-count-init
loop-count-init g c = search rules

pub loop-count-preserved : goal.loop-count-preserved
loop-count-preserved g c =
    let stood = c.loop-count.invariant.stands in
    record {
      unchanged = search rules;
      kept = search rules;
      same = search rules;
      full = search rules;
      found = search rules;
      small = c.if-offset.false;
      stands = (
        stood.0 ++ take c.in-Some.count c.read_at.new.into,
        c.in_ok-feed_as.ensures.stands stood.0 stood.1,
        λ honest b at. (let read = rw c.in-Some.is at (c.in_ok-count.ensures.found honest) in search (rules, same_source, piece_after, (stood.2 honest b at))),
      );
    }
