use Rattle.std.proofs.Common.{◌<◌, ◌∙◌, ap, arith, length, rules, subst, sym, take}
use Rattle.std.proofs.lemmas.List.{length-append, length-take-le}
use Rattle.ks_tree.specs.Files.{content}
use Rattle.ks_system.proofs.Counted.{failed_since}
use Rattle.ks_system.proofs.Pieces.{large_at, read_on_at, read_whole_at}
use Rattle.ks_system.proofs.reading.read_rest.Goals as goal

pub loop-preserved : goal.loop-preserved
loop-preserved g c =
    let grown = ap length c.in_ok-extend_from_slice.ensures.items in
    let long = length-append c.loop.bytes.items (take c.in_ok-count.count c.read_some.new.into) in
    let given = length-take-le c.in_ok-count.count c.read_some.new.into c.in_ok-count.ensures.within in record {
      world = λ honest. c.in_ok-count.ensures.unchanged honest ∙ c.loop.invariant.world honest;
      read = λ honest.
          read_on_at _ _ _ _ _ _ _ _ (c.loop.invariant.read honest)
          (ap (λ w. content w.files (g.S.System.opened c.args.handle.now).path) (c.loop.invariant.world honest))
          (c.in_ok-count.ensures.read honest) (search rules) c.in_ok-extend_from_slice.ensures.items;
      buffer = c.in_ok-count.ensures.buffer ∙ c.loop.invariant.buffer;
      small = omega arith;
      kept = c.in_ok-count.ensures.kept ∙ c.loop.invariant.kept;
      faults = λ honest. c.in_ok-count.ensures.passed honest ∙ c.loop.invariant.faults honest;
      many = omega arith;
    }

pub returns-then-count-eq0-clause-read : goal.returns-then-count-eq0-clause-read
returns-then-count-eq0-clause-read g c = λ honest.
    read_whole_at _ _ _ _ _ _ _ (c.loop.invariant.read honest)
    (ap (λ w. content w.files (g.S.System.opened c.args.handle.now).path) (c.loop.invariant.world honest))
    (c.in_ok-count.ensures.read honest) (search rules) c.if-count-eq0.true
    (subst (λ n. 0 < n) (sym c.loop.invariant.buffer) c.requires.buffer)

pub returns-then-count-len-clause-too_large : goal.returns-then-count-len-clause-too_large
returns-then-count-len-clause-too_large g c = λ honest large.
    large_at _ _ _ _ _ _ _ (c.loop.invariant.read honest)
    (ap (λ w. content w.files (g.S.System.opened c.args.handle.now).path) (c.loop.invariant.world honest))
    (c.in_ok-count.ensures.read honest) (search rules) (omega arith)

pub returns-in_err-count-clause-cause : goal.returns-in_err-count-clause-cause
returns-in_err-count-clause-cause g c = λ honest of_system. failed_since _ _ _ _ (c.loop.invariant.faults honest) (c.in_err-count.ensures.cause honest)
