use Rattle.ks_output.proofs.Prelude.{◌++◌, refl, sym, ap, ◌∙◌, drop, length, arith, seen_position, wants_entry}
use Rattle.std.proofs.Common.{take-append-drop, take_all}
use Rattle.ks_output.proofs.ScanSteps.{begins, counted_on, leaves, no_fault, part_of_part, settles, some_fault, stands_to, took_fault, took_faulty, took_lines}
use Rattle.ks_output.proofs.auto_scan.AutoScan.feed.Goals as goal

pub returns-then-is_some-clause-stands : goal.returns-then-is_some-clause-stands
returns-then-is_some-clause-stands c = λ t stands.
    let (e, is) = some_fault _ (sym c.is_some.ensures ∙ c.if-is_some.true) in
    stands_to c.args.self.now _ t c.args.piece.now _ stands (took_faulty _ _ c.args.piece.now e is is refl) (take_all (length c.args.piece.now) c.args.piece.now (omega arith))

pub returns-in-Err-clause-stands : goal.returns-in-Err-clause-stands
returns-in-Err-clause-stands c = λ t stands.
    let none = no_fault _ (sym c.is_some.ensures ∙ c.if-is_some.false) in
    let whole = c.whole_lines-whole.result.now in
    let b = begins c.args.self.now whole c.of-lines.result c.of-lines.ensures.left c.of-lines.ensures.position c.of-lines.ensures.number none in
    let split = ap (λ w. w ++ drop (length whole) c.args.piece.now) c.whole_lines-whole.ensures.front ∙ take-append-drop (length whole) c.args.piece.now in
    let took = took_fault c.args.self.now _ whole (drop (length whole) c.args.piece.now) c.args.piece.now _ _ c.whole_lines-whole.ensures.whole b c.in-Err.ensures.ran_out refl refl split in
    stands_to c.args.self.now _ t c.args.piece.now _ stands took (take_all (length c.args.piece.now) c.args.piece.now (omega arith))

pub invariant_of-self-2 : goal.invariant_of-self-2
invariant_of-self-2 c =
    let none = no_fault _ (sym c.is_some.ensures ∙ c.if-is_some.false) in
    let whole = c.whole_lines-whole.result.now in
    let b = begins c.args.self.now whole c.of-lines.result c.of-lines.ensures.left c.of-lines.ensures.position c.of-lines.ensures.number none in
    let taken = c.settled_lines-taken.ensures in
    let left = leaves c.args.self.now whole c.settled_lines-taken.result.now c.of-lines.result c.pass_all.new.self _ b c.in-Ok.ensures.ran_out c.args.self.now.is_settled taken.all taken.last in
    let counted = counted_on _ _ _ _ _ left in
    let first = c.whole_lines-whole.ensures.within in
    let second = taken.within in
    let fit = c.if-piece-self.false in
    let small = c.args.self.now.counted in
    let number = c.blamed-self.ensures in
    record {
      counted = (omega (arith, number, counted.0), omega (arith, number, counted.1), omega (arith, first, second, fit, small.2));
      is_settled = ap wants_entry c.before_class-self.ensures ∙ settles (seen_position c.pass_all.new.self.position);
    }

pub returns-clause-stands : goal.returns-clause-stands
returns-clause-stands c = λ t stands.
    let none = no_fault _ (sym c.is_some.ensures ∙ c.if-is_some.false) in
    let whole = c.whole_lines-whole.result.now in
    let b = begins c.args.self.now whole c.of-lines.result c.of-lines.ensures.left c.of-lines.ensures.position c.of-lines.ensures.number none in
    let taken = c.settled_lines-taken.ensures in
    let left = leaves c.args.self.now whole c.settled_lines-taken.result.now c.of-lines.result c.pass_all.new.self _ b c.in-Ok.ensures.ran_out c.args.self.now.is_settled taken.all taken.last in
    let took = took_lines c.args.self.now _ c.settled_lines-taken.result.now _ _ _ left taken.whole none refl c.before_class-self.ensures c.blamed-self.ensures refl refl in
    stands_to c.args.self.now _ t c.settled_lines-taken.result.now _ stands took
    (part_of_part c.args.piece.now whole c.settled_lines-taken.result.now c.whole_lines-whole.ensures.front c.whole_lines-whole.ensures.within taken.front taken.within)
