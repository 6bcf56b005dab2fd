use Rattle.std.proofs.lemmas.Result.{err_from_is_err_and}
use Rattle.ks_output.proofs.Prelude.{inr, ◌∙◌, remarks}
use Rattle.ks_output.proofs.ScanSteps.{begins, known_fault, scan_ended, scan_large, scan_refused, whole_refusal}
use Rattle.ks_output.proofs.auto_scan.AutoScan.finish.Goals as goal

pub returns-then-piece-self-clause-refusal : goal.returns-then-piece-self-clause-refusal
returns-then-piece-self-clause-refusal c = λ t stands. inr (scan_large c.args.self t c.args.piece.now stands c.if-piece-self.true)

pub returns-in-Some-clause-refusal : goal.returns-in-Some-clause-refusal
returns-in-Some-clause-refusal c = λ t stands.
    inr (whole_refusal c.args.self t c.args.piece.now stands c.args.self.counted.2 c.if-piece-self.false ∙ known_fault c.args.self _ (remarks c.args.piece.now) c.in-Some.is)

pub returns-in_err-generation-clause-refusal : goal.returns-in_err-generation-clause-refusal
returns-in_err-generation-clause-refusal c = λ t stands.
    let p = err_from_is_err_and c.from_residual.result c.from_residual.ensures.1 in
    let b = begins c.args.self c.args.piece.now c.of-lines.result c.of-lines.ensures.left c.of-lines.ensures.position c.of-lines.ensures.number c.in_default.is in
    rw (p.1, p.2) (inr (whole_refusal c.args.self t c.args.piece.now stands c.args.self.counted.2 c.if-piece-self.false
    ∙ scan_refused _ _ _ _ b c.in_err-generation.ensures.ran_out))

pub returns-in_err-check_end-clause-refusal : goal.returns-in_err-check_end-clause-refusal
returns-in_err-check_end-clause-refusal c = λ t stands.
    let p = err_from_is_err_and c.from_residual-in_err-check_end.result c.from_residual-in_err-check_end.ensures.1 in
    let b = begins c.args.self c.args.piece.now c.of-lines.result c.of-lines.ensures.left c.of-lines.ensures.position c.of-lines.ensures.number c.in_default.is in
    rw (p.1, p.2) (inr (whole_refusal c.args.self t c.args.piece.now stands c.args.self.counted.2 c.if-piece-self.false
    ∙ scan_ended _ _ _ _ b c.in_ok-generation.ensures.ran_out.0 ∙ c.in_err-check_end.ensures.refused))

pub returns-clause-refusal : goal.returns-clause-refusal
returns-clause-refusal c = λ t stands.
    let b = begins c.args.self c.args.piece.now c.of-lines.result c.of-lines.ensures.left c.of-lines.ensures.position c.of-lines.ensures.number c.in_default.is in
    whole_refusal c.args.self t c.args.piece.now stands c.args.self.counted.2 c.if-piece-self.false
    ∙ scan_ended _ _ _ _ b c.in_ok-generation.ensures.ran_out.0 ∙ c.in_ok-check_end.ensures.accepted
