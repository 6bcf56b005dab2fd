use Rattle.ks_symbols.proofs.Prelude.{ap, err_from_is_err_and, on_ok_weaker, lines, line_kind, declared, title_of, read_in, waiting_fault, first_clash, rules}
use Rattle.std.proofs.Common.{map as map_list}
use Rattle.ks_symbols.proofs.Faults.{refused}
use Rattle.ks_symbols.proofs.Clashes.{gathered, refused_anyway}
use Rattle.ks_symbols.proofs.Story.{run_fault, run_fault-cons, run_end, run_end-cons, found, read_all}
use Rattle.ks_symbols.proofs.kconfig.Reader.take_lines.Goals as goal

pub loop-line-init : goal.loop-line-init
unfolding lines first_clash
loop-line-init c = search rules

pub returns-in_err-take_line-clause-refusal : goal.returns-in_err-take_line-clause-refusal
returns-in_err-take_line-clause-refusal c = search (rules, err_from_is_err_and, run_fault, refused, run_fault-cons, refused_anyway, found)

pub loop-line-preserved : goal.loop-line-preserved
loop-line-preserved c = search (rules, run_fault, gathered, run_fault-cons, run_end, run_end-cons)

pub returns-clause-refusal : goal.returns-clause-refusal
unfolding run_fault
returns-clause-refusal c = search (rules, found)

pub returns-clause-kinds : goal.returns-clause-kinds
unfolding declared
returns-clause-kinds c =
    let empty = ap (map_list (line_kind c.args.dialect)) c.in-None.ensures.steps.0 in
    on_ok_weaker c.check_waiting.result (λ none clear. (read_all (read_in c.args.dialect c.args.text.now) c.loop-line.self c.loop-line.number _ _
    empty c.loop-line.invariant.ends clear c.loop-line.invariant.refusal (ap waiting_fault none)).kinds)
    c.check_waiting.ensures.none

pub returns-clause-title : goal.returns-clause-title
unfolding title_of
returns-clause-title c =
    let empty = ap (map_list (line_kind c.args.dialect)) c.in-None.ensures.steps.0 in
    on_ok_weaker c.check_waiting.result (λ none clear. (read_all (read_in c.args.dialect c.args.text.now) c.loop-line.self c.loop-line.number _ _
    empty c.loop-line.invariant.ends clear c.loop-line.invariant.refusal (ap waiting_fault none)).title)
    c.check_waiting.ensures.none
