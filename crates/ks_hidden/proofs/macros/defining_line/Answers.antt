use Rattle.std.proofs.Common.{◌≡◌, ◌∙◌, arith, inl, inr, sym, true}
use Rattle.std.proofs.lemmas.Bool.{cases_lt}
use Rattle.ks_hidden.specs.Macros.{is_in, may_define}
use Rattle.ks_hidden.proofs.TextLemmas.{first_line, no_line, none_past}
use Rattle.ks_hidden.proofs.macros.defining_line.Goals as goal

pub returns-then-may_define : goal.returns-then-may_define
returns-then-may_define c =
    rw (c.line_number.ensures) (first_line c.args.text.now (λ k. may_define (is_in c.args.macros.now) c.args.text.now k ≡ true) c.loop-at.at
    (sym c.may_define.ensures ∙ c.if-may_define.true, c.loop-at.invariant))

pub returns : goal.returns
returns c = no_line c.args.text.now (λ k. may_define (is_in c.args.macros.now) c.args.text.now k ≡ true) (λ k may. elim (cases_lt k c.loop-at.at) [
  | inl before ↦ c.loop-at.invariant k before may
  | inr past ↦ none_past (is_in c.args.macros.now) c.args.text.now k (omega (arith, past, c.loop-at-test.false)) may
])
