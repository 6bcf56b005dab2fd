use Rattle.ks_commands.proofs.Prelude.{◌≡◌, Err, None, arith, err_from_is_err_and, rules, sym}
use Rattle.ks_hidden.specs.Macros.{defining_word, is_in}
use Rattle.ks_commands.specs.Looking.{DefinesNone}
use Rattle.ks_commands.proofs.LookingLemmas.{defines_none, given_is, one_more, unread_definition}
use Rattle.ks_commands.proofs.looking.find_definition.Goals as goal

pub returns-in_err-text-clause-refused : goal.returns-in_err-text-clause-refused
returns-in_err-text-clause-refused g c = λ honest.
    let read = rw (c.loop-place.invariant.unchanged honest) at (c.in_err-text.ensures.bytes honest) in
    let none : defining_word (is_in c.args.macros.now) c.args.command.now ≡ None = search rules in
    let is : c.from_residual-in_err-text.result ≡ Err c.in_err-text.field-0.0 = search (rules, err_from_is_err_and) in
    rw is (unread_definition (is_in c.args.macros.now) (g.T.Tree.files c.args.tree.now) c.args.command.now c.args.prerequisites.now c.loop-place.place
    (c.in-Some-get.path.now, c.in-Some-get.field-0-1) c.in_err-text.field-0.0 none (sym c.in-Some-get.ensures.value) (c.loop-place.invariant.none honest) read)

pub returns-in-Some-defining_line-clause-found : goal.returns-in-Some-defining_line-clause-found
returns-in-Some-defining_line-clause-found g c = λ honest.
    let read = rw (c.loop-place.invariant.unchanged honest) at (c.in_ok-text.ensures.bytes honest) in
    let there = given_is (g.T.Tree.files c.args.tree.now) c.in-Some-get.path.now c.in_ok-text.text.items read in
    let none : defining_word (is_in c.args.macros.now) c.args.command.now ≡ None = search rules in
    let same : c.in_ok-new.field-0 ≡ c.in-Some-get.path.now = search rules in
    let defines = rw (c.deref.ensures.value) at c.in-Some-defining_line.ensures in (
      none,
      (
        c.loop-place.place,
        (c.in-Some-get.path.now, c.in-Some-get.field-0-1),
        sym c.in-Some-get.ensures.value,
        c.loop-place.invariant.none honest,
        (same, c.in_ok-text.text.items, there, defines),
      ),
    )

pub loop-place-preserved : goal.loop-place-preserved
loop-place-preserved g c = record {
  unchanged = search rules;
  kept = search rules;
  same = search rules;
  within = search rules;
  none = λ honest.
      let read = rw (c.loop-place.invariant.unchanged honest) at (c.in_ok-text.ensures.bytes honest) in
      let there = given_is (g.T.Tree.files c.args.tree.now) c.in-Some-get.path.now c.in_ok-text.text.items read in
      one_more (DefinesNone (is_in c.args.macros.now) (g.T.Tree.files c.args.tree.now)) c.args.prerequisites.now c.loop-place.place
      (c.in-Some-get.path.now, c.in-Some-get.field-0-1) (sym c.in-Some-get.ensures.value)
      (defines_none (is_in c.args.macros.now) (g.T.Tree.files c.args.tree.now) (c.in-Some-get.path.now, c.in-Some-get.field-0-1) c.in_ok-text.text.items there
      (rw (c.deref.ensures.value) at c.in_default-defining_line.ensures))
      (c.loop-place.invariant.none honest);
}

pub returns-clause-found : goal.returns-clause-found
returns-clause-found g c = λ honest.
    let none : defining_word (is_in c.args.macros.now) c.args.command.now ≡ None = search rules in (
      none,
      λ i p within at. c.loop-place.invariant.none honest i p (omega (arith, c.loop-place-test.false, c.len-place-end.ensures.len, within)) at,
    )
