use Rattle.ks_commands.proofs.Prelude.{◌≡◌, ◌∙◌, map, refl, sym}
use Rattle.std.specs.Prelude.{vec_items}
use Rattle.ks_hidden.specs.Candidates.{candidates}
use Rattle.std.proofs.lemmas.Bool.{false≢true}
use Rattle.ks_commands.specs.Looking.{IsInput, IsSought, looked_by}
use Rattle.ks_commands.proofs.LookingLemmas.{all_ok, given_is, if_ok, input_of_sought}
use Rattle.ks_commands.proofs.looking.look_at_input.Goals as goal

pub returns-then-is_header_name-clause-looked : goal.returns-then-is_header_name-clause-looked
returns-then-is_header_name-clause-looked g c = λ honest.
    let text = c.in_ok-text.text.items in (
      text,
      given_is (g.T.Tree.files c.args.tree.now) c.args.path.now text (c.in_ok-text.ensures.bytes honest),
      (
        rw (c.deref.ensures.value, c.in_default.is) at c.in_ok-line.ensures.found,
        λ named. absurd (false≢true (sym named ∙ sym c.is_header_name.ensures ∙ c.if-is_header_name.true)),
      ),
    )

pub returns-clause-looked : goal.returns-clause-looked
returns-clause-looked g c = λ honest.
    let text = c.in_ok-text.text.items in
    let look = looked_by c.args.look.now in
    let there = given_is (g.T.Tree.files c.args.tree.now) c.args.path.now text (c.in_ok-text.ensures.bytes honest) in
    let hides = rw (c.deref.ensures.value, c.in_default.is) at c.in_ok-line.ensures.found in
    let named = sym c.is_header_name.ensures ∙ c.if-is_header_name.false in
    let are : map vec_items c.deref-3.result.now ≡ candidates look.is_listed c.args.path.now text look.command =
    rw (c.deref-3.ensures.value, c.in_ok-paths.ensures, c.deref-2.ensures.value) refl in
    let found = rw (c.in_ok-text.ensures.reads.unchanged honest) at (c.find_precompiled.ensures.found honest) in
    if_ok (IsSought (g.T.Tree.files c.args.tree.now) c.args.path.now (map vec_items c.deref-3.result.now))
    (IsInput look (g.T.Tree.files c.args.tree.now) c.args.path.now) c.find_precompiled.result
    (input_of_sought look (g.T.Tree.files c.args.tree.now) c.args.path.now text (map vec_items c.deref-3.result.now) there hides named are) found

pub returns-then-is_header_name-clause-noted : goal.returns-then-is_header_name-clause-noted
returns-then-is_header_name-clause-noted g c = λ honest none name.
    let there = given_is (g.T.Tree.files c.args.tree.now) c.args.path.now c.in_ok-text.text.items (c.in_ok-text.ensures.bytes honest) in
    rw there (rw (c.deref.ensures.value) at (c.in_ok-line.ensures.noted c.in_default.is name))

pub returns-clause-noted : goal.returns-clause-noted
returns-clause-noted g c = λ honest.
    let there = given_is (g.T.Tree.files c.args.tree.now) c.args.path.now c.in_ok-text.text.items (c.in_ok-text.ensures.bytes honest) in
    all_ok _ c.find_precompiled.result (λ found none name. rw there (rw (c.deref.ensures.value) at (c.in_ok-line.ensures.noted c.in_default.is name)))
