use Rattle.ks_commands.proofs.Prelude.{List, ℕ, ◌≡◌, ◌∙◌, inl, rules, sym, true}
use Rattle.std.proofs.lemmas.Bool.{false≢true}
use Rattle.ks_commands.specs.Looking.{IsFound, IsUnreadListed, has_source, is_included, looked_by}
use Rattle.ks_engine.specs.Refusals.{IsAborted}
use Rattle.std.specs.Prelude.{◌⊎◌}
use Rattle.ks_commands.proofs.LookingLemmas.{found_of, has_some, if_err, if_ok, in_empty, noted_alone, unread_of}
use Rattle.ks_commands.proofs.looking.look_for_cause.Goals as goal

pub returns-then-is_empty-clause-found : goal.returns-then-is_empty-clause-found
returns-then-is_empty-clause-found g c = λ honest.
    let files = g.T.Tree.files c.args.tree.now in
    let look = looked_by c.args.look.now in
    let listed = c.args.prerequisites.now in
    let plain = rw (c.in_default.is) at (c.in_ok-hidden.ensures.found honest) in
    let sourced : has_source look.header listed ≡ true = search rules in
    let same =
    noted_alone c.with_hasher-included.result c.look_at_all.new.included (is_included look files listed) c.with_hasher-included.ensures.empty
    (c.in_ok-hidden.ensures.noted honest c.in_default.is) in
    let none = λ (x : List ℕ). sym (same x) ∙ in_empty c.look_at_all.new.included (c.is_empty.ensures.0 c.if-is_empty.true) x in
    ((plain, sourced), inl none)

pub returns-clause-found : goal.returns-clause-found
returns-clause-found g c = λ honest.
    let files = g.T.Tree.files c.args.tree.now in
    let look = looked_by c.args.look.now in
    let listed = c.args.prerequisites.now in
    let plain = rw (c.in_default.is) at (c.in_ok-hidden.ensures.found honest) in
    let sourced : has_source look.header listed ≡ true = search rules in
    let same =
    noted_alone c.with_hasher-included.result c.look_at_all.new.included (is_included look files listed) c.with_hasher-included.ensures.empty
    (c.in_ok-hidden.ensures.noted honest c.in_default.is) in
    let found = rw (c.in_ok-hidden.ensures.reads.unchanged honest) at (c.find_definition.ensures.found honest) in
    if_ok _ (IsFound look files listed) c.find_definition.result (found_of look files listed plain sourced _ same) found

pub returns-clause-refused : goal.returns-clause-refused
returns-clause-refused g c = λ honest.
    let files = g.T.Tree.files c.args.tree.now in
    let look = looked_by c.args.look.now in
    let listed = c.args.prerequisites.now in
    let plain = rw (c.in_default.is) at (c.in_ok-hidden.ensures.found honest) in
    let sourced : has_source look.header listed ≡ true = search rules in
    let same =
    noted_alone c.with_hasher-included.result c.look_at_all.new.included (is_included look files listed) c.with_hasher-included.ensures.empty
    (c.in_ok-hidden.ensures.noted honest c.in_default.is) in
    let one = has_some c.look_at_all.new.included (λ zero. false≢true (sym c.if-is_empty.false ∙ c.is_empty.ensures.1 zero)) in
    let refused = rw (c.in_ok-hidden.ensures.reads.unchanged honest) at (c.find_definition.ensures.refused honest) in
    if_err _ (λ e. IsAborted e ⊎ IsUnreadListed look files listed e) c.find_definition.result (unread_of look files listed plain sourced _ same one) refused
