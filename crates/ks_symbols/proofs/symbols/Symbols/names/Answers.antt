use Rattle.ks_symbols.proofs.Prelude.{◌≡◌, ◌∙◌, sym, ap, subst, append_assoc, append-nil, All, All-head, All-rest, IsTrue, is_some, is_name, rules}
use Rattle.std.specs.FinMap as map
use Rattle.ks_symbols.proofs.Listed.{legal_kinds, legal_names, listed_kinds, names_of}
use Rattle.ks_symbols.proofs.symbols.Symbols.names.Goals as goal

pub loop-name-init : goal.loop-name-init
loop-name-init c =
    let kinds = c.self.inside.kinds in
    let rows : c.into_iter-name-iterator.result ≡ map.entries kinds = c.into_iter-name-iterator.ensures.into_iter_gives ∙ c.rows-name-items.ensures in
    record {
      all = λ x. search (rules, rows, c.new-names.ensures.items) ∙ listed_kinds kinds x ∙ ap (λ d. is_some (map.get d.kinds x)) c.self.view_is;
      legal = subst (λ es. All (λ e. IsTrue (is_name e.0)) es) (sym rows) (legal_kinds kinds c.self.invariant);
    }

pub new-requires : goal.new-requires
new-requires c = All-head (λ e. IsTrue (is_name e.0)) _ _ (subst (λ es. All (λ e. IsTrue (is_name e.0)) es) c.in-Some.ensures.steps c.loop-name.invariant.legal)

pub loop-name-preserved : goal.loop-name-preserved
loop-name-preserved c = record {
  all = λ x. search (rules, append_assoc, (c.loop-name.invariant.all x));
  legal = All-rest (λ e. IsTrue (is_name e.0)) _ _ _ c.in-Some.ensures.steps c.loop-name.invariant.legal;
}

pub returns-clause-all : goal.returns-clause-all
returns-clause-all c = search (rules, append-nil, names_of)

pub returns-clause-legal : goal.returns-clause-legal
returns-clause-legal c = legal_names c.args.self.now.kinds c.loop-name.names.items (search rules) (returns-clause-all c)
