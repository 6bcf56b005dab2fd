use Rattle.ks_commands.proofs.Prelude.{Bor, List, ap, map, subst, sym, ℕ, ◌∙◌, IsSortedByKey, is_in, nat_cmp, slice_cmp}
use Rattle.ks_commands.proofs.Searching.{search_reports}
use Rattle.ks_commands.proofs.asked_symbols.AskedSymbols.is_asked.Goals as goal

pub returns : goal.returns
returns c =
    let all = c.deref.ensures.value in
    let found = c.binary_search.ensures in
    let in_order = subst (λ (ss : List (Bor (List ℕ))). IsSortedByKey (λ s. s.now) (slice_cmp nat_cmp) ss) (sym all) c.args.self.now.in_order in
    c.is_ok.ensures.value
    ∙ search_reports c.args.name.now c.deref.result.now c.binary_search.result found.bound found.position in_order
    ∙ ap (λ (ss : List (Bor (List ℕ))). is_in (map (λ s. s.now) ss) c.args.name.now) all
