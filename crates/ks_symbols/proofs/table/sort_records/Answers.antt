use Rattle.ks_symbols.proofs.Prelude.{◌≡◌, arith, rules, is_lt, always_returns_same, ranks_by, All-permutation, on_ok_weaker, name_in, head_of, by_heads}
use Rattle.ks_symbols.proofs.Heads.{AreBytes, heads_total, headed_sorted, headed_stable}
use Rattle.ks_symbols.proofs.table.sort_records.Goals as goal

pub returns-clause-sorted : goal.returns-clause-sorted
returns-clause-sorted g c =
    let bytes = c.args.bytes.now in
    let small : AreBytes bytes = λ k. omega (arith, c.type_inv.bytes k) in
    let heads = All-permutation (λ r. r.head ≡ head_of (name_in bytes r)) _ _ c.sort_by.ensures.permutation c.requires in
    on_ok_weaker c.sort_by.result
    (λ sorted. headed_sorted bytes small c.sort_by.new.self.items heads
    (sorted (λ x y. is_lt (by_heads bytes x y)) (ranks_by (heads_total bytes) (λ r. r))
    (always_returns_same _ _ _ (λ a r f' k. search rules))))
    c.sort_by.ensures.sorted

pub returns-clause-stable : goal.returns-clause-stable
returns-clause-stable g c =
    let bytes = c.args.bytes.now in
    let small : AreBytes bytes = λ k. omega (arith, c.type_inv.bytes k) in
    let heads = All-permutation (λ r. r.head ≡ head_of (name_in bytes r)) _ _ c.sort_by.ensures.permutation c.requires in
    headed_stable bytes small c.args.records.now.items c.sort_by.new.self.items c.requires heads
    (c.sort_by.ensures.stable (λ x y. is_lt (by_heads bytes x y)) (ranks_by (heads_total bytes) (λ r. r))
    (always_returns_same _ _ _ (λ a r f' k. search rules)))
