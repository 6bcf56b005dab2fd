use Rattle.ks_requests.proofs.Prelude.{◌≡◌, ◌∙◌, ◌<◌, ◌+◌, ℕ, List, [], Bor, ap, bytes_eq, get_or, length, map, take, map-append, map_more, fold-append, insert_key, all_noted, noted, arith, common_steps, rules}
use Rattle.ks_requests.proofs.Viewed.{list_any-map}
use Rattle.ks_requests.proofs.targets.each_once.Goals as goal

abbrev seen : Bor (List ℕ) → List ℕ
seen t = t.now

insert_seen : (ts : List (Bor (List ℕ))) (t : Bor (List ℕ)) → map seen (insert_key (λ a b. bytes_eq a.now b.now) ts t) ≡ noted (map seen ts) t.now
insert_seen ts t = search (rules, map-append, list_any-map)

noted_more : (ts : List (Bor (List ℕ))) (i : ℕ) (d : Bor (List ℕ)) → i < length ts
    → noted (all_noted [] (map seen (take i ts))) (get_or ts i d).now ≡ all_noted [] (map seen (take (i + 1) ts))
noted_more ts i d within = grind (arith, common_steps, map_more, fold-append)

pub loop-target-preserved : goal.loop-target-preserved
loop-target-preserved c =
    let ts = c.args.targets.now in
    let i = c.loop-target.target-index in
    let nothing : Bor (List ℕ) = record { ref_ptr = (0, 0); now = [] } in
    ap (map seen) c.in_ok-insert_full.ensures.keys
    ∙ insert_seen c.loop-target.once.keys (get_or ts i nothing)
    ∙ ap (λ l. noted l (get_or ts i nothing).now) c.loop-target.invariant
    ∙ noted_more ts i nothing c.loop-target-test.true
