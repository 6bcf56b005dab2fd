use Rattle.ks_symbols.proofs.LastOnes.{or_none}
use Rattle.ks_symbols.proofs.Prelude.{◌≡◌, ◌+◌, ◌-◌, ◌<◌, option_map, length, take, sym, ap, ◌∙◌, arith, take-length, or_else, seen, first_kind, without_text, rules, map_more}
use Rattle.std.proofs.Common.{map as map_list}
use Rattle.std.specs.FinMap as map
use Rattle.ks_symbols.proofs.Clashes.{put_next}
use Rattle.ks_symbols.proofs.kconfig.first_kinds.Goals as goal

pub loop-index-init : goal.loop-index-init
loop-index-init c = search (rules, or_none, take-length, map.get-empty)

pub loop-index-preserved : goal.loop-index-preserved
loop-index-preserved c =
    let n = c.loop-index.index - 1 in
    let here : n < length c.args.declared.now = omega (arith, c.loop-index-test.true, c.loop-index.invariant.within) in
    let back : n + 1 ≡ c.loop-index.index = omega (arith, c.loop-index-test.true) in
    let before = map_list seen (take n c.args.declared.now) in
    let more = sym (map_more seen c.args.declared.now n _ here) ∙ ap (λ k. map_list seen (take k c.args.declared.now)) back in
    record {
      within = omega (arith, c.loop-index.invariant.within);
      kinds = λ x.
          ap (λ m. or_else (option_map without_text (first_kind before x)) (map.get m x)) c.in_ok-put.ensures
          ∙ put_next c.loop-index.kinds before _ x
          ∙ ap (λ l. or_else (option_map without_text (first_kind l x)) (map.get c.loop-index.kinds x)) more
          ∙ c.loop-index.invariant.kinds x;
    }

pub returns : goal.returns
unfolding first_kind
returns c = search rules
