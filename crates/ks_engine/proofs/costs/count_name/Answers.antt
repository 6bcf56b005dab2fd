use Rattle.ks_engine.proofs.Prelude.{eq-eqb, Global, HashMap, ◌+◌, ℕ, ◌∙◌, sym, arith, Tally, Seed, rules, vec_items, ne_eqb, IsTally, refl}
use Rattle.ks_engine.proofs.Keeping.{kept_found}
use Rattle.ks_engine.proofs.Keeping.{value-pairs}
use Rattle.std.proofs.Common.{Vec}
use Rattle.ks_engine.proofs.Tallying.{pairs-set}
use Rattle.ks_engine.proofs.costs.count_name.Goals as goal

abbrev Counts : Type 0
Counts = HashMap (Vec ℕ Global) Tally Seed

pub overflow_add-tally : goal.overflow_add-tally
overflow_add-tally c =
    let is = value-pairs vec_items c.args.name.now c.args.tallies.now.entries ∙ sym c.in-Some.ensures.value in
    let fits = kept_found (IsTally c.args.record_number) c.args.name.now c.in-Some.tally.now _ c.requires is in
    omega (arith, fits, c.if-tally-record_number.true, c.ranges.record_number.fits)

pub returns-then-tally-record_number : goal.returns-then-tally-record_number
returns-then-tally-record_number c =
    let es = c.args.tallies.now.entries in
    let t = c.in-Some.tally.now in
    let is = value-pairs vec_items c.args.name.now es ∙ sym c.in-Some.ensures.value in
    let new : Tally = record { count = t.count + 1; last = c.args.record_number } in
    rw ((c.get_mut.follows.holds new).0, pairs-set c.args.name.now new t es is, is, ne_eqb t.last c.args.record_number c.if-tally-record_number.true) refl

pub returns-else-tally-record_number : goal.returns-else-tally-record_number
returns-else-tally-record_number c =
    let es = c.args.tallies.now.entries in
    let t = c.in-Some.tally.now in
    let is = value-pairs vec_items c.args.name.now es ∙ sym c.in-Some.ensures.value in
    rw ((c.get_mut.follows.holds t).0, pairs-set c.args.name.now t t es is, is, eq-eqb t.last c.args.record_number c.if-tally-record_number.false) refl

pub returns : goal.returns
returns c = let is = value-pairs vec_items c.args.name.now c.args.tallies.now.entries in search (rules, is)
