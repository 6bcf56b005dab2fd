use Rattle.ks_engine.proofs.Prelude.{vec_items, List, ℕ, inr, bytes_eq-Decides, slice_get-map, rules, ◌≡◌, refl}
use Rattle.ks_engine.proofs.Keeping.{value-pairs}
use Rattle.ks_engine.proofs.caches.Cache.cached_source.Goals as goal

pub returns-then-eq : goal.returns-then-eq
returns-then-eq c =
    let same : c.in-Some.next.now.items ≡ c.args.path.now = (bytes_eq-Decides _ _).0 (rw (← c.as_slice.ensures.value, ← c.eq.ensures) c.if-eq.true) in
    let at = slice_get-map {B = List ℕ × ℕ} (λ e. (vec_items e.0, e.1)) c.args.self.now.sources.entries c.args.self.now.next in
    inr (c.args.self.now.next, rw (at, ← c.in-Some.ensures.entry, same) refl)

pub returns-in-Some-get : goal.returns-in-Some-get
returns-in-Some-get c = search (rules, value-pairs)
