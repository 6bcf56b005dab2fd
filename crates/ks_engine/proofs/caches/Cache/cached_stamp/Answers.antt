use Rattle.ks_engine.proofs.Prelude.{string_bytes, List, ℕ, inl, inr, sym, ◌∙◌, bytes_eq-Decides, slice_get-map, ◌≡◌, refl}
use Rattle.ks_engine.proofs.Keeping.{value-pairs}
use Rattle.ks_engine.proofs.caches.Cache.cached_stamp.Goals as goal

pub returns-then-eq : goal.returns-then-eq
returns-then-eq c =
    let same : string_bytes c.in-Some.next.now ≡ c.args.name.now = (bytes_eq-Decides _ _).0 (rw (← c.as_str.ensures.value, ← c.eq.ensures) c.if-eq.true) in
    let at = slice_get-map {B = List ℕ × ℕ} (λ e. (string_bytes e.0, e.1)) c.args.self.now.stamps.entries c.args.self.now.next_stamp in
    inr (c.args.self.now.next_stamp, rw (at, ← c.in-Some.ensures.entry, same) refl)

pub returns-in-Some-get_full : goal.returns-in-Some-get_full
returns-in-Some-get_full c = inl (value-pairs string_bytes c.args.name.now c.args.self.now.stamps.entries ∙ sym c.in-Some-get_full.ensures.value)
