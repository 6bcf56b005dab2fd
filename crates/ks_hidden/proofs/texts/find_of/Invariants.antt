use Rattle.std.proofs.Common.{ℕ}
use Rattle.std.specs.List.{Contains}
use Rattle.memchr.specs.Find.{is_byte3, places}
use Rattle.ks_hidden.specs.Texts.{IsMarkOf}
use Rattle.ks_hidden.proofs.TextLemmas.{Rises}
use Rattle.ks_hidden.proofs.texts.find_of.Given as goal

-- each such mark is at one of the places that are left, which rise
abbrev pub invariant-loop-at : goal.invariant-loop-at
invariant-loop-at l = record {
  each : (k : ℕ) → IsMarkOf l.one l.other l.third l.text k → Contains l.at-iterator k;
  all : (k : ℕ) → Contains l.at-iterator k → Contains (places (is_byte3 l.one l.other l.third) l.text) k;
  rise : Rises l.at-iterator;
}
