use Rattle.ks_engine.proofs.Prelude.{string_bytes, pairs_of, IsStamp, rules}
use Rattle.ks_engine.proofs.Keeping.{kept_found_or_at, kept_added}
use Rattle.ks_engine.proofs.caches.Cache.stamp.Goals as goal

pub returns-in-Some-cached_stamp-clause-number : goal.returns-in-Some-cached_stamp-clause-number
returns-in-Some-cached_stamp-clause-number g c = λ honest after seen.
    let is = kept_found_or_at (IsStamp (g.T.Tree.files c.args.tree.now)) c.name_text-text.result.now c.in-Some-cached_stamp.number _
    (c.requires.cache honest).stamps c.in-Some-cached_stamp.ensures in
    search (rules, c.name_text-text.ensures, is, (c.predicted.ensures.others c.in_default.is _ after seen))

pub returns-clause-cache : goal.returns-clause-cache
returns-clause-cache g c = λ honest.
    let same = c.in_ok-number.ensures.reads.unchanged honest in
    let old = c.requires.cache honest in
    let number = rw c.in_ok-named.ensures at (c.in_ok-number.ensures.number honest) in
    rw same (record {
      generation = old.generation;
      stamps = rw c.in_ok-insert_stamp.ensures.added (kept_added (IsStamp (g.T.Tree.files c.args.tree.now)) c.name_text-text.result.now c.in_ok-number.number
          (pairs_of string_bytes c.args.self.now.stamps.entries) old.stamps (rw c.name_text-text.ensures (c.requires.name, number)));
      sources = old.sources;
    })

pub returns-in_err-insert_stamp-clause-cache : goal.returns-in_err-insert_stamp-clause-cache
returns-in_err-insert_stamp-clause-cache g c = search rules
