use Rattle.ks_symbols.proofs.Prelude.{Some, List, ℕ, sym, ap, ◌∙◌, rules, always_returns_same, name_in, entry_in}
use Rattle.ks_symbols.proofs.LastOnes.{order, tied}
use Rattle.ks_symbols.proofs.Records.{found_at, searchable, parted_none}
use Rattle.ks_symbols.proofs.Indices.{indexed_record}
use Rattle.ks_symbols.proofs.table.find.Goals as goal

pub returns-in-Ok-clause-value : goal.returns-in-Ok-clause-value
returns-in-Ok-clause-value g c =
    let bytes = c.args.bytes.now in
    let q = c.args.name.now in
    let it = c.index-records-index.result in
    ap (λ (t : List ℕ). Some (it.value, t)) c.text_of.ensures
    ∙ ap (λ r. Some (entry_in bytes r).1) c.index-records-index.is
    ∙ sym (found_at bytes q c.args.records.now c.in-Ok.index it c.in-Ok.ensures.bound c.requires
    (c.in-Ok.ensures.position (λ r. order (name_in bytes r) q) (always_returns_same _ _ _ (λ a r f' k. search rules)) it))

pub returns-in-Ok-clause-index : goal.returns-in-Ok-clause-index
returns-in-Ok-clause-index g c =
    let bytes = c.args.bytes.now in
    let q = c.args.name.now in
    let it = c.index-records-index.result in
    indexed_record bytes q c.args.records.now c.in-Ok.index it c.in-Ok.ensures.bound
    (tied _ _ (c.in-Ok.ensures.position (λ r. order (name_in bytes r) q) (always_returns_same _ _ _ (λ a r f' k. search rules)) it))
    ∙ ap (λ r. Some (q, (entry_in bytes r).1)) (sym c.index-records-index.is)
    ∙ ap (λ (t : List ℕ). Some (q, (it.value, t))) (sym c.text_of.ensures)

pub returns-in-Err-clause-value : goal.returns-in-Err-clause-value
returns-in-Err-clause-value g c =
    let bytes = c.args.bytes.now in
    let q = c.args.name.now in
    let rs = c.args.records.now in
    let here = c.in-Err.ensures.position (λ r. order (name_in bytes r) q) (always_returns_same _ _ _ (λ a r f' k. search rules)) in
    sym (parted_none bytes q rs c.in-Err.field-0 (here (searchable bytes q rs c.requires)))
