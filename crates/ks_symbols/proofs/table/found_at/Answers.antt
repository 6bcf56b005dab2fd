use Rattle.ks_symbols.proofs.Prelude.{◌≡◌, Some, Equal, List, ℕ, sym, ap, subst, ◌∙◌, get_or, bytes_decides, name_in, entry_in}
use Rattle.ks_symbols.proofs.LastOnes.{order}
use Rattle.ks_symbols.proofs.Records.{found_at, same_order}
use Rattle.ks_symbols.proofs.Indices.{indexed_record}
use Rattle.ks_symbols.proofs.table.found_at.Goals as goal

pub returns-then-eq-clause-value : goal.returns-then-eq-clause-value
returns-then-eq-clause-value g c =
    let bytes = c.args.bytes.now in
    let q = c.args.name.now in
    let it = c.index-records-index.result in
    let named : name_in bytes (get_or c.args.records.now c.args.index it) ≡ q =
    ap (name_in bytes) (sym c.index-records-index.is)
    ∙ sym c.name_of.ensures
    ∙ (bytes_decides c.name_of.result.now q).0 (sym c.eq.ensures ∙ c.if-eq.true) in
    ap (λ (t : List ℕ). Some (it.value, t)) c.text_of.ensures
    ∙ ap (λ r. Some (entry_in bytes r).1) c.index-records-index.is
    ∙ sym (found_at bytes q c.args.records.now c.args.index it c.if-index-records.true c.requires (subst (λ (n : List ℕ). order n q ≡ Equal) (sym named) (same_order q)))

pub returns-then-eq-clause-index : goal.returns-then-eq-clause-index
returns-then-eq-clause-index g c =
    let bytes = c.args.bytes.now in
    let q = c.args.name.now in
    let it = c.index-records-index.result in
    let named : name_in bytes (get_or c.args.records.now c.args.index it) ≡ q =
    ap (name_in bytes) (sym c.index-records-index.is)
    ∙ sym c.name_of.ensures
    ∙ (bytes_decides c.name_of.result.now q).0 (sym c.eq.ensures ∙ c.if-eq.true) in
    indexed_record bytes q c.args.records.now c.args.index it c.if-index-records.true named
    ∙ ap (λ r. Some (q, (entry_in bytes r).1)) (sym c.index-records-index.is)
    ∙ ap (λ (t : List ℕ). Some (q, (it.value, t))) (sym c.text_of.ensures)
