use Rattle.ks_symbols.proofs.Prelude.{◌∙◌, sym, ap, take_rest, is_name}
use Rattle.ks_symbols.specs.LineKinds.{entry_line_kind}
use Rattle.ks_symbols.proofs.PlainLines.{entry_line}
use Rattle.ks_symbols.proofs.line_kinds.plain_entry.Goals as goal

pub returns-then-name_is_legal-clause-line_kind : goal.returns-then-name_is_legal-clause-line_kind
returns-then-name_is_legal-clause-line_kind c d =
    let line = c.args.line.now in
    let rest = take_rest line 7 in
    entry_line d line (sym c.starts_with.ensures.value ∙ c.if-starts_with.true)
    (ap is_name (sym rest) ∙ sym c.name_is_legal.ensures ∙ c.if-name_is_legal.true)
    ∙ ap (entry_line_kind d) (sym rest)
