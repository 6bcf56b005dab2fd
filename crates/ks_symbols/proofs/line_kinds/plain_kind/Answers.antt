use Rattle.ks_symbols.proofs.Prelude.{◌∙◌, sym, ap, take_rest}
use Rattle.ks_symbols.specs.LineKinds.{named_kind}
use Rattle.ks_symbols.proofs.PlainLines.{kind_lines}
use Rattle.ks_symbols.proofs.line_kinds.plain_kind.Goals as goal

pub returns-then-starts_with : goal.returns-then-starts_with
returns-then-starts_with c =
    kind_lines c.args.dialect c.args.line.now c.named_kind.result (sym c.starts_with.ensures.value ∙ c.if-starts_with.true)
    (c.named_kind.ensures ∙ ap (named_kind c.args.dialect) (take_rest c.args.line.now 1))
