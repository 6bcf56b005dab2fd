use Rattle.ks_symbols.proofs.dotconfig.assign.Goals as goal

pub returns-clause-entries : goal.returns-clause-entries
returns-clause-entries c name x at = c.note.ensures.entries (name, c.args.kind) x at
