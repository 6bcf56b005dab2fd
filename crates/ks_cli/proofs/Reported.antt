-- The arguments of a preview and of a script.
use Rattle.ks_cli.proofs.Prelude.{PreviewArgs, BatchArgs, rules}
use Rattle.ks_cli.proofs.ArgLemmas.{batch_of, batch_rows, batch_takes, preview_of, preview_rows, preview_takes}

pub preview_args : PreviewArgs
preview_args k d first second = search (rules, preview_takes, preview_of, preview_rows)

pub batch_args : BatchArgs
batch_args p plain = search (rules, batch_takes, batch_of, batch_rows)
