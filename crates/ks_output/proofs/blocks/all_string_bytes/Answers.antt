use Rattle.ks_output.proofs.Prelude.{rules, is_text}
use Rattle.ks_output.proofs.blocks.all_string_bytes.Goals as goal

pub returns : goal.returns
unfolding is_text
returns c = search rules
