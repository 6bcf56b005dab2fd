use Rattle.ks_requests.proofs.Prelude.{line_len, lines_from, is_path, lines, first_word, sync_line, record_line, stale_line, script_line, script_lines, script_refusal, rules}
use Rattle.ks_requests.proofs.laws.script_examples.Goals as goal

pub returns : goal.returns
unfolding line_len lines_from is_path lines first_word sync_line record_line stale_line script_line script_lines script_refusal
returns c = search rules
