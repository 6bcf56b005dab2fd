use Rattle.ks_requests.proofs.ScriptSpellings.{lines_are_spelled}
use Rattle.ks_requests.proofs.laws.script_lines_are_spelled.Goals as goal

pub returns : goal.returns
returns c = lines_are_spelled
