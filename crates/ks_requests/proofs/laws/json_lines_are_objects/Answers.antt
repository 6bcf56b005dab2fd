use Rattle.ks_requests.proofs.JsonObjects.{characters_tell_apart, lines_are_objects}
use Rattle.ks_requests.proofs.laws.json_lines_are_objects.Goals as goal

pub returns-clause-objects : goal.returns-clause-objects
returns-clause-objects c = lines_are_objects

pub returns-clause-apart : goal.returns-clause-apart
returns-clause-apart c = characters_tell_apart
