use Rattle.ks_hidden.proofs.HeaderLines.{entries_explain, classes_alike, written_explained, conf_explained}
use Rattle.ks_hidden.proofs.laws.explained_lines_are_definitions.Goals as goal

pub returns-clause-entries : goal.returns-clause-entries
returns-clause-entries c = entries_explain

pub returns-clause-classes : goal.returns-clause-classes
returns-clause-classes c = classes_alike

pub returns-clause-written : goal.returns-clause-written
returns-clause-written c = written_explained

pub returns-clause-conf : goal.returns-clause-conf
returns-clause-conf c = conf_explained
