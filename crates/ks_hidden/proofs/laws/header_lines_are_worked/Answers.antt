use Rattle.ks_hidden.proofs.HeaderLinesWorked.{definitions_of_classes, lacking_definitions, lines_of_none, macros_of_modules}
use Rattle.ks_hidden.proofs.laws.header_lines_are_worked.Goals as goal

pub returns : goal.returns
returns c = record { definitions = definitions_of_classes; modules = macros_of_modules; lines = lines_of_none; lacking = lacking_definitions }
