-- The worked examples, by computation.
use Rattle.ks_output.proofs.Prelude.{refl, lines, is_name, line_len}
use Rattle.std.specs.FinMap as map
use Rattle.bstr.specs.Text.{lines_from}
use Rattle.ks_hidden.specs.HeaderLines.{defines_entry, is_of_entry, is_off_macro, foreign_from, foreign_line}
use Rattle.ks_hidden.specs.HeaderLinesExamples.{MacrosOfModules, LinesOfNone, DefinitionsOfClasses, LackingDefinitions}

pub definitions_of_classes : DefinitionsOfClasses
definitions_of_classes = (refl, refl, refl, refl, refl, refl, refl, refl, refl, refl, refl)

pub macros_of_modules : MacrosOfModules
unfolding is_of_entry defines_entry
macros_of_modules texts none e = (rw (none, e) refl, rw e refl)

pub lines_of_none : LinesOfNone
unfolding foreign_line foreign_from lines lines_from line_len is_of_entry defines_entry is_off_macro is_name
lines_of_none = (refl, simp map.get-empty, refl, refl, refl, simp map.get-empty, simp map.get-empty, simp map.get-empty, simp map.get-empty, simp map.get-empty, simp map.get-empty)

pub lacking_definitions : LackingDefinitions
unfolding lines lines_from line_len
lacking_definitions = (refl, refl, refl, refl, refl, refl)
