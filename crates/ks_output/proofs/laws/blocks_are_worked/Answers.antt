use Rattle.ks_output.proofs.Prelude.{refl, is_name, is_text, is_title, unsetting, assignment, statement}
use Rattle.ks_output.specs.SeenNames.{is_in}
use Rattle.ks_output.specs.Blocks.{config_body, explained_block, explains_block, header_body, is_menu_line, said, stated, with_line, with_lines}
use Rattle.ks_output.proofs.laws.blocks_are_worked.Goals as goal

pub returns-clause-values : goal.returns-clause-values
unfolding explained_block explains_block is_text
returns-clause-values c = (refl, refl, refl, refl, refl, refl, refl, refl, refl, refl)

pub returns-clause-pairs : goal.returns-clause-pairs
unfolding config_body header_body with_lines with_line stated said explained_block explains_block is_menu_line is_in is_name is_text is_title unsetting assignment statement
returns-clause-pairs c = (refl, refl, refl, refl, refl, refl, refl, refl, refl, refl, refl, refl, refl)
