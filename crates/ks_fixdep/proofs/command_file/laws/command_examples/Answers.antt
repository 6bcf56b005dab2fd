use Rattle.ks_fixdep.proofs.Prelude.{first_of, matches_from, is_name, is_path, is_target, lines, content, is_command, saved_command, source_in, path_in, name_in, dep_in, fixed_at, pattern_at, deps_in, stated, generation_from, end_from, record_in, example, example_front, example_lines, rules}
use Rattle.ks_fixdep.proofs.command_file.laws.command_examples.Goals as goal

-- each by computation
pub returns : goal.returns
unfolding first_of matches_from is_name is_path is_target lines content is_command saved_command source_in path_in name_in dep_in fixed_at pattern_at deps_in
    stated generation_from end_from record_in example example_front example_lines
returns c = search rules
