use Rattle.ks_symbols.proofs.Prelude.{is_name, lines, is_text, unquoted_rest, unquoted, text_of, assignment, unsetting, statement, gives, setting, line_fault, first_fault, dotconfig_refusal, is_title, after_quote, kind_line_kind, title_line_kind, word_line_kind, line_kind, declarations, title_in, declared, title_of, first_line_kind_fault, kconfig_refusal, line_len, lines_from, rules}
use Rattle.ks_symbols.proofs.laws.examples_hold.Goals as goal

pub returns : goal.returns
unfolding is_name lines is_text unquoted_rest unquoted text_of assignment unsetting statement gives setting line_fault first_fault dotconfig_refusal is_title
    after_quote kind_line_kind title_line_kind word_line_kind line_kind declarations title_in declared title_of first_line_kind_fault kconfig_refusal line_len lines_from
returns c = search rules
