use Rattle.ks_symbols.proofs.Prelude.{◌≡◌, true, list_all, drop, is_word_byte, sym, subst, arith}
use Rattle.ks_symbols.proofs.WordRuns.{entry_fits, entry_passes, entry_end, entry_name, entry_rest, run_passes}
use Rattle.ks_symbols.proofs.statements.split_entry.Goals as goal

pub word_end-end-requires : goal.word_end-end-requires
word_end-end-requires c = record { fits = entry_fits c.args.line.now c.requires; passes = entry_passes c.args.line.now c.requires }

pub slice_bounds-result-count : goal.slice_bounds-result-count
slice_bounds-result-count c = omega (arith, c.word_end-end.ensures.value, entry_end c.args.line.now c.requires)

pub slice_bounds-result-start : goal.slice_bounds-result-start
slice_bounds-result-start c = omega (arith, c.word_end-end.ensures.value, entry_end c.args.line.now c.requires)

pub returns-clause-word : goal.returns-clause-word
returns-clause-word c = entry_name c.args.line.now c.requires c.word_end-end.result c.word_end-end.ensures.value

pub returns-clause-passes : goal.returns-clause-passes
returns-clause-passes c =
    subst (λ word. list_all is_word_byte word ≡ true) (sym (entry_name c.args.line.now c.requires c.word_end-end.result c.word_end-end.ensures.value))
    (run_passes is_word_byte (drop 7 c.args.line.now))

pub returns-clause-rest : goal.returns-clause-rest
returns-clause-rest c = entry_rest c.args.line.now c.requires c.word_end-end.result c.word_end-end.ensures.value
