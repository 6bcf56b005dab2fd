use Rattle.ks_symbols.proofs.Prelude.{kconfig_refusal, rules, cond-true, nat_tests}
use Rattle.ks_symbols.proofs.Clashes.{get-kinds_in, kind_of_first}
use Rattle.ks_symbols.proofs.Configured.{declares_names, title_is_title}
use Rattle.ks_symbols.proofs.kconfig.read_text.Goals as goal

pub returns-then-text-gt-MAX_BYTES-clause-refusal : goal.returns-then-text-gt-MAX_BYTES-clause-refusal
unfolding kconfig_refusal
returns-then-text-gt-MAX_BYTES-clause-refusal c = search (rules, nat_tests, cond-true)

pub new-requires : goal.new-requires
new-requires c = search (rules, declares_names, get-kinds_in, kind_of_first)

pub returns-clause-kinds : goal.returns-clause-kinds
returns-clause-kinds c = search (rules, get-kinds_in, kind_of_first)

pub returns-clause-names : goal.returns-clause-names
returns-clause-names c = search (rules, declares_names, returns-clause-kinds)

pub returns-clause-titled : goal.returns-clause-titled
returns-clause-titled c = search (rules, title_is_title)
