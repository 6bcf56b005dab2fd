use Rattle.ks_fixdep.proofs.Prelude.{refl, is_name}
unfoldable use Rattle.ks_fixdep.specs.Dialects.{patterns_of}
unfoldable use Rattle.ks_fixdep.specs.SymbolPatterns.{arguments_of, named_by, names_of_parts, parts}
use Rattle.ks_fixdep.proofs.laws.dialect_examples.Goals as goal

pub returns-clause-busybox : goal.returns-clause-busybox
unfolding names_of_parts parts arguments_of named_by patterns_of is_name
returns-clause-busybox c = refl

pub returns-clause-uboot : goal.returns-clause-uboot
unfolding names_of_parts parts arguments_of named_by patterns_of is_name
returns-clause-uboot c = refl

pub returns-clause-coreboot : goal.returns-clause-coreboot
unfolding names_of_parts parts arguments_of named_by patterns_of is_name
returns-clause-coreboot c = refl
