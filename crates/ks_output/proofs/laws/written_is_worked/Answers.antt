use Rattle.ks_output.proofs.Prelude.{refl, ◌∙◌, [], ◌∷◌, codes, is_name, is_text, unsetting, assignment, statement}
use Rattle.ks_symbols.specs.declared.kinds.Kind.TheVariants as kind
use Rattle.ks_output.specs.Written.{given_by, explains, explained, with_entry, with_pairs}
use Rattle.ks_output.proofs.Worked.{files_of_conf}
use Rattle.ks_output.proofs.WrittenPairs.{first, first_unexplained, second, second_twice}
use Rattle.ks_output.proofs.laws.written_is_worked.Goals as goal

pub returns-clause-files : goal.returns-clause-files
returns-clause-files c = files_of_conf

pub returns-clause-kinds : goal.returns-clause-kinds
unfolding explained explains is_text
returns-clause-kinds c = (refl, refl, refl, refl, refl, refl, refl, refl, refl, refl, refl, refl, refl, refl, refl, refl)

pub returns-clause-pairs : goal.returns-clause-pairs
unfolding with_pairs with_entry given_by explained explains is_text statement assignment unsetting is_name
returns-clause-pairs c = (
  first (codes "CONFIG_B=m\n") (codes "#define CONFIG_B_MODULE 1\n") (codes "B") (codes "m") kind.Tristate (codes "CONFIG_A=y\n" ∷ []) (codes "#define CONFIG_A 1\n" ∷ []) refl refl
      ∙ second (codes "CONFIG_A=y\n") (codes "#define CONFIG_A 1\n") (codes "A") (codes "y") (codes "B") (kind.Tristate, codes "m") kind.Bool [] [] refl refl refl,
  first (codes "CONFIG_A=y\n") (codes "#define CONFIG_A 1\n") (codes "A") (codes "y") kind.Bool [] (codes "#define CONFIG_B 1\n" ∷ []) refl refl,
  first (codes "CONFIG_A=y\n") (codes "#define CONFIG_A 1\n") (codes "A") (codes "y") kind.Bool (codes "CONFIG_B=y\n" ∷ []) [] refl refl,
  refl,
  first (codes "CONFIG_A_MODULE=y\n") (codes "#define CONFIG_A_MODULE 1\n") (codes "A_MODULE") (codes "y") kind.Companion [] [] refl refl,
  first_unexplained (codes "CONFIG_A_MODULE=1\n") (codes "#define CONFIG_A_MODULE 1\n") (codes "A_MODULE") (codes "1") [] [] refl refl,
  first_unexplained (codes "CONFIG_A=n\n") (codes "#define CONFIG_A 0\n") (codes "A") (codes "n") [] [] refl refl,
  first (codes "CONFIG_A=y\n") (codes "#define CONFIG_A 1\n") (codes "A") (codes "y") kind.Bool (codes "CONFIG_A=y\n" ∷ []) (codes "#define CONFIG_A 1\n" ∷ []) refl refl
      ∙ second_twice (codes "CONFIG_A=y\n") (codes "#define CONFIG_A 1\n") (codes "A") (codes "y") (kind.Bool, codes "y") [] [] refl refl,
)
