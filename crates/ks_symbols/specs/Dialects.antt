-- Whose build it is, and a Kconfig of such a build.
use Rattle.std.specs.Prelude.{ℕ, List, ◌≡◌, ◌==◌, refl, if◌then◌else◌}
use Rattle.std.specs.Coded.{Coded, code_by, coded_ℕ, coded_list, coded×}
use Rattle.ks_symbols.specs.declared.dialect.Dialect.{Dialect}
use Rattle.ks_symbols.specs.declared.dialect.Dialect.TheVariants as dialect

-- a text, and the dialect that it is read in
pub record KconfigText : Type 0 where
  pub dialect : Dialect
  pub text : List ℕ

abbrev pub read_in : Dialect → List ℕ → KconfigText
read_in d text = record { dialect = d; text = text }

-- dialects as numbers, by which a proof tells them apart
abbrev pub dialect_number : Dialect → ℕ
dialect_number dialect.Linux = 0
dialect_number dialect.UBoot = 1
dialect_number dialect.BusyBox = 2
dialect_number dialect.Coreboot = 3

abbrev pub numbered_dialect : ℕ → Dialect
numbered_dialect n = if n == 0 then dialect.Linux else if n == 1 then dialect.UBoot else if n == 2 then dialect.BusyBox else dialect.Coreboot

abbrev pub dialect_again : (d : Dialect) → numbered_dialect (dialect_number d) ≡ d
dialect_again dialect.Linux = refl
dialect_again dialect.UBoot = refl
dialect_again dialect.BusyBox = refl
dialect_again dialect.Coreboot = refl

abbrev pub coded_dialect : Coded Dialect
coded_dialect = code_by ℕ coded_ℕ dialect_number numbered_dialect dialect_again

abbrev pub coded_kconfig_text : Coded KconfigText
coded_kconfig_text =
    code_by (Dialect × List ℕ) (coded× coded_dialect (coded_list coded_ℕ)) (λ k. (k.dialect, k.text)) (λ p. record { dialect = p.0; text = p.1 }) (λ _. refl)
