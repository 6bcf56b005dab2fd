-- Small texts, and what the definitions make of them.
use Rattle.std.specs.Prelude.{◌≡◌, ℕ, List, [], codes, Some, None}
use Rattle.ks_symbols.specs.declared.dialect.Dialect.TheVariants as dialect
use Rattle.ks_symbols.specs.declared.kinds.Kind.TheVariants as kind
use Rattle.ks_symbols.specs.declared.error.SourceError.TheVariants as fault
use Rattle.ks_symbols.specs.Names.{without_module}
use Rattle.ks_symbols.specs.Dialects.{KconfigText, read_in}
use Rattle.ks_symbols.specs.Lines.{lines}
use Rattle.ks_symbols.specs.Values.{text_of}
use Rattle.ks_symbols.specs.DotConfig.{setting, unknown_count, dotconfig_refusal}
use Rattle.ks_symbols.specs.Kconfig.{declared, title_of, kconfig_refusal}

-- a Kconfig of Linux
abbrev pub linux : List ℕ → KconfigText
linux text = read_in dialect.Linux text

-- two symbols and a title
abbrev pub demo : KconfigText
demo = linux (codes "mainmenu \"Demo\"\nconfig A\n\tbool\nconfig B\n\ttristate\n")

pub record Examples : Type 0 where
  pub one_module_end_off : without_module (codes "C_MODULE_MODULE") ≡ codes "C_MODULE"
  pub quotes_and_escapes_off : text_of kind.Text (codes "\"a\\\"b\\\\c\"") ≡ Some (codes "a\"b\\c")
  pub no_other_escape : text_of kind.Text (codes "\"a\\n\"") ≡ None
  pub nothing_after_the_quote : text_of kind.Text (codes "\"a\"b") ≡ None
  pub empty_text : text_of kind.Text (codes "\"\"") ≡ Some []
  pub raw_as_written : text_of kind.Raw (codes "\"a\\n\"b\"") ≡ Some (codes "\"a\\n\"b\"")
  pub raw_ends_at_a_quote : text_of kind.Raw (codes "\"a") ≡ None
  pub one_quote_is_no_text : text_of kind.Raw (codes "\"") ≡ None
  pub strings_of_u_boot : declared (read_in dialect.UBoot (codes "config S\n\tstring\n")) (codes "S") ≡ Some kind.Raw
  pub strings_of_linux : declared (linux (codes "config S\n\tstring\n")) (codes "S") ≡ Some kind.Text
  pub module_names_of_busybox : declared (read_in dialect.BusyBox (codes "config A_MODULE\n\tbool\n")) (codes "A_MODULE") ≡ Some kind.Flag
  pub no_string_of_a_module : kconfig_refusal (read_in dialect.BusyBox (codes "config A_MODULE\n\tstring\n")) ≡ Some (fault.ModuleName 2)
  pub hex_as_written : text_of kind.Hex (codes "0X1F") ≡ Some (codes "0X1F")
  pub no_bare_radix : text_of kind.Hex (codes "0x") ≡ None
  pub no_idle_zeros : text_of kind.Int (codes "007") ≡ None
  pub minus_zero : text_of kind.Int (codes "-0") ≡ Some (codes "-0")
  pub demo_title : title_of demo ≡ codes "Demo"
  pub demo_tristate : declared demo (codes "B") ≡ Some kind.Tristate
  pub no_title_line : title_of (linux []) ≡ codes "Main menu"
  pub last_line_counts : setting (declared demo) (lines (codes "CONFIG_A=y\n# CONFIG_A is not set\n")) (codes "A") ≡ None
  pub line_of_no_symbol : unknown_count (declared demo) (lines (codes "CONFIG_A=y\r\nCONFIG_ZZ=7")) ≡ 1
  pub blanks_are_no_statement : dotconfig_refusal (declared demo) (codes "\nCONFIG_A = y\n") ≡ Some (fault.NotAConfigLine 2)
  pub no_module_of_a_bool : dotconfig_refusal (declared demo) (codes "CONFIG_A=m\n") ≡ Some (fault.BadValue 1)
  pub no_module_names : kconfig_refusal (linux (codes "config FOO_MODULE\n\tbool\n")) ≡ Some (fault.ModuleName 1)
  pub entry_without_kind : kconfig_refusal (linux (codes "config A\nconfig B\n\tbool\n")) ≡ Some (fault.NoType 1)
  pub not_bare : kconfig_refusal (linux (codes "config A\n\tbool\n\thelp\n")) ≡ Some (fault.NotBare 3)
  pub two_kinds : kconfig_refusal (linux (codes "config A\n\tbool\nconfig A\n\tstring\n")) ≡ Some (fault.TypeClash 4)
  pub comment_in_a_title : kconfig_refusal (linux (codes "mainmenu \"a*/b\"\n")) ≡ Some (fault.BadTitle 1)
