-- What a configuration is read from.
use Rattle.std.specs.Prelude.{ℕ, List}
use Rattle.ks_symbols.specs.declared.dialect.Dialect.{Dialect}
use Rattle.ks_symbols.specs.Dialects.{KconfigText, read_in}
use Rattle.ks_engine.specs.declared.planning.ConfigForm.{ConfigForm}
use Rattle.ks_engine.specs.declared.planning.ConfigForm.TheVariants.{Kconfig, Written}
use Rattle.ks_engine.specs.declared.planning.ConfigTexts.{ConfigTexts}

-- a Kconfig and a `.config`, or the two texts that conf of such a build wrote: auto.conf or BusyBox's .config, and the header
pub data Source : Type 0 where
  FromKconfig : (kconfig : KconfigText) (dotconfig : List ℕ) → Source
  FromConf : (dialect : Dialect) (first header : List ℕ) → Source

-- two texts, by their form
abbrev pub source_in : Dialect → ConfigForm → List ℕ → List ℕ → Source
source_in dialect Kconfig first second = FromKconfig (read_in dialect first) second
source_in dialect Written first second = FromConf dialect first second

abbrev pub config_source : ConfigTexts → Source
config_source texts = source_in texts.dialect texts.form texts.first.now texts.second.now
