-- What a synchronisation comes to, by the files before it and the two texts.
use Rattle.std.specs.Prelude.{◌≡◌, ◌⊎◌, ℕ, ◌+◌, List, Option, Some, None, Result, Ok, Err, nat_eq, nat_lt, if◌then◌else◌, length, option_map}
use Rattle.std.specs.FinMap as map
use Rattle.ks_symbols.specs.declared.error.SourceError.{SourceError}
use Rattle.ks_symbols.specs.Lines.{max_bytes, lines}
use Rattle.ks_symbols.specs.Refusals.{or_else}
use Rattle.ks_symbols.specs.declared.dialect.Dialect.{Dialect}
use Rattle.ks_symbols.specs.Dialects.{KconfigText}
use Rattle.ks_symbols.specs.Kconfig.{declared, title_of, kconfig_refusal}
use Rattle.ks_symbols.specs.DotConfig.{setting, unknown_count, dotconfig_refusal}
use Rattle.ks_output.specs.AutoText.{auto_text}
use Rattle.ks_tree.specs.Files.{Files, content}
use Rattle.ks_tree.specs.Paths.{auto_path}
use Rattle.ks_engine.specs.declared.error.EngineError.{EngineError}
use Rattle.ks_engine.specs.declared.error.EngineError.TheVariants.{TooLarge, GenerationFull}
use Rattle.ks_output.specs.declared.written.WrittenError.{WrittenError}
use Rattle.ks_output.specs.ConfTexts.{title_written_in, written_in}
use Rattle.ks_engine.specs.Sources.{Source, FromKconfig, FromConf}
use Rattle.ks_engine.specs.Refusals.{of_source, of_written, and_then}
use Rattle.ks_symbols.specs.Configuration.{Configuration}
use Rattle.ks_output.specs.OldConfig.{Texts}
use Rattle.ks_engine.specs.Legal.{IsLegalSync}
use Rattle.ks_engine.specs.LastSync.{OldAuto, old_auto}

-- why a Kconfig and a `.config` are refused
abbrev pub source_refusal : KconfigText → List ℕ → Option SourceError
source_refusal kconfig dotconfig = or_else (kconfig_refusal kconfig) (dotconfig_refusal (declared kconfig) dotconfig)

pub record ConfigInputs : Type 0 where
  pub title : List ℕ
  pub config : Configuration
  pub unknown : ℕ

-- what the two texts set
pub record AreConfigInputs (kconfig : KconfigText) (dotconfig : List ℕ) (s : ConfigInputs) : Type 0 where
  pub accepted : source_refusal kconfig dotconfig ≡ None
  pub title : s.title ≡ title_of kconfig
  pub settings : (x : List ℕ) → map.get s.config x ≡ setting (declared kconfig) (lines dotconfig) x
  pub unknown : s.unknown ≡ unknown_count (declared kconfig) (lines dotconfig)
  pub legal : IsLegalSync s.title s.config

-- what the two texts that conf wrote set
pub record AreWritten (d : Dialect) (first header : List ℕ) (s : ConfigInputs) : Type 0 where
  pub settings : written_in d first header ≡ Ok s.config
  pub title : s.title ≡ title_written_in d first
  pub unknown : s.unknown ≡ 0
  pub legal : IsLegalSync s.title s.config

-- what either of them sets, or why it is refused
abbrev pub AreInputs : Source → ConfigInputs → Type 0
AreInputs (FromKconfig kconfig dotconfig) s = AreConfigInputs kconfig dotconfig s
AreInputs (FromConf d first header) s = AreWritten d first header s

abbrev pub written_refusal : Result Configuration WrittenError → Option EngineError
written_refusal (Ok config) = None
written_refusal (Err e) = Some (of_written e)

abbrev pub refusal_of : Source → Option EngineError
refusal_of (FromKconfig kconfig dotconfig) = option_map of_source (source_refusal kconfig dotconfig)
refusal_of (FromConf d first header) = written_refusal (written_in d first header)

-- a synchronisation against which no refusal stands
pub record Plan : Type 0 where
  pub title : List ℕ
  pub config : Configuration
  pub unknown : ℕ
  pub old : Texts
  -- of the last completed one
  pub generation : ℕ

abbrev pub plan_of : ConfigInputs → OldAuto → Plan
plan_of s auto = record { title = s.title; config = s.config; unknown = s.unknown; old = auto.texts; generation = auto.generation }

abbrev pub plan_over : ConfigInputs → OldAuto → Result Plan EngineError
plan_over s auto =
    if nat_eq auto.generation 18446744073709551615 then Err GenerationFull
    else (if nat_lt max_bytes (length (auto_text s.title s.config (auto.generation + 1))) then Err TooLarge else Ok (plan_of s auto))

-- What is to be done, or why it is refused: first the texts, then auto.conf, then what would be written.
abbrev pub IsSyncPlan : Files → Source → Result Plan EngineError → Type 0
IsSyncPlan files source result =
    ((e : EngineError) × (refusal_of source ≡ Some e) × (result ≡ Err e))
    ⊎ ((s : ConfigInputs) × AreInputs source s × (result ≡ and_then (old_auto (content files auto_path)) (plan_over s)))
