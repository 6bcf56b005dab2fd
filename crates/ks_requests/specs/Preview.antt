-- What a preview prints: which stamps a synchronisation would renew, and the auto.conf that it would write. The form is this project's.
use Rattle.std.specs.Prelude.{◌≡◌, ◌+◌, ◌-◌, ◌^◌, ◌==◌, ◌++◌, ℕ, List, codes, flat_map, Option, Some, None, option_map, if◌then◌else◌}
use Rattle.std.specs.FinMap as map
use Rattle.std.specs.Io.KnownBytes.{Appends}
use Rattle.ks_symbols.specs.Refusals.{or_else, IsRefusal}
use Rattle.ks_output.specs.OldConfig.{Texts}
use Rattle.ks_output.specs.declared.auto_conf.AutoError.{AutoError}
use Rattle.ks_output.specs.AutoText.{auto_text}
use Rattle.ks_output.specs.AutoConf.{auto_map, auto_generation, auto_refusal}
use Rattle.ks_engine.specs.declared.error.EngineError.{EngineError}
use Rattle.ks_engine.specs.declared.error.EngineError.TheVariants.{GenerationFull, OutOfMemory}
use Rattle.ks_engine.specs.Refusals.{of_auto}
use Rattle.ks_engine.specs.Sources.{Source}
use Rattle.ks_engine.specs.SyncPlan.{ConfigInputs, AreInputs, refusal_of}
use Rattle.ks_engine.specs.Synchronised.{AreLegalChanges}
use Rattle.ks_requests.specs.declared.preview.PreviewError.{PreviewError}
use Rattle.ks_requests.specs.declared.preview.PreviewError.TheVariants.{Engine, Output}

-- what an old auto.conf holds; none is the empty one of generation 0
abbrev pub old_texts : Option (List ℕ) → Texts
old_texts None = map.empty
old_texts (Some text) = auto_map text

abbrev pub old_generation : Option (List ℕ) → ℕ
old_generation None = 0
old_generation (Some text) = auto_generation text

-- a line `touch NAME` for each name
abbrev pub touch_lines : List (List ℕ) → List ℕ
touch_lines names = flat_map (λ name. codes "touch " ++ name ++ codes "\n") names

-- Why there is none: first the two texts, then the old auto.conf, then its generation, which has none after it.
abbrev pub old_refusal : Option (List ℕ) → Option AutoError
old_refusal None = None
old_refusal (Some text) = auto_refusal text

abbrev pub full_refusal : ℕ → Option EngineError
full_refusal generation = if generation == 2 ^ 64 - 1 then Some GenerationFull else None

unfoldable pub preview_refusal : Source → Option (List ℕ) → Option EngineError
preview_refusal source old =
    or_else (refusal_of source)
    (or_else (option_map of_auto (old_refusal old)) (full_refusal (old_generation old)))

-- a preview of texts that are accepted: the names that differ from the old auto.conf, and the auto.conf of the generation after it
pub record IsPreview (source : Source) (old : Option (List ℕ)) (text : List ℕ) : Type 0 where
  pub accepted : preview_refusal source old ≡ None
  pub sources : ConfigInputs
  pub names : List (List ℕ)
  pub are_inputs : AreInputs source sources
  pub changed : AreLegalChanges (old_texts old) sources.config names
  pub whole : text ≡ touch_lines names ++ auto_text sources.title sources.config (old_generation old + 1)

-- a writer's known bytes grow by a preview
pub record Previews (source : Source) (old before after : Option (List ℕ)) : Type 0 where
  pub text : List ℕ
  pub is_preview : IsPreview source old text
  pub appended : Appends before after text

-- The texts are refused as the definitions have it, or for memory, and nothing is written; or what is not refused didn't go out.
abbrev pub IsNoPreview : Source → Option (List ℕ) → Option (List ℕ) → Option (List ℕ) → PreviewError → Type 0
IsNoPreview source old before after (Engine e) = IsRefusal OutOfMemory e (preview_refusal source old) × (after ≡ before)
IsNoPreview source old before after Output = preview_refusal source old ≡ None
