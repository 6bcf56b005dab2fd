-- What the program writes for a preview of files, as a caller has their paths.
use Rattle.std.specs.Prelude.{◌≡◌, ℕ, List, Option, Ok}
use Rattle.ks_symbols.specs.declared.dialect.Dialect.{Dialect}
use Rattle.ks_engine.specs.Sources.{source_in}
use Rattle.ks_engine.specs.declared.planning.ConfigForm.{ConfigForm}
use Rattle.ks_tree.specs.Files.{Files}
use Rattle.ks_requests.specs.Inputs.{Inputs, inputs_at}
use Rattle.ks_requests.specs.Preview.{Previews}

-- The paths are legal, the files are there, their texts are accepted, and what the writer is known to hold grew by their preview.
pub record WritesPreview (dialect : Dialect) (form : ConfigForm) (files : Files) (first second : List ℕ) (old before after : Option (List ℕ)) : Type 0 where
  pub inputs : Inputs
  pub there : inputs_at files first second old ≡ Ok inputs
  pub previews : Previews (source_in dialect form inputs.kconfig inputs.dotconfig) inputs.old before after
