-- Which dependency file a command leaves to be removed.
use Rattle.std.specs.Prelude.{◌≡◌, ℕ, ◌==◌, List, Option, Some, None, Result, Ok, string_bytes, if◌then◌else◌}
use Rattle.ks_tree.specs.Files.{Files, SameBut, content}
use Rattle.ks_requests.specs.declared.request.DepfileAfter.TheVariants.{Removed}
use Rattle.ks_requests.specs.declared.request.Request.{Request}
use Rattle.ks_requests.specs.declared.request.Request.TheVariants.{Record}
use Rattle.ks_cli.specs.declared.args.WordsError.{WordsError}

-- that of a record that is to remove it, once the record is done
abbrev pub spent : ℕ → Result Request WordsError → Option (List ℕ)
spent status (Ok (Record depfile target command Removed options)) = if status == 0 then Some (string_bytes depfile) else None
spent status asked = None

-- That file is gone, and all others stay; where there is none, all stay.
abbrev pub IsWithout : Option (List ℕ) → Files → Files → Type 0
IsWithout None old new = new ≡ old
IsWithout (Some path) old new = (content new path ≡ None) × SameBut path old new
