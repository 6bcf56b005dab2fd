-- Whether a script synchronises: it isn't refused, and one of its lines is a `sync`.
use Rattle.std.specs.Prelude.{ℕ, ◌&&◌, Bool, true, false, is_none, List}
use Rattle.std.specs.List.{list_any}
use Rattle.ks_requests.specs.Script.{Line, Sync, Record, Stale, script_lines}
use Rattle.ks_requests.specs.ScriptRefusals.{script_refusal}

abbrev pub is_sync : Line → Bool
is_sync (Sync kconfig dotconfig) = true
is_sync (Record depfile target command) = false
is_sync (Stale target) = false

abbrev pub script_syncs : List ℕ → Bool
script_syncs text = is_none (script_refusal text) && list_any is_sync (script_lines text)
