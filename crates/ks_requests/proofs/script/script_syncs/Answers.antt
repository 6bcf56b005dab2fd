use Rattle.ks_requests.proofs.Prelude.{◌∙◌, sym}
use Rattle.ks_requests.proofs.ScriptSyncing.{syncs_if_begun, syncs_not}
use Rattle.ks_requests.proofs.script.script_syncs.Goals as goal

pub returns-then-has_sync : goal.returns-then-has_sync
returns-then-has_sync c = c.is_faultless.ensures ∙ syncs_if_begun c.args.text.now (sym c.has_sync.ensures ∙ c.if-has_sync.true)

pub returns-else-has_sync : goal.returns-else-has_sync
returns-else-has_sync c = c.if-has_sync.false ∙ syncs_not c.args.text.now (sym c.has_sync.ensures ∙ c.if-has_sync.false)
