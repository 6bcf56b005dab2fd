use Rattle.ks_commands.proofs.Previewing.{no_preview_by_device, preview_refused}
use Rattle.ks_requests.specs.Views.{seen_inputs}
use Rattle.ks_commands.proofs.dispatch.preview.Goals as goal

pub returns-in-Err-Engine-clause-reads : goal.returns-in-Err-Engine-clause-reads
returns-in-Err-Engine-clause-reads g c =
    let reads = c.in_ok-inputs.ensures.reads in
    record {
      unchanged = reads.unchanged;
      kept = reads.kept;
      counted = record {
        later = reads.counted.later;
        cause = λ is. absurd (no_preview_by_device c.in-Err-Engine.field-0 c.in-Err-Engine.error _ _ _ _ c.in-Err-Engine.field-0-is c.in-Err-Engine.ensures.refusal cc);
      };
    }

pub returns-in-Err-Engine-clause-reported : goal.returns-in-Err-Engine-clause-reported
returns-in-Err-Engine-clause-reported g c = λ honest.
    preview_refused _ _ c.args.config.now _ (seen_inputs c.in_ok-inputs.inputs) _ _ _ _ _ _ c.in-Err-Engine.field-0 c.in-Err-Engine.error c.as_bytes-first.ensures.value
    c.as_bytes-second.ensures.value (c.in_ok-inputs.ensures.inputs honest) c.config-texts.ensures c.borrowed-old.ensures c.in-Err-Engine.field-0-is
    c.in-Err-Engine.ensures.refusal
