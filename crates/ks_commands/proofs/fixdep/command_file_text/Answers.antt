use Rattle.ks_commands.proofs.Prelude.{◌≡◌, sym, subst, None, refusal_without, prerequisites_without, depfile_listed, command_file_at}
use Rattle.ks_commands.proofs.fixdep.command_file_text.Goals as goal

pub returns-clause-text : goal.returns-clause-text
unfolding command_file_at
returns-clause-text g c = λ honest.
    let ps = c.in_ok-prerequisites.prerequisites in
    let listed = depfile_listed c.args.dialect c.deref.result.now ps (subst (λ h. refusal_without h c.deref.result.now ≡ None) c.usual.ensures c.in_ok-prerequisites.ensures.refusal)
    (subst (λ h. ps ≡ prerequisites_without h c.deref.result.now) c.usual.ensures c.in_ok-prerequisites.ensures.value) in
    rw (sym c.in_ok-check_args.ensures.args, c.in_ok-text.ensures.bytes honest, sym c.deref.ensures.value, listed, sym (c.in_ok-text.ensures.reads.unchanged honest))
    (c.scanned_lines.ensures.text honest)
