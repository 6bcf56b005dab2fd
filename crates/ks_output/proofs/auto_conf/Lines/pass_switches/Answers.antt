use Rattle.ks_output.proofs.Prelude.{◌∷◌, refl, sym, ap, ◌∙◌, Gives, remark, rules}
use Rattle.std.proofs.Common.{map as map_list}
use Rattle.ks_output.proofs.PositionSteps.{entries_passed, no_entries, one_passed, typed_entry}
use Rattle.ks_output.proofs.auto_conf.Lines.pass_switches.Goals as goal

pub switches-init : goal.switches-init
switches-init c = (no_entries c.args.self.now, search rules)

pub switches-preserved : goal.switches-preserved
switches-preserved c =
    let ((name, text), passed) = c.in-Some.ensures in
    let line = ap (map_list remark) (sym c.as_bytes.ensures) ∙ passed in
    let split = line ∙ ap (λ ls. Gives name text ∷ map_list remark ls) (sym c.lines_with_terminator-self.ensures.value) in
    let i = c.switches.invariant in
    let (goes, class) = typed_entry c.switches.self.position name text i.1 in
    (entries_passed _ _ _ name text i.0 (one_passed _ _ (Gives name text) split goes refl) refl, i.1)
