use Rattle.ks_output.proofs.Prelude.{◌≡◌, ◌∷◌, option_map, refl, sym, ap, ◌∙◌, Remark, Gives, remark, seen_position, rules}
use Rattle.std.proofs.Common.{map as map_list}
use Rattle.ks_output.specs.declared.positions.Position.TheVariants as position
use Rattle.ks_output.proofs.PositionSteps.{line_refused, none_passed, one_passed, typed_entry}
use Rattle.ks_output.proofs.auto_conf.Lines.next_line.Goals as goal

pub returns-in_default-clause-evaluated : goal.returns-in_default-clause-evaluated
returns-in_default-clause-evaluated c = search (rules, none_passed)

pub returns-in_default-following-clause-evaluated : goal.returns-in_default-following-clause-evaluated
returns-in_default-following-clause-evaluated c = search (rules, line_refused)

pub returns-clause-evaluated : goal.returns-clause-evaluated
returns-clause-evaluated c =
    let typed : c.args.self.now.position ≡ position.Typed = search rules in
    let (goes, class) = typed_entry c.args.self.now.position c.in-Some.name.now c.in-Some.text.now typed in
    let line = ap (map_list remark) (sym c.as_bytes.ensures) ∙ c.in-Some.ensures in
    let split = line ∙ ap (λ ls. Gives c.in-Some.name.now c.in-Some.text.now ∷ map_list remark ls) (sym c.lines_with_terminator-self.ensures.value) in
    (one_passed c.args.self.now _ _ split goes refl, goes, class)

pub returns-2-clause-evaluated : goal.returns-2-clause-evaluated
returns-2-clause-evaluated c =
    let split = ap (map_list remark) c.in-Some-next.ensures.steps ∙ ap (λ (r : Remark). r ∷ map_list remark c.next.new.self) (sym c.parse_remark-remark.ensures) in
    let goes = ap (option_map seen_position) (sym c.in-Some-following.is) ∙ c.following.ensures in
    (one_passed c.args.self.now _ _ split goes refl, goes, c.class.ensures)
