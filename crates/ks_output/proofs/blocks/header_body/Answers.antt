use Rattle.ks_output.proofs.Prelude.{◌∙◌, ap, nat_eq, rules, starts_with, sym}
use Rattle.ks_output.proofs.BlockSteps.{no_body, heading_spelled, behind_heading}
use Rattle.ks_output.proofs.blocks.header_body.Goals as goal

pub returns-then-not-starts_with : goal.returns-then-not-starts_with
returns-then-not-starts_with c =
    let is = heading_spelled c.args.title.now c.args.header.now c.append_front.new.out.items c.time_at-time.result.now c.append_all.new.out.items (search rules) (search rules) (search rules) in
    sym (no_body _ _ (ap (starts_with nat_eq c.args.header.now) (sym is) ∙ search rules))

pub returns : goal.returns
returns c =
    let is = heading_spelled c.args.title.now c.args.header.now c.append_front.new.out.items c.time_at-time.result.now c.append_all.new.out.items (search rules) (search rules) (search rules) in
    sym (behind_heading _ _ _ is (search rules) ∙ search rules)
