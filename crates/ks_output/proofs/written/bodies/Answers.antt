use Rattle.ks_output.proofs.Prelude.{rules, sym}
use Rattle.ks_output.proofs.WrittenPairs.{unheaded_auto, unheaded_header, headed}
use Rattle.ks_output.proofs.written.bodies.Goals as goal

pub returns-then-not-starts_with : goal.returns-then-not-starts_with
returns-then-not-starts_with c = sym (unheaded_auto _ c.args.header.now c.args.title.now c.requires (search rules))

pub returns-then-not-starts_with-2 : goal.returns-then-not-starts_with-2
returns-then-not-starts_with-2 c = sym (unheaded_header _ _ c.args.title.now c.requires (search rules))

pub returns : goal.returns
returns c = let is = headed c.args.auto.now c.args.header.now c.args.title.now c.requires (search rules) (search rules) (search rules) in search (rules, is)
