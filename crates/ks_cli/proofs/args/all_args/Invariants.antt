use Rattle.ks_cli.proofs.Prelude.{◌≡◌, map, take, string_bytes}
use Rattle.ks_cli.proofs.args.all_args.Given as goal

abbrev pub invariant-loop-text : goal.invariant-loop-text
invariant-loop-text l = map (λ s. string_bytes s) l.args.items ≡ map (λ t. t.now) (take l.text-index l.texts)
