use Rattle.ks_fixdep.proofs.Prelude.{◌≡◌, take, names_at}
use Rattle.ks_fixdep.proofs.object_names.listed_names.Given as goal

abbrev pub invariant-loop-place : goal.invariant-loop-place
invariant-loop-place l = l.names.items ≡ names_at l.found.scan.table.names (take l.place-index l.places)
