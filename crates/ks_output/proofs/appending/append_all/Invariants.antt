use Rattle.ks_output.proofs.Prelude.{◌≡◌, ◌++◌, take, flat_map}
use Rattle.ks_output.proofs.appending.append_all.Given as goal

-- the pieces so far
abbrev pub invariant-loop-piece : goal.invariant-loop-piece
invariant-loop-piece l = l.out.items ≡ l.fn.out.items ++ flat_map (λ piece. piece.now) (take l.piece-index l.pieces)
