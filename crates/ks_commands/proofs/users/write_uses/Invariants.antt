use Rattle.ks_commands.proofs.Prelude.{◌≡◌, ◌++◌, ◌||◌, flat_map, length, map, nat_lt, borrowed_view, seen_dep, use_line, symbols_in, uses_in}
use Rattle.ks_commands.proofs.Objects.{uses_left}
use Rattle.ks_commands.proofs.users.write_uses.Given as goal

-- what was written, and the lines of what is left, are all of them
abbrev pub invariant-loop-dep : goal.invariant-loop-dep
invariant-loop-dep l = record {
  lines : l.text.items ++ flat_map (use_line l.target) (uses_left (symbols_in l.symbols) l.place (map seen_dep l.file.deps.items) l.dep-index)
      ≡ l.initial.text.items ++ flat_map (use_line l.target) (uses_in (symbols_in l.symbols) (borrowed_view l.file));
  is_user : (l.is_user || nat_lt 0 (length (uses_left (symbols_in l.symbols) l.place (map seen_dep l.file.deps.items) l.dep-index)))
      ≡ nat_lt 0 (length (uses_in (symbols_in l.symbols) (borrowed_view l.file)));
}
