use Rattle.ks_requests.proofs.Prelude.{◌≡◌, ◌++◌, flat_map, lines, unknown_line, unknown_names}
use Rattle.std.specs.FinMap as map
use Rattle.ks_requests.proofs.unknown.write_unknown.Given as goal

-- what was appended so far, and what the lines that are left give, are all of it
abbrev pub invariant-loop-line : goal.invariant-loop-line
invariant-loop-line l =
    let kinds = map.get l.fn.symbols.kinds in
    l.text.items ++ flat_map unknown_line (unknown_names kinds l.line-iterator)
    ≡ l.initial.text.items ++ flat_map unknown_line (unknown_names kinds (lines l.fn.dotconfig))
