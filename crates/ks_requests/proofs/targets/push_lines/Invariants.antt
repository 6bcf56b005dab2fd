use Rattle.ks_requests.proofs.Prelude.{◌≡◌, ◌++◌, ◌==◌, length, map, not, filter, lines}
use Rattle.ks_requests.proofs.targets.push_lines.Given as goal

-- what was appended so far, and the lines that are left, are all of them
abbrev pub invariant-loop-line : goal.invariant-loop-line
invariant-loop-line l =
    map (λ t. t.now) l.targets.items ++ filter (λ line. not (length line == 0)) l.line-iterator
    ≡ map (λ t. t.now) l.initial.targets.items ++ filter (λ line. not (length line == 0)) (lines l.fn.text)
