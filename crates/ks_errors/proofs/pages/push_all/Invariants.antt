use Rattle.std.proofs.Common.{◌≡◌, ◌++◌, flat_map, map, take, string_bytes}
use Rattle.ks_errors.specs.Errors.{known_line, texts_of}
use Rattle.ks_errors.proofs.pages.push_all.Given as goal

abbrev pub invariant-loop-row : goal.invariant-loop-row
invariant-loop-row l = string_bytes l.text ≡ string_bytes l.initial.text ++ flat_map known_line (map texts_of (take l.row-index l.rows))
