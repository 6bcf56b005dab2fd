use Rattle.std.proofs.Common.{◌≡◌, map, take, None}
use Rattle.std.specs.List.{find}
use Rattle.ks_errors.specs.Errors.{is_named, texts_of}
use Rattle.ks_errors.proofs.pages.error_among.Given as goal

abbrev pub invariant-loop-row : goal.invariant-loop-row
invariant-loop-row l = find (is_named l.word) (map texts_of (take l.row-index l.rows)) ≡ None
