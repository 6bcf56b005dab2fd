-- What a borrowed name says, and what an iterator over names has left.
use Rattle.std.specs.Prelude.{List, drop}
use Rattle.ks_fixdep.specs.declared.scan.Found.{Found}
use Rattle.ks_fixdep.specs.declared.name_iter.NameIter.{NameIter}
use Rattle.ks_fixdep.specs.Scan.{NameAt, names_after}

-- its place and its bytes
abbrev pub seen_found : Found → NameAt
seen_found f = record { place = f.place; name = f.name.now }

-- the names of what its text has from its next place on
abbrev pub names_left : NameIter → List NameAt
names_left names = names_after 0 names.next_place (drop names.next_place names.text.now)
