use Rattle.ks_fixdep.proofs.Prelude.{◌≡◌, ◌+◌, ◌++◌, IsTrue, List, ℕ, length, map, take, list_all, is_name, deps_text, all_noted, names_at, Config}
use Rattle.ks_fixdep.proofs.listing.push_new_names.Given as goal

-- the names at the places so far are listed, and those of them that are new are written
abbrev pub invariant-loop-place : goal.invariant-loop-place
invariant-loop-place l = record {
  new : List (List ℕ);
  listed : names_at l.table.names l.listed ≡ names_at l.table.names l.fn.listed ++ new;
  noted : names_at l.table.names l.listed ≡ all_noted (names_at l.table.names l.fn.listed) (names_at l.table.names (take l.place-index l.places));
  text : l.text.items ≡ l.fn.text.items ++ deps_text (map Config new);
  many : length l.listed ≡ length l.fn.listed + length new;
  legal : IsTrue (list_all is_name new);
}
