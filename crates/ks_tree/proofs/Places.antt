-- A path tells which of the files that the commands write stands at it.
use Rattle.ks_tree.proofs.Prelude.{◌≡◌, ◌-◌, ℕ, List, ◌++◌, codes, nat_eq, cond, length, take, drop, ap, sym, ◌∙◌, refl, length-append, append_assoc, take-append-le, take_all, auto_path, header_path, auto_temporary, header_temporary, stamp_path, stamp_temporary, command_path, command_temporary, dotted, Place, AutoConf, Header, Stamp, CommandFile, AutoTemporary, HeaderTemporary, StampTemporary, CommandTemporary, path_of, IsLegalPlace, PathsNeverMeet, rules}
use Rattle.ks_tree.proofs.PathLemmas.{ending, has_dot, last, undotted, undotted-dotted, ending-stamp, ending-command, ending-command_temporary}

-- without its last n bytes
front : ℕ → List ℕ → List ℕ
front n p = take (length p - n) p

front-append : (xs ys : List ℕ) (n : ℕ) → length ys ≡ n → front n (xs ++ ys) ≡ xs
unfolding front
front-append xs ys n is = search (rules, length-append, take-append-le, take_all)

-- the file at a temporary path, by the ending of what stands before `.tmp`
temporary_at : List ℕ → Place
temporary_at p = cond (nat_eq (ending p) 0) StampTemporary (cond (nat_eq (ending p) 102) AutoTemporary
    (cond (nat_eq (ending p) 104) HeaderTemporary (CommandTemporary (undotted (front 4 p)))))

place_at : List ℕ → Place
place_at p = cond (nat_eq (ending p) 0) (Stamp (drop 15 p)) (cond (nat_eq (ending p) 102) AutoConf (cond (nat_eq (ending p) 104) Header
    (cond (nat_eq (ending p) 100) (CommandFile (undotted (front 4 p))) (temporary_at (front 4 p)))))

after_command : (o : List ℕ) → front 4 (command_temporary o) ≡ command_path o
unfolding command_temporary command_path
after_command o = search (rules, (append_assoc (dotted o) (codes ".cmd") (codes ".tmp")), front-append)

command_of : (o : List ℕ) → undotted (front 4 (command_path o)) ≡ o
unfolding command_path
command_of o = search (rules, (front-append (dotted o) (codes ".cmd") 4 refl), undotted-dotted)

found : (a : Place) → IsLegalPlace a → place_at (path_of a) ≡ a
unfolding place_at temporary_at front auto_path header_path auto_temporary header_temporary stamp_path stamp_temporary ending has_dot last
found (Stamp x) h = rw (ending-stamp x h)
found (CommandFile o) h = rw (ending-command o, command_of o)
found (CommandTemporary o) h = rw (ending-command_temporary o, after_command o, ending-command o, command_of o)
found a h = refl

-- so two of them at one path are the same file
pub paths_never_meet : PathsNeverMeet
paths_never_meet a b legal_a legal_b same = sym (found a legal_a) ∙ ap place_at same ∙ found b legal_b
