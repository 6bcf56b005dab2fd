-- The lines that follow a record are no comments, so it reads as without them.
use Rattle.ks_fixdep.proofs.Prelude.{◌≡◌, ◌∙◌, sym, ap, append_assoc, following, option_and_then, ℕ, ◌<◌, ◌^◌, Bool, false, true, if◌then◌else◌, IfSome, IsTrue, List, [], ◌∷◌, ◌++◌, codes, refl, Option, None, Some, map, list_all, list_all-append, list_all-map, and_from, and_parts, is_name, is_path, is_path_byte, is_word_byte, Dep, File, Config, config_names, is_command, is_dep, decimal, decimal_value, rules, arith, common_steps}
use Rattle.std.specs.Option.{option_map_or}
use Rattle.ks_symbols.specs.declared.dialect.Dialect.{Dialect}
use Rattle.ks_symbols.specs.declared.dialect.Dialect.TheVariants as dialect
use Rattle.ks_fixdep.specs.CommandFile.{is_command_byte}
use Rattle.ks_fixdep.specs.OwnLines.{FurtherLinesAreRead, back_for, cmd_line, elsewhere_lines, front_for, further_lines, is_further, lines_for, named_in, own_byte, own_lines, own_rule, own_stamp_line, stamp_line_of}
use Rattle.ks_fixdep.proofs.CommandFitLemmas.{lines-read}
use Rattle.ks_fixdep.proofs.CommandPatternLemmas.{after-is, all-imp, other-byte, path-bytes, target-path}
use Rattle.ks_fixdep.proofs.CommandTextLemmas.{followed-reads}

further-command : (line : List ℕ) → is_further line ≡ true → is_command line ≡ true
unfolding is_command
further-command [] is = refl
further-command (b ∷ line) is = (and_parts _ _ is).1

path-command : (b : ℕ) → is_path_byte b ≡ true → is_command_byte b ≡ true
path-command b is = search (rules, other-byte, and_from)

-- what begins with a path is no comment
after-path : (t rest : List ℕ) → list_all is_path_byte t ≡ true → is_further rest ≡ true → is_further (t ++ rest) ≡ true
unfolding is_command
after-path [] rest legal is = is
after-path (b ∷ t) rest legal is = search (rules, and_parts, and_from, list_all-append, all-imp, path-command, other-byte, further-command)

word-command : (b : ℕ) → is_word_byte b ≡ true → is_command_byte b ≡ true
word-command b is = search (rules, other-byte, and_from)

-- a byte of a name stays one that a line may have
own-command : (b : ℕ) → is_word_byte b ≡ true → is_command_byte (own_byte b) ≡ true
own-command b is = grind (arith, common_steps)

stamp-further : (x : List ℕ) → is_name x ≡ true → is_further (own_stamp_line x) ≡ true
unfolding is_command is_name
stamp-further x legal = search (rules, and_parts, and_from, list_all-append, list_all-map, all-imp, own-command)

stamps-further : (xs : List (List ℕ)) → list_all is_name xs ≡ true → list_all is_further (map own_stamp_line xs) ≡ true
stamps-further xs legal = search (rules, list_all-map, all-imp, stamp-further)

cmd-further : (t : List ℕ) → list_all is_path_byte t ≡ true → is_further (cmd_line t) ≡ true
unfolding is_command
cmd-further t legal = search (rules, and_from, list_all-append, all-imp, path-command)

rule-further : (t : List ℕ) (xs : List (List ℕ)) → list_all is_path_byte t ≡ true → list_all is_name xs ≡ true → list_all is_further (own_rule t xs) ≡ true
unfolding is_command
rule-further t xs legal names = search (rules, and_from, list_all-append, after-path, stamps-further)

own-further : (d : Dialect) (t : List ℕ) (xs : List (List ℕ)) → list_all is_path_byte t ≡ true → list_all is_name xs ≡ true → list_all is_further (own_lines d t xs) ≡ true
own-further dialect.Linux t xs legal names = search (rules, and_from, cmd-further)
own-further dialect.UBoot t xs legal names = search (rules, and_from, cmd-further, rule-further)
own-further dialect.BusyBox t xs legal names = search (rules, and_from, cmd-further, rule-further)
own-further dialect.Coreboot t xs legal names = search (rules, and_from, cmd-further, rule-further)

-- the names among legal dependency lines are legal
names-legal : (deps : List Dep) → list_all is_dep deps ≡ true → list_all is_name (config_names deps) ≡ true
names-legal [] legal = refl
names-legal (File p ∷ deps) legal = names-legal deps (and_parts _ _ legal).1
names-legal (Config x ∷ deps) legal = let parts = and_parts _ _ legal in and_from _ _ parts.0 (names-legal deps parts.1)

-- ---- for a make in another directory

-- the name in a directory is the end of the path
name-of : (directory t name : List ℕ) → named_in directory t ≡ Some name → (front : List ℕ) × (t ≡ front ++ name)
name-of directory t name is = name-after directory t name (following directory t) refl is
  where
    name-after : (directory t name : List ℕ) (rest : Option (List ℕ)) → following directory t ≡ rest → option_and_then (following (codes "/")) rest ≡ Some name
        → (front : List ℕ) × (t ≡ front ++ name)
    name-after directory t name None at is = absurd cc
    name-after directory t name (Some rest) at is =
        (directory ++ codes "/", after-is directory t rest at ∙ ap (λ r. directory ++ r) (after-is (codes "/") rest name is) ∙ sym (append_assoc directory (codes "/") name))

name-legal : (directory t name : List ℕ) → list_all is_path_byte t ≡ true → named_in directory t ≡ Some name → list_all is_path_byte name ≡ true
name-legal directory t name legal is =
    let at = name-of directory t name is in
    (and_parts _ _ (sym (list_all-append is_path_byte at.0 name) ∙ sym (ap (list_all is_path_byte) at.1) ∙ legal)).1

stamp-of-further : (tree x : List ℕ) → list_all is_path_byte tree ≡ true → is_name x ≡ true → is_further (stamp_line_of tree x) ≡ true
unfolding is_command is_name
stamp-of-further tree x legal name = search (rules, and_parts, and_from, list_all-append, all-imp, path-command, word-command)

front-further : (t name : List ℕ) → list_all is_path_byte t ≡ true → list_all is_path_byte name ≡ true → list_all is_further (front_for t name) ≡ true
unfolding is_command
front-further t name legal named = search (rules, and_from, list_all-append, all-imp, path-command)

-- a path between a front and a parenthesis
ended-further : (front t : List ℕ) → list_all is_path_byte t ≡ true → is_further front ≡ true → is_further (front ++ (t ++ codes ")")) ≡ true
unfolding is_command
ended-further [] t legal is = after-path t (codes ")") legal refl
ended-further (b ∷ front) t legal is = search (rules, and_parts, and_from, list_all-append, all-imp, path-command)

back-further : (t name : List ℕ) → list_all is_path_byte t ≡ true → list_all is_path_byte name ≡ true → list_all is_further (back_for t name) ≡ true
unfolding is_command
back-further t name legal named =
    and_from _ _ (ended-further (codes "    $(deps_") t legal refl) (and_from _ _ (after-path name (codes ": $(deps_" ++ (name ++ codes ")")) named (ended-further (codes ": $(deps_") name named refl)) refl)

elsewhere-further : (directory tree t : List ℕ) (xs : List (List ℕ)) → list_all is_path_byte tree ≡ true → list_all is_path_byte t ≡ true → list_all is_name xs ≡ true
    → (name : Option (List ℕ)) → name ≡ named_in directory t → list_all is_further (option_map_or (λ name. lines_for tree t name xs) name []) ≡ true
elsewhere-further directory tree t xs tree_legal legal names None is = refl
elsewhere-further directory tree t xs tree_legal legal names (Some name) is =
    let named = name-legal directory t name legal (sym is) in
    let stamps = list_all-map is_further (stamp_line_of tree) xs ∙ all-imp is_name (λ x. is_further (stamp_line_of tree x)) (λ x. stamp-of-further tree x tree_legal) xs names in
    search (rules, and_from, list_all-append, front-further, back-further)

-- ---- all of them

all-further : (owns : Bool) (d : Dialect) (elsewhere : Option (List ℕ × List ℕ)) (t : List ℕ) (xs : List (List ℕ)) → list_all is_path_byte t ≡ true → list_all is_name xs ≡ true
    → IfSome elsewhere (λ e. IsTrue (is_path e.1)) → list_all is_further (further_lines owns d elsewhere t xs) ≡ true
all-further owns d elsewhere t xs legal names tree =
    list_all-append is_further (if owns then own_lines d t xs else []) _
    ∙ and_from _ _ (owned owns) (placed elsewhere tree)
  where
    owned : (owns : Bool) → list_all is_further (if owns then own_lines d t xs else []) ≡ true
    owned false = refl
    owned true = own-further d t xs legal names

    placed : (elsewhere : Option (List ℕ × List ℕ)) → IfSome elsewhere (λ e. IsTrue (is_path e.1))
        → list_all is_further (option_map_or (λ e. elsewhere_lines e.0 e.1 t xs) elsewhere []) ≡ true
    placed None tree = refl
    placed (Some e) tree = elsewhere-further e.0 e.1 t xs (path-bytes e.1 tree) legal names (named_in e.0 t) refl

pub further_lines_read : ((n : ℕ) → n < 2 ^ 64 → decimal_value (decimal n) ≡ Some n) → FurtherLinesAreRead
further_lines_read back owns d elsewhere f legal tree =
    let target = path-bytes f.target (target-path f.target legal.target) in
    lines-read f _ (followed-reads back f _ legal (all-further owns d elsewhere f.target (config_names f.deps) target (names-legal f.deps legal.deps) tree))
