-- The lines of a written text are those of the layout and the line of the generation, and so the text reads as what was written.
use Rattle.ks_fixdep.proofs.Prelude.{append-nil, filter_map-append, following, subst, flat_map-append, sym, ap₂, take, take-append-drop, bytes_eq, take_while, is_word_byte, drop, dep_in, deps_in, line_feed, length, length-append, ◌≡◌, ℕ, ◌<◌, ◌^◌, Bool, true, false, List, [], ◌∷◌, ◌++◌, refl, ap, ◌∙◌, Option, Some, None, append_assoc, map, ◌==◌, not, arith, common_steps, flat_map, decimal, IfSome, unwrap_or, list_all, filter_map, cond-false, and_parts, and_from, not-true, list_all-map, map-append, list_all-append, last_of, is_name, is_path, is_path_byte, decimal_value, Dep, File, Config, lines, content, CommandRecord, is_command, is_dep, IsLegal, dep_line, layout, generation_mark, generation_line, ended, command_text, generation_in, is_sound, CommandReads, rules}
use Rattle.ks_fixdep.specs.CommandFile.{is_command_byte}
use Rattle.ks_fixdep.specs.CommandReading.{onto_deps}
use Rattle.ks_fixdep.specs.OwnLines.{is_further}
use Rattle.ks_symbols.proofs.Spellings.{run_split}
use Rattle.ks_fixdep.proofs.CommandPatternLemmas.{bytes-same, dep-line, other-byte, all-imp, path-bytes, target-path, before-end, after-prefix}

-- ---- no line of the layout has a line feed in it, so the lines of the text are these

abbrev pub is_plain_byte : ℕ → Bool
is_plain_byte b = not (b == 10)

abbrev pub is_plain : List ℕ → Bool
is_plain x = list_all is_plain_byte x

lines-prefix : (x rest : List ℕ) → is_plain x ≡ true → lines (x ++ 10 ∷ rest) ≡ (x ++ 10 ∷ []) ∷ lines rest
unfolding lines
lines-prefix [] rest plain = refl
lines-prefix (b ∷ x) rest plain = search (rules, and_parts, cond-false, not-true, (lines-prefix x rest))

lines-ended : (xs : List (List ℕ)) → list_all is_plain xs ≡ true → lines (flat_map ended xs) ≡ map ended xs
unfolding lines
lines-ended [] plain = refl
lines-ended (x ∷ xs) plain = search (rules, and_parts, append_assoc, lines-prefix, (lines-ended xs))

pub content-ended : (x : List ℕ) → content (ended x) ≡ x
unfolding content
content-ended x = ap ((λ o. unwrap_or o (ended x))) (before-end x (10 ∷ []))

plain-append : (x y : List ℕ) → is_plain x ≡ true → is_plain y ≡ true → is_plain (x ++ y) ≡ true
plain-append x y px py = search (rules, list_all-append, and_from)

-- bytes of a kind without the line feed
plain-bytes : (p : ℕ → Bool) (x : List ℕ) → p 10 ≡ false → list_all p x ≡ true → is_plain x ≡ true
plain-bytes p x none legal = search (rules, all-imp, other-byte)

plain-path : (p : List ℕ) → is_path p ≡ true → is_plain p ≡ true
plain-path p legal = plain-bytes is_path_byte p refl (path-bytes p legal)

plain-dep : (d : Dep) → is_dep d ≡ true → is_plain (dep_line d) ≡ true
unfolding is_name
plain-dep (File p) legal = search (rules, plain-append, plain-path)
plain-dep (Config x) legal = search (rules, plain-append, and_parts, plain-bytes)

-- a dependency line that a text begins with, by its bytes
pub dep-ahead : (d : Dep) (text rest : List ℕ) → is_dep d ≡ true → text ≡ dep_line d ++ line_feed ++ rest
    → (deps_in (lines text) ≡ d ∷ deps_in (lines rest)) × (lines rest ≡ drop 1 (lines text)) × (length rest < length text)
unfolding deps_in
dep-ahead d text rest legal is =
    let first = ap lines (is ∙ append_assoc (dep_line d) line_feed rest) ∙ lines-prefix (dep_line d) rest (plain-dep d legal) in
    let says = ap dep_in (content-ended (dep_line d)) ∙ dep-line d legal in (
      ap deps_in first ∙ ap (λ o. onto_deps o (deps_in (lines rest))) says,
      sym (ap (drop 1) first),
      omega (arith, ap length is, length-append (dep_line d ++ line_feed) rest, length-append (dep_line d) line_feed),
    )

-- a text is the mark that it begins with and what follows
pub mark-split : (text mark after : List ℕ) → bytes_eq (take (length mark) text) mark ≡ true → after ≡ drop (length mark) text → text ≡ mark ++ after
mark-split text mark after a b = sym (take-append-drop (length mark) text) ∙ ap₂ (λ x y. x ++ y) (bytes-same _ _ a) (sym b)

-- a text is the word that it begins with and what follows
pub word-split : (after name rest : List ℕ) → name ≡ take_while is_word_byte after → rest ≡ drop (length name) after → after ≡ name ++ rest
word-split after name rest a b = run_split is_word_byte after ∙ sym (ap₂ (λ x y. x ++ y) a (b ∙ ap (λ x. drop (length x) after) a))

plain-generation : (g : Option ℕ) → IfSome g (λ x. decimal_value (decimal x) ≡ Some x) → list_all is_plain (generation_line g) ≡ true
plain-generation None back = refl
plain-generation (Some g) back = search (rules, and_parts, and_from, plain-bytes)

plain-layout : (f : CommandRecord) → IsLegal f → list_all is_plain (layout f) ≡ true
unfolding is_command
plain-layout f legal = search (rules, plain-path, target-path, plain-append, plain-bytes, list_all-append, list_all-map, and_from, all-imp, plain-dep)

-- ---- the text reads

contents-ended : (xs : List (List ℕ)) → map content (map ended xs) ≡ xs
contents-ended [] = refl
contents-ended (x ∷ xs) = search (rules, content-ended, (contents-ended xs))

-- the line of a generation says it
generation_in-line : (g : ℕ) → decimal_value (decimal g) ≡ Some g → generation_in (ended (generation_mark ++ decimal g)) ≡ Some g
generation_in-line g back = search (rules, after-prefix, before-end)

appended-sound : (g : Option ℕ) → IfSome g (λ x. decimal_value (decimal x) ≡ Some x) → list_all is_sound (map ended (generation_line g)) ≡ true
appended-sound g back = grind (arith, common_steps, generation_in-line)

appended-last : (g : Option ℕ) → IfSome g (λ x. decimal_value (decimal x) ≡ Some x) → g ≡ last_of (filter_map generation_in (map ended (generation_line g)))
unfolding last_of
appended-last g back = grind (arith, common_steps, generation_in-line)

-- a line that is no comment says no generation, and is sound
further-none : (line : List ℕ) → is_further line ≡ true → following generation_mark (ended line) ≡ None
further-none [] is = refl
further-none (b ∷ line) is = grind (arith, common_steps, and_parts, not-true)

furthers-none : (ls : List (List ℕ)) → list_all is_further ls ≡ true → filter_map generation_in (map ended ls) ≡ []
furthers-none [] are = refl
furthers-none (l ∷ ls) are = search (rules, and_parts, further-none, (furthers-none ls))

further-sound : (line : List ℕ) → is_further line ≡ true → is_sound (ended line) ≡ true
further-sound line is = search (rules, further-none)

further-plain : (line : List ℕ) → is_further line ≡ true → is_plain line ≡ true
unfolding is_command
further-plain [] is = refl
further-plain (b ∷ line) is = plain-bytes is_command_byte (b ∷ line) refl (and_parts _ _ is).1

sounds : (g : Option ℕ) (ls : List (List ℕ)) → IfSome g (λ x. decimal_value (decimal x) ≡ Some x) → list_all is_further ls ≡ true
    → list_all is_sound (map ended (generation_line g ++ ls)) ≡ true
sounds g ls back are = search (rules, map-append, list_all-append, list_all-map, and_from, appended-sound, all-imp, further-sound)

lasts : (g : Option ℕ) (ls : List (List ℕ)) → IfSome g (λ x. decimal_value (decimal x) ≡ Some x) → list_all is_further ls ≡ true
    → g ≡ last_of (filter_map generation_in (map ended (generation_line g ++ ls)))
lasts g ls back are = search (rules, map-append, filter_map-append, furthers-none, append-nil, appended-last)

-- what is written of a command file reads as it, whatever such lines follow
pub followed-reads : ((n : ℕ) → n < 2 ^ 64 → decimal_value (decimal n) ≡ Some n) → (f : CommandRecord) (ls : List (List ℕ)) → IsLegal f → list_all is_further ls ≡ true
    → CommandReads (command_text f ++ flat_map ended ls) f
followed-reads back f ls legal are =
    let g : IfSome f.generation (λ x. decimal_value (decimal x) ≡ Some x) = grind (arith, common_steps, back) in
    let more = generation_line f.generation ++ ls in
    let last = list_all-append is_plain (generation_line f.generation) ls
    ∙ and_from _ _ (plain-generation f.generation g) (all-imp is_further is_plain further-plain ls are) in
    let plain = list_all-append is_plain (layout f) more ∙ and_from _ _ (plain-layout f legal) last in
    let whole = sym (flat_map-append ended (layout f ++ generation_line f.generation) ls) ∙ ap (flat_map ended) (append_assoc (layout f) (generation_line f.generation) ls) in
    record {
      laid_out = map ended (layout f);
      appended = map ended more;
      legal = legal;
      parts = ap lines whole ∙ lines-ended (layout f ++ more) plain ∙ map-append ended (layout f) more;
      fits = contents-ended (layout f);
      sound = sounds f.generation ls g are;
      generation = lasts f.generation ls g are;
    }

pub written-reads : ((n : ℕ) → n < 2 ^ 64 → decimal_value (decimal n) ≡ Some n) → (f : CommandRecord) → IsLegal f → CommandReads (command_text f) f
written-reads back f legal = subst (λ t. CommandReads t f) (append-nil (command_text f)) (followed-reads back f [] legal refl)
