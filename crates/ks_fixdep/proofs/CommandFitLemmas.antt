-- Lines that fit the layout are read, and lines that are read fit it.
use Rattle.ks_fixdep.proofs.Prelude.{◌≡◌, ℕ, ◌+◌, true, List, [], ◌∷◌, ◌++◌, length, take, drop, refl, sym, ap, ap₂, ◌∙◌, Option, Some, None, Result, Ok, map, append_assoc, subst, ◌<◌, ◌^◌, if◌then◌else◌, IfSome, not, ◌||◌, option_and_then, before, between, following, line_feed, generation_mark, decimal_value, option_or, list_all, filter_map, cons_option, bytes_eq, map-append, cond-true, ltb-true, and_from, and_parts, last_of, is_path, Dep, content, CommandRecord, back_lines, checked, is_dep, IsLegal, dep_line, deps_begin, target_line, deps_end, layout, generation_in, is_sound, LinesRead, dep_in, saved_command, source_in, ◌>>=◌, or_fault, fixed_at, pattern_at, deps_in, onto_deps, stated, generation_from, end_from, record_in, source_line, arith, common_steps, rules}
use Rattle.std.specs.Prelude.{is_some}
use Rattle.ks_fixdep.specs.CommandReading.{stated_after}
use Rattle.std.proofs.lemmas.List.{take-append-drop}
use Rattle.ks_fixdep.proofs.CommandPatternLemmas.{SavedLine, bytes-refl, bytes-same, if-some, saved_command-line, source_in-line, dep-line, dep_in-none, saved_command-is, source_in-is, dep_in-is}

-- ---- dependency lines

-- the lines of the dependencies are read, and so these lines are left
deps-fit : (ds : List Dep) (ls xs more : List (List ℕ)) → map content ls ≡ map dep_line ds ++ [] ∷ xs → list_all is_dep ds ≡ true → (left : List (List ℕ))
    × (deps_in (ls ++ more) ≡ ds) × (drop (length ds) (ls ++ more) ≡ left ++ more) × (map content left ≡ [] ∷ xs)
unfolding deps_in
deps-fit [] [] xs more e legal = absurd cc
deps-fit [] (l ∷ ls) xs more e legal = let none : deps_in (l ∷ (ls ++ more)) ≡ [] = search (rules, dep_in-none) in (l ∷ ls, none, refl, e)
deps-fit (d ∷ ds) [] xs more e legal = absurd cc
deps-fit (d ∷ ds) (l ∷ ls) xs more e legal =
    let first : content l ≡ dep_line d = cc in
    let rest : map content ls ≡ map dep_line ds ++ [] ∷ xs = cc in
    let parts = and_parts (is_dep d) (list_all is_dep ds) legal in
    let later = deps-fit ds ls xs more rest parts.1 in
    (later.0, ap₂ onto_deps (ap dep_in first ∙ dep-line d parts.0) later.1, later.2, later.3)

-- ---- the generation

stated_after-is : (n : ℕ) (after : Option (List ℕ)) → let g = option_and_then decimal_value (option_and_then (before line_feed) after) in
    stated_after n after ≡ or_fault n (if not (is_some after) || is_some g then Some g else None)
stated_after-is n None = refl
stated_after-is n (Some x) =
    elim (option_and_then decimal_value (before line_feed x)) as (λ g. (or_fault n g >>= λ g. Ok (Some g)) ≡ or_fault n (if is_some g then Some g else None))
    [ None ↦ refl | Some g ↦ refl ]

pub stated-is : (n : ℕ) (line : List ℕ) → stated n line ≡ or_fault n (if is_sound line then Some (generation_in line) else None)
unfolding stated
stated-is n line = stated_after-is n (following generation_mark line)

last-cons : (o : Option ℕ) (xs : List ℕ) → option_or (last_of xs) o ≡ last_of (cons_option o xs)
unfolding last_of
last-cons o [] = search rules
last-cons o (x ∷ []) = search rules
last-cons o (x ∷ y ∷ xs) = grind (arith, common_steps, (last-cons o (y ∷ xs)))

generation-sound : (n : ℕ) (ls : List (List ℕ)) → list_all is_sound ls ≡ true → generation_from n ls ≡ Ok (last_of (filter_map generation_in ls))
unfolding generation_from last_of
generation-sound n [] sound = refl
generation-sound n (l ∷ ls) sound = grind (arith, common_steps, stated-is, last-cons, and_parts, (generation-sound (n + 1) ls))

-- ---- the whole

end-fits : (n : ℕ) (t : List ℕ) (ls more : List (List ℕ)) → map content ls ≡ back_lines t → end_from n t (ls ++ more) ≡ generation_from (n + 4) more
unfolding end_from fixed_at
end-fits n t (a ∷ b ∷ c ∷ d ∷ []) more e = search (rules, cond-true, bytes-refl)
end-fits n t ls more e = absurd cc

record-fits : (f : CommandRecord) (ls more : List (List ℕ)) → IsLegal f → map content ls ≡ layout f
    → generation_from (6 + length f.deps + 4) more ≡ Ok f.generation
    → record_in (ls ++ more) ≡ Ok f
unfolding record_in pattern_at fixed_at
record-fits f (a ∷ b ∷ c ∷ d ∷ g ∷ ls) more legal e generation =
    let rest : map content ls ≡ map dep_line f.deps ++ back_lines f.target = cc in
    let deps = deps-fit f.deps ls _ more rest legal.deps in
    let end = end-fits (6 + length f.deps) f.target deps.0 more deps.3 in
    search (rules, cond-true, bytes-refl, saved_command-line, source_in-line)
record-fits f ls more legal e generation = absurd cc

-- what fits is read
pub lines-read : (f : CommandRecord) (ls : List (List ℕ)) → LinesRead ls f → record_in ls ≡ Ok f
lines-read f ls is = search (rules, record-fits, generation-sound)

-- ---- what is read fits

-- these bytes are a form
pub fixed-pattern : {Y : Type 0} (n : ℕ) (x : List ℕ) (next : List (List ℕ) → Result Y ℕ) (ls : List (List ℕ))
    → (fixed_at n x ls >>= next) ≡ (pattern_at n (checked (λ l. bytes_eq l x)) ls >>= λ p. next p.1)
unfolding fixed_at pattern_at
fixed-pattern n x next ls = grind (arith, common_steps)

-- a line that says this, and the lines after it, which are read on
record Taken {A Y : Type 0} (Says : A → List ℕ → Type 0) (next : A × List (List ℕ) → Result Y ℕ) (ls : List (List ℕ)) (y : Y) : Type 0 where
  line : List ℕ
  rest : List (List ℕ)
  value : A
  is : ls ≡ line ∷ rest
  says : Says value (content line)
  reads : next (value, rest) ≡ Ok y

pattern-taken : {A Y : Type 0} (Says : A → List ℕ → Type 0) (n : ℕ) (pattern : List ℕ → Option A) (next : A × List (List ℕ) → Result Y ℕ) (ls : List (List ℕ)) (y : Y)
    → ((a : A) (x : List ℕ) → pattern x ≡ Some a → Says a x) → (pattern_at n pattern ls >>= next) ≡ Ok y → Taken Says next ls y
unfolding pattern_at
pattern-taken Says n pattern next ls y says e = search (rules, says)

fixed-taken : {Y : Type 0} (n : ℕ) (x : List ℕ) (next : List (List ℕ) → Result Y ℕ) (ls : List (List ℕ)) (y : Y) → (fixed_at n x ls >>= next) ≡ Ok y
    → Taken {A = List ℕ} (λ _ c. c ≡ x) (λ p. next p.1) ls y
fixed-taken n x next ls y e = search (rules, pattern-taken, bytes-same, if-some, fixed-pattern)

-- the dependency lines in front
deps-begin : (ls : List (List ℕ)) → (map content (take (length (deps_in ls)) ls) ≡ map dep_line (deps_in ls)) × (list_all is_dep (deps_in ls) ≡ true)
unfolding deps_in
deps-begin [] = (refl, refl)
deps-begin (l ∷ ls) = one_more (dep_in (content l)) (deps-begin ls) (dep_in-is (content l))
  where
    one_more : (o : Option Dep) → (map content (take (length (deps_in ls)) ls) ≡ map dep_line (deps_in ls)) × (list_all is_dep (deps_in ls) ≡ true)
        → ((d : Dep) → o ≡ Some d → (is_dep d ≡ true) × (content l ≡ dep_line d)) → let all = onto_deps o (deps_in ls) in
        (map content (take (length all) (l ∷ ls)) ≡ map dep_line all) × (list_all is_dep all ≡ true)
    one_more o later says = grind (arith, common_steps, says)

-- a value that came through a step
record Steps {A B : Type 0} (from : Result A ℕ) (step : A → Result B ℕ) (to : B) : Type 0 where
  value : A
  first : from ≡ Ok value
  next : step value ≡ Ok to

steps : {A B : Type 0} (from : Result A ℕ) (step : A → Result B ℕ) (to : B) → (from >>= step) ≡ Ok to → Steps from step to
steps from step to e = search rules

sound-is : (n : ℕ) (line : List ℕ) (o : Option ℕ) → stated n line ≡ Ok o → is_sound line ≡ true
unfolding stated
sound-is n line o e = search rules

generation-sounds : (n : ℕ) (ls : List (List ℕ)) (g : Option ℕ) → generation_from n ls ≡ Ok g → list_all is_sound ls ≡ true
unfolding generation_from
generation-sounds n [] g e = refl
generation-sounds n (l ∷ ls) g e =
    let own = steps (stated n l) _ g e in
    let later = steps (generation_from (n + 1) ls) _ g own.next in
    and_from (is_sound l) (list_all is_sound ls) (sound-is n l own.value own.first) (generation-sounds (n + 1) ls later.value later.first)

generation-is : (n : ℕ) (ls : List (List ℕ)) (g : Option ℕ) → generation_from n ls ≡ Ok g → (list_all is_sound ls ≡ true)
    × (g ≡ last_of (filter_map generation_in ls))
generation-is n ls g e =
    let sound = generation-sounds n ls g e in
    let says = generation-sound n ls sound in
    (sound, cc)

ok-same : {A : Type 0} (x y : A) (r : Result A ℕ) → r ≡ Ok x → r ≡ Ok y → x ≡ y
ok-same x y r is e = cc

-- a decimal that is read is below 2^64
abbrev IsBelow : Option ℕ → Type 0
IsBelow o = IfSome o (λ g. g < 2 ^ 64)

value-below : (text : List ℕ) → IsBelow (decimal_value text)
value-below text = grind (arith, common_steps, ltb-true)

in-below : (text : Option (List ℕ)) → IsBelow (option_and_then decimal_value text)
in-below None = tt
in-below (Some text) = value-below text

either-below : (a b : Option ℕ) → IsBelow a → IsBelow b → IsBelow (option_or a b)
either-below None b a_is b_is = b_is
either-below (Some x) b a_is b_is = a_is

last-below : (ls : List (List ℕ)) → IsBelow (last_of (filter_map generation_in ls))
unfolding last_of
last-below [] = tt
last-below (l ∷ ls) =
    let later = filter_map generation_in ls in
    let own = in-below (between generation_mark line_feed l) in
    subst IsBelow (last-cons (generation_in l) later) (either-below (last_of later) (generation_in l) (last-below ls) own)

-- lines with these contents, and the lines after them
record Front (xs more ls : List (List ℕ)) : Type 0 where
  laid : List (List ℕ)
  parts : ls ≡ laid ++ more
  fits : map content laid ≡ xs

prefix-one : {x line : List ℕ} {xs more rest ls : List (List ℕ)} → ls ≡ line ∷ rest → content line ≡ x → Front xs more rest → Front (x ∷ xs) more ls
prefix-one {line = line} is says f = record { laid = line ∷ f.laid; parts = is ∙ ap (λ l. line ∷ l) f.parts; fits = ap₂ (λ c l. c ∷ l) says f.fits }

prefix-deps : (ds : List Dep) (xs more ls : List (List ℕ)) → map content (take (length ds) ls) ≡ map dep_line ds → Front xs more (drop (length ds) ls)
    → Front (map dep_line ds ++ xs) more ls
prefix-deps ds xs more ls fits f =
    let n = length ds in
    record {
      laid = take n ls ++ f.laid;
      parts = cc (take-append-drop n ls, append_assoc (take n ls) f.laid more);
      fits = cc (map-append content (take n ls) f.laid);
    }

-- the lines after the dependency lines
record Ends (t : List ℕ) (ls : List (List ℕ)) (g : Option ℕ) : Type 0 where
  more : List (List ℕ)
  prefix : Front (back_lines t) more ls
  sound : list_all is_sound more ≡ true
  last : g ≡ last_of (filter_map generation_in more)

end-ends : (n : ℕ) (t : List ℕ) (ls : List (List ℕ)) (g : Option ℕ) → end_from n t ls ≡ Ok g → Ends t ls g
unfolding end_from
end-ends n t ls g e =
    let e1 = fixed-taken n [] _ ls g e in
    let e2 = fixed-taken (n + 1) (target_line t) _ e1.rest g e1.reads in
    let e3 = fixed-taken (n + 2) [] _ e2.rest g e2.reads in
    let e4 = fixed-taken (n + 3) (deps_end t) _ e3.rest g e3.reads in
    let says = generation-is (n + 4) e4.rest g e4.reads in
    let none : Front [] e4.rest e4.rest = record { laid = []; parts = refl; fits = refl } in
    record {
      more = e4.rest;
      prefix = prefix-one e1.is e1.says (prefix-one e2.is e2.says (prefix-one e3.is e3.says (prefix-one e4.is e4.says none)));
      sound = says.0;
      last = says.1;
    }

-- what is read fits
pub lines-fit : (f : CommandRecord) (ls : List (List ℕ)) → record_in ls ≡ Ok f → LinesRead ls f
unfolding record_in
lines-fit f ls e =
    let s1 = pattern-taken (λ p x. SavedLine x p.0 p.1) 1 saved_command _ ls f (λ p x. saved_command-is x p.0 p.1) e in
    let t = s1.value.0 in
    let s2 = fixed-taken 2 [] _ s1.rest f s1.reads in
    let s3 = pattern-taken (λ s x. (is_path s ≡ true) × (x ≡ source_line t s)) 3 (source_in t) _ s2.rest f (λ s x. source_in-is t x s) s2.reads in
    let s4 = fixed-taken 4 [] _ s3.rest f s3.reads in
    let s5 = fixed-taken 5 (deps_begin t) _ s4.rest f s4.reads in
    let ds = deps_in s5.rest in
    let deps = deps-begin s5.rest in
    let s6 = steps (end_from (6 + length ds) t (drop (length ds) s5.rest)) _ f s5.reads in
    let end = end-ends (6 + length ds) t (drop (length ds) s5.rest) s6.value s6.first in
    let r : CommandRecord = record { target = t; command = s1.value.1; source = s3.value; deps = ds; generation = s6.value } in
    let prefix : Front (layout r) end.more ls =
    prefix-one s1.is s1.says.is (prefix-one s2.is s2.says (prefix-one s3.is s3.says.1 (prefix-one s4.is s4.says (prefix-one s5.is s5.says
    (prefix-deps ds (back_lines t) end.more s5.rest deps.0 end.prefix))))) in
    subst (LinesRead ls) {x = r} (ok-same r f (Ok r) refl s6.next) (record {
      laid_out = prefix.laid;
      appended = end.more;
      legal = record {
        target = s1.says.target_legal;
        command = s1.says.command_legal;
        source = s3.says.0;
        deps = deps.1;
        generation = subst IsBelow (sym end.last) (last-below end.more);
      };
      parts = prefix.parts;
      fits = prefix.fits;
      sound = end.sound;
      generation = end.last;
    })
