-- A refusal names the first line that does not fit: whatever stands after that line it is refused again, and with other lines in its place
-- the lines before it are read.
use Rattle.ks_fixdep.proofs.Prelude.{◌≡◌, ℕ, suc, ◌+◌, ◌-◌, ◌<◌, ◌≤◌, List, [], ◌∷◌, ◌++◌, length, take, drop, refl, sym, ap, ◌∙◌, arith, Option, Some, None, Result, Ok, Err, subst, codes, option_or, if◌then◌else◌, bytes_eq, is_target, is_path, Dep, content, CommandRecord, is_command, deps_begin, target_line, deps_end, ended, IsFirstMisfit, checked, dep_in, saved_command, source_in, generation_in, is_sound, ◌>>=◌, fixed_at, pattern_at, deps_in, generation_from, end_from, record_in, source_line, common_steps, rules}
use Rattle.ks_fixdep.proofs.CommandPatternLemmas.{bytes-refl, saved_command-line, source_in-line, dep_in-none}
use Rattle.ks_fixdep.proofs.CommandFitLemmas.{fixed-pattern, stated-is, lines-fit, lines-read}
use Rattle.ks_fixdep.proofs.CommandTextLemmas.{content-ended}

-- a reader of lines from number n on refuses line m
record Refuses {Y : Type 0} (n : ℕ) (reader : List (List ℕ) → Result Y ℕ) (ls : List (List ℕ)) (m : ℕ) : Type 0 where
  pub place : ℕ
  pub number : m ≡ n + place
  pub within : place ≤ length ls
  pub again : (more : List (List ℕ)) → place < length ls → reader (take (suc place) ls ++ more) ≡ Err m
  pub more : List (List ℕ)
  pub value : Y
  pub reads : reader (take place ls ++ more) ≡ Ok value

-- a reader of lines from number n on that reads some lines, and refuses so
record IsReader {Y : Type 0} (n : ℕ) (reader : List (List ℕ) → Result Y ℕ) : Type 0 where
  pub lines : List (List ℕ)
  pub value : Y
  pub reads : reader lines ≡ Ok value
  pub refuses : (ls : List (List ℕ)) (m : ℕ) → reader ls ≡ Err m → Refuses n reader ls m

-- what is read after line n, by what that line says
abbrev tried : {A Y : Type 0} → ℕ → Option A → (A → List (List ℕ) → Result Y ℕ) → List (List ℕ) → Result Y ℕ
tried n None next ls = Err n
tried n (Some a) next ls = next a ls

-- a refusal of the first line
at-first : {Y : Type 0} (n : ℕ) (reader : List (List ℕ) → Result Y ℕ) (ls more : List (List ℕ)) (value : Y) (m : ℕ) → reader more ≡ Ok value → n ≡ m
    → ((xs : List (List ℕ)) → 0 < length ls → reader (take 1 ls ++ xs) ≡ Err n) → Refuses n reader ls m
at-first n reader ls more value m reads same again = search rules

-- .. or of one after it
first-line : {A Y : Type 0} (n k : ℕ) (reader : List (List ℕ) → Result Y ℕ) (next : A → List (List ℕ) → Result Y ℕ) (o : Option A) (l : List ℕ)
    (ls more : List (List ℕ)) (value : Y) (m : ℕ)
    → k ≡ n + 1 → ((xs : List (List ℕ)) → reader (l ∷ xs) ≡ tried n o next xs) → reader more ≡ Ok value → reader (l ∷ ls) ≡ Err m
    → ((a : A) → o ≡ Some a → next a ls ≡ Err m → Refuses k (next a) ls m) → Refuses n reader (l ∷ ls) m
first-line n k reader next None l ls more value m after first reads e rest =
    let is = first ls in
    let same : n ≡ m = cc in
    at-first n reader (l ∷ ls) more value m reads same (λ xs _. first xs)
first-line n k reader next (Some a) l ls more value m after first reads e rest =
    let r = rest a refl (sym (first ls) ∙ e) in
    record {
      place = suc r.place;
      number = omega (arith, r.number);
      within = omega (arith, r.within);
      again = λ xs lt. first (take (suc r.place) ls ++ xs) ∙ r.again xs (omega arith);
      more = r.more;
      value = r.value;
      reads = first (take r.place ls ++ r.more) ∙ r.reads;
    }

-- ---- one line

pattern-reader : {A Y : Type 0} (n k : ℕ) (pattern : List ℕ → Option A) (x : List ℕ) (a : A) (next : A → List (List ℕ) → Result Y ℕ) → k ≡ n + 1 → pattern x ≡ Some a
    → ((b : A) (line : List ℕ) → pattern line ≡ Some b → IsReader k (next b)) → IsReader n (λ ls. pattern_at n pattern ls >>= λ p. next p.0 p.1)
unfolding pattern_at
pattern-reader {A = A} {Y = Y} n k pattern x a next after says readers = record { lines = ended x ∷ r.lines; value = r.value; reads = reads; refuses = refuses }
  where
    r : IsReader k (next a)
    r = readers a x says

    first : (l : List ℕ) (ls : List (List ℕ)) → (pattern_at n pattern (l ∷ ls) >>= λ p. next p.0 p.1) ≡ tried n (pattern (content l)) next ls
    first l ls = search rules

    reads : (pattern_at n pattern (ended x ∷ r.lines) >>= λ p. next p.0 p.1) ≡ Ok r.value
    reads = first (ended x) r.lines ∙ ap (λ o. tried n o next r.lines) (ap pattern (content-ended x) ∙ says) ∙ r.reads

    refuses : (ls : List (List ℕ)) (m : ℕ) → (pattern_at n pattern ls >>= λ p. next p.0 p.1) ≡ Err m → Refuses n (λ ls. pattern_at n pattern ls >>= λ p. next p.0 p.1) ls m
    refuses [] m e = let same : n ≡ m = cc in at-first n _ [] (ended x ∷ r.lines) r.value m reads same (λ xs lt. absurd (omega arith))
    refuses (l ∷ ls) m e =
        first-line n k _ next (pattern (content l)) l ls (ended x ∷ r.lines) r.value m after (first l) reads e
        (λ b is. (readers b (content l) is).refuses ls m)

-- a reader that answers as another one does
alike-reader : {Y : Type 0} (n : ℕ) (f g : List (List ℕ) → Result Y ℕ) → ((ls : List (List ℕ)) → g ls ≡ f ls) → IsReader n f → IsReader n g
alike-reader n f g same r = search rules

fixed-reader : {Y : Type 0} (n k : ℕ) (x : List ℕ) (next : List (List ℕ) → Result Y ℕ) → k ≡ n + 1 → IsReader k next
    → IsReader n (λ ls. fixed_at n x ls >>= next)
fixed-reader n k x next after r =
    alike-reader n _ _ (fixed-pattern n x next) (pattern-reader n k (checked (λ l. bytes_eq l x)) x x (λ _. next) after
    (ap (λ b. if b then Some x else None) (bytes-refl x)) (λ _ _ _. r))

then-then : {A B C : Type 0} (r : Result A ℕ) (f : A → Result B ℕ) (g : B → Result C ℕ) → ((r >>= f) >>= g) ≡ (r >>= λ a. f a >>= g)
then-then r f g = search rules

-- .. and reads on with what was read
fixed-then : {Y Z : Type 0} (n k : ℕ) (x : List ℕ) (next : List (List ℕ) → Result Y ℕ) (h : Y → Result Z ℕ) → k ≡ n + 1 → IsReader k (λ ls. next ls >>= h)
    → IsReader n (λ ls. (fixed_at n x ls >>= next) >>= h)
fixed-then n k x next h after r = alike-reader n _ _ (λ ls. then-then (fixed_at n x ls) next h) (fixed-reader n k x (λ ls. next ls >>= h) after r)

-- ---- the lines after the layout

generation-first : {Y : Type 0} (n : ℕ) (h : Option ℕ → Y) (l : List ℕ) (ls : List (List ℕ)) → (generation_from n (l ∷ ls) >>= λ g. Ok (h g))
    ≡ tried n (if is_sound l then Some (generation_in l) else None) (λ own xs. generation_from (n + 1) xs >>= λ g. Ok (h (option_or g own))) ls
unfolding generation_from
generation-first n h l ls = grind (arith, common_steps, stated-is)

generation-refuses : {Y : Type 0} (n : ℕ) (h : Option ℕ → Y) (ls : List (List ℕ)) (m : ℕ) → (generation_from n ls >>= λ g. Ok (h g)) ≡ Err m
    → Refuses n (λ xs. generation_from n xs >>= λ g. Ok (h g)) ls m
unfolding generation_from
generation-refuses n h [] m e = absurd cc
generation-refuses n h (l ∷ ls) m e =
    first-line n (n + 1) (λ xs. generation_from n xs >>= λ g. Ok (h g)) (λ own xs. generation_from (n + 1) xs >>= λ g. Ok (h (option_or g own)))
    (if is_sound l then Some (generation_in l) else None) l ls [] (h None) m refl (generation-first n h l) refl e
    (λ own _. generation-refuses (n + 1) (λ g. h (option_or g own)) ls m)

generation-reader : {Y : Type 0} (n : ℕ) (h : Option ℕ → Y) → IsReader n (λ xs. generation_from n xs >>= λ g. Ok (h g))
unfolding generation_from
generation-reader n h = record { lines = []; value = h None; reads = refl; refuses = generation-refuses n h }

-- ---- the dependency lines

reader-at : {Y : Type 0} (n k : ℕ) (reader : List (List ℕ) → Result Y ℕ) → n ≡ k → IsReader n reader → IsReader k reader
reader-at n k reader same r = let P : ℕ → Type 0 = λ j. IsReader j reader in subst P same r

-- the reader of the dependency lines, of the empty line after them, and of what follows
abbrev after-deps : {Y : Type 0} → ℕ → (List Dep → List (List ℕ) → Result Y ℕ) → List (List ℕ) → Result Y ℕ
after-deps n next ls = fixed_at (n + length (deps_in ls)) [] (drop (length (deps_in ls)) ls) >>= next (deps_in ls)

-- one of the dependency lines, or the empty line after them
abbrev asked : Option Dep → List ℕ → Option (Option Dep)
asked None line = if bytes_eq line [] then Some None else None
asked (Some d) line = Some (Some d)

abbrev left : {Y : Type 0} → ℕ → (List Dep → List (List ℕ) → Result Y ℕ) → Option Dep → List (List ℕ) → Result Y ℕ
left n next None = next []
left n next (Some d) = after-deps (n + 1) (λ ds. next (d ∷ ds))

deps-first : {Y : Type 0} (n : ℕ) (next : List Dep → List (List ℕ) → Result Y ℕ) (l : List ℕ) (ls : List (List ℕ)) (o : Option Dep) → dep_in (content l) ≡ o
    → after-deps n next (l ∷ ls) ≡ tried n (asked o (content l)) (left n next) ls
unfolding deps_in fixed_at
deps-first n next l ls o is = grind (arith, common_steps)

-- where it reads at once what follows
deps-reads : {Y : Type 0} (n : ℕ) (next : List Dep → List (List ℕ) → Result Y ℕ) (r : IsReader (n + 1) (next []))
    → after-deps n next (ended [] ∷ r.lines) ≡ Ok r.value
unfolding content
deps-reads n next r = deps-first n next (ended []) r.lines None dep_in-none ∙ r.reads

deps-refuses : {Y : Type 0} (ls : List (List ℕ)) (n : ℕ) (next : List Dep → List (List ℕ) → Result Y ℕ)
    → ((ds : List Dep) → IsReader (n + 1 + length ds) (next ds)) → (m : ℕ) → after-deps n next ls ≡ Err m → Refuses n (after-deps n next) ls m
unfolding fixed_at deps_in content
deps-refuses [] n next readers m e =
    let r = reader-at (n + 1 + 0) (n + 1) (next []) (omega arith) (readers []) in
    let same : n + 0 ≡ m = cc in
    at-first n (after-deps n next) [] (ended [] ∷ r.lines) r.value m (deps-reads n next r) (omega arith) (λ xs lt. absurd (omega arith))
deps-refuses (l ∷ ls) n next readers m e =
    let r = reader-at (n + 1 + 0) (n + 1) (next []) (omega arith) (readers []) in
    let again = λ (d : Dep). deps-refuses ls (n + 1) (λ ds. next (d ∷ ds)) (λ ds. reader-at (n + 1 + suc (length ds)) (n + 1 + 1 + length ds) (next (d ∷ ds))
    (omega arith) (readers (d ∷ ds))) m in
    first-line n (n + 1) (after-deps n next) (left n next) (asked (dep_in (content l)) (content l)) l ls (ended [] ∷ r.lines) r.value m refl
    (λ xs. deps-first n next l xs (dep_in (content l)) refl) (deps-reads n next r) e
    (λ o _. elim o as (λ p. left n next p ls ≡ Err m → Refuses (n + 1) (left n next p) ls m) [ None ↦ r.refuses ls m | Some d ↦ again d ])

-- ---- the whole

-- what is read after the dependency lines and the empty line
abbrev closing : {Y : Type 0} → ℕ → List ℕ → (Option ℕ → Y) → List (List ℕ) → Result Y ℕ
closing n t h ls =
    (fixed_at (n + 1) (target_line t) ls >>= λ ls. fixed_at (n + 2) [] ls >>= λ ls. fixed_at (n + 3) (deps_end t) ls >>= λ ls. generation_from (n + 4) ls) >>= λ g.
    Ok (h g)

end-reader : {Y : Type 0} (n : ℕ) (t : List ℕ) (h : Option ℕ → Y) → IsReader (n + 1) (closing n t h)
end-reader n t h =
    fixed-then (n + 1) (n + 2) (target_line t) _ _ (omega arith) (fixed-then (n + 2) (n + 3) [] _ _ (omega arith)
    (fixed-then (n + 3) (n + 4) (deps_end t) (generation_from (n + 4)) _ (omega arith) (generation-reader (n + 4) h)))

tail-reader : (t c s : List ℕ) → IsReader {Y = CommandRecord} 6 (λ ls. end_from (6 + length (deps_in ls)) t (drop (length (deps_in ls)) ls) >>= λ g.
    Ok (record { target = t; command = c; source = s; deps = deps_in ls; generation = g }))
unfolding end_from
tail-reader t c s =
    let next : List Dep → List (List ℕ) → Result CommandRecord ℕ =
    λ ds. closing (6 + length ds) t (λ g. record { target = t; command = c; source = s; deps = ds; generation = g }) in
    let readers : (ds : List Dep) → IsReader (6 + 1 + length ds) (next ds) =
    λ ds. reader-at (6 + length ds + 1) (6 + 1 + length ds) (next ds) (omega arith) (end-reader (6 + length ds) t _) in
    alike-reader 6 (after-deps 6 next) _ (λ ls. then-then (fixed_at (6 + length (deps_in ls)) [] (drop (length (deps_in ls)) ls)) _ _)
    (record {
      lines = ended [] ∷ (readers []).lines;
      value = (readers []).value;
      reads = deps-reads 6 next (readers []);
      refuses = λ ls. deps-refuses ls 6 next readers;
    })

record-reader : IsReader 1 record_in
unfolding record_in is_target is_path is_command
record-reader =
    pattern-reader 1 2 saved_command (codes "savedcmd_x := ") (codes "x", []) _ refl (saved_command-line (codes "x") [] refl refl)
    (λ saved line is. fixed-reader 2 3 [] _ refl
    (pattern-reader 3 4 (source_in saved.0) (source_line saved.0 (codes "x")) (codes "x") _ refl (source_in-line saved.0 (codes "x") refl)
    (λ source line is. fixed-reader 4 5 [] _ refl
    (fixed-reader 5 6 (deps_begin saved.0) _ refl (tail-reader saved.0 saved.1 source)))))

-- a refusal names the first line that does not fit
pub first-misfit : (ls : List (List ℕ)) (n : ℕ) → record_in ls ≡ Err n → IsFirstMisfit ls n
first-misfit ls n e =
    let f = record-reader.refuses ls n e in
    let number : n - 1 ≡ f.place = omega (arith, f.number) in
    let next : n ≡ suc f.place = omega (arith, f.number) in
    record {
      counted = omega (arith, f.number);
      within = omega (arith, f.number, f.within);
      before = record { more = f.more; file = f.value; reads = lines-fit f.value _ (ap (λ k. record_in (take k ls ++ f.more)) number ∙ f.reads) };
      misfit = λ there begun.
          let read = lines-read begun.file (take n ls ++ begun.more) begun.reads in
          let refused = ap (λ k. record_in (take k ls ++ begun.more)) next ∙ f.again begun.more (omega (arith, f.number)) in
          absurd cc;
    }
