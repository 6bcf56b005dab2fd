-- The causes that stamps give, name by name, and the verdict of them.
use Rattle.ks_engine.proofs.Prelude.{map, ◌≡◌, ◌⊎◌, inl, inr, ⊎_elim, ℕ, ◌+◌, ◌≤◌, List, [], ◌∷◌, ◌++◌, Ok, Err, cond, nat_lt, sym, ◌∙◌, ap, refl, arith, length, drop, append_assoc, bytes_eq, find, filter, All, cond-true, cond_both, cases_Bool, drop_all, map-append, All-nil, All-push, filter-append, bytes_eq-Decides, Dep, File, Config, Files, content, stamp_path, HasNumber, IsStampRefusal, TreeError, Cause, Limit, First, placed, cause, AreCauses, AreEnough, AreTooFew, IsByStamps, verdict_of, of_stamp, IsAborted, verdict, take, suc, rules}
use Rattle.ks_tree.proofs.StampLemmas.{number_unique}
use Rattle.ks_engine.specs.declared.query.Limit.TheVariants.{All as Every}

-- ---- the numbers of stamps

-- each name's stamp holds its number
abbrev pub Held : Files → (List ℕ → ℕ) → List (List ℕ × List ℕ) → Type 0
Held files number ps = All (λ p. HasNumber (content files (stamp_path p.0)) (number p.0)) ps

-- the names above a generation, as causes; and one name more in front, if its number is above
abbrev pub listed_by : (List ℕ → ℕ) → ℕ → List (List ℕ × List ℕ) → List Cause
listed_by number g ps = map (cause number) (filter (λ p. nat_lt g (number p.0)) ps)

abbrev onto : ℕ → ℕ → List ℕ × List ℕ → List Cause → List Cause
onto g n p causes = cond (nat_lt g n) (record { name = p.0; generation = n; place = p.1 } ∷ causes) causes

pub listed_next : (number : List ℕ → ℕ) (g : ℕ) (p : List ℕ × List ℕ) (ps : List (List ℕ × List ℕ)) → listed_by number g (p ∷ ps)
    ≡ onto g (number p.0) p (listed_by number g ps)
listed_next number g p ps = search rules

-- two tables of numbers that have the same of each name list the same
pub listed_same : (files : Files) (f h : List ℕ → ℕ) (g : ℕ) (ps : List (List ℕ × List ℕ)) → Held files f ps → Held files h ps
    → listed_by f g ps ≡ listed_by h g ps
listed_same files f h g [] a b = refl
listed_same files f h g (p ∷ ps) a b = search (
  rules,
  listed_next,
  (number_unique _ _ _ (a 0 p (omega arith)) (b 0 p (omega arith))),
  (listed_same files f h g ps (λ k d lt. a (suc k) d (omega arith)) (λ k d lt. b (suc k) d (omega arith))),
)

-- a table with one number more
abbrev with_number : (List ℕ → ℕ) → List ℕ → ℕ → List ℕ → ℕ
with_number f x n y = cond (bytes_eq y x) n (f y)

-- one name more, whose stamp holds a number
causes_more : (files : Files) (g : ℕ) (p : List ℕ × List ℕ) (ps : List (List ℕ × List ℕ)) (causes : List Cause) (n : ℕ)
    → HasNumber (content files (stamp_path p.0)) n → AreCauses files g ps causes → AreCauses files g (ps ++ p ∷ []) (causes ++ onto g n p [])
causes_more files g p ps causes n has are =
    let h = with_number are.number p.0 n in
    let held : Held files h ps = search (rules, cond_both, bytes_eq-Decides) in
    let here : h p.0 ≡ n = cond-true _ _ _ ((bytes_eq-Decides p.0 p.0).1 refl) in
    let same : causes ≡ listed_by h g ps = are.above ∙ listed_same files are.number h g ps are.held held in
    record {
      number = h;
      held = All-push (λ q. HasNumber (content files (stamp_path q.0)) (h q.0)) ps p held (rw here has);
      above = search (rules, filter-append, map-append, listed_next, here, same);
    }

-- ---- the steps over dependency lines

-- The names of the lines before a place were looked at, and these are their causes.
pub record LookedAt (files : Files) (g : ℕ) (source : List ℕ) (deps : List Dep) (i : ℕ) (place : List ℕ) (causes : List Cause) : Type 0 where
  pub seen : List (List ℕ × List ℕ)
  pub stands : placed source deps ≡ seen ++ placed place (drop i deps)
  pub are : AreCauses files g seen causes

pub looked_first : (files : Files) (g : ℕ) (source : List ℕ) (deps : List Dep) → LookedAt files g source deps 0 source []
looked_first files g source deps = record { seen = []; stands = refl; are = record { number = λ x. 0; held = All-nil _; above = refl } }

-- one more is looked for where there is none yet
pub few_of_none : (limit : Limit) (causes : List Cause) → causes ≡ [] → AreTooFew limit causes
few_of_none limit causes none = grind arith

module _ (files : Files) (g : ℕ) (source : List ℕ) (deps : List Dep) (i : ℕ) (causes : List Cause) where
  pub looked_file : (path place : List ℕ) → drop i deps ≡ File path ∷ drop (i + 1) deps → LookedAt files g source deps i place causes
      → LookedAt files g source deps (i + 1) path causes
  looked_file path place next l = record { seen = l.seen; stands = l.stands ∙ ap (λ ds. l.seen ++ placed place ds) next; are = l.are }

  -- a name whose stamp holds a number
  pub looked_name : (x place : List ℕ) (n : ℕ) (all : List Cause) → drop i deps ≡ Config x ∷ drop (i + 1) deps → HasNumber (content files (stamp_path x)) n
      → all ≡ causes ++ onto g n (x, place) [] → LookedAt files g source deps i place causes → LookedAt files g source deps (i + 1) place all
  looked_name x place n all next has grown l = record {
    seen = l.seen ++ (x, place) ∷ [];
    stands = l.stands ∙ ap (λ ds. l.seen ++ placed place ds) next ∙ sym (append_assoc l.seen ((x, place) ∷ []) (placed place (drop (i + 1) deps)));
    are = rw grown (causes_more files g (x, place) l.seen causes n has l.are);
  }

  -- where the causes are enough; at the last line they are
  pub enough : (limit : Limit) (place : List ℕ) → AreEnough limit causes (placed place (drop i deps)) → LookedAt files g source deps i place causes
      → IsByStamps limit files g (placed source deps) (Ok causes)
  enough limit place are l = search rules

  pub enough_at_end : (limit : Limit) (place : List ℕ) → length deps ≤ i → AreTooFew limit causes → AreEnough limit causes (placed place (drop i deps))
  enough_at_end limit place past few = grind (arith, (drop_all i deps past))

  -- a stamp without a number ends it
  pub looked_refused : (limit : Limit) (x place : List ℕ) (e : TreeError) → drop i deps ≡ Config x ∷ drop (i + 1) deps
      → IsStampRefusal x (content files (stamp_path x)) e → AreTooFew limit causes → LookedAt files g source deps i place causes
      → IsAborted (of_stamp e) ⊎ IsByStamps limit files g (placed source deps) (Err (of_stamp e))
  looked_refused limit x place e next why few l = search rules

-- ---- the verdict of the causes

-- It is that of the first name above.
pub verdict_found : (f : List ℕ → ℕ) (g : ℕ) (ps : List (List ℕ × List ℕ)) → verdict_of (listed_by f g ps)
    ≡ verdict (find (λ x. nat_lt g (f x)) (map (λ p. p.0) ps))
verdict_found f g [] = refl
verdict_found f g (p ∷ ps) = search (rules, listed_next, (verdict_found f g ps))

enough_of : (limit : Limit) (causes rest : List Cause) (left : List (List ℕ × List ℕ)) → AreEnough limit causes left → (left ≡ [] → rest ≡ [])
    → verdict_of causes ≡ verdict_of (causes ++ rest)
enough_of limit (c ∷ causes) rest left are ends = refl
enough_of Every [] rest left none ends = grind (arith, ends)
enough_of First [] rest left are ends = grind (arith, ends)

-- So it is by the names that were seen, where these causes are enough.
pub verdict_enough : (limit : Limit) (f : List ℕ → ℕ) (g : ℕ) (ps seen left : List (List ℕ × List ℕ)) (causes : List Cause) → ps ≡ seen ++ left
    → causes ≡ listed_by f g seen → AreEnough limit causes left → verdict_of causes ≡ verdict_of (listed_by f g ps)
verdict_enough limit f g ps seen left causes stands listed are = search (rules, enough_of, stands, listed, filter-append, map-append)

-- The names up to the first that is above are enough for it.
pub up_to_first : (f : List ℕ → ℕ) (g : ℕ) (ps : List (List ℕ × List ℕ)) → (n : ℕ) × AreEnough First (listed_by f g (take n ps)) (drop n ps)
up_to_first f g [] = (0, inr (refl, refl))
up_to_first f g (p ∷ ps) =
    let (n, rest) = up_to_first f g ps in ⊎_elim
    (λ above. (1, inl (rw above refl)))
    (λ below. (suc n, rw below rest))
    (cases_Bool (nat_lt g (f p.0)))
