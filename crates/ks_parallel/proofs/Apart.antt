-- Calls of processes that keep apart.
use Rattle.ks_parallel.proofs.Prelude.{◌≡◌, ◌⊎◌, inl, inr, ⊎_elim, ℕ, List, [], ◌∷◌, Bool, true, false, cond, Option, Some, None, sym, ◌∙◌, ap, refl, subst, true≢false, bytes_eq, nat_eq, nat_cmp, cases_Bool, cond-true, cond-false, or_left, or_parts, false_from_ne_true, eqb-true, eqb-false, slice_cmp, nat_list_cmp_total, bytes_decides, eq_by_cmp, get-insert, get-remove, get-retain_keys, same_map, slice_cmp-IsAntisymmetric, nat_cmp-IsAntisymmetric, is_eq-slice_cmp, Files, content, Call, Reads, Leaves, Moves, put, after, after_all, Finds, AllFind, writes, uses, view, own, all, EachOf, KeepsApart, ViewsAreHonest, OrdersLeaveTheSame, rules}
use Rattle.ks_parallel.proofs.Each.{Each, each_own, each_all, first_own}

-- ---- what one call leaves

-- bytes are the same key exactly where they are the same
same_key : (p q : List ℕ) → eq_by_cmp (slice_cmp nat_cmp) q p ≡ bytes_eq p q
same_key p q = search (rules, is_eq-slice_cmp, false_from_ne_true, cases_Bool)

pub content-put : (files : Files) (p : List ℕ) (file : Option (List ℕ)) (q : List ℕ) → content (put files p file) q ≡ cond (bytes_eq p q) file (content files q)
content-put files p None q = get-remove nat_list_cmp_total files p q ∙ ap (λ b. cond b None (content files q)) (same_key p q)
content-put files p (Some b) q = get-insert nat_list_cmp_total files p b q ∙ ap (λ t. cond t (Some b) (content files q)) (same_key p q)

pub content-moved : (files : Files) (from to q : List ℕ) → content (after files (Moves from to)) q
    ≡ cond (bytes_eq to q) (content files from) (cond (bytes_eq from q) None (content files q))
unfolding after
content-moved files from to q = search (rules, content-put)

pub same_files : (f g : Files) → ((q : List ℕ) → content f q ≡ content g q) → f ≡ g
same_files f g each = same_map nat_list_cmp_total (slice_cmp-IsAntisymmetric nat_cmp-IsAntisymmetric) f g each

-- a call leaves each path that it doesn't write
pub unwritten : (f : Files) (c : Call) (q : List ℕ) → writes c q ≡ false → content (after f c) q ≡ content f q
unfolding after
unwritten f c q apart = search (rules, content-put, or_parts, content-moved, cond-false)

pub used : (c : Call) (q : List ℕ) → writes c q ≡ true → uses c q ≡ true
used c q w = search (rules, true≢false)

-- ---- what is seen

-- The files are the same where the test passes.
abbrev Agree : (List ℕ → Bool) → Files → Files → Type 0
Agree p f g = (q : List ℕ) → p q ≡ true → content f q ≡ content g q

-- a call on seen paths does the same to both
pub agreed : (p : List ℕ → Bool) (f g : Files) (c : Call) → Agree p f g → ((q : List ℕ) → uses c q ≡ true → p q ≡ true) → Agree p (after f c) (after g c)
unfolding after
agreed p f g (Leaves path file) agree seen = search (rules, content-put)
agreed p f g c agree seen = search (rules, or_left, content-moved)

-- a call that writes no seen path
unseen_kept : (p : List ℕ → Bool) (f g : Files) (c : Call) → Agree p f g → ((q : List ℕ) → writes c q ≡ true → p q ≡ false) → Agree p (after f c) g
unseen_kept p f g c agree unseen = search (rules, unwritten, false_from_ne_true)

pub finds_same : (p : List ℕ → Bool) (f g : Files) (c : Call) → Agree p f g → ((q : List ℕ) → uses c q ≡ true → p q ≡ true) → Finds f c → Finds g c
finds_same p f g (Reads path file) agree seen finds = sym (agree path (seen path ((bytes_decides path path).1 refl))) ∙ finds
finds_same p f g c agree seen finds = tt

-- ---- a process alone does to its view what it does among all

pub alone : (sees : ℕ → List ℕ → Bool) (i : ℕ) (calls : List (ℕ × Call)) (f g : Files) → EachOf (KeepsApart sees) calls → Agree (sees i) f g
    → AllFind f (all calls) → AllFind g (own i calls) × Agree (sees i) (after_all f (all calls)) (after_all g (own i calls))
alone sees i [] f g keep agree finds = (tt, agree)
alone sees i (x ∷ xs) f g keep agree finds =
    elim (nat_eq x.0 i) as (λ b. nat_eq x.0 i ≡ b → AllFind g (cond b (x.1 ∷ own i xs) (own i xs))
    × Agree (sees i) (after_all (after f x.1) (all xs)) (after_all g (cond b (x.1 ∷ own i xs) (own i xs)))) [
      | true ↦ λ same.
          let seen : (q : List ℕ) → uses x.1 q ≡ true → sees i q ≡ true = search (rules, eqb-true) in
          let rest = alone sees i xs (after f x.1) (after g x.1) keep.1 (agreed (sees i) f g x.1 agree seen) finds.1 in
          ((finds_same (sees i) f g x.1 agree seen finds.0, rest.0), rest.1)
      | false ↦ λ other. alone sees i xs (after f x.1) g keep.1 (unseen_kept (sees i) f g x.1 agree (search (rules, eqb-false))) finds.1
    ] refl

-- what a process does writes nothing that it doesn't see
own_unwritten : (sees : ℕ → List ℕ → Bool) (i : ℕ) (calls : List (ℕ × Call)) (g : Files) (q : List ℕ) → EachOf (KeepsApart sees) calls → sees i q ≡ false
    → content (after_all g (own i calls)) q ≡ content g q
own_unwritten sees i [] g q keep unseen = refl
own_unwritten sees i (x ∷ xs) g q keep unseen =
    search (
      rules,
      unwritten,
      eqb-true,
      false_from_ne_true,
      used,
      (own_unwritten sees i xs (after g x.1) q keep.1 unseen),
      (own_unwritten sees i xs g q keep.1 unseen),
    )

pub view_at : (p : List ℕ → Bool) (f : Files) (q : List ℕ) → content (view p f) q ≡ cond (p q) (content f q) None
view_at p f q = get-retain_keys f p q (λ x tied. ap p (sym (slice_cmp-IsAntisymmetric nat_cmp-IsAntisymmetric q x tied)))

pub seen_in_view : (p : List ℕ → Bool) (f : Files) → Agree p f (view p f)
seen_in_view p f = λ q yes. sym (view_at p f q ∙ cond-true _ _ _ yes)

pub views_are_honest : ViewsAreHonest
views_are_honest sees files calls i keep finds =
    let done = alone sees i calls files (view (sees i) files) keep (seen_in_view (sees i) files) finds in
    (done.0, same_files _ _ (λ q. search (rules, view_at, cases_Bool, done.1, own_unwritten)))

-- ---- any order

-- Some process sees the path, or no call writes it.
abbrev IsSeenOrKept : (ℕ → List ℕ → Bool) → List (ℕ × Call) → List ℕ → Type 0
IsSeenOrKept sees calls q = ((i : ℕ) × (sees i q ≡ true)) ⊎ ((f : Files) → content (after_all f (all calls)) q ≡ content f q)

seen_or_kept : (sees : ℕ → List ℕ → Bool) (calls : List (ℕ × Call)) (q : List ℕ) → EachOf (KeepsApart sees) calls → IsSeenOrKept sees calls q
seen_or_kept sees [] q keep = inr (λ f. refl)
seen_or_kept sees (x ∷ xs) q keep = ⊎_elim
    (λ w. inl (x.0, keep.0.seen q (used x.1 q w)))
    (λ clean. let rest = seen_or_kept sees xs q keep.1 in search (rules, unwritten))
    (cases_Bool (writes x.1 q))

-- Where each process finds what it reads, all do.
all_find : (sees : ℕ → List ℕ → Bool) (calls : List (ℕ × Call)) (f : Files) (g : ℕ → Files) → EachOf (KeepsApart sees) calls
    → ((i : ℕ) → Agree (sees i) f (g i)) → ((i : ℕ) → AllFind (g i) (own i calls)) → AllFind f (all calls)
all_find sees [] f g keep agree finds = tt
all_find sees (x ∷ xs) f g keep agree finds =
    let here = first_own (λ cs. AllFind (g x.0) cs) x xs (finds x.0) in
    let found = finds_same (sees x.0) (g x.0) f x.1 (λ q yes. sym (agree x.0 q yes)) keep.0.seen here.0 in (
      found,
      all_find sees xs (after f x.1) (λ i. after_all (g i) (own i (x ∷ []))) keep.1
          (λ i. (alone sees i (x ∷ []) f (g i) (keep.0, tt) (agree i) (found, tt)).1) (λ i. let is = finds i in search rules),
    )

pub orders_leave_the_same : OrdersLeaveTheSame
orders_leave_the_same sees files calls other keep order finds =
    let keep_other : EachOf (KeepsApart sees) other = each_all (KeepsApart sees) other
    (λ i. subst (λ cs. Each (KeepsApart sees i) cs) (sym (order i)) (each_own (KeepsApart sees) i calls keep)) in
    let by = λ (i : ℕ). alone sees i calls files files keep (λ q yes. refl) finds in
    let find_other : AllFind files (all other) = all_find sees other files (λ i. files) keep_other (λ i q yes. refl)
    (λ i. rw order (by i).0) in (
      find_other,
      same_files _ _ (λ q.
          let seen : (i : ℕ) → sees i q ≡ true → content (after_all files (all other)) q ≡ content (after_all files (all calls)) q
          = λ i yes. (alone sees i other files files keep_other (λ q yes. refl) find_other).1 q yes
          ∙ ap (λ cs. content (after_all files cs) q) (order i) ∙ sym ((by i).1 q yes) in
          search (rules, seen, (seen_or_kept sees calls q keep), (seen_or_kept sees other q keep_other), ⊎_elim)),
    )
