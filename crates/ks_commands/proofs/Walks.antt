-- Walks over objects.
use Rattle.ks_engine.specs.Sources.{Source}
use Rattle.ks_requests.specs.Inputs.{source_at}
use Rattle.ks_requests.specs.declared.request.ConfigPaths.{ConfigPaths}
use Rattle.ks_commands.proofs.Prelude.{◌≡◌, ◌⊎◌, ◌<◌, ◌≤◌, ◌+◌, ◌++◌, ◌∙◌, Bool, false, ℕ, List, [], ◌∷◌, Option, None, Result, Ok, Err, inl, inr, refl, sym, subst, ap, arith, max, append-nil, fold, length, length-append, length-map, map-append, filter-append, fold-append, flat_map-append, Bor, EngineError, Ending, Explanation, Limit, OutputFormat, Outcome, Targets, Dialect, Files, IsAnswerAfter, IsAnswerTo, IsAborted, IsImpactOf, reported as verdict, stale_among, file_of, given_if_named, targets_at, Querying, EndsImpact, EndsWalk, IsExplainedIn, IsStep, Part, FileState, ReportsAll, ReportsOne, Walks, querying_by, counted_of, explaining, objects_of, stale_count, statuses, reports, rules}
use Rattle.ks_engine.specs.declared.backdating.BackdateScope.{BackdateScope}
use Rattle.ks_engine.specs.declared.impact.Impact.{Impact}
use Rattle.ks_engine.specs.declared.query.Limit.TheVariants.{First}
use Rattle.ks_engine.specs.declared.query.Query.TheVariants.{Predicted}
use Rattle.ks_engine.specs.declared.staleness.Verdict.{Verdict}

-- ---- an object more

pub walk_more : {A : Type 0} (querying : Querying A) (first : FileState) (ps : List (Part A)) (mid : FileState) (p : Part A) (last : FileState) → Walks querying first ps mid
    → IsStep querying mid p last → Walks querying first (ps ++ p ∷ []) last
walk_more querying first [] mid p last walk step = (last, subst (λ (s : FileState). IsStep querying s p last) walk step, refl)
walk_more querying first (q ∷ qs) mid p last (next, one, later) step = (next, one, walk_more querying next qs mid p last later step)

pub objects_more : {A : Type 0} (parts : List (Part A)) (p : Part A) (objects later : List (List ℕ)) (o : List ℕ) → objects_of parts ≡ objects → p.object ≡ o
    → later ≡ objects ++ o ∷ [] → objects_of (parts ++ p ∷ []) ≡ later
objects_more parts p objects later o are is more =
    map-append (λ p. p.object) parts (p ∷ []) ∙ ap (λ xs. xs ++ p.object ∷ []) are ∙ ap (λ x. objects ++ x ∷ []) is ∙ sym more

pub nothing_reported : {A : Type 0} (querying : Querying A) (first : FileState) → ReportsAll querying [] first [] [] 0 first
nothing_reported querying first = record { of_objects = refl; walks = refl; lines = refl; worst_of = refl }

pub reported_more : {A : Type 0} (querying : Querying A) {parts : List (Part A)} {first : FileState} {objects : List (List ℕ)} {before : List ℕ} {code : ℕ} {mid : FileState}
    {o after : List ℕ} {one : ℕ} {last : FileState} (later : List (List ℕ)) (worse : ℕ) → ReportsAll querying parts first objects before code mid
    → (more : ReportsOne querying mid o before after one last) → later ≡ objects ++ o ∷ [] → worse ≡ max code one
    → ReportsAll querying (parts ++ more.part ∷ []) first later after worse last
reported_more querying {parts} {first} {objects} {before} {code} {mid} {o} {after} {one} {last} later worse so_far more are worst = record {
  of_objects = objects_more parts more.part objects later o so_far.of_objects more.of_object are;
  walks = walk_more querying first parts mid more.part last so_far.walks more.step;
  lines = search (rules, append-nil, flat_map-append);
  worst_of = search (rules, map-append, fold-append);
}

-- as many as there are objects
pub as_many : {A : Type 0} (parts : List (Part A)) (objects : List (List ℕ)) → objects_of parts ≡ objects → length parts ≡ length objects
as_many parts objects are = sym (length-map parts (λ p. p.object)) ∙ ap length are

-- a worst status below 2 is one of statuses below 2
pub below_two : (a : ℕ) (xs : List ℕ) → fold max a xs < 2 → a < 2
below_two a [] h = h
below_two a (x ∷ xs) h = omega (arith, below_two (max a x) xs h)

-- how many are stale, with one more
pub stale_more : {A : Type 0} (parts : List (Part A)) (p : Part A) (n m one : ℕ) → n ≡ stale_among (statuses parts) → one ≡ p.status → m ≡ stale_among (one ∷ [])
    → n + m ≡ stale_among (statuses (parts ++ p ∷ []))
stale_more parts p n m one so_far is stale = search (rules, map-append, filter-append, length-append)

-- ---- what is printed of more is printed of less

pub steps_weaker : {A : Type 0} (P Q : Querying A) (first : FileState) (ps : List (Part A)) (last : FileState)
    → ((s : FileState) (p : Part A) (t : FileState) → IsStep P s p t → IsStep Q s p t) → Walks P first ps last → Walks Q first ps last
steps_weaker P Q first [] last f walks = walks
steps_weaker P Q first (p ∷ ps) last f (next, step, later) = (next, f first p next step, steps_weaker P Q next ps last f later)

pub walk_weaker : {A : Type 0} (P Q : Querying A) (once : Bool) (ends : List (Part A) → Outcome → Type 0) (honest : Type 0) (old : FileState) (targets : Targets)
    (ended : Ending) (new : FileState) → ((s : FileState) (p : Part A) (t : FileState) → IsStep P s p t → IsStep Q s p t)
    → EndsWalk P once ends honest old targets ended new → EndsWalk Q once ends honest old targets ended new
walk_weaker P Q once ends honest old targets ended new f (inl stopped) = inl stopped
walk_weaker P Q once ends honest old targets ended new f (inr (objects, first, parts, asked, walks, reported, memory)) =
    inr (objects, first, parts, asked, steps_weaker P Q first parts new f walks, reported, memory)

pub explained_weaker : (honest : Type 0) (files : Files) (format : OutputFormat) (limit : Limit) (P Q : List ℕ → Result Explanation EngineError → Type 0)
    → ((o : List ℕ) (answer : Result Explanation EngineError) → P o answer → Q o answer) → (p : Part Explanation) → IsExplainedIn honest files format limit P p
    → IsExplainedIn honest files format limit Q p
explained_weaker honest files format limit P Q f p is = record {
  answered = λ h. f p.object p.answer (is.answered h);
  spelling = is.spelling;
  spelled = is.spelled;
  lines = is.lines;
  status = is.status;
}

pub answers_weaker : (honest : Type 0) (backdates : Option BackdateScope) (format : OutputFormat) (limit : Limit) (P Q : List ℕ → Result Explanation EngineError → Type 0)
    (ends : List (Part Explanation) → Outcome → Type 0) (old : FileState) (targets : Targets) (ended : Ending) (new : FileState)
    → ((o : List ℕ) (answer : Result Explanation EngineError) → P o answer → Q o answer)
    → EndsWalk (explaining honest old.files backdates format limit P) false ends honest old targets ended new
    → EndsWalk (explaining honest old.files backdates format limit Q) false ends honest old targets ended new
answers_weaker honest backdates format limit P Q ends old targets ended new f walk =
    walk_weaker (explaining honest old.files backdates format limit P) (explaining honest old.files backdates format limit Q) false ends honest old targets ended new
    (λ s p t step. record { reported = explained_weaker honest old.files format limit P Q f p step.reported; counted = step.counted; backdated = step.backdated }) walk

-- .. and so of an answer after a synchronisation
pub impact_weaker : (honest : Type 0) (dialect : Dialect) (P Q : Source → List ℕ → Result Verdict EngineError → Type 0) (old : FileState) (c : ConfigPaths)
    (format : OutputFormat) (targets : Targets) (ended : Ending) (new : FileState)
    → ((source : Source) (o : List ℕ) (answer : Result Verdict EngineError) → P source o answer → Q source o answer)
    → EndsImpact honest dialect P old c format targets ended new → EndsImpact honest dialect Q old c format targets ended new
impact_weaker honest dialect P Q old c format targets ended new f (inl stopped) = inl stopped
impact_weaker honest dialect P Q old c format targets ended new f (inr (t, there, inl refused)) = inr (t, there, inl refused)
impact_weaker honest dialect P Q old c format targets ended new f (inr (t, there, inr (can, walk))) = let source = source_at dialect c.form t in inr (
  t,
  there,
  inr (
    can,
    answers_weaker honest None format First (λ o answer. P source o (verdict answer)) (λ o answer. Q source o (verdict answer))
        (reports stale_count) old targets ended new (λ o answer. f source o (verdict answer)) walk,
  ),
)

-- what is asked after the reads of a synchronisation that isn't made
pub impact_asked : (honest : Type 0) (format : OutputFormat) (impact : Bor Impact) (source : Source) (old mid : FileState) (targets : Targets) (ended : Ending)
    (new : FileState) → (honest → mid.files ≡ old.files) → old.failures ≤ mid.failures → mid.backdated ≡ old.backdated → (honest → IsImpactOf old.files source impact.now)
    → EndsWalk (querying_by honest mid.files None format (Predicted impact)) false (reports (counted_of (Predicted impact))) honest mid targets ended new
    → EndsWalk (explaining honest old.files None format First (λ o answer. IsAnswerAfter old.files source o (verdict answer))) false (reports stale_count) honest old targets ended new
impact_asked honest format impact source old mid targets ended new same later kept reported_of (inl (e, why, is, unaged)) =
    inl (e, λ h. subst (λ f. IsAborted e ⊎ (targets_at f targets ≡ Err e)) (same h) (why h), is, unaged ∙ kept)
impact_asked honest format impact source old mid targets ended new same later kept reported_of (inr (objects, first, parts, asked, walks, reported, memory)) = inr (
  objects,
  first,
  parts,
  record {
    from = asked.from;
    named = asked.named;
    there = λ h. subst (λ f. given_if_named f (file_of targets) ≡ Ok asked.from) (same h) (asked.there h);
    all = asked.all;
    later = omega (arith, later, asked.later);
    backdated = asked.backdated ∙ kept;
  },
  steps_weaker (querying_by honest mid.files None format (Predicted impact))
      (explaining honest old.files None format First (λ o answer. IsAnswerAfter old.files source o (verdict answer))) first parts new
      (λ s p t step. record {
        reported = record {
          answered = λ h. subst (λ f. IsAnswerTo (Predicted impact) f p.object p.answer) (same h) (step.reported.answered h) source (reported_of h);
          spelling = step.reported.spelling;
          spelled = λ h. refl;
          lines = step.reported.lines;
          status = step.reported.status;
        };
        counted = step.counted;
        backdated = step.backdated;
      }) walks,
  reported,
  memory,
)
