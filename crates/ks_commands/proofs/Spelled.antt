-- An answer that is written with another spelling.
use Rattle.ks_commands.proofs.Prelude.{◌≡◌, ◌⊎◌, ◌≤◌, ◌++◌, ◌∙◌, ℕ, List, Option, None, Some, Result, Err, inl, inr, sym, subst, ⊎_elim, append_assoc, arith, refl, Files, HasRisen, EngineError, Explanation, Limit, Query, IsExplanationOn, IsAnswerTo, limit_of, IsAbortedAnswer, OutputFormat, BackdatesFor, MayBackdate, answer_in, querying_by, explained, IsSpelled, IsLine, spelled_in, spelling_line, spelling_of, spelling_reported, common_steps, rules}
use Rattle.ks_engine.specs.declared.backdating.BackdateScope.{BackdateScope}
use Rattle.ks_engine.specs.declared.query.Query.TheVariants.{Stale, Why}
use Rattle.ks_engine.specs.declared.staleness.Verdict.{Verdict}
use Rattle.ks_engine.specs.Backdated.{IsBackdated}
use Rattle.ks_engine.specs.Asked.{reported as verdict}
use Rattle.ks_engine.specs.declared.error.EngineError.TheVariants as engine

-- an answer that gave up has no spelling, and is one to `why`
no_spelling : (files : Files) (o : List ℕ) (reported : Result Explanation EngineError) → IsAbortedAnswer reported → spelling_of files o reported ≡ None
no_spelling files o (Err engine.Device) up = refl
no_spelling files o reported up = search rules

aborted_explains : (files : Files) (o : List ℕ) (reported : Result Explanation EngineError) → IsAbortedAnswer reported → IsExplanationOn files o reported
aborted_explains files o (Err e) up = search rules
aborted_explains files o reported up = absurd up

-- the device failed before, or on the way
pub risen : (l m n : ℕ) (Before : Type 0) → l ≤ m → (Before → HasRisen l m) → m ≤ n → Before ⊎ HasRisen m n → HasRisen l n
risen l m n Before small before large (inl was) = grind (arith, common_steps, (before was))
risen l m n Before small before large (inr is) = grind (arith, common_steps)

pub reported_answers : (files : Files) (query : Query) (format : OutputFormat) (o : List ℕ) (answer reported : Result Explanation EngineError) (spelling : Option (List ℕ))
    → IsAnswerTo query files o answer → IsSpelled files query format o answer reported spelling → IsAnswerTo query files o reported
reported_answers files query format o answer reported spelling answers (inl (same, alike)) = subst (λ a. IsAnswerTo query files o a) (sym same) answers
reported_answers files query format o answer reported spelling answers (inr (why, up, none)) =
    subst (λ q. IsAnswerTo q files o reported) (sym why) (aborted_explains files o reported up)

pub reported_spelled : (files : Files) (query : Query) (format : OutputFormat) (o : List ℕ) (answer reported : Result Explanation EngineError) (spelling : Option (List ℕ))
    → IsSpelled files query format o answer reported spelling
    → spelling_reported (limit_of query) format spelling ≡ spelling_reported (limit_of query) format (spelling_of files o reported)
reported_spelled files query format o answer reported spelling (inl (same, alike)) =
    subst (λ a. spelling_reported (limit_of query) format spelling ≡ spelling_reported (limit_of query) format (spelling_of files o a)) (sym same) alike
reported_spelled files query format o answer reported spelling (inr (why, up, none)) = rw (none, no_spelling files o reported up) refl

-- an object that is reported by files that are the same
pub is_explained : (honest : Type 0) (then files : Files) (backdates : Option BackdateScope) (format : OutputFormat) (query : Query) (o : List ℕ) (answer : Result Explanation EngineError)
    (spelling : Option (List ℕ)) → (honest → then ≡ files) → (honest → IsAnswerTo query then o answer)
    → (honest → spelling_reported (limit_of query) format spelling ≡ spelling_reported (limit_of query) format (spelling_of then o answer))
    → (querying_by honest files backdates format query).reported (explained format (limit_of query) o answer spelling)
is_explained honest then files backdates format query o answer spelling same answers spelled = record {
  answered = λ h. subst (λ f. IsAnswerTo query f o answer) (same h) (answers h);
  spelling = spelling;
  spelled = λ h. subst (λ f. spelling_reported (limit_of query) format spelling ≡ spelling_reported (limit_of query) format (spelling_of f o answer)) (same h) (spelled h);
  lines = refl;
  status = refl;
}

-- the lines that were written are those that tell it
pub spelled_lines : (format : OutputFormat) (limit : Limit) (o : List ℕ) (answer : Result Explanation EngineError) (spelling : Option (List ℕ)) (before after : List ℕ)
    → IsLine limit format spelling → after ≡ (before ++ answer_in format limit o answer) ++ spelling_line spelling → after ≡ before ++ spelled_in format limit o answer spelling
spelled_lines format limit o answer spelling before after line is = search (rules, append_assoc, line)

-- who ages is answered as the question is
pub backdates_as_reported : (honest : Type 0) (files then : Files) (query : Query) (backdates : Option BackdateScope) (format : OutputFormat) (o : List ℕ) (answer reported : Result Explanation EngineError)
    (spelling : Option (List ℕ)) (old new : List (List ℕ)) → MayBackdate query backdates → (honest → IsSpelled then query format o answer reported spelling)
    → BackdatesFor honest files backdates o old (verdict answer) new → BackdatesFor honest files backdates o old (verdict reported) new
backdates_as_reported honest files then query None format o answer reported spelling old new may spelled backdated = backdated
backdates_as_reported honest files then query (Some which) format o answer reported spelling old new may spelled backdated = λ h.
    ⊎_elim
    (λ same. subst (λ a. IsBackdated which files o old (verdict a) new) (sym same.0) (backdated h))
    (λ up. let other : Stale ≡ Why = sym may ∙ up.0 in absurd cc)
    (spelled h)

-- .. by the same files, where nothing more is aged
pub backdates_on : (honest : Type 0) (f g : Files) (backdates : Option BackdateScope) (o : List ℕ) (answer : Result Verdict EngineError) (old mid new : List (List ℕ)) → (honest → f ≡ g)
    → new ≡ mid → BackdatesFor honest f backdates o old answer mid → BackdatesFor honest g backdates o old answer new
backdates_on honest f g None o answer old mid new same kept backdated = kept ∙ backdated
backdates_on honest f g (Some which) o answer old mid new same kept backdated =
    λ h. subst (λ files. IsBackdated which files o old answer new) (same h) (subst (λ n. IsBackdated which f o old answer n) (sym kept) (backdated h))
