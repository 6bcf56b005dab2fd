-- What is marked, object by object.
use Rattle.ks_engine.proofs.Prelude.{◌≡◌, ◌∙◌, ap, option_map, Some, None, Result, true, false, ℕ, Bool, ◌+◌, ◌++◌, List, [], ◌∷◌, sym, refl, subst, take, map, get_or, length, ◌<◌, arith, Files}
use Rattle.ks_engine.specs.declared.backdating.BackdateScope.{BackdateScope}
use Rattle.std.specs.Borrow.{Bor}
use Rattle.std.proofs.lemmas.List.{take-map}
use Rattle.std.proofs.lemmas.Option.{slice_get-get_or, slice_get-map}
use Rattle.ks_engine.proofs.Surveying.{seen}
use Rattle.ks_engine.specs.Asked.{IsAnswer, asked}
use Rattle.ks_engine.specs.declared.error.EngineError.{EngineError}
use Rattle.ks_engine.specs.declared.staleness.Verdict.{Verdict}
use Rattle.ks_engine.specs.Marks.{GivesUpMark, MarksAll, MarksOne, MarksSome, WritesMark, due_by, or_unnumbered}
use Rattle.ks_engine.specs.Costs.{one_if}

pub none_marked : (which : BackdateScope) (files : Files) → MarksAll which [] files files 0
none_marked which files = (refl, refl)

-- one object more
pub marks_more : (which : BackdateScope) (done : List (List ℕ)) (o : List ℕ) (a b c : Files) (n : ℕ) (marked : Bool) → MarksAll which done a b n → MarksOne which o b c marked
    → MarksAll which (done ++ o ∷ []) a c (n + one_if marked)
marks_more which [] o a b c n marked all one =
    (c, marked, 0, subst (λ f. MarksOne which o f c marked) all.0 one, (refl, refl), rw all.1 (omega arith))
marks_more which (p ∷ ps) o a b c n marked (between, done, later, first, rest, count) one = (
  between,
  done,
  later + one_if marked,
  first,
  marks_more which ps o between b c later marked rest one,
  rw count (omega arith),
)

-- what was marked where an object fails, after those before it
pub some_marked : (which : BackdateScope) (ts : List (Bor (List ℕ))) (i : ℕ) (d : Bor (List ℕ)) (a b c : Files) (n : ℕ) → i < length ts
    → MarksAll which (map seen (take i ts)) a b n → GivesUpMark which (get_or ts i d).now b c → MarksSome which (map seen ts) a c
some_marked which ts i d a b c n within all given = record {
  n = i;
  between = b;
  count = n;
  first = subst (λ l. MarksAll which l a b n) (sym (take-map seen i ts)) all;
  o = (get_or ts i d).now;
  here = slice_get-map seen ts i ∙ ap (option_map seen) (slice_get-get_or ts i d within);
  given_up = given;
}

-- by what an object is marked, if it has a command file
pub marks_one : (which : BackdateScope) (old new : Files) (o path : List ℕ) (answer : Result Verdict EngineError) → IsAnswer old (asked old o) answer
    → Some path ≡ due_by which (or_unnumbered answer) → (done : Bool) → WritesMark old new o path done → MarksOne which o old new done
marks_one which old new o path answer is due false (none, same) = (None, (answer, is, rw none refl), same, refl)
marks_one which old new o path answer is due true (some, marked) = (Some path, (answer, is, rw some due), marked, refl)
