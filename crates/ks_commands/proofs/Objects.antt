-- The objects of a question about command files, one after the other.
use Rattle.ks_commands.proofs.Prelude.{AreTallies, tallies_of, config_names, HasCosts, Costs, cost_of, is_in, common_steps, Bool, Err, List, None, Ok, OnOk, Option, Result, Some, FileState, Adds, IsStep, reading, status_unless_refused, [], ap, append-nil, arith, cond, drop, false, length, length-append, refl, rules, subst, sym, ℕ, ◌++◌, ◌+◌, ◌∷◌, ◌∙◌, ◌≡◌, ◌≤◌, fun_ext, flat_map-append, sum_by-append, sum_by-cons, count_by, nat_lt, names_placed, placed, AreCosts, one_if, EngineError, CommandRecord, Dep, Config, Files, Part, answer_line, record_in, records_in, IsRead, is_user, uses_in, uses_lines}
use Rattle.std.specs.List.{filter}

-- ---- the names that are left of a record

abbrev pub uses_left : List (List ℕ) → List ℕ → List Dep → ℕ → List (List ℕ × List ℕ)
uses_left symbols place deps i = filter (λ p. is_in symbols p.0) (placed place (drop i deps))

pub left_named : (symbols : List (List ℕ)) (place name : List ℕ) (deps : List Dep) (i : ℕ) (b : Bool) → drop i deps ≡ Config name ∷ drop (i + 1) deps
    → is_in symbols name ≡ b
    → uses_left symbols place deps i ≡ cond b ((name, place) ∷ uses_left symbols place deps (i + 1)) (uses_left symbols place deps (i + 1))
left_named symbols place name deps i b next is = search rules

-- ---- one object

-- a refusal is the same whatever it refuses
pub err_as : {A B : Type 0} {e f : EngineError} → ◌≡◌ {A = Result A EngineError} (Err e) (Err f) → ◌≡◌ {A = Result B EngineError} (Err e) (Err f)
err_as {A} {B} {e} {f} is = let same : e ≡ f = cc in ap (λ x. Err x) same

-- an object that is reported by its record
abbrev pub read_part : (List ℕ → Option CommandRecord → List ℕ) → List ℕ → Result (Option CommandRecord) EngineError → Part (Option CommandRecord)
read_part line o answer = record { object = o; answer = answer; lines = answer_line line o answer; status = status_unless_refused (λ _. 0) answer }

-- nothing is kept of an object that has no record
pub nothing_added : (Has : List CommandRecord → Type 0) (before : List CommandRecord) → Has before → Has (before ++ [])
nothing_added Has before has = rw append-nil has

-- ---- an object more

pub kept_more : (Old New : List CommandRecord → Type 0) (parts : List (Part (Option CommandRecord))) (p : Part (Option CommandRecord)) → Old (records_in parts)
    → Adds Old New p.answer → New (records_in (parts ++ p ∷ []))
kept_more Old New parts p kept adds = subst New (sym (flat_map-append (λ q. record_in q.answer) parts (p ∷ []))) (rw append-nil (adds (records_in parts) kept))

-- by the same files, in the same lines
pub read_over : (honest : Type 0) (f g : Files) (now line : List ℕ → Option CommandRecord → List ℕ) → (honest → f ≡ g) → now ≡ line
    → (s : FileState) (p : Part (Option CommandRecord)) (t : FileState) → IsStep (reading honest f now) s p t → IsStep (reading honest g line) s p t
read_over honest f g now line same is s p t step = record {
  reported = record {
    read = λ h. subst (λ files. IsRead files p.object p.answer) (same h) (step.reported.read h);
    lines = subst (λ l. p.lines ≡ answer_line l p.object p.answer) is step.reported.lines;
    status = step.reported.status;
  };
  counted = step.counted;
  backdated = step.backdated;
}

-- ---- what is counted of records

pub count_more : {X : Type 0} (p : X → Bool) (xs : List X) (x : X) (n one : ℕ) → n ≡ count_by p xs → one ≡ one_if (p x) → n + one ≡ count_by p (xs ++ x ∷ [])
count_more p xs x n one so_far is = search (rules, sum_by-append, sum_by-cons)

pub costs_more : {E : Type 0} (r : Result (Unit {0}) E) (old new : Costs) (before : List CommandRecord) (file : CommandRecord) → OnOk r (new.records ≡ old.records + 1)
    → OnOk r (AreTallies new.records (tallies_of new))
    → OnOk r ((x : List ℕ) → cost_of new x ≡ cost_of old x + one_if (is_in (config_names file.deps) x))
    → HasCosts old before → OnOk r (HasCosts new (before ++ file ∷ []))
costs_more (Ok done) old new before file more sound costs had = record {
  few = omega (arith, had.few, more, length-append {A = CommandRecord});
  sound = sound;
  costs_of = λ x. costs x ∙ count_more (λ f. is_in (config_names f.deps) x) before file (cost_of old x) _ (had.costs_of x) refl;
}
costs_more (Err e) old new before file more sound costs had = tt

-- ---- the records among the answers

few_one : (answer : Result (Option CommandRecord) EngineError) → length (record_in answer) ≤ 1
few_one (Ok (Some file)) = search rules
few_one (Ok None) = search rules
few_one (Err e) = search rules

pub few_records : (ps : List (Part (Option CommandRecord))) → length (records_in ps) ≤ length ps
few_records [] = search rules
few_records (p ∷ ps) = grind (arith, common_steps, (few_one p.answer), (few_records ps), length-append)

count_one : (holds : Result (Option CommandRecord) EngineError → Bool) → holds (Ok None) ≡ false → ((e : EngineError) → holds (Err e) ≡ false)
    → (answer : Result (Option CommandRecord) EngineError) (rest : List CommandRecord)
    → count_by (λ file. holds (Ok (Some file))) (record_in answer ++ rest) ≡ one_if (holds answer) + count_by (λ file. holds (Ok (Some file))) rest
count_one holds none refused (Ok (Some file)) rest = search (rules, sum_by-cons)
count_one holds none refused (Ok None) rest = grind (arith, common_steps, none)
count_one holds none refused (Err e) rest = grind (arith, common_steps, (refused e))

pub count_records : (holds : Result (Option CommandRecord) EngineError → Bool) → holds (Ok None) ≡ false → ((e : EngineError) → holds (Err e) ≡ false)
    → (ps : List (Part (Option CommandRecord))) → count_by (λ file. holds (Ok (Some file))) (records_in ps) ≡ count_by (λ p. holds p.answer) ps
count_records holds none refused [] = refl
count_records holds none refused (p ∷ ps) =
    grind (arith, common_steps, sum_by-cons, (count_one holds none refused p.answer (records_in ps)), (count_records holds none refused ps))

-- ---- symbols among which are the same names

same_uses : (ss ts : List (List ℕ)) → ((x : List ℕ) → is_in ss x ≡ is_in ts x) → (file : CommandRecord) → uses_in ss file ≡ uses_in ts file
same_uses ss ts same file =
    let asked : is_in ss ≡ is_in ts = fun_ext same in
    ap (λ (is_asked : List ℕ → Bool). filter (λ p. is_asked p.0) (names_placed file)) asked

pub same_lines : (ss ts : List (List ℕ)) → ((x : List ℕ) → is_in ss x ≡ is_in ts x) → uses_lines ss ≡ uses_lines ts
same_lines ss ts same = search (rules, fun_ext, same_uses)

pub same_user : (ss ts : List (List ℕ)) → ((x : List ℕ) → is_in ss x ≡ is_in ts x) → (a : Result (Option CommandRecord) EngineError)
    → is_user ss a ≡ is_user ts a
same_user ss ts same (Ok (Some file)) = ap (λ (uses : List (List ℕ × List ℕ)). nat_lt 0 (length uses)) (same_uses ss ts same file)
same_user ss ts same (Ok None) = refl
same_user ss ts same (Err e) = refl

-- two costs that are the same of each symbol
pub same_costs : (f g : List ℕ → ℕ) (costs : List (List ℕ × ℕ)) → ((x : List ℕ) → f x ≡ g x) → AreCosts f costs → AreCosts g costs
same_costs f g costs same are = search rules
