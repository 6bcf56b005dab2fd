-- The steps of a record before its command file is drafted.
use Rattle.ks_engine.proofs.Prelude.{IfOk, Result, Err, ◌≡◌, refl, ◌⊎◌, inl, inr, ℕ, List, None, Ok, sym, ◌∙◌, ap, Conventions, Dialect, usual_header, Role, ScanRules, rules_for, prerequisites_without, refusal_without, Files, content, auto_path, args, listed_unless, scanned_all, with_command, drafted, record_plan_under}
use Rattle.ks_engine.specs.Drafts.{drafted_by}
use Rattle.ks_engine.specs.Places.{depfile_at, legal_place}
use Rattle.ks_engine.specs.Recorded.{recorded_at}
use Rattle.ks_engine.specs.Recording.{listed}

-- ---- the dependency file

pub depfile_listed : (dialect : Dialect) (d : List ℕ) (ps : List (List ℕ × Role)) → refusal_without (usual_header dialect) d ≡ None
    → ps ≡ prerequisites_without (usual_header dialect) d → listed dialect d ≡ Ok ps
depfile_listed dialect d ps none is = ap (λ r. listed_unless r (prerequisites_without (usual_header dialect) d)) none ∙ ap (λ l. Ok l) (sym is)

-- ---- nothing was refused before the draft

pub at_prerequisites : (conventions : Conventions) (files later : Files) (by : ScanRules) (d t c b : List ℕ) (ps : List (List ℕ × Role))
    → args d t c ≡ Ok tt → legal_place conventions.options ≡ Ok tt → depfile_at conventions.options d (content files d) ≡ Ok b → refusal_without conventions.header b ≡ None → ps ≡ prerequisites_without conventions.header b
    → later ≡ files → by ≡ rules_for conventions.dialect t → record_plan_under conventions files d t c ≡ drafted_by by conventions later t c ps
unfolding record_plan_under
at_prerequisites conventions files later by d t c b ps w place th none is same same_rules = rw (same, same_rules, is, w, place, th, none) refl

pub at_drafted : (conventions : Conventions) (files later : Files) (r by : ScanRules) (t c : List ℕ) (ps : List (List ℕ × Role)) (g : ℕ) (found all : List (List (List ℕ)))
    → recorded_at conventions.options.before_sync (content files auto_path) ≡ Ok g → later ≡ files → by ≡ r → scanned_all by later ps ≡ Ok found → all ≡ with_command conventions.scans_command by c found
    → drafted_by r conventions files t c ps ≡ drafted conventions t c ps g all
at_drafted conventions files later r by t c ps g found all sy same same_rules sc more = cc

pub both : {A E : Type 0} (r : Result A E) (P Q : A → Type 0) → IfOk r P → IfOk r Q → IfOk r (λ x. P x × Q x)
both (Ok x) P Q p q = (p, q)
both (Err e) P Q p q = tt

pub or_given : {P Q R : Type 0} → (Q → R) → P ⊎ Q → P ⊎ R
or_given f (inl p) = inl p
or_given f (inr q) = inr (f q)
