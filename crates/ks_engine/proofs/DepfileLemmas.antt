-- What is left behind the record of an object shows what was shown before.
use Rattle.ks_engine.proofs.Prelude.{Dialect, None, Role, listed_unless, rules_for, scanned_all, there, FollowsRecordedUnder, ◌≡◌, ◌≢◌, ◌⊎◌, inl, inr, ⊎_elim, ℕ, true, false, List, [], ◌∷◌, ◌++◌, Option, Some, Result, Ok, Err, IfOk, IfErr, IsTrue, sym, ◌∙◌, ap, refl, subst, arith, codes, nat_eq, append_assoc, length, ends_with, list_all, or_left, cases_Bool, and_parts, Decides-eqb, bytes_eq-Decides, ends_is, is_name, is_in, header_path, Dep, File, Config, Conventions, is_dep, config_names, Files, content, kept_or, SameButBoth, temporary, auto_path, stamp_path, command_path, command_temporary, dotted, HasNumber, MakesStamps, apart, stamp-injective, ending-temporary, ending-auto, ending-header, ending-stamp, ending-command, EngineError, Draft, IsDraft, History, Shows, stamp, RecordPlan, IsRecordPlanUnder, IsRecordedUnder, IsRecordTriedUnder, at, is_own_file, RuleLeaves, RuleDone, RuleTried, IsDepfileRecorded, IsDepfileRefused, IsOldOrRule, FollowsDepfile, MadeStampsShow, rules, both_ways, or_right, or_cases, ◌<◌}
use Rattle.ks_engine.specs.declared.recording.Recorded.{Recorded as Answer}
use Rattle.ks_tree.proofs.PathLemmas.{ending}
use Rattle.ks_engine.proofs.Reading.{ok_ok}
use Rattle.ks_engine.proofs.Steps.{same_shows}
use Rattle.ks_fixdep.specs.declared.dep_error.DepError.{DepError}
use Rattle.ks_fixdep.specs.declared.dependency_file.Header.{Header}
use Rattle.std.proofs.Common.{append-nil}
unfoldable use Rattle.ks_fixdep.specs.DependencyFile.{prerequisites_without}
use Rattle.ks_fixdep.specs.CommandFile.{command_text}
use Rattle.ks_engine.specs.declared.conventions.RecordOptions.{RecordOptions}
use Rattle.ks_engine.specs.Refusals.{and_then}
use Rattle.ks_engine.specs.Places.{depfile_at, placed_by, tree_of}
use Rattle.std.specs.Prelude.{map}
unfoldable use Rattle.ks_fixdep.specs.Rule.{rule_text}
use Rattle.ks_fixdep.specs.Rule.{first_target, rule_of}
unfoldable use Rattle.ks_fixdep.specs.Tokens.{tokens}
use Rattle.ks_engine.specs.Depfile.{NamesCommand, rule_by, ruled_by}
use Rattle.ks_engine.proofs.RecordSteps.{all_found, count_names, drafted_of, made_of, record_follows_under}

-- ---- the rule

-- what is made of the parts of a dependency file that was placed is its rule
pub rule_is : (under : Conventions) (was text rule : List ℕ) (ps : List (List ℕ × Role)) (names listed : List (List ℕ)) → text ≡ placed_by under.options was
    → ps ≡ prerequisites_without under.header text → names ≡ listed
    → rule ≡ rule_of (tree_of under.options) (first_target (tokens text)) (map (λ p. p.0) ps) listed → rule ≡ rule_by under was names
unfolding rule_text
rule_is under was text rule ps names listed at are same is =
    is
    ∙ ap (λ (qs : List (List ℕ × Role)). rule_of (tree_of under.options) (first_target (tokens text)) (map (λ p. p.0) qs) listed) are
    ∙ ap (λ ns. rule_of (tree_of under.options) (first_target (tokens text)) (map (λ p. p.0) (prerequisites_without under.header text)) ns) (sym same)
    ∙ ap (λ t. rule_of (tree_of under.options) (first_target (tokens t)) (map (λ p. p.0) (prerequisites_without under.header t)) names) at

-- ---- the commands' own files

ends_in : (front end : List ℕ) → ends_with nat_eq (front ++ end) end ≡ true
ends_in front end = (ends_is Decides-eqb (front ++ end) end (ends_with nat_eq (front ++ end) end) refl).1 front refl

own-stamp : (x : List ℕ) → is_own_file (stamp_path x) ≡ true
unfolding is_own_file stamp_path
own-stamp x = refl

own-command : (o : List ℕ) → is_own_file (command_path o) ≡ true
unfolding is_own_file command_path
own-command o = search (rules, or_right, or_left, ends_in)

own-temporary : (p : List ℕ) → is_own_file (temporary p) ≡ true
unfolding is_own_file
own-temporary p = search (rules, or_right, ends_in)

own-command_temporary : (o : List ℕ) → is_own_file (command_temporary o) ≡ true
unfolding command_temporary
own-command_temporary o = ap is_own_file (sym (append_assoc (dotted o) (codes ".cmd") (codes ".tmp"))) ∙ own-temporary (dotted o ++ codes ".cmd")

free_not : (p q : List ℕ) → is_own_file p ≡ false → is_own_file q ≡ true → p ≢ q
free_not p q free own same = both_ways _ free (ap is_own_file same ∙ own)

-- a record leaves a file that is none of them
free_kept : (p o : List ℕ) (old new : Files) → is_own_file p ≡ false → SameButBoth (command_temporary o) (command_path o) old new → content new p ≡ content old p
free_kept p o old new free others = search (rules, free_not, own-command_temporary, own-command)

-- ---- the stamps, and then the rule

module _ (d : List ℕ) (names : List (List ℕ)) (text : List ℕ) (free : is_own_file d ≡ false) where
  pub stamps_left : (old new : Files) (made : List (List ℕ)) → ((x : List ℕ) → is_in made x ≡ true → is_in names x ≡ true) → MakesStamps made old new
      → RuleLeaves old new d names text made
  stamps_left old new made within stamps = search (rules, free_not, own-stamp)

  pub rule_left : (old mid new : Files) (t : List ℕ) → t ≡ temporary d → ((x : List ℕ) → is_in names x ≡ true → IsTrue (is_name x)) → MakesStamps names old mid
      → SameButBoth t d mid new → (content new d ≡ content mid d) ⊎ (content new d ≡ Some text) → RuleLeaves old new d names text names
  rule_left old mid new t at legal stamps others either =
      let others' = subst (λ t. SameButBoth t d mid new) at others in
      let not_d : (x : List ℕ) → d ≢ stamp_path x = λ x. free_not d (stamp_path x) free (own-stamp x) in
      record {
        within = λ x among. among;
        stamps = λ x among.
            others' (stamp_path x) (apart (ending-stamp x (legal x among)) (ending-temporary d) (λ e. omega arith)) (λ same. not_d x (sym same)) ∙ stamps.made x among;
        depfile_is = ⊎_elim (λ kept. inl (kept ∙ stamps.others d (λ x among. not_d x))) (λ written. inr (refl, written)) either;
        others = λ q none not_d not_t. others' q not_t not_d ∙ stamps.others q none;
      }

-- ---- what the files show

number_kept : (file : Option (List ℕ)) (n : ℕ) → HasNumber file n → HasNumber (Some (kept_or file [])) n
number_kept file n has = search rules

-- Stamps were made, and of the commands' own files no other has changed but a temporary one.
stamped_shows : (old new : Files) (h : History) (names : List (List ℕ)) → ((x : List ℕ) → is_in names x ≡ true → IsTrue (is_name x))
    → ((x : List ℕ) → is_in names x ≡ true → content new (stamp_path x) ≡ Some (kept_or (content old (stamp_path x)) []))
    → ((q : List ℕ) → ((x : List ℕ) → is_in names x ≡ true → q ≢ stamp_path x) → is_own_file q ≡ true → ((d : List ℕ) → q ≢ temporary d)
    → content new q ≡ content old q) → Shows old h → Shows new h
unfolding is_own_file auto_path header_path
stamped_shows old new h names legal made others shows = same_shows old new h shows (fixed auto_path 102 ending-auto refl (omega arith)) (fixed header_path 104 ending-header refl (omega arith))
    (λ x name has. ⊎_elim
    (λ among. subst (λ file. HasNumber file (stamp h x)) (sym (made x among)) (number_kept _ _ has))
    (λ none. subst (λ file. HasNumber file (stamp h x)) (sym (others (stamp_path x)
    (λ y among same. both_ways _ none (ap (is_in names) (stamp-injective x y same) ∙ among)) (own-stamp x)
    (λ d. apart (ending-stamp x name) (ending-temporary d) (λ e. omega arith)))) has)
    (cases_Bool (is_in names x)))
    (λ o r last. fixed (command_path o) 100 (ending-command o) (own-command o) (omega arith))
  where
    fixed : (q : List ℕ) (n : ℕ) → ending q ≡ n → is_own_file q ≡ true → (0 < n) × (n < 112) → content new q ≡ content old q
    fixed q n at own between =
        others q (λ x among. apart at (ending-stamp x (legal x among)) (λ e. omega arith)) own (λ d. apart at (ending-temporary d) (λ e. omega arith))

pub made_stamps_show : MadeStampsShow
made_stamps_show old new names h legal made = stamped_shows old new h names legal made.made (λ q none own not. made.others q none)

-- ---- the names of a plan are legal

legal_deps : (deps : List Dep) → list_all is_dep deps ≡ true → (x : List ℕ) → is_in (config_names deps) x ≡ true → IsTrue (is_name x)
legal_deps [] legal x among = absurd cc
legal_deps (File path ∷ deps) legal x among = search (rules, and_parts, (legal_deps deps))
legal_deps (Config name ∷ deps) legal x among = search (rules, and_parts, bytes_eq-Decides, or_cases, (legal_deps deps))

pub legal_names : (conventions : Conventions) (files : Files) (d t c : List ℕ) (plan : RecordPlan) → IsRecordPlanUnder conventions files d t c plan
    → (x : List ℕ) → is_in plan.names x ≡ true → IsTrue (is_name x)
legal_names conventions files d t c plan is x among =
    legal_deps plan.file.deps is.legal.deps x (ap (λ l. is_in l x) (count_names conventions files d t c plan is) ∙ among)

-- ---- what the calls leave is what is said of the whole

module _ {conventions : Conventions} {old mid new : Files} {d t c : List ℕ} {plan : RecordPlan} {draft : Draft} {text : List ℕ} (planned : IsRecordPlanUnder conventions old d t c plan)
    (is : IsDraft plan draft) (same : mid ≡ old) (same_text : text ≡ draft.text.items) (others : SameButBoth (command_temporary t) (command_path t) mid new) where
  pub tried_from : (content new (command_path t) ≡ content mid (command_path t)) ⊎ (content new (command_path t) ≡ Some text)
      → IsRecordTriedUnder conventions old new d t c
  tried_from either = search rules

  abbrev pub recorded_from : content new (command_path t) ≡ Some text → content new (command_temporary t) ≡ None → IsRecordedUnder conventions old new d t c draft.answer
  recorded_from written gone = record {
    plan = plan;
    planned = planned;
    generation = is.generation;
    names = is.names ∙ ap length (count_names conventions old d t c plan planned);
    written = written ∙ ap (λ b. Some b) (same_text ∙ is.text);
    gone = gone;
    others = subst (λ f. SameButBoth (command_temporary t) (command_path t) f new) same others;
  }

-- ---- the history goes on

-- the record is the event: what holds of its names holds of those of the event, and the rule after it leaves what is shown
after_record : (conventions : Conventions) (old between new : Files) (m n : ℕ) (h : History) (d t c : List ℕ) (answer : Answer) (text : List ℕ) (made : List (List ℕ))
    (P : List (List ℕ) → Type 0) (recorded : IsRecordedUnder conventions old between d t c answer) → Shows old h → is_own_file d ≡ false
    → RuleLeaves between new d recorded.plan.names text made → P recorded.plan.names
    → (next : History) × (event : FollowsRecordedUnder conventions (at old m h) d t c answer (at between n next)) × P event.files.plan.names × Shows new next
after_record conventions old between new m n h d t c answer text made P recorded shows free leaves holds =
    let next = record_follows_under conventions old between m n h d t c (Ok answer) shows recorded tt in
    let same = ok_ok recorded.plan next.1.files.plan (sym recorded.planned.planned ∙ next.1.files.planned.planned) in (
      next.0,
      next.1,
      subst (λ (p : RecordPlan). P p.names) same holds,
      stamped_shows between new next.0 made (λ x among. legal_names conventions old d t c recorded.plan recorded.planned x (leaves.within x among)) leaves.stamps
          (λ q none own not. leaves.others q none (λ e. free_not d q free own (sym e)) (not d)) next.2,
    )

module _ (conventions : Conventions) {old new : Files} (m n : ℕ) (h : History) (d t c : List ℕ) where
  pub depfile_follows : (r : Result Answer EngineError) → Shows old h → IfOk r (IsDepfileRecorded conventions old new d t c)
      → IfErr r (IsDepfileRefused conventions old new d t c) → (next : History) × FollowsDepfile conventions d t c r (at old m h) (at new n next) × Shows new next
  depfile_follows (Ok answer) shows ok err =
      let next = after_record conventions old ok.between new m n h d t c answer _ _ (λ names. RuleDone ok.between new d names (rule_by conventions ok.was names))
      ok.recorded shows ok.free ok.rule.leaves ok.rule in
      (next.0, record { between = at ok.between n next.0; recorded = next.1; history = refl; was = ok.was; was_there = ok.was_there; rule = next.2 }, next.3)
  depfile_follows (Err e) shows ok (inl own) = search rules
  depfile_follows (Err e) shows ok (inr (inl refused)) =
      let next = record_follows_under conventions old new m n h d t c (Err e) shows tt refused.1 in (next.0, inr (inl next.1), next.2)
  depfile_follows (Err e) shows ok (inr (inr (given, is))) =
      let next = after_record conventions old is.between new m n h d t c is.answer _ _ (λ names. RuleTried is.between new d names (rule_by conventions is.was names))
      is.recorded shows is.free is.rule.1 is.rule in (
        next.0,
        inr (inr (given, record { answer = is.answer; between = at is.between n next.0; recorded = next.1; history = refl; was = is.was; was_there = is.was_there; rule = next.2 })),
        next.3,
      )

-- ---- the names of the command

pub there_some : (d : List ℕ) (file : Option (List ℕ)) (text : List ℕ) → there d file ≡ Ok text → file ≡ Some text
there_some d None text e = absurd cc
there_some d (Some b) text e = search (rules, ok_ok)

-- a dependency file that is there, with the paths that it has here
pub placed_some : (options : RecordOptions) (d : List ℕ) (file : Option (List ℕ)) (text : List ℕ) → depfile_at options d file ≡ Ok text
    → (was : List ℕ) × (file ≡ Some was) × (text ≡ placed_by options was)
placed_some options d file text e = placed_from (there d file) refl e
  where
    placed_from : (r : Result (List ℕ) EngineError) → there d file ≡ r → and_then r (λ b. Ok (placed_by options b)) ≡ Ok text
        → (was : List ℕ) × (file ≡ Some was) × (text ≡ placed_by options was)
    placed_from (Ok was) is e = (was, there_some d file was is, sym (ok_ok _ _ e))
    placed_from (Err bad) is e = absurd cc

all_listed : (refusal : Option DepError) (all ps : List (List ℕ × Role)) → listed_unless refusal all ≡ Ok ps → ps ≡ all
all_listed None all ps e = sym (ok_ok all ps e)
all_listed (Some bad) all ps e = absurd cc

-- the rule leaves the command file
command_kept : (between new : Files) (d t text : List ℕ) (names made : List (List ℕ)) → is_own_file d ≡ false → ((x : List ℕ) → is_in names x ≡ true → IsTrue (is_name x))
    → RuleLeaves between new d names text made → content new (command_path t) ≡ content between (command_path t)
command_kept between new d t text names made free legal leaves = leaves.others (command_path t)
    (λ x among. apart (ending-command t) (ending-stamp x (legal x (leaves.within x among))) (λ e. omega arith)) (λ e. free_not d (command_path t) free (own-command t) (sym e))
    (apart (ending-command t) (ending-temporary d) (λ e. omega arith))

pub names_command : (header : Header) (options : RecordOptions) (dialect : Dialect) (old new : Files) (d t c : List ℕ) (answer : Answer)
    → IsDepfileRecorded (ruled_by header options dialect) old new d t c answer → NamesCommand header options dialect old new d t c
names_command header options dialect old new d t c answer is =
    let under = ruled_by header options dialect in
    let plan = is.recorded.plan in
    let planned = is.recorded.planned in
    let made = made_of under old d t c plan planned.planned in
    let parts = drafted_of under t c made.ps made.g (all_found made) plan made.draft in
    let at = placed_some options d (content old d) made.text made.at in
    record {
      was = at.0;
      was_there = at.1;
      found = made.found;
      scanned = subst (λ ps. scanned_all (rules_for dialect t) old ps ≡ Ok made.found)
          (all_listed _ _ made.ps made.listed ∙ ap (prerequisites_without header) at.2) made.all;
      file = plan.file;
      written = command_kept is.between new d t _ plan.names plan.names is.free (legal_names under old d t c plan planned) is.rule.leaves ∙ is.recorded.written ∙ ap (λ b. Some b) (parts.text ∙ append-nil (command_text plan.file));
      names = count_names under old d t c plan planned ∙ parts.names;
    }

-- ---- the dependency file

module _ {conventions : Conventions} {old new : Files} {d t c : List ℕ} {e : EngineError} where
  pub old_or_rule : IsDepfileRefused conventions old new d t c e → IsOldOrRule conventions (content old d) (content new d)
  old_or_rule (inl own) = inl (ap (λ f. content f d) own.2)
  old_or_rule (inr (inl (free, inl plain))) = inl (ap (λ f. content f d) plain.1)
  old_or_rule (inr (inl (free, inr (given, inl same)))) = inl (ap (λ f. content f d) same)
  old_or_rule (inr (inl (free, inr (given, inr tried)))) = inl (free_kept d t old new free tried.others)
  old_or_rule (inr (inr (given, broken))) = ⊎_elim
      (λ kept. inl (kept ∙ free_kept d t old broken.between broken.free broken.recorded.others))
      (λ written. inr (broken.was, broken.recorded.plan.names, broken.was_there, written.1))
      broken.rule.1.depfile_is
