-- What the writes of a synchronisation leave, one after another.
use Rattle.ks_engine.proofs.Prelude.{Header, ◌≡◌, ◌⊎◌, inl, inr, ⊎_elim, ℕ, ◌+◌, List, Some, None, true, sym, ap, ◌∙◌, refl, subst, take, drop, take-append-drop, list_any-append, or_left, bytes_eq, Result, Ok, Err, OnErr, OnOk, auto_text, header_text, is_in, header_path, Files, content, SameButBoth, auto_path, auto_temporary, header_temporary, stamp_path, stamp_temporary, left_over, AreCleared, Place, AutoConf, Stamp, AutoTemporary, HeaderTemporary, StampTemporary, path_of, IsLegalPlace, Touches, AreLegalChanges, SyncLeaves, Plan, rules, is_name, IsTrue}
use Rattle.ks_engine.proofs.LowerLaws.{apart}

-- What is no stamp is left by stamps that are renewed.
pub beside_touched : {old new : Files} {renewed : List (List ℕ)} {g : ℕ} (names : List (List ℕ)) → ((x : List ℕ) → is_in names x ≡ true → IsTrue (is_name x))
    → ((x : List ℕ) → is_in renewed x ≡ true → is_in names x ≡ true) → Touches renewed g old new
    → (p : Place) → IsLegalPlace p → (p ≡ StampTemporary → ⊥) → ((x : List ℕ) → p ≡ Stamp x → ⊥) → content new (path_of p) ≡ content old (path_of p)
beside_touched names legal within touched p is_legal no_temporary no_stamp =
    touched.others (path_of p) (apart p StampTemporary is_legal tt no_temporary) (λ x among. apart p (Stamp x) is_legal (legal x (within x among)) (no_stamp x))

module _ (old : Files) (plan : Plan) (changed : List (List ℕ)) (are : AreLegalChanges plan.old plan.config changed) where
  -- after the stamps of some changes
  pub after_stamps : (new : Files) (renewed : List (List ℕ)) → ((x : List ℕ) → is_in renewed x ≡ true → is_in changed x ≡ true)
      → Touches renewed (plan.generation + 1) old new → SyncLeaves old new plan changed renewed
  after_stamps new renewed within touched = record {
    within = within;
    stamps = touched.stamps;
    header = inl (beside_touched changed are.legal within touched Header tt (λ e. cc) (λ x e. cc));
    auto = inl (beside_touched changed are.legal within touched AutoConf tt (λ e. cc) (λ x e. cc));
    others = λ q stamps header auto ts th ta. touched.others q ts (λ x among. stamps x (within x among));
  }

  -- and then the header, old or new
  pub headed : (g : ℕ) (one two : Files) → g ≡ plan.generation + 1 → Touches changed g old one → SameButBoth header_temporary header_path one two
      → (content two header_path ≡ content one header_path) ⊎ (content two header_path ≡ Some (header_text plan.title plan.config))
      → SyncLeaves old two plan changed changed
  headed g one two is touched others header =
      let kept = beside_touched changed are.legal (λ x among. among) touched in
      let stamped = after_stamps one changed (λ x among. among) (subst (λ n. Touches changed n old one) is touched) in
      record {
        within = λ x among. among;
        stamps = λ x name. others (stamp_path x) (apart (Stamp x) HeaderTemporary name tt (λ e. cc)) (apart (Stamp x) Header name tt (λ e. cc)) ∙ stamped.stamps x name;
        header = ⊎_elim (λ same. inl (same ∙ kept Header tt (λ e. cc) (λ x e. cc))) (λ made. inr (refl, made)) header;
        auto = inl (others auto_path (apart AutoConf HeaderTemporary tt tt (λ e. cc)) (apart AutoConf Header tt tt (λ e. cc)) ∙ kept AutoConf tt (λ e. cc) (λ x e. cc));
        others = λ q stamps header auto ts th ta. others q th header ∙ stamped.others q stamps header auto ts th ta;
      }

  -- Replacing auto.conf leaves the header.
  pub header_stays : (two three : Files) → SameButBoth auto_temporary auto_path two three → content three header_path ≡ content two header_path
  header_stays two three others = others header_path (apart Header AutoTemporary tt tt (λ e. cc)) (apart Header AutoConf tt tt (λ e. cc))

  -- and then auto.conf, old or new
  pub finished : (g : ℕ) (one two three : Files) → g ≡ plan.generation + 1 → Touches changed g old one → SameButBoth header_temporary header_path one two
      → content two header_path ≡ Some (header_text plan.title plan.config) → SameButBoth auto_temporary auto_path two three
      → (content three auto_path ≡ content two auto_path) ⊎ (content three auto_path ≡ Some (auto_text plan.title plan.config (plan.generation + 1)))
      → SyncLeaves old three plan changed changed
  finished g one two three is touched others made others_then auto =
      let was = headed g one two is touched others (inr made) in
      let header = header_stays two three others_then ∙ made in
      let auto_kept = others auto_path (apart AutoConf HeaderTemporary tt tt (λ e. cc)) (apart AutoConf Header tt tt (λ e. cc))
      ∙ beside_touched changed are.legal (λ x among. among) touched AutoConf tt (λ e. cc) (λ x e. cc) in
      record {
        within = λ x among. among;
        stamps = λ x name. others_then (stamp_path x) (apart (Stamp x) AutoTemporary name tt (λ e. cc)) (apart (Stamp x) AutoConf name tt (λ e. cc)) ∙ was.stamps x name;
        header = inr (refl, header);
        auto = ⊎_elim (λ kept. inl (kept ∙ auto_kept)) (λ made. inr (refl, header, made)) auto;
        others = λ q stamps header auto ts th ta. others_then q ta auto ∙ was.others q stamps header auto ts th ta;
      }

-- The two last writes leave no temporary file, and that of the stamps as it was.
pub cleared : (old one two three : Files) (changed : List (List ℕ)) → content one stamp_temporary ≡ left_over changed (content old stamp_temporary)
    → SameButBoth header_temporary header_path one two → content two header_temporary ≡ None → SameButBoth auto_temporary auto_path two three
    → content three auto_temporary ≡ None → AreCleared old three changed
cleared old one two three changed stamps others header others_then auto =
    let kept = λ (p : Place) (legal : IsLegalPlace p) (temporary : p ≡ AutoTemporary → ⊥) (conf : p ≡ AutoConf → ⊥). others_then (path_of p)
    (apart p AutoTemporary legal tt temporary) (apart p AutoConf legal tt conf) in
    record {
      stamps = kept StampTemporary tt (λ e. cc) (λ e. cc)
          ∙ others stamp_temporary (apart StampTemporary HeaderTemporary tt tt (λ e. cc)) (apart StampTemporary Header tt tt (λ e. cc)) ∙ stamps;
      header = kept HeaderTemporary tt (λ e. cc) (λ e. cc) ∙ header;
      auto = auto;
    }

pub on_err : {T E : Type 0} (r : Result T E) (P : Type 0) → P → OnErr r P
on_err r P p = search rules

-- what is among the first names is among them
pub beginning : (names : List (List ℕ)) (n : ℕ) (x : List ℕ) → is_in (take n names) x ≡ true → is_in names x ≡ true
beginning names n x among = sym (ap (λ l. is_in l x) (take-append-drop n names)) ∙ list_any-append (bytes_eq x) (take n names) (drop n names) ∙ or_left _ _ among

pub both_ok : {T E : Type 0} (r : Result T E) (P Q : Type 0) → OnOk r P → OnOk r Q → OnOk r (P × Q)
both_ok (Ok x) P Q p q = (p, q)
both_ok (Err e) P Q p q = tt
