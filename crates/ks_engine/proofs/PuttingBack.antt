-- What a repair leaves, write by write.
use Rattle.ks_engine.proofs.Prelude.{Header, ◌≡◌, ◌⊎◌, inl, inr, ⊎_elim, ℕ, List, [], ◌∷◌, Some, true, ◌∙◌, sym, refl, All, All-head, All-tail, or_cases, true≢false, bytes_eq, bytes_eq-Decides, subst, is_in, is_name, IsTrue, header_path, Files, content, SameButBoth, auto_path, auto_temporary, header_temporary, stamp_path, AutoConf, Stamp, AutoTemporary, HeaderTemporary, Touches}
use Rattle.ks_engine.proofs.LowerLaws.{apart}
use Rattle.ks_engine.proofs.Writes.{beside_touched}
use Rattle.ks_engine.specs.declared.repairing.Kept.{Kept}
use Rattle.ks_engine.specs.Repairs.{RepairLeaves}

-- what holds of each element holds of each name that is among them
pub among : (P : List ℕ → Type 0) (xs : List (List ℕ)) → All P xs → (x : List ℕ) → is_in xs x ≡ true → P x
among P [] all x is = absurd (true≢false (sym is))
among P (y ∷ ys) all x is = ⊎_elim
    (λ same. subst P (sym ((bytes_eq-Decides x y).0 same)) (All-head P y ys all))
    (λ later. among P ys (All-tail P y ys all) x later)
    (or_cases (bytes_eq x y) (is_in ys x) is)

module _ (old : Files) (k : Kept) (number : ℕ) (lost : List (List ℕ)) (legal : (x : List ℕ) → is_in lost x ≡ true → IsTrue (is_name x)) where
  -- after the stamps of some names
  pub after_stamps : (new : Files) (renewed : List (List ℕ)) → ((x : List ℕ) → is_in renewed x ≡ true → is_in lost x ≡ true)
      → Touches renewed number old new → RepairLeaves old new k number lost renewed
  after_stamps new renewed within touched = record {
    within = within;
    stamps = touched.stamps;
    header = inl (beside_touched lost legal within touched Header tt (λ e. cc) (λ x e. cc));
    auto = inl (beside_touched lost legal within touched AutoConf tt (λ e. cc) (λ x e. cc));
    others = λ q stamps header auto ts th ta. touched.others q ts (λ x among. stamps x (within x among));
  }

  -- and then the header, old or new
  pub headed : (one two : Files) → Touches lost number old one → SameButBoth header_temporary header_path one two
      → (content two header_path ≡ content one header_path) ⊎ (content two header_path ≡ Some k.header.items)
      → RepairLeaves old two k number lost lost
  headed one two touched others header =
      let kept = beside_touched lost legal (λ x among. among) touched in
      let stamped = after_stamps one lost (λ x among. among) touched in
      record {
        within = λ x among. among;
        stamps = λ x name. others (stamp_path x) (apart (Stamp x) HeaderTemporary name tt (λ e. cc)) (apart (Stamp x) Header name tt (λ e. cc)) ∙ stamped.stamps x name;
        header = ⊎_elim (λ same. inl (same ∙ kept Header tt (λ e. cc) (λ x e. cc))) (λ made. inr (refl, made)) header;
        auto = inl (others auto_path (apart AutoConf HeaderTemporary tt tt (λ e. cc)) (apart AutoConf Header tt tt (λ e. cc)) ∙ kept AutoConf tt (λ e. cc) (λ x e. cc));
        others = λ q stamps header auto ts th ta. others q th header ∙ stamped.others q stamps header auto ts th ta;
      }

  -- Replacing auto.conf leaves the header.
  pub header_stays : (two three : Files) → SameButBoth auto_temporary auto_path two three → content three header_path ≡ content two header_path
  header_stays two three others = others header_path (apart Header AutoTemporary tt tt (λ e. cc)) (apart Header AutoConf tt tt (λ e. cc))

  -- and then auto.conf, old or new
  pub finished : (one two three : Files) → Touches lost number old one → SameButBoth header_temporary header_path one two
      → content two header_path ≡ Some k.header.items → SameButBoth auto_temporary auto_path two three
      → (content three auto_path ≡ content two auto_path) ⊎ (content three auto_path ≡ Some k.auto.items)
      → RepairLeaves old three k number lost lost
  finished one two three touched others made others_then auto =
      let was = headed one two touched others (inr made) in
      let header = header_stays two three others_then ∙ made in
      let auto_kept = others auto_path (apart AutoConf HeaderTemporary tt tt (λ e. cc)) (apart AutoConf Header tt tt (λ e. cc))
      ∙ beside_touched lost legal (λ x among. among) touched AutoConf tt (λ e. cc) (λ x e. cc) in
      record {
        within = λ x among. among;
        stamps = λ x name. others_then (stamp_path x) (apart (Stamp x) AutoTemporary name tt (λ e. cc)) (apart (Stamp x) AutoConf name tt (λ e. cc)) ∙ was.stamps x name;
        header = inr (refl, header);
        auto = ⊎_elim (λ kept. inl (kept ∙ auto_kept)) (λ made. inr (refl, header, made)) auto;
        others = λ q stamps header auto ts th ta. others_then q ta auto ∙ was.others q stamps header auto ts th ta;
      }
