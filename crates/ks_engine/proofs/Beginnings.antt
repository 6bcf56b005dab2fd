-- Trees to begin with, and the one plan of a synchronisation.
use Rattle.ks_engine.proofs.Prelude.{Dialect, AreConfigInputs, AreInputs, Source, and_then, ap, content, old_auto, plan_over, AreWritten, FromKconfig, FromConf, ◌≡◌, inl, inr, ℕ, ◌<◌, ◌^◌, List, Option, refl, sym, ◌∙◌, subst, nat_cmp, arith, slice_cmp, nat_list_cmp_total, empty, get-empty, same_map, slice_cmp-IsAntisymmetric, nat_cmp-IsAntisymmetric, auto_path, stamp_path, HasNumber, Texts, IsFirstAuto, ConfigInputs, EmptyTreeShows, UsualTreeShows, UntypedTreeShows, PlansAreOne, KconfigText, rules, generation_fits}
use Rattle.ks_engine.proofs.Reading.{inputs_accepted}

-- the generation of a first auto.conf fits 64 bits
first_fits : (texts : Texts) (generation : ℕ) (file : Option (List ℕ)) → IsFirstAuto texts generation file → generation < 2 ^ 64
first_fits texts generation file is = grind (arith, generation_fits)

pub untyped_shows : UntypedTreeShows
untyped_shows files texts generation stamps auto bound numbers = search (rules, first_fits)

pub usual_shows : UsualTreeShows
usual_shows files texts auto stamps = untyped_shows files texts 0 (λ x. 0) auto (λ x. omega arith) stamps

no_texts : Texts
no_texts = empty

pub empty_shows : EmptyTreeShows
unfolding no_texts
empty_shows =
    usual_shows empty no_texts (subst (IsFirstAuto no_texts 0) (sym (get-empty (slice_cmp nat_cmp) auto_path)) (refl, refl))
    (λ x name. subst (λ file. HasNumber file 0) (sym (get-empty (slice_cmp nat_cmp) (stamp_path x))) refl)

one_source : (kconfig : KconfigText) (dotconfig : List ℕ) (s t : ConfigInputs) → AreConfigInputs kconfig dotconfig s → AreConfigInputs kconfig dotconfig t → s ≡ t
one_source kconfig dotconfig s t a b =
    let config = same_map nat_list_cmp_total (slice_cmp-IsAntisymmetric nat_cmp-IsAntisymmetric) s.config t.config (λ x. a.settings x ∙ sym (b.settings x)) in
    λ i. record { title = (a.title ∙ sym b.title) i; config = config i; unknown = (a.unknown ∙ sym b.unknown) i }

one_written : (d : Dialect) (first header : List ℕ) (s t : ConfigInputs) → AreWritten d first header s → AreWritten d first header t → s ≡ t
one_written d first header s t a b =
    let config : s.config ≡ t.config = cc (a.settings, b.settings) in
    λ i. record { title = (a.title ∙ sym b.title) i; config = config i; unknown = (a.unknown ∙ sym b.unknown) i }

pub one_input : (source : Source) (s t : ConfigInputs) → AreInputs source s → AreInputs source t → s ≡ t
one_input (FromKconfig k d) s t a b = one_source k d s t a b
one_input (FromConf d first header) s t a b = one_written d first header s t a b

pub one_plan : PlansAreOne
one_plan files source r s (inl a) (inl b) = cc
one_plan files source r s (inl a) (inr b) = let accepted = (inputs_accepted source b.0 b.1).0 in absurd cc
one_plan files source r s (inr a) (inl b) = let accepted = (inputs_accepted source a.0 a.1).0 in absurd cc
one_plan files source r s (inr a) (inr b) =
    a.2 ∙ ap (λ i. and_then (old_auto (content files auto_path)) (plan_over i)) (one_input source a.0 b.0 a.1 b.1) ∙ sym b.2
