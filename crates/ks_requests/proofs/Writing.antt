-- How the pieces of lines stand one after the other.
use Rattle.ks_requests.proofs.Prelude.{◌≡◌, ◌⊎◌, ℕ, List, [], ◌++◌, codes, inl, inr, subst, sym, ap, ap₂, ◌∙◌, append_assoc, append-nil, rules, Prints, PrintsOrBreaks, reported_more}
use Rattle.ks_streams.specs.Streams.{State}
use Rattle.ks_streams.proofs.Writing.{takes_more}
use Rattle.ks_requests.specs.Faults.{place_text, whole_text}
use Rattle.ks_requests.specs.declared.faults.FaultText.{FaultText}

pub fault_pieces : (a b c d : List ℕ) → a ++ (b ++ (c ++ (d ++ []))) ≡ a ++ (b ++ c) ++ d
fault_pieces a b c d = ap (λ l. a ++ (b ++ (c ++ l))) (append-nil d) ∙ ap (λ l. a ++ l) (sym (append_assoc b c d)) ∙ sym (append_assoc a (b ++ c) d)

pub error_pieces : (a b c d e f g : List ℕ) → a ++ (b ++ (c ++ (d ++ (e ++ (f ++ (g ++ [])))))) ≡ a ++ (b ++ c ++ d ++ e ++ f) ++ g
error_pieces a b c d e f g = search (rules, append-nil, append_assoc)

pub hint_pieces : (a b c d e : List ℕ) → a ++ (b ++ (c ++ (d ++ (e ++ [])))) ≡ a ++ b ++ c ++ d ++ e
hint_pieces a b c d e = search (rules, append-nil, append_assoc)

-- the line of a text by what its parts are
pub fault_line : (text : FaultText) (number name label place whole : List ℕ) → number ≡ text.error.number.now → name ≡ text.error.name.now
    → label ≡ text.label.now → place ≡ place_text text.place → whole_text text ≡ whole
    → codes "confstamp: " ++ (number ++ codes " " ++ name ++ label ++ place) ++ codes "\n" ≡ codes "confstamp: " ++ whole ++ codes "\n"
fault_line text number name label place whole is_number is_name is_label is_place is_whole =
    ap (λ l. codes "confstamp: " ++ l ++ codes "\n")
    (ap₂ (λ l m. l ++ m) (ap₂ (λ l m. l ++ m) (ap₂ (λ l m. l ++ codes " " ++ m) is_number is_name) is_label) is_place ∙ is_whole)

pub prints_more : (a b : List ℕ) (first second third : State) → Prints a first second → Prints b second third → Prints (a ++ b) first third
prints_more a b first second third p q = record { takes = takes_more a b first second third p.takes q.takes; seen_out = q.seen_out }

-- the hint after what was printed
pub hinted : (text hint : List ℕ) (first second third : State) → Prints text first second → ((hint ≡ []) × (third ≡ second)) ⊎ PrintsOrBreaks hint second third
    → PrintsOrBreaks (text ++ hint) first third
hinted text hint first second third printed (inl none) =
    inl (subst (λ l. Prints l first third) (sym (ap (λ l. text ++ l) none.0 ∙ append-nil text)) (subst (Prints text first) (sym none.1) printed))
hinted text hint first second third printed (inr more) = reported_more text hint first second third printed more

pub site_pieces : (a b c d e f g : List ℕ) → a ++ (b ++ (c ++ (d ++ (e ++ (f ++ (g ++ [])))))) ≡ a ++ b ++ (c ++ d) ++ (e ++ f) ++ g
site_pieces a b c d e f g = search (rules, append-nil, append_assoc)
