use Rattle.ks_cli.proofs.Prelude.{◌≡◌, ℕ, Option, Some, None, refl, ParsesUnsigned, ReadsOne, Text, one_text-rows, IsNumberOf, rules}
use Rattle.std.proofs.Common.{Result}
use Rattle.ks_cli.proofs.args.number.Goals as goal

number_read : {E : Type 0} (Explains Spells : Text → Result ℕ E → Type 0) (o : Option Text) (n : Option ℕ) → (o ≡ None → n ≡ None)
    → ((t : Text) → o ≡ Some t → ReadsOne (λ bs r. ParsesUnsigned 64 10 bs r × Explains bs r × Spells bs r) t n) → IsNumberOf o n
number_read Explains Spells None n none some = none refl
number_read Explains Spells (Some t) (Some n) none some = let read = some t refl in (read.0.0.0, read.0.1)
number_read Explains Spells (Some t) None none some = λ numeral. (some t refl).1.0 numeral

pub returns : goal.returns
returns c = search (rules, one_text-rows, number_read)
