-- What stands at a site.
use Rattle.ks_requests.proofs.Prelude.{◌≡◌, List, ℕ, Option, Some, None, IfSome, option_map, Part, excerpt, excerpt_in, part_text, sym}

excerpt_of : (found : Option (List ℕ)) (text : List ℕ) → option_map excerpt found ≡ Some text → (bytes : List ℕ) × (text ≡ excerpt bytes)
excerpt_of None text is = absurd cc
excerpt_of (Some bytes) text is = (bytes, cc)

-- what stands at a part is an excerpt
pub excerpts : {V : Type 0} (items : V → List ℕ) (part : Part) (text : List ℕ) (found : Option V) → option_map items found ≡ excerpt_in part text
    → IfSome found (λ t. (bytes : List ℕ) × (items t ≡ excerpt bytes))
excerpts items part text None is = tt
excerpts items part text (Some t) is = excerpt_of (part_text part text) (items t) (sym is)

-- .. and so as a value of the definitions
pub seen_excerpt : {V : Type 0} (items : V → List ℕ) (found : Option V) → IfSome found (λ t. (bytes : List ℕ) × (items t ≡ excerpt bytes))
    → IfSome (option_map items found) (λ t. (bytes : List ℕ) × (t ≡ excerpt bytes))
seen_excerpt items None is = is
seen_excerpt items (Some t) is = is
