use Rattle.ks_requests.proofs.Prelude.{◌∙◌, ◌∷◌, [], refl, subst, IsUtf8, IsUtf8-append, IsUtf8-are_ascii, json_answer, print}
use Rattle.ks_requests.proofs.JsonObjects.{then_more}
use Rattle.ks_requests.proofs.json_lines.line_of.Goals as goal

pub returns-clause-utf8 : goal.returns-clause-utf8
unfolding json_answer
returns-clause-utf8 c =
    let are = c.in_ok-write_object.ensures.tokens ∙ then_more [] _ [] _ c.new-out.ensures.tokens in
    IsUtf8-append _ (10 ∷ []) (subst (λ ts. IsUtf8 (print ts)) are c.into_inner-line.ensures.utf8) (IsUtf8-are_ascii (10 ∷ []) refl)
