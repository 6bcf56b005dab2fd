use Rattle.ks_requests.proofs.Siting.{excerpts}
use Rattle.ks_requests.proofs.sites.excerpt_at.Goals as goal

pub returns-in_ok-excerpt_in-in-Some-clause-visible : goal.returns-in_ok-excerpt_in-in-Some-clause-visible
returns-in_ok-excerpt_in-in-Some-clause-visible g c = excerpts (λ t. t.items) _ _ _ c.in_ok-excerpt_in-in-Some.ensures
