use Rattle.ks_requests.proofs.Prelude.{◌≡◌, ◌∙◌, ℕ, List, Option, Ok, Err, None, IfSome, excerpt, option_map, refl, seen_site, site_line, subst, sym}
use Rattle.ks_requests.proofs.Siting.{seen_excerpt}
use Rattle.ks_tree.specs.declared.fault.TreeFault.TheVariants.{OutOfMemory}
use Rattle.ks_requests.proofs.output.print_found.Goals as goal

pub returns-in-Ok-clause-line : goal.returns-in-Ok-clause-line
returns-in-Ok-clause-line g c =
    let text = option_map (λ t. t.now) c.borrowed.result in (
      site_line (seen_site c.args.site.now) text,
      (
        Ok text,
        (
          λ honest. c.borrowed.ensures ∙ c.in-Ok.ensures.there honest,
          subst (λ (t : Option (List ℕ)). IfSome t (λ l. (bytes : List ℕ) × (l ≡ excerpt bytes))) (sym c.borrowed.ensures)
              (seen_excerpt (λ t. t.items) c.in-Ok.text c.in-Ok.ensures.visible),
        ),
        refl,
      ),
      c.print_site.ensures.whole,
      c.print_site.ensures.broken,
    )

pub returns-in-Err-clause-line : goal.returns-in-Err-clause-line
returns-in-Err-clause-line g c = (
  site_line (seen_site c.args.site.now) None,
  (Err OutOfMemory, tt, refl),
  c.print_site-in-Err.ensures.whole,
  c.print_site-in-Err.ensures.broken,
)
