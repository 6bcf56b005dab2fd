-- What a read after a refusal leaves, and where there is none.
use Rattle.ks_commands.proofs.Prelude.{◌≡◌, List, ℕ, Option, Some, None, Ok, Err, refl, sym, ap, ◌∙◌, subst, Ghosts, Files, Reads, IsSiteLine, Site, excerpt_at, rules}
use Rattle.ks_tree.specs.Files.{IsTooLarge, content}
use Rattle.ks_tree.specs.declared.fault.TreeFault.TheVariants as fault

-- what stands there, with the files as they are after they were read
pub site_line_kept : (honest : Type 0) (old new : Files) (site : Option Site) (line : List ℕ) → (honest → new ≡ old) → IsSiteLine honest old site line
    → IsSiteLine honest new site line
site_line_kept honest old new (Some site) line same (Ok text, there, whole) =
    (Ok text, (λ h. there.0 h ∙ ap (λ (f : Files). excerpt_at f site) (sym (same h)), there.1), whole)
site_line_kept honest old new (Some site) line same (Err fault.TooLarge, there, whole) =
    (Err fault.TooLarge, λ h. subst (λ (f : Files). IsTooLarge (content f site.0)) (sym (same h)) (there h), whole)
site_line_kept honest old new (Some site) line same (Err fault.OutOfMemory, there, whole) = (Err fault.OutOfMemory, there, whole)
site_line_kept honest old new (Some site) line same (Err fault.Device, there, whole) = (Err fault.Device, there, whole)
site_line_kept honest old new None line same is = is

-- nothing is read
pub nothing_read : {T : Type 0} (tree : Ghosts T) (t : T) → Reads tree t t ⊥
nothing_read tree t = record { unchanged = λ honest. refl; kept = refl; counted = record { later = search rules; cause = λ device. absurd device } }
