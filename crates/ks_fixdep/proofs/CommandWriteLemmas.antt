-- Texts that grow at their end.
use Rattle.ks_fixdep.proofs.Prelude.{◌≡◌, ℕ, List, [], ◌∷◌, ◌++◌, refl, append-nil, append_assoc, map, map-append, deps_text, flat_map, flat_map-append, CommandRecord, back_lines, ended, front_lines, generation_line, command_text, arith, common_steps}

-- a text of its three parts
pub text-parts : (f : CommandRecord) → command_text f
    ≡ flat_map ended (front_lines f.target f.command f.source) ++ (deps_text f.deps ++ flat_map ended (back_lines f.target ++ generation_line f.generation))
text-parts f = grind (arith, common_steps, append_assoc, flat_map-append)

pub three-parts : (o a b d p q r t : List ℕ) → a ≡ o ++ p → b ≡ a ++ q → d ≡ b ++ r → t ≡ p ++ (q ++ r) → d ≡ o ++ t
three-parts o a b d p q r t ea eb ed et = rw (et, ed, eb, ea) (simp append_assoc refl)

-- a text grows by one line of a list
pub one-line : (f : List ℕ → List ℕ) (out front a text x : List ℕ) (xs next : List (List ℕ)) → a ≡ out ++ (front ++ flat_map ended (map f xs)) → next ≡ xs ++ x ∷ []
    → text ≡ a ++ ended (f x) → text ≡ out ++ (front ++ flat_map ended (map f next))
one-line f out front a text x xs next ea en et = rw (et, ea, en) (simp (map-append, flat_map-append, append-nil, append_assoc) refl)
