-- The dependency file that a build by times is given in the place of the compiler's: one rule, in which the stamps of the found names stand for the
-- header of all symbols. Its form is that of compilers; what stands in it is a rule of this project.
use Rattle.std.specs.Prelude.{◌≡◌, ◌&&◌, ℕ, Bool, IsTrue, Option, Some, None, IfSome, List, [], ◌∷◌, ◌++◌, map, flat_map, codes}
use Rattle.std.specs.List.{list_all}
use Rattle.ks_symbols.specs.Names.{is_name, is_path}
use Rattle.ks_fixdep.specs.declared.dependency_file.Header.{Header}
use Rattle.ks_fixdep.specs.CommandLines.{line_feed}
use Rattle.ks_fixdep.specs.Tokens.{tokens, is_other, is_some_token}
use Rattle.ks_fixdep.specs.DependencyFile.{is_target_token, prerequisites_without, refusal_without}

-- the stamp of a name; for a build in another directory by the name that the tree has there
abbrev pub stamp_of : Option (List ℕ) → List ℕ → List ℕ
stamp_of None name = codes "include/config/" ++ name
stamp_of (Some tree) name = tree ++ (codes "/include/config/" ++ name)

-- a path on a line of its own, after an escaped line end
abbrev pub continued : List ℕ → List ℕ
continued path = codes " \\\n  " ++ path

-- a rule of a target, with its colon, of these paths and of the stamps of these names
abbrev pub rule_of : Option (List ℕ) → List ℕ → List (List ℕ) → List (List ℕ) → List ℕ
rule_of tree target paths names = target ++ (flat_map continued paths ++ (flat_map continued (map (stamp_of tree) names) ++ line_feed))

-- the first target of a dependency file, whose first token it is
abbrev pub first_target : List (List ℕ) → List ℕ
first_target [] = []
first_target (t ∷ ts) = t

-- The first target, each prerequisite but the header at its first place, and the stamp of each name.
unfoldable pub rule_text : Option (List ℕ) → Header → List ℕ → List (List ℕ) → List ℕ
rule_text tree header depfile names = rule_of tree (first_target (tokens depfile)) (map (λ p. p.0) (prerequisites_without header depfile)) names

-- what can be a token: some bytes, none of them a separator
abbrev pub is_token : List ℕ → Bool
is_token t = is_some_token t && list_all is_other t

-- A rule reads as its target, its paths and the stamps, each as it was written.
abbrev pub RulesReadBack : Type 0
RulesReadBack =
    (tree : Option (List ℕ)) (target : List ℕ) (paths names : List (List ℕ)) → IfSome tree (λ t. IsTrue (is_path t)) → IsTrue (is_token target)
    → IsTrue (list_all is_path paths) → IsTrue (list_all is_name names) → tokens (rule_of tree target paths names) ≡ target ∷ (paths ++ map (stamp_of tree) names)

-- What a dependency file has first is such a token, and a target where the file isn't refused.
abbrev pub FirstTokensAreTokens : Type 0
FirstTokensAreTokens =
    (depfile t : List ℕ) (ts : List (List ℕ)) → tokens depfile ≡ t ∷ ts
    → IsTrue (is_token t) × ((header : Header) → refusal_without header depfile ≡ None → IsTrue (is_target_token t))
