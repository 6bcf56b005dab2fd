-- What is written as one rule is read token by token.
use Rattle.ks_fixdep.proofs.Prelude.{IfSome, IsTrue, None, Option, Some, refl, list_all-from_AllPass, prefix_len_passes, length-prefix_len, get_or-take, ◌≡◌, ℕ, ◌<◌, Bool, true, false, List, [], ◌∷◌, ◌++◌, map, drop, ◌∙◌, arith, append_assoc, length-append, length-take-le, flat_map, list_all, prefix_len, slice_split, cond-true, cond-false, and_from, and_parts, not-true, flat_map-append, list_all-append, list_all-map, common_steps, nat_tests, prefix_len-le-length, is_name, is_path, line_feed, tokens, is_separator, is_other, stamp_of, continued, is_token, RulesReadBack, FirstTokensAreTokens, rules}
unfoldable use Rattle.ks_fixdep.specs.DependencyFile.{refusal_without, token_refusal}
use Rattle.ks_fixdep.specs.DependencyFile.{is_target_token}
use Rattle.ks_fixdep.specs.declared.dependency_file.Header.{Header}
use Rattle.ks_fixdep.specs.declared.dep_error.DepError.TheVariants as errors
use Rattle.ks_fixdep.proofs.CommandPatternLemmas.{other-byte, all-imp}
use Rattle.ks_fixdep.proofs.TokenLemmas.{tokens-nil, tokens-separator, tokens-trim, tokens-first, tokens-none, separators-end}

-- ---- what stands before a separator is a token

one-part : (x : List ℕ) (b : ℕ) (rest : List ℕ) → list_all is_other x ≡ true → is_separator b ≡ true
    → slice_split is_separator (x ++ b ∷ rest) ≡ x ∷ slice_split is_separator rest
one-part [] b rest others stands = cond-true _ _ _ stands
one-part (y ∷ x) b rest others stands = search (rules, and_parts, cond-false, not-true, (one-part x b rest))

pub read-next : (x : List ℕ) (b : ℕ) (rest : List ℕ) → is_token x ≡ true → is_separator b ≡ true → tokens (x ++ b ∷ rest) ≡ x ∷ tokens rest
unfolding tokens
read-next x b rest token stands = search (rules, and_parts, one-part, cond-true)

-- ---- legal paths and stamps are tokens

other-of : (p : ℕ → Bool) → p 32 ≡ false → p 9 ≡ false → p 92 ≡ false → p 13 ≡ false → p 10 ≡ false → (b : ℕ) → p b ≡ true → is_other b ≡ true
other-of p space tab backslash cr lf b passes = search (rules, other-byte)

path-token : (p : List ℕ) → is_path p ≡ true → is_token p ≡ true
unfolding is_path
path-token p legal = search (rules, and_from, and_parts, all-imp, other-of)

stamp-token : (tree : Option (List ℕ)) → IfSome tree (λ t. IsTrue (is_path t)) → (x : List ℕ) → is_name x ≡ true → is_token (stamp_of tree x) ≡ true
unfolding is_name is_path
stamp-token None tree x legal = search (rules, and_from, length-append, all-imp, other-of, and_parts)
stamp-token (Some t) tree x legal = search (rules, and_from, length-append, list_all-append, all-imp, other-of, and_parts)

-- ---- the rule

lines-read : (x : List ℕ) (ps : List (List ℕ)) → is_token x ≡ true → list_all is_token ps ≡ true → tokens (x ++ (flat_map continued ps ++ line_feed)) ≡ x ∷ ps
lines-read x [] token tokens_all = search (rules, read-next, tokens-nil)
lines-read x (p ∷ ps) token tokens_all = search (rules, and_parts, append_assoc, read-next, tokens-separator, (lines-read p ps))

pub rules_read_back : RulesReadBack
rules_read_back tree target paths names legal_tree token legal_paths legal_names =
    let listed = all-imp is_path is_token path-token paths legal_paths in
    let stamps = list_all-map is_token (stamp_of tree) names ∙ all-imp is_name (λ x. is_token (stamp_of tree x)) (stamp-token tree legal_tree) names legal_names in
    let parts = flat_map-append continued paths (map (stamp_of tree) names) in
    let all = lines-read target (paths ++ map (stamp_of tree) names) token (list_all-append is_token paths (map (stamp_of tree) names) ∙ and_from _ _ listed stamps) in
    cc (append_assoc (flat_map continued paths) (flat_map continued (map (stamp_of tree) names)) line_feed)

-- ---- the first token

first-of : (b t : List ℕ) (ts : List (List ℕ)) → 0 < prefix_len is_other b → tokens b ≡ t ∷ ts → is_token t ≡ true
first-of b t ts some is =
    search (
      rules,
      length-take-le,
      prefix_len-le-length,
      tokens-first,
      and_from,
      list_all-from_AllPass,
      prefix_len_passes,
      length-prefix_len,
      get_or-take,
      nat_tests,
    )

first_token : (d t : List ℕ) (ts : List (List ℕ)) → tokens d ≡ t ∷ ts → is_token t ≡ true
first_token d t ts is =
    let trimmed : tokens (drop (prefix_len is_separator d) d) ≡ t ∷ ts = tokens-trim d ∙ is in
    let ends = separators-end d in
    grind (arith, common_steps, first-of, tokens-none, tokens-nil)

-- a file that begins with no target is refused
refused_first : (header : Header) (t : List ℕ) (ts : List (List ℕ)) → is_target_token t ≡ false → token_refusal header (t ∷ ts) ≡ Some errors.NoTarget
unfolding token_refusal
refused_first header t ts not = rw not refl

target_first : (header : Header) (d t : List ℕ) (ts : List (List ℕ)) → tokens d ≡ t ∷ ts → refusal_without header d ≡ None → is_target_token t ≡ true
unfolding refusal_without
target_first header d t ts is none = grind (arith, common_steps, refused_first)

pub first_tokens : FirstTokensAreTokens
first_tokens d t ts is = (first_token d t ts is, λ header none. target_first header d t ts is none)
