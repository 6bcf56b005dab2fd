-- How the text of a symbol is written in a `.config` (scripts/kconfig/confdata.c; that no other escape is taken is a rule of this project).
use Rattle.std.specs.Prelude.{ℕ, Bool, ◌||◌, not, ◌==◌, nat_eq, List, ◌≡◌, cond, IsTrue, [], ◌∷◌, ◌++◌, drop, flat_map, Option, Some, None, option_map, if◌then◌else◌}
use Rattle.std.specs.List.{starts_with}
use Rattle.ks_symbols.specs.declared.kinds.Kind.{Kind}
use Rattle.ks_symbols.specs.declared.kinds.Kind.TheVariants as kind
use Rattle.ks_symbols.specs.Kinds.{is_string_byte, is_text}

-- a quote or a backslash takes a backslash in front
abbrev pub is_escaped : ℕ → Bool
is_escaped b = b == 34 || b == 92

abbrev pub escape : ℕ → List ℕ
escape b = cond (is_escaped b) (92 ∷ b ∷ []) (b ∷ [])

-- a string between quotes
abbrev pub quoted : List ℕ → List ℕ
quoted text = 34 ∷ flat_map escape text ++ 34 ∷ []

-- `Reads k w t`: the value w, written for a symbol of kind k, has the text t.
abbrev pub Reads : Kind → List ℕ → List ℕ → Type 0
Reads kind.Text written text = IsTrue (is_text kind.Text text) × (written ≡ quoted text)
Reads k written text = IsTrue (is_text k written) × (text ≡ written)

-- The same as a function: the text up to the quote that ends the value, if such a text is there, ..
unfoldable pub unquoted_rest : List ℕ → Option (List ℕ)
unquoted_rest [] = None
unquoted_rest (b ∷ []) = if b == 34 then Some [] else None
unquoted_rest (b ∷ c ∷ rest) =
    if b == 92 then (if is_escaped c then option_map (λ t. c ∷ t) (unquoted_rest rest) else None)
    else (if b == 34 || not (is_string_byte b) then None else option_map (λ t. b ∷ t) (unquoted_rest (c ∷ rest)))

unfoldable pub unquoted : List ℕ → Option (List ℕ)
unquoted written = if starts_with nat_eq written (34 ∷ []) then unquoted_rest (drop 1 written) else None

-- .. and the one text t with `Reads k w t`.
unfoldable pub text_of : Kind → List ℕ → Option (List ℕ)
text_of kind.Text written = unquoted written
text_of k written = if is_text k written then Some written else None
