-- Dependency files, as compilers write them with -MD: their prerequisites and the roles of these. The cut into tokens, the roles and the
-- refusals are rules of this project.
use Rattle.std.specs.Prelude.{◌+◌, ◌<◌, Option, Some, None, ℕ, Bool, ◌&&◌, ◌||◌, ◌==◌, ◌-◌, take, not, nat_eq, nat_le, IsTrue, map, String, string_bytes, List, [], ◌∷◌, ◌++◌, if◌then◌else◌, codes, length, fold}
use Rattle.std.specs.Borrow.{Bor}
use Rattle.std.specs.List.{list_all, list_any, ends_with, after_last}
use Rattle.std.specs.Str.{bytes_eq}
use Rattle.ks_symbols.specs.declared.dialect.Dialect.{Dialect}
use Rattle.ks_symbols.specs.declared.dialect.Dialect.TheVariants as dialect
use Rattle.ks_symbols.specs.Lines.{max_bytes}
use Rattle.ks_symbols.specs.Names.{is_path, header_path}
use Rattle.ks_fixdep.specs.Tokens.{tokens}
use Rattle.ks_symbols.specs.Refusals.{or_else}
use Rattle.ks_fixdep.specs.declared.dep_error.DepError.{DepError}
use Rattle.ks_fixdep.specs.declared.dep_error.DepError.TheVariants as errors
use Rattle.ks_fixdep.specs.declared.dependency_file.Header.{Header}
use Rattle.ks_fixdep.specs.declared.dependency_file.Header.TheVariants.{Usual, BusyBox, At}
use Rattle.ks_fixdep.specs.declared.dependency_file.Role.{Role}
use Rattle.ks_fixdep.specs.declared.dependency_file.Role.TheVariants as role

-- a target ends in `:`
abbrev pub is_target_token : List ℕ → Bool
is_target_token x = ends_with nat_eq x (codes ":")

-- nothing, or what a slash ends
abbrev pub is_directory : List ℕ → Bool
is_directory prefix = length prefix == 0 || ends_with nat_eq prefix (codes "/")

-- a path, or a longer one that ends in it after a slash
abbrev pub ends_in_path : List ℕ → List ℕ → Bool
ends_in_path x path = ends_with nat_eq x path && is_directory (take (length x - length path) x)

-- The header of all symbols: that of Linux and U-Boot by the end of its path alone, another one by its path or the end of it after a slash.
abbrev pub is_header : Header → List ℕ → Bool
is_header Usual x = ends_with nat_eq x header_path
is_header BusyBox x = ends_in_path x (codes "include/autoconf.h")
is_header (At end) x = ends_in_path x end.now

-- the one that the sources of a dialect include
abbrev pub usual_header : Dialect → Header
usual_header dialect.Linux = Usual
usual_header dialect.UBoot = Usual
usual_header dialect.BusyBox = BusyBox
usual_header dialect.Coreboot = Usual

-- what is neither a target nor the header, which every source includes, so that it says nothing
abbrev pub is_kept : Header → List ℕ → Bool
is_kept header x = not (is_target_token x) && not (is_header header x)

-- The role of a kept token by the tokens before it: the first of the file is the source, the first after a later target is scanned and not
-- listed, all others are listed.
abbrev pub role_after : Header → List (List ℕ) → Role
role_after header before =
    if not (list_any (is_kept header) before) then role.Source
    else if list_any (is_kept header) (after_last is_target_token before) then role.Listed
    else role.Scanned

-- the kept tokens of those that come after `before`, with their roles
abbrev pub with_roles : Header → List (List ℕ) → List (List ℕ) → List (List ℕ × Role)
with_roles header before [] = []
with_roles header before (x ∷ xs) =
    let later = with_roles header (before ++ x ∷ []) xs in
    if is_kept header x then (x, role_after header before) ∷ later else later

-- the paths of a map with their roles, in order; and one as it is borrowed
abbrev pub paths_of : {Y : Type 0} → List (String Y × Role) → List (List ℕ × Role)
paths_of entries = map (λ e. (string_bytes e.0, e.1)) entries

abbrev pub borrowed_pair : Bor (List ℕ) × Bor Role → List ℕ × Role
borrowed_pair e = (e.0.now, e.1.now)

-- a prerequisite goes to the end, unless its path is there
abbrev pub added : List (List ℕ × Role) → List ℕ × Role → List (List ℕ × Role)
added ps p = if list_any (λ x. bytes_eq p.0 x.0) ps then ps else ps ++ p ∷ []

-- each path at its first place alone
abbrev pub once : List (List ℕ × Role) → List (List ℕ × Role)
once ps = fold added [] ps

-- the prerequisites of a dependency file but for the header: roles are given by place before repeats are dropped
unfoldable pub prerequisites_without : Header → List ℕ → List (List ℕ × Role)
prerequisites_without header text = once (with_roles header [] (tokens text))

abbrev pub prerequisites : List ℕ → List (List ℕ × Role)
prerequisites text = prerequisites_without Usual text

-- why token x is refused after those before it; tokens are counted from 1
abbrev pub fault_after : Header → List (List ℕ) → List ℕ → Option DepError
fault_after header before x =
    if is_target_token x then None
    else if not (list_any is_target_token before) then Some errors.NoTarget
    else if is_kept header x && not (is_path x) then Some (errors.BadPath (length before + 1))
    else None

-- the first refusal among the tokens after those before them
abbrev pub first_fault : Header → List (List ℕ) → List (List ℕ) → Option DepError
first_fault header before [] = None
first_fault header before (x ∷ xs) = or_else (fault_after header before x) (first_fault header (before ++ x ∷ []) xs)

-- the refusal of a text of these tokens: its first faulty token, or that no token is kept
unfoldable pub token_refusal : Header → List (List ℕ) → Option DepError
token_refusal header ts = or_else (first_fault header [] ts) (if list_any (is_kept header) ts then None else Some errors.NoTarget)

-- the refusal of a dependency file, if it has one
unfoldable pub refusal_without : Header → List ℕ → Option DepError
refusal_without header text = if nat_le (length text) max_bytes then token_refusal header (tokens text) else Some errors.TooLarge

abbrev pub dependency_refusal : List ℕ → Option DepError
dependency_refusal text = refusal_without Usual text

-- Prerequisites: there is one, and all their paths are legal.
pub record ArePrerequisites (ps : List (List ℕ × Role)) : Type 0 where
  pub some : 0 < length ps
  pub legal : IsTrue (list_all (λ p. is_path p.0) ps)
