-- What a reader of a dependency file knows of the tokens so far. `DependencyFile` says what a whole text means.
use Rattle.std.specs.Prelude.{◌≡◌, ◌<◌, ℕ, List, [], length, IsTrue, true}
use Rattle.std.specs.List.{list_any, list_all}
use Rattle.ks_symbols.specs.Names.{is_path}
use Rattle.ks_fixdep.specs.declared.dependency_file.Header.{Header}
use Rattle.ks_fixdep.specs.declared.dependency_file.Progress.{Progress}
use Rattle.ks_fixdep.specs.declared.dependency_file.Role.{Role}
use Rattle.ks_fixdep.specs.declared.dependency_file.Role.TheVariants as role
use Rattle.ks_fixdep.specs.DependencyFile.{is_target_token, is_kept, role_after, with_roles, once, paths_of}

-- The role of the next kept token once a target was read, by what it was before: the source stays to come, and after it the first of a rule
-- is scanned.
abbrev pub after_target : Role → Role
after_target role.Source = role.Source
after_target role.Scanned = role.Scanned
after_target role.Listed = role.Scanned

-- It stands after the tokens seen.
pub record Stands (header : Header) (p : Progress) (seen : List (List ℕ)) : Type 0 where
  pub target : p.has_target ≡ list_any is_target_token seen
  pub next : p.next ≡ role_after header seen
  pub number : p.number ≡ length seen
  pub found : paths_of p.by_path.entries ≡ once (with_roles header [] seen)
  pub some : list_any (is_kept header) seen ≡ true → 0 < length (paths_of p.by_path.entries)
  pub legal : IsTrue (list_all (λ e. is_path e.0) (paths_of p.by_path.entries))
