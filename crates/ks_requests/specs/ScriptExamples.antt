-- Small scripts, and what the definitions make of them.
use Rattle.std.specs.Prelude.{◌≡◌, [], ◌∷◌, codes, Some, None}
use Rattle.ks_requests.specs.declared.script_error.ScriptError.TheVariants as fault
use Rattle.ks_requests.specs.Script.{Sync, Record, Stale, script_line, script_lines}
use Rattle.ks_requests.specs.ScriptRefusals.{script_refusal}

pub record Examples : Type 0 where
  pub synchronisation : script_line (codes "sync K C") ≡ Some (Sync (codes "K") (codes "C"))
  pub whole_command : script_line (codes "record x.d x.o cc  -c x.c ") ≡ Some (Record (codes "x.d") (codes "x.o") (codes "cc  -c x.c "))
  pub empty_command : script_line (codes "record x.d x.o ") ≡ Some (Record (codes "x.d") (codes "x.o") [])
  pub no_third_space : script_line (codes "record x.d x.o") ≡ None
  pub query : script_line (codes "stale x.o") ≡ Some (Stale (codes "x.o"))
  pub no_target : script_line (codes "stale ") ≡ None
  pub two_targets : script_line (codes "stale x.o y.o") ≡ None
  pub two_spaces : script_line (codes "stale  x.o") ≡ None
  pub two_spaces_between_paths : script_line (codes "sync K  C") ≡ None
  pub space_at_the_end : script_line (codes "sync K C ") ≡ None
  pub illegal_path : script_line (codes "sync K$ C") ≡ None
  pub lines_in_order : script_lines (codes "# x\r\n\r\nstale y.o\r\nstale x.o") ≡ Stale (codes "y.o") ∷ Stale (codes "x.o") ∷ []
  pub comments_alone : script_refusal (codes "# x\n\n#\n") ≡ None
  pub first_faulty_line : script_refusal (codes "# x\n\nstale\nsync K\n") ≡ Some (fault.BadScript 3)
  pub comment_after_a_space : script_refusal (codes " # x\n") ≡ Some (fault.BadScript 1)
