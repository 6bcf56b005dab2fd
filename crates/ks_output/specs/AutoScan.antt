-- What an auto.conf that comes in pieces has come to.
use Rattle.std.specs.Prelude.{◌≡◌, ℕ, List, ◌∷◌, ◌++◌, length, Option, None, option_map}
use Rattle.ks_symbols.specs.Refusals.{or_else}
use Rattle.ks_output.specs.declared.auto_conf.AutoError.{AutoError}
use Rattle.ks_output.specs.declared.auto_conf.AutoError.TheVariants as fault
use Rattle.ks_output.specs.declared.auto_scan.AutoScan.{AutoScan}
use Rattle.ks_output.specs.AutoConf.{last_number, auto_fault, auto_generation}
use Rattle.ks_output.specs.AutoLines.{Remark, Numbers, remarks}
use Rattle.ks_output.specs.Positions.{fault_left, seen_position}

-- why the whole is refused, where the rest says so much
abbrev pub refusal_after : AutoScan → List Remark → Option AutoError
refusal_after scan stated = or_else scan.fault (option_map fault.BadAuto (fault_left (seen_position scan.position) scan.number stated))

-- The scan knows of these bytes all that matters: whatever follows them, it has the fault and the generation of the whole.
pub record StandsAfter (scan : AutoScan) (bytes : List ℕ) : Type 0 where
  pub len : scan.len ≡ length bytes
  pub refusal : (rest : List ℕ) → refusal_after scan (remarks rest) ≡ option_map fault.BadAuto (auto_fault (bytes ++ rest))
  pub generation : scan.fault ≡ None → (rest : List ℕ) → last_number (Numbers scan.generation ∷ remarks rest) ≡ auto_generation (bytes ++ rest)
