-- The worked examples, by computation.
use Rattle.ks_output.proofs.Prelude.{◌≡◌, ℕ, true, false, List, codes, refl, sym, reads_only_written, auto_text, is_typed, heard, first_faulty, header_text, Kind, is_name, is_symbol_name, is_text, IsEntry, FilesOfSwitches, FaultsFound, rules}
use Rattle.std.specs.List.{IsDistinct}
use Rattle.ks_symbols.specs.Kinds.{is_off}
use Rattle.ks_output.specs.Examples.{FilesOfConf}
use Rattle.ks_output.specs.WrittenLaws.{is_of_conf}

pub files_of_switches : FilesOfSwitches
unfolding auto_text header_text
files_of_switches settings e = let one = sym (reads_only_written (codes "1") 1 refl) in search (rules, one)

pub faults_found : FaultsFound
unfolding is_typed heard first_faulty
faults_found = (refl, refl, refl, refl, refl, refl)

one : (name : List ℕ) (s : Kind × List ℕ) → is_of_conf s.0 ≡ true → is_symbol_name s.0 name ≡ true → is_text s.0 s.1 ≡ true → is_off s.0 s.1 ≡ false
    → (is_of_conf s.0 ≡ true) × IsEntry name s
one name s kind named typed on = (kind, record { named = named; typed = typed; on = on })

pub files_of_conf : FilesOfConf
unfolding is_name is_symbol_name is_text IsDistinct
files_of_conf = (
  record {
    entries = (one _ _ refl refl refl refl, (one _ _ refl refl refl refl, (one _ _ refl refl refl refl, (one _ _ refl refl refl refl, (one _ _ refl refl refl refl, (one _ _ refl refl refl refl, tt))))));
    once = search rules;
  },
  refl,
  refl,
  refl,
)
