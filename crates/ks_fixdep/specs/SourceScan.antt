-- What is known of sources that come in pieces, one source after the other, and of the names found in them.
use Rattle.std.specs.Prelude.{◌≡◌, ℕ, List, [], get_or, map}
use Rattle.ks_fixdep.specs.declared.source_scan.NamesBySource.{NamesBySource}
use Rattle.ks_fixdep.specs.declared.source_scan.SourceScan.{SourceScan}
use Rattle.ks_fixdep.specs.Scan.{bare_name}
use Rattle.ks_fixdep.specs.Stream.{ended, kept}
use Rattle.ks_fixdep.specs.Dialects.{patterns_of}
use Rattle.ks_fixdep.specs.FoundNames.{all_noted}
use Rattle.ks_fixdep.specs.SourceTable.{names_at}
use Rattle.ks_fixdep.specs.WordScan.{Knows, at_start, known_after}
use Rattle.ks_fixdep.specs.declared.dialect.ScanRules.{ScanRules}
use Rattle.ks_fixdep.specs.declared.dialect.ScanRules.TheVariants as rules

-- the names of each source that has ended
abbrev pub found_of : SourceScan → List (List (List ℕ))
found_of s = s.table.found

-- A scan stands after the beginning t of a source: the word that ends t is kept, and the names that are complete are noted.
pub record StandsAfter (s : SourceScan) (t : List ℕ) : Type 0 where
  pub word : s.scanner ≡ kept t
  pub names : s.table.current ≡ all_noted [] (map bare_name (ended t))

-- The same under the rules of an object: where a text is scanned by its words, as much is known as of t.
abbrev pub StandsAfterAs : ScanRules → SourceScan → List ℕ → Type 0
StandsAfterAs rules.Linux s t = StandsAfter s t
StandsAfterAs (rules.UBoot phase) s t = Knows s.symbol_patterns s.table (known_after (patterns_of (rules.UBoot phase)) at_start t)
StandsAfterAs rules.BusyBox s t = Knows s.symbol_patterns s.table (known_after (patterns_of rules.BusyBox) at_start t)
StandsAfterAs rules.Coreboot s t = Knows s.symbol_patterns s.table (known_after (patterns_of rules.Coreboot) at_start t)

-- the lists at these places, of which one that there is not is empty
abbrev pub picked : List (List (List ℕ)) → List ℕ → List (List (List ℕ))
picked found places = map (λ i. get_or found i []) places

-- the names of each prerequisite of an object
abbrev pub names_by : NamesBySource → List (List (List ℕ))
names_by n = picked (found_of n.scan) n.sources.items

-- those in the text of a record that was written last
abbrev pub listed_of : NamesBySource → List (List ℕ)
listed_of n = names_at n.scan.table.names n.listed
