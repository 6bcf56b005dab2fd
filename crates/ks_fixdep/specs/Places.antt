-- What is taken of a text, said of each place by itself (scripts/basic/fixdep.c). `Scan` lists it, and the laws say that the list is this set.
use Rattle.std.specs.Prelude.{◌≡◌, ℕ, ◌+◌, ◌-◌, ◌⊎◌, false, IsTrue, List, Contains, length, map, slice_index}
use Rattle.std.specs.List.{list_all}
use Rattle.std.specs.List.Sorted.{IsStrictlyIncreasing}
use Rattle.memchr.specs.Find.{OccursAt}
use Rattle.ks_symbols.specs.Names.{is_word_byte, is_name, without_module}
use Rattle.ks_fixdep.specs.Scan.{NameAt, prefix, taken}

-- `CONFIG_` stands in the text at place i, and no word byte before it
pub record IsPlace (t : List ℕ) (i : ℕ) : Type 0 where
  pub stands : OccursAt t prefix i
  pub begins : (i ≡ 0) ⊎ (is_word_byte (slice_index t (i - 1)) ≡ false)

-- the longest run of word bytes from place i on; what is after the end of the text is no word byte
pub record IsRun (t : List ℕ) (i : ℕ) (run : List ℕ) : Type 0 where
  pub stands : OccursAt t run i
  pub symbol_patterns : IsTrue (list_all is_word_byte run)
  pub ends : is_word_byte (slice_index t (i + length run)) ≡ false

-- x is taken: at its place, with the run after `CONFIG_` less one final `_MODULE` as its legal name
pub record IsTaken (t : List ℕ) (x : NameAt) : Type 0 where
  pub place : IsPlace t x.place
  pub run : List ℕ
  pub is_run : IsRun t (x.place + 7) run
  pub name : x.name ≡ without_module run
  pub legal : IsTrue (is_name x.name)

-- what is listed of a text is what is taken of it, by rising place
pub record ListsTaken (t : List ℕ) : Type 0 where
  pub only : (x : NameAt) → Contains (taken t) x → IsTaken t x
  pub all : (x : NameAt) → IsTaken t x → Contains (taken t) x
  pub rising : IsStrictlyIncreasing (map (λ x. x.place) (taken t))
