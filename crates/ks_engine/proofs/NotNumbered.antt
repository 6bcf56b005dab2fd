-- Trees to begin with whose command files have no generation.
use Rattle.ks_engine.proofs.Prelude.{◌≡◌, ℕ, List, Option, Some, None, Result, Ok, refl, CommandRecord, reading, Files, EngineError, Fresh, asked, asked_of, command_file, IsAnswer, AreNotNumbered, NotNumberedTreeShows, rules, arith, cond_both}
use Rattle.ks_engine.proofs.Beginnings.{untyped_shows}

abbrev Read : Type 0
Read = Result (Option CommandRecord) EngineError

-- it has no generation where none has
unnumbered : (o : List ℕ) (c : Option (List ℕ)) → ((b : List ℕ) (file : CommandRecord) → c ≡ Some b → reading b ≡ Ok file → file.generation ≡ None)
    → (file : CommandRecord) → ◌≡◌ {A = Read} (command_file o c) (Ok (Some file)) → file.generation ≡ None
unnumbered o None none file is = absurd cc
unnumbered o (Some b) none file is = none b file refl (grind arith)

not_fresh : (files : Files) (r : Read) → ((file : CommandRecord) → r ≡ Ok (Some file) → file.generation ≡ None)
    → IsAnswer files (asked_of files r) (Ok Fresh) → ⊥
not_fresh files r none is = grind arith

none_fresh : (files : Files) → AreNotNumbered files → (o : List ℕ) → IsAnswer files (asked files o) (Ok Fresh) → ⊥
unfolding asked
none_fresh files none o is = search (rules, cond_both, not_fresh, unnumbered)

pub not_numbered_shows : NotNumberedTreeShows
not_numbered_shows files texts generation stamps auto none bound numbers = search (rules, untyped_shows, none_fresh)
