-- A text that is fed in pieces, against the scan of the whole.
use Rattle.std.specs.Prelude.{◌≡◌, ◌++◌, ℕ, List, [], ◌∷◌, Bool, nat_lt, ◌+◌, drop, filter, length, flat_map}
use Rattle.std.specs.List.{take_while}
use Rattle.ks_symbols.specs.Names.{is_word_byte}
use Rattle.ks_fixdep.specs.Scan.{NameAt, taken}
use Rattle.ks_fixdep.specs.Stream.{ended}

-- a byte of the text follows the word of x
abbrev pub is_followed : List ℕ → NameAt → Bool
is_followed t x = nat_lt (x.place + length (take_while is_word_byte (drop x.place t))) (length t)

-- what is ended in a text are the names of it whose word is followed by a byte
abbrev pub EndedAreFollowed : Type 0
EndedAreFollowed = (t : List ℕ) → ended t ≡ filter (is_followed t) (taken t)

-- each list was borrowed for its piece: after what was ended before, it is what is ended now
abbrev pub BorrowedInTurn : List ℕ → List (List ℕ) → List (List NameAt) → Type 0
BorrowedInTurn before [] [] = Unit {0}
BorrowedInTurn before [] (xs ∷ borrowed) = ⊥
BorrowedInTurn before (p ∷ ps) [] = ⊥
BorrowedInTurn before (p ∷ ps) (xs ∷ borrowed) = (ended (before ++ p) ≡ ended before ++ xs) × BorrowedInTurn (before ++ p) ps borrowed

-- all pieces together
abbrev pub joined : List (List ℕ) → List ℕ
joined pieces = flat_map (λ p. p) pieces

-- What is borrowed for the pieces in turn, and last at the end of the text, is what the joined text has.
abbrev pub PiecesGiveTheWhole : Type 0
PiecesGiveTheWhole = (pieces : List (List ℕ)) (borrowed : List (List NameAt)) (last : List NameAt) → BorrowedInTurn [] pieces borrowed → taken (joined pieces)
    ≡ ended (joined pieces) ++ last
    → flat_map (λ xs. xs) borrowed ++ last ≡ taken (joined pieces)
