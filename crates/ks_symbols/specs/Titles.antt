-- Titles, which stand in comments of auto.conf and of the header. A rule of this project.
use Rattle.std.specs.Prelude.{ℕ, Bool, ◌||◌, ◌&&◌, not, ◌==◌, nat_le, nat_eq, List, length, codes, [], ◌∷◌, false}
use Rattle.std.specs.List.{list_all, starts_with}

-- a space or above, and neither DEL nor a quote nor a backslash
abbrev pub is_title_byte : ℕ → Bool
is_title_byte b = nat_le 32 b && not (b == 127) && not (b == 34) && not (b == 92)

-- the end of a C comment stands at some place
abbrev pub ends_comment : List ℕ → Bool
ends_comment [] = false
ends_comment (b ∷ rest) = starts_with nat_eq (b ∷ rest) (codes "*/") || ends_comment rest

unfoldable pub is_title : List ℕ → Bool
is_title title = not (length title == 0) && nat_le (length title) 256 && list_all is_title_byte title && not (ends_comment title)
