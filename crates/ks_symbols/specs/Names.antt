-- Word bytes, names of symbols and paths. A name is what `config` declares (Documentation/kbuild/kconfig-language.rst); its length, and
-- what a path may hold, are rules of this project. The header stands where scripts/kconfig/confdata.c has it.
use Rattle.std.specs.Prelude.{ℕ, Bool, ◌||◌, ◌&&◌, not, ◌==◌, nat_le, nat_eq, List, length, slice_index, ◌-◌, codes, if◌then◌else◌, take, bytes_eq}
use Rattle.std.specs.List.{list_all, list_any, ends_with}
use Rattle.std.specs.Char.{is_ascii_alphanumeric}

-- an ASCII letter, an ASCII digit or an underscore
abbrev pub is_word_byte : ℕ → Bool
is_word_byte b = is_ascii_alphanumeric b || b == 95

-- 1 to 128 word bytes
unfoldable pub is_name : List ℕ → Bool
is_name name = not (length name == 0) && nat_le (length name) 128 && list_all is_word_byte name

-- whether a name is among these
abbrev pub is_in : List (List ℕ) → List ℕ → Bool
is_in names x = list_any (bytes_eq x) names

-- the end that marks a macro of a module
abbrev pub module_end : List ℕ
module_end = codes "_MODULE"

-- a run of word bytes without one _MODULE at its end
abbrev pub without_module : List ℕ → List ℕ
without_module run = if ends_with nat_eq run module_end then take (length run - 7) run else run

-- printable and not a space, and none of $ # \
abbrev pub is_path_byte : ℕ → Bool
is_path_byte b = nat_le 33 b && nat_le b 126 && not (b == 36) && not (b == 35) && not (b == 92)

-- 1 to 1,024 path bytes, the last one no colon
unfoldable pub is_path : List ℕ → Bool
is_path path = not (length path == 0) && nat_le (length path) 1024 && list_all is_path_byte path && not (slice_index path (length path - 1) == 58)

-- a path that names no directory
unfoldable pub is_target : List ℕ → Bool
is_target path = is_path path && not (slice_index path (length path - 1) == 47)

-- the header that a synchronisation writes, and that every source includes
unfoldable pub header_path : List ℕ
header_path = codes "include/generated/autoconf.h"
