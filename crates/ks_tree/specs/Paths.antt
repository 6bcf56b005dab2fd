-- Where each file that the commands write stands. Stamps, auto.conf and the header are where scripts/kconfig/confdata.c has them, a command
-- file is where scripts/Kbuild.include has it.
use Rattle.std.specs.Prelude.{◌≡◌, ℕ, List, [], ◌∷◌, ◌++◌, codes, Bool, nat_eq, if◌then◌else◌, IsTrue, ⊤}
use Rattle.std.specs.List.{list_any}
use Rattle.ks_symbols.specs.Names.{is_name, header_path}

-- A file is written at this path first, and then moved to its own.
abbrev pub temporary : List ℕ → List ℕ
temporary path = path ++ codes ".tmp"

unfoldable pub auto_path : List ℕ
auto_path = codes "include/config/auto.conf"

unfoldable pub auto_temporary : List ℕ
auto_temporary = codes "include/config/auto.conf.tmp"

unfoldable pub header_temporary : List ℕ
header_temporary = codes "include/generated/autoconf.h.tmp"

-- the stamp of a name
unfoldable pub stamp_path : List ℕ → List ℕ
stamp_path x = codes "include/config/" ++ x

-- one path for all stamps: a name has no dot
unfoldable pub stamp_temporary : List ℕ
stamp_temporary = codes "include/config/stamp.tmp"

abbrev pub has_slash : List ℕ → Bool
has_slash path = list_any (nat_eq 47) path

-- with a dot before what stands after the last slash
abbrev pub dotted : List ℕ → List ℕ
dotted [] = 46 ∷ []
dotted (c ∷ cs) = if has_slash (c ∷ cs) then c ∷ dotted cs else (46 ∷ c ∷ cs)

-- the command file of a target: `d/.x.o.cmd` of `d/x.o`
unfoldable pub command_path : List ℕ → List ℕ
command_path target = dotted target ++ codes ".cmd"

unfoldable pub command_temporary : List ℕ → List ℕ
command_temporary target = dotted target ++ codes ".cmd.tmp"

-- the files that the commands write
pub data Place : Type 0 where
  AutoConf : Place
  Header : Place
  Stamp : (name : List ℕ) → Place
  CommandFile : (target : List ℕ) → Place
  AutoTemporary : Place
  HeaderTemporary : Place
  StampTemporary : Place
  CommandTemporary : (target : List ℕ) → Place

abbrev pub path_of : Place → List ℕ
path_of AutoConf = auto_path
path_of Header = header_path
path_of (Stamp x) = stamp_path x
path_of (CommandFile target) = command_path target
path_of AutoTemporary = auto_temporary
path_of HeaderTemporary = header_temporary
path_of StampTemporary = stamp_temporary
path_of (CommandTemporary target) = command_temporary target

-- Stamps are those of names. A target may be any bytes.
abbrev pub IsLegalPlace : Place → Type 0
IsLegalPlace (Stamp x) = IsTrue (is_name x)
IsLegalPlace place = ⊤

-- No two of them stand at one path.
abbrev pub PathsNeverMeet : Type 0
PathsNeverMeet = (a b : Place) → IsLegalPlace a → IsLegalPlace b → path_of a ≡ path_of b → a ≡ b
