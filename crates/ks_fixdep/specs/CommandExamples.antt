-- A worked command file: two names of the source, and a listed file with a name of its own before another.
use Rattle.std.specs.Prelude.{List, ℕ, codes, ◌++◌, [], ◌∷◌, Some}
use Rattle.ks_fixdep.specs.declared.command_file.Dep.TheVariants.{File, Config}
use Rattle.ks_fixdep.specs.CommandFile.{CommandRecord}

unfoldable pub example : CommandRecord
example = record {
  target = codes "x.o";
  command = codes "cc -c x.c";
  source = codes "x.c";
  deps = Config (codes "A") ∷ Config (codes "B") ∷ File (codes "a.h") ∷ Config (codes "C") ∷ File (codes "b.h") ∷ [];
  generation = Some 1;
}

-- its first eight lines
unfoldable pub example_front : List ℕ
example_front =
    codes "savedcmd_x.o := cc -c x.c\n\nsource_x.o := x.c\n\ndeps_x.o := \\\n"
    ++ codes "    $(wildcard include/config/A) \\\n    $(wildcard include/config/B) \\\n  a.h \\\n"

-- its lines but for that of the generation
unfoldable pub example_lines : List ℕ
example_lines =
    example_front
    ++ codes "    $(wildcard include/config/C) \\\n  b.h \\\n\n"
    ++ codes "x.o: $(deps_x.o)\n\n$(deps_x.o):\n"
