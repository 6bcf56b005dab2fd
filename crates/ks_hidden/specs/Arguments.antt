-- Which arguments of a compile are known: they bring no file that the compiler doesn't list, and into the object nothing of the header but what
-- its sources name. The options are those of gcc, clang and the GNU assembler, and in front of the compiler those of env, nice, ccache and distcc.
use Rattle.std.specs.Prelude.{ℕ, ◌+◌, ◌&&◌, ◌||◌, Bool, false, not, List, [], ◌∷◌, Option, Some, None, bytes_eq, nat_eq, codes, if◌then◌else◌}
use Rattle.std.specs.List.{ends_with, list_any, starts_with}
use Rattle.ks_hidden.specs.Words.{behind, is_such, words_of}
use Rattle.ks_hidden.specs.declared.arguments.Expected.{Expected}
use Rattle.ks_hidden.specs.declared.arguments.Expected.TheVariants.{Front, FrontValue, Argument, Value, Language, Inner, Text}

-- ---- lists

abbrev pub is_one_of : List (List ℕ) → List ℕ → Bool
is_one_of texts word = list_any (λ t. bytes_eq word t) texts

abbrev pub begins_with_one : List (List ℕ) → List ℕ → Bool
begins_with_one texts word = list_any (λ t. starts_with nat_eq word t) texts

abbrev pub ends_with_one : List (List ℕ) → List ℕ → Bool
ends_with_one texts word = list_any (λ t. ends_with nat_eq word t) texts

-- whether a part stands anywhere in a word
abbrev pub has : List ℕ → List ℕ → Bool
has [] part = false
has (b ∷ rest) part = starts_with nat_eq (b ∷ rest) part || has rest part

abbrev pub has_one : List (List ℕ) → List ℕ → Bool
has_one texts word = list_any (has word) texts

-- ---- in front of the compiler

unfoldable pub is_tool : List ℕ → Bool
is_tool word =
    is_one_of (codes "env" ∷ codes "nice" ∷ codes "ccache" ∷ codes "distcc" ∷ []) word
    || ends_with_one (codes "/env" ∷ codes "/nice" ∷ codes "/ccache" ∷ codes "/distcc" ∷ []) word

unfoldable pub has_tool_value : List ℕ → Bool
has_tool_value word = is_one_of (codes "-u" ∷ codes "-n" ∷ codes "-C" ∷ []) word

unfoldable pub is_tool_option : List ℕ → Bool
is_tool_option word = begins_with_one (codes "-i" ∷ codes "--unset=" ∷ codes "--adjustment=" ∷ []) word

-- another option, or a variable that a compiler or a cache goes by
unfoldable pub is_other_option : List ℕ → Bool
is_other_option word = begins_with_one (codes "-" ∷ codes "CCACHE_" ∷ codes "GCC_" ∷ codes "CCC_" ∷ []) word || has word (codes "PATH=")

-- what is expected behind a word there: the first that is none of these is the compiler
unfoldable pub after_front : List ℕ → Option Expected
after_front word =
    if is_tool word || is_tool_option word then Some Front
    else if has_tool_value word then Some FrontValue
    else if is_other_option word then None
    else if has word (codes "=") then Some Front
    else Some Argument

-- ---- options

-- the next word is a value, which the compiler takes as it stands
unfoldable pub takes_value : List ℕ → Bool
takes_value word =
    is_one_of
    (codes "-D" ∷ codes "-I" ∷ codes "-U" ∷ codes "-o" ∷ codes "-MF" ∷ codes "-MQ" ∷ codes "-MT" ∷ codes "-include" ∷ codes "-imacros" ∷ codes "-isystem"
    ∷ codes "-iquote" ∷ codes "-idirafter" ∷ codes "-isysroot" ∷ codes "-target" ∷ codes "-arch" ∷ codes "--param" ∷ []) word

-- the next word is an option of a part of the compiler
unfoldable pub takes_inner : List ℕ → Bool
takes_inner word = begins_with_one (codes "-Xa" ∷ codes "-Xc" ∷ codes "-Xp" ∷ []) word || bytes_eq word (codes "-mllvm")

unfoldable pub is_plain_option : List ℕ → Bool
is_plain_option word =
    is_one_of
    (codes "-c" ∷ codes "-MD" ∷ codes "-MMD" ∷ codes "-MP" ∷ codes "-w" ∷ codes "-s" ∷ codes "-p" ∷ codes "-P" ∷ codes "-C" ∷ codes "-CC" ∷ codes "-v" ∷ codes "-pg"
    ∷ codes "-pipe" ∷ codes "-pthread" ∷ codes "-ansi" ∷ codes "-undef" ∷ codes "-trigraphs" ∷ codes "-rdynamic" ∷ codes "--coverage" ∷ codes "-pie" ∷ codes "-no-pie"
    ∷ codes "-nodefaultlibs" ∷ codes "-nostartfiles" ∷ codes "-nolibc" ∷ codes "-no-canonical-prefixes" ∷ codes "-integrated-as"
    ∷ codes "-no-integrated-as" ∷ codes "-Qunused-arguments" ∷ codes "-EB" ∷ codes "-EL" ∷ []) word

-- an option with its value
unfoldable pub has_known_front : List ℕ → Bool
has_known_front word =
    begins_with_one
    (codes "-D" ∷ codes "-U" ∷ codes "-I" ∷ codes "-O" ∷ codes "-g" ∷ codes "-W" ∷ codes "-o" ∷ codes "-MF" ∷ codes "-MQ" ∷ codes "-MT" ∷ codes "-isystem" ∷ codes "-iquote"
    ∷ codes "-idirafter" ∷ codes "-imacros" ∷ codes "-include" ∷ codes "-pedantic" ∷ codes "-l" ∷ codes "-L" ∷ codes "-nostd" ∷ codes "-static" ∷ codes "-shared"
    ∷ codes "-stdlib=" ∷ codes "-rtlib=" ∷ codes "--rtlib=" ∷ codes "-unwindlib=" ∷ codes "--unwindlib=" ∷ codes "-std=" ∷ codes "--std=" ∷ codes "--param=" ∷ codes "--sysroot=" ∷ codes "--target=" ∷ codes "--gcc-toolchain=" ∷ []) word

-- or one that begins as such, and names a directory by that of the system (=), a precompiled header, or options for a part of the compiler
unfoldable pub has_refused_front : List ℕ → Bool
has_refused_front word =
    begins_with_one
    (codes "-I=" ∷ codes "-I$" ∷ codes "-isystem=" ∷ codes "-iquote=" ∷ codes "-idirafter=" ∷ codes "-include-pch" ∷ codes "-Wa," ∷ codes "-Wp," ∷ []) word

-- All macros come into the object or the text, or the line at which the header defines one.
unfoldable pub keeps_macros : List ℕ → Bool
keeps_macros word =
    begins_with_one (codes "-g3" ∷ codes "-ggdb3" ∷ codes "-gstabs3" ∷ codes "-fcoverage-" ∷ codes "-fdebug-macro" ∷ []) word
    && not (begins_with_one (codes "-fcoverage-prefix-map=" ∷ codes "-fcoverage-compilation-dir=" ∷ []) word)

-- the value of an option has no comma and no @
abbrev pub is_plain_value : Option (List ℕ) → Bool
is_plain_value = is_such (λ value. not (has_one (codes "," ∷ codes "@" ∷ []) value))

-- options for the preprocessor and the assembler that are known, one in a word: none defines a macro without an underscore, or names a file
unfoldable pub is_known_inside : List ℕ → Bool
is_known_inside word =
    is_plain_value (behind (codes "-Wp,-MD,") word) || is_plain_value (behind (codes "-Wp,-MMD,") word) || is_plain_value (behind (codes "-Wp,-D_") word)
    || is_plain_value (behind (codes "-Wp,-U") word)
    || (begins_with_one (codes "-Wa,--" ∷ codes "-Wa,-W" ∷ codes "-Wa,-m" ∷ codes "-Wa,-M" ∷ codes "-Wa,-n" ∷ []) word
    && is_plain_value (behind (codes "-Wa,") word) && not (has word (codes "gstabs")))

-- how code is made, and nothing is read at what it may name
unfoldable pub is_plain_flag : List ℕ → Bool
is_plain_flag word =
    begins_with_one
    (codes "-fno-" ∷ codes "-fuse-" ∷ codes "-fcoverage-compilation-dir=" ∷ codes "-fcrash-diagnostics-dir=" ∷ codes "-fdebug-compilation-dir=" ∷ codes "-ffile-compilation-dir="
    ∷ codes "-finput-charset=UTF-8" ∷ codes "-finput-charset=utf-8" ∷ codes "-fprofile-dir=" ∷ codes "-fprofile-generate" ∷ codes "-frandom-seed=" ∷ []) word
    || has word (codes "-prefix-map=")

-- a file is read, or the sources otherwise
unfoldable pub reads_file : List ℕ → Bool
reads_file word =
    begins_with_one
    (codes "-fauto-profile" ∷ codes "-fbasic-block-sections=" ∷ codes "-fbranch-" ∷ codes "-fembed-offload-" ∷ codes "-finput-charset" ∷ codes "-fmodule"
    ∷ codes "-fopenmp-host-ir-" ∷ codes "-fprebuilt-module" ∷ codes "-fpreprocessed" ∷ codes "-fprofile-remapping-" ∷ codes "-frandomize-layout-seed-file"
    ∷ codes "-fthinlto-index" ∷ codes "-fxray-" ∷ []) word

-- a file is named: a profile, a plugin, a list or one in another directory
unfoldable pub names_file : List ℕ → Bool
names_file word =
    has_one
    (codes "profile-use" ∷ codes "instr-use" ∷ codes "sample-use" ∷ codes "ment-use" ∷ codes "plugin" ∷ codes "list" ∷ codes "/" ∷ codes "@" ∷ []) word

unfoldable pub is_known_flag : List ℕ → Bool
is_known_flag word = starts_with nat_eq word (codes "-f") && not (keeps_macros word) && (is_plain_flag word || not (reads_file word || names_file word))

-- and for which machine
unfoldable pub is_known_machine : List ℕ → Bool
is_known_machine word = starts_with nat_eq word (codes "-m") && not (has_one (codes "/" ∷ codes "@" ∷ codes "llvm" ∷ []) word)

-- the language of what follows, which is no header
unfoldable pub is_known_language : List ℕ → Bool
is_known_language word = starts_with nat_eq word (codes "-x") && not (ends_with nat_eq word (codes "-header"))

unfoldable pub is_known_option : List ℕ → Bool
is_known_option word =
    is_plain_option word || (has_known_front word && not (has_refused_front word) && not (keeps_macros word)) || is_known_inside word || is_known_flag word || is_known_machine word
    || is_known_language word

-- ---- files

-- a source, an object or a library; none that is another one each time
unfoldable pub is_known_file : List ℕ → Bool
is_known_file word =
    ends_with_one
    (codes ".c" ∷ codes ".C" ∷ codes ".i" ∷ codes ".s" ∷ codes ".S" ∷ codes ".m" ∷ codes ".M" ∷ codes ".cc" ∷ codes ".cpp" ∷ codes ".cxx" ∷ codes ".c++" ∷ codes ".cp"
    ∷ codes ".ii" ∷ codes ".sx" ∷ codes ".mm" ∷ codes ".o" ∷ codes ".a" ∷ codes ".so" ∷ []) word
    && not (begins_with_one (codes "@" ∷ codes "-" ∷ codes "/dev/std" ∷ codes "/dev/fd/" ∷ codes "/proc/" ∷ []) word)

-- ---- words

unfoldable pub after_argument : List ℕ → Option Expected
after_argument word =
    if takes_value word then Some Value
    else if bytes_eq word (codes "-x") then Some Language
    else if takes_inner word then Some Inner
    else if is_known_option word || is_known_file word then Some Argument
    else None

-- an option of a part of the compiler that is known
unfoldable pub is_known_inner : List ℕ → Bool
is_known_inner word =
    is_known_flag word || is_known_machine word
    || (begins_with_one (codes "-D" ∷ codes "-U" ∷ codes "-W" ∷ codes "-O" ∷ codes "-disable-" ∷ codes "-target-" ∷ codes "+" ∷ codes "--32" ∷ codes "--64"
    ∷ codes "--compress" ∷ codes "--fatal-warnings" ∷ codes "--no" ∷ codes "--warn" ∷ []) word
    && not (has_one (codes "/" ∷ codes "@" ∷ codes "=" ∷ codes "." ∷ codes "," ∷ codes "gstabs" ∷ []) word))

-- no word of a command that makes a text by which that lists macros, or has words of a file
unfoldable pub is_known_of_text : List ℕ → Bool
is_known_of_text word =
    not (keeps_macros word)
    && not (begins_with_one (codes "-dD" ∷ codes "-dI" ∷ codes "-dM" ∷ codes "-dN" ∷ codes "-dU" ∷ codes "-fdirectives-only" ∷ codes "@" ∷ []) word)

abbrev pub argument_if : Bool → Option Expected
argument_if known = if known then Some Argument else None

-- what is expected behind a word, where it is known
abbrev pub after_word : Expected → List ℕ → Option Expected
after_word Front word = after_front word
after_word FrontValue word = Some Front
after_word Argument word = after_argument word
after_word Value word = argument_if (not (begins_with_one (codes "@" ∷ codes "=" ∷ codes "$" ∷ []) word))
after_word Language word = argument_if (not (ends_with nat_eq word (codes "-header")) && not (starts_with nat_eq word (codes "@")))
after_word Inner word = argument_if (is_known_inner word)
after_word Text word = if is_known_of_text word then Some Text else None

-- a word has a macro that is of the time of a compile, or looks for a file
unfoldable pub has_macro : List ℕ → Bool
has_macro word = has_one (codes "__has_include" ∷ codes "__has_embed" ∷ codes "__DATE__" ∷ codes "__TIME__" ∷ codes "__TIMESTAMP__" ∷ []) word

-- Most words have no two underscores side by side.
abbrev pub is_marked : List ℕ → Bool
is_marked word = has word (codes "__") && has_macro word

-- the number of the first word that isn't known, where they are counted from n on
abbrev pub unknown_from : ℕ → Option Expected → List (List ℕ) → Option ℕ
unknown_from n None words = Some n
unknown_from n (Some expected) [] = None
unknown_from n (Some expected) (word ∷ words) = if is_marked word then Some (n + 1) else unknown_from (n + 1) (after_word expected word) words

-- the number of the first word that isn't known, of a compile, which has -c, or of a command that makes a text; they are counted from 1 on
abbrev pub unknown_word : List (List ℕ) → Option ℕ
unknown_word words = unknown_from 0 (Some (if is_one_of words (codes "-c") then Front else Text)) words

unfoldable pub unknown_argument : List ℕ → Option ℕ
unknown_argument command = unknown_word (words_of command)
