-- What a strict record of an object looks at first: whether anything but the names that its files mention may matter to it.
use Rattle.std.specs.Prelude.{◌≡◌, ◌≢◌, ◌⊎◌, ◌<◌, ◌&&◌, ◌||◌, ℕ, Bool, true, false, not, List, Option, Some, None, Ok, Err, bytes_eq, nat_eq, codes, length, map, slice_get, string_bytes, take, if◌then◌else◌, ⊤, ◌∷◌}
use Rattle.std.specs.Borrow.{Bor}
use Rattle.std.specs.List.{starts_with, ends_with, list_any}
use Rattle.ks_symbols.specs.Names.{header_path, is_path}
use Rattle.ks_symbols.specs.declared.dialect.Dialect.{Dialect}
use Rattle.ks_output.specs.OldConfig.{Texts}
use Rattle.ks_hidden.specs.HeaderLines.{foreign_line, lacks}
use Rattle.ks_hidden.specs.Arguments.{unknown_argument}
use Rattle.ks_hidden.specs.Candidates.{candidates}
use Rattle.ks_hidden.specs.Macros.{DefiningLine, defining_word, includes}
use Rattle.ks_hidden.specs.Precompiled.{is_among}
use Rattle.ks_hidden.specs.Texts.{HiddenLine}
use Rattle.ks_hidden.specs.Words.{is_such}
use Rattle.ks_hidden.specs.declared.hidden.Hidden.{Hidden}
use Rattle.ks_hidden.specs.declared.hidden.Hidden.TheVariants as hidden
use Rattle.ks_fixdep.specs.DependencyFile.{is_header, prerequisites_without, refusal_without}
use Rattle.ks_fixdep.specs.declared.dep_error.DepError.{DepError}
use Rattle.ks_fixdep.specs.declared.dependency_file.Header.{Header}
use Rattle.ks_fixdep.specs.declared.dependency_file.Header.TheVariants.{Usual, BusyBox, At}
use Rattle.ks_fixdep.specs.declared.dependency_file.Role.{Role}
use Rattle.ks_tree.specs.Files.{Files, content}
use Rattle.ks_tree.specs.Paths.{auto_path}
use Rattle.ks_engine.specs.LastSync.{OldAuto, old_auto}
use Rattle.ks_engine.specs.Places.{placed_by}
use Rattle.ks_engine.specs.declared.conventions.RecordOptions.{RecordOptions}
use Rattle.ks_engine.specs.Refusals.{IsAborted, of_dep}
use Rattle.ks_engine.specs.declared.error.EngineError.{EngineError}
use Rattle.ks_commands.specs.declared.looking.Looking.{Looking}
use Rattle.ks_requests.specs.Endings.{Ending}
use Rattle.ks_requests.specs.Inputs.{given, legal}
use Rattle.ks_requests.specs.declared.request.StrictPaths.{StrictPaths}
use Rattle.ks_requests.specs.declared.refusal.Refusal.TheVariants.{Engine, Hidden as OfHidden}

-- how the files of an object are looked at: as sources of a project, by its header, the other path that this may have, what the last
-- synchronisation wrote, the paths that are listed, and the command
pub record Look : Type 0 where
  pub dialect : Dialect
  pub header : Header
  pub alias : List ℕ
  pub texts : Texts
  pub is_listed : List ℕ → Bool
  pub command : List ℕ

-- what the code holds of that
abbrev pub looked_by : Looking → Look
looked_by l = record {
  dialect = l.dialect;
  header = l.header;
  alias = l.alias.now;
  texts = l.config.texts;
  is_listed = is_among l.listed;
  command = l.command.now;
}

-- ---- one after the other

-- each of the first n is so
abbrev pub AreFirst : {X : Type 0} → (X → Type 0) → List X → ℕ → Type 0
AreFirst {X} so xs n = (i : ℕ) (x : X) → i < n → slice_get xs i ≡ Some x → so x

abbrev pub AreAll : {X : Type 0} → (X → Type 0) → List X → Type 0
AreAll so xs = AreFirst so xs (length xs)

-- one is otherwise, and each before it is so
abbrev pub AreUpTo : {X : Type 0} → (X → Type 0) → (X → Type 0) → List X → Type 0
AreUpTo {X} so otherwise xs = (i : ℕ) × (x : X) × (slice_get xs i ≡ Some x) × AreFirst so xs i × otherwise x

-- ---- paths

-- the path that every source includes the header by
abbrev pub path_of : Header → List ℕ
path_of Usual = header_path
path_of BusyBox = codes "include/autoconf.h"
path_of (At path) = path.now

-- the header of this directory, and none that only ends so
abbrev pub is_own : Header → List ℕ → List ℕ → Bool
is_own header alias path = bytes_eq path alias || bytes_eq path (path_of header)

-- a file of the system, which is the same for all; none of a project that stands in /usr
abbrev pub is_of_system : List ℕ → Bool
is_of_system path = starts_with nat_eq path (codes "/usr/")
    && not (starts_with nat_eq path (codes "/usr/src/")) && not (starts_with nat_eq path (codes "/usr/local/src/"))

-- a header by its name: no precompiled one is sought for what it includes
abbrev pub is_header_name : List ℕ → Bool
is_header_name path =
    ends_with nat_eq path (codes ".h") || (ends_with nat_eq path (codes ".hh") || (ends_with nat_eq path (codes ".hpp") || ends_with nat_eq path (codes ".hxx")))

-- a file that is compiled, and not included
abbrev pub is_source : Header → List ℕ → Bool
is_source header path = not (is_header header path) && not (is_of_system path) && not (is_header_name path)

-- ---- precompiled headers

-- there is no file at a path
abbrev pub IsAbsent : Files → List ℕ → Type 0
IsAbsent files path = content files path ≡ None

-- one is found, or one is no path, so it is the source that is named
abbrev pub IsFoundAt : Files → List ℕ → List ℕ → Hidden → Type 0
IsFoundAt files source path (hidden.Precompiled p) = ((p ≡ path) × (content files path ≢ None)) ⊎ ((p ≡ source) × (is_path path ≡ false))
IsFoundAt files source path _ = ⊥

-- none is found, or the first
abbrev pub IsSought : Files → List ℕ → List (List ℕ) → Option Hidden → Type 0
IsSought files source paths None = AreAll (IsAbsent files) paths
IsSought files source paths (Some h) = AreUpTo (IsAbsent files) (λ path. IsFoundAt files source path h) paths

-- ---- a file

-- A text hides nothing, and where it is a source no compiler finds a precompiled header for what it begins with.
abbrev pub IsPlainText : Look → Files → List ℕ → List ℕ → Type 0
IsPlainText look files path b = HiddenLine b None × (is_header_name path ≡ false → AreAll (IsAbsent files) (candidates look.is_listed path b look.command))

-- or this is why not
abbrev pub IsTextCause : Look → Files → List ℕ → List ℕ → Hidden → Type 0
IsTextCause look files path b (hidden.Input p n) = (p ≡ path) × HiddenLine b (Some n)
IsTextCause look files path b h =
    HiddenLine b None × (is_header_name path ≡ false) × IsSought files path (candidates look.is_listed path b look.command) (Some h)

abbrev pub IsInput : Look → Files → List ℕ → Option Hidden → Type 0
IsInput look files path None = (b : List ℕ) × (content files path ≡ Some b) × IsPlainText look files path b
IsInput look files path (Some h) = (b : List ℕ) × (content files path ≡ Some b) × IsTextCause look files path b h

-- The header is this directory's, and has the definitions of the last synchronisation, these and no others; or this is why not.
abbrev pub IsHeaderCause : Look → Files → List ℕ → Hidden → Type 0
IsHeaderCause look files path (hidden.OtherHeader p) = (p ≡ path) × (is_own look.header look.alias path ≡ false)
IsHeaderCause look files path (hidden.Line p n) = (p ≡ path) × (is_own look.header look.alias path ≡ true)
    × (b : List ℕ) × (content files path ≡ Some b) × (foreign_line look.dialect look.texts b ≡ Some n)
IsHeaderCause look files path (hidden.MissingLine p) = (p ≡ path) × (is_own look.header look.alias path ≡ true)
    × (b : List ℕ) × (content files path ≡ Some b) × (foreign_line look.dialect look.texts b ≡ None) × (lacks look.texts b ≡ true)
IsHeaderCause look files path h = ⊥

abbrev pub IsHeader : Look → Files → List ℕ → Option Hidden → Type 0
IsHeader look files path None = (is_own look.header look.alias path ≡ true)
    × (b : List ℕ) × (content files path ≡ Some b) × (foreign_line look.dialect look.texts b ≡ None) × (lacks look.texts b ≡ false)
IsHeader look files path (Some h) = IsHeaderCause look files path h

-- a file of either kind, or one of the system, which isn't looked at
abbrev pub IsLookedAt : Look → Files → List ℕ → Option Hidden → Type 0
IsLookedAt look files path found =
    ((is_header look.header path ≡ true) × IsHeader look files path found)
    ⊎ ((is_header look.header path ≡ false)
    × (((is_of_system path ≡ true) × (found ≡ None)) ⊎ ((is_of_system path ≡ false) × IsInput look files path found)))

-- ---- all of them

-- the files that a dependency file lists, the header among them: no path ends in a line feed
abbrev pub AreListed : List ℕ → List (List ℕ × Role) → Type 0
AreListed text listed = (none : Bor (List ℕ)) × (none.now ≡ codes "\n") × (listed ≡ prerequisites_without (At none) text)

abbrev pub IsListRefused : List ℕ → EngineError → Type 0
IsListRefused text e = (none : Bor (List ℕ)) × (none.now ≡ codes "\n") × (fault : DepError) × (refusal_without (At none) text ≡ Some fault) × (e ≡ of_dep fault)

-- whether a path is listed
abbrev pub is_listed : List (List ℕ × Role) → List ℕ → Bool
is_listed listed path = list_any (λ p. bytes_eq path p.0) listed

-- one is as it should be, or all are
abbrev pub IsPlain : Look → Files → List ℕ × Role → Type 0
IsPlain look files p = IsLookedAt look files p.0 None

abbrev pub ArePlain : Look → Files → List (List ℕ × Role) → Type 0
ArePlain look files listed = AreAll (IsPlain look files) listed

-- the first that isn't has this cause
abbrev pub IsFirstCause : Look → Files → List (List ℕ × Role) → Hidden → Type 0
IsFirstCause look files listed h = AreUpTo (IsPlain look files) (λ p. IsLookedAt look files p.0 (Some h)) listed

abbrev pub AreLookedAt : Look → Files → List (List ℕ × Role) → Option Hidden → Type 0
AreLookedAt look files listed None = ArePlain look files listed
AreLookedAt look files listed (Some h) = IsFirstCause look files listed h

-- or the first that isn't can't be read
abbrev pub is_read : Look → List ℕ → Bool
is_read look path = if is_header look.header path then is_own look.header look.alias path else not (is_of_system path)

abbrev pub IsUnreadAmong : Look → Files → List (List ℕ × Role) → EngineError → Type 0
IsUnreadAmong look files listed e = AreUpTo (IsPlain look files) (λ p. (is_read look p.0 ≡ true) × (given files p.0 ≡ Err e)) listed

-- one of them is compiled, and not included
abbrev pub has_source : Header → List (List ℕ × Role) → Bool
has_source header listed = list_any (λ p. is_source header p.0) listed

-- ---- macros that they include by their names

abbrev pub includes_macro : Option (List ℕ) → List ℕ → Bool
includes_macro text name = is_such (λ b. includes b name) text

-- a file that is looked at includes a macro of this name
abbrev pub file_includes : Look → Files → List ℕ → List ℕ → Bool
file_includes look files path name =
    not (is_header look.header path) && (not (is_of_system path) && includes_macro (content files path) name)

-- one of them does
abbrev pub is_included : Look → Files → List (List ℕ × Role) → List ℕ → Bool
is_included look files listed name = list_any (λ p. file_includes look files p.0 name) listed

-- a file defines none of these macros
abbrev pub DefinesNone : (List ℕ → Bool) → Files → List ℕ × Role → Type 0
DefinesNone is_macro files p = (b : List ℕ) → content files p.0 ≡ Some b → DefiningLine is_macro b None

-- Nothing defines one of these macros; or a word of the command does, or a line of the first file in which they may be defined.
abbrev pub IsDefinition : (List ℕ → Bool) → Files → List ℕ → List (List ℕ × Role) → Option Hidden → Type 0
IsDefinition is_macro files command listed None =
    (defining_word is_macro command ≡ None) × AreAll (DefinesNone is_macro files) listed
IsDefinition is_macro files command listed (Some (hidden.Argument n)) = defining_word is_macro command ≡ Some n
IsDefinition is_macro files command listed (Some (hidden.Input path n)) = (defining_word is_macro command ≡ None)
    × AreUpTo (DefinesNone is_macro files) (λ p. (path ≡ p.0) × (b : List ℕ) × (content files p.0 ≡ Some b) × DefiningLine is_macro b (Some n)) listed
IsDefinition is_macro files command listed (Some h) = ⊥

-- or the first file in which they may be defined can't be read
abbrev pub IsUnreadDefinition : (List ℕ → Bool) → Files → List ℕ → List (List ℕ × Role) → EngineError → Type 0
IsUnreadDefinition is_macro files command listed e =
    (defining_word is_macro command ≡ None) × AreUpTo (DefinesNone is_macro files) (λ p. given files p.0 ≡ Err e) listed

-- ---- an object

-- each of its files is as it should be, and one of them is compiled
abbrev pub ArePlainWithSource : Look → Files → List (List ℕ × Role) → Type 0
ArePlainWithSource look files listed = ArePlain look files listed × (has_source look.header listed ≡ true)

-- Nothing but names can matter to an object: so are its files, and nothing defines a macro that one of them includes by its name. Or
-- this does, or the first file that isn't as it should be is the cause, or none is compiled, as where a header is precompiled.
abbrev pub IsFound : Look → Files → List (List ℕ × Role) → Option Hidden → Type 0
IsFound look files listed None = ArePlainWithSource look files listed
    × (((name : List ℕ) → is_included look files listed name ≡ false) ⊎ IsDefinition (is_included look files listed) files look.command listed None)
IsFound look files listed (Some h) =
    IsFirstCause look files listed h
    ⊎ ((ArePlain look files listed × (has_source look.header listed ≡ false)
    × (p : List ℕ × Role) × (slice_get listed 0 ≡ Some p) × (h ≡ hidden.Precompiled p.0))
    ⊎ (ArePlainWithSource look files listed × IsDefinition (is_included look files listed) files look.command listed (Some h)))

-- The first file that isn't as it should be can't be read, or one that may define a macro which another one includes.
abbrev pub IsUnreadListed : Look → Files → List (List ℕ × Role) → EngineError → Type 0
IsUnreadListed look files listed e =
    IsUnreadAmong look files listed e
    ⊎ (ArePlainWithSource look files listed
    × (name : List ℕ) × (is_included look files listed name ≡ true) × IsUnreadDefinition (is_included look files listed) files look.command listed e)

-- ---- the tools

-- a file is a program by its first bytes, and no script, which may bring words of its own
abbrev pub is_program : Option (List ℕ) → Bool
is_program = is_such (λ b. bytes_eq (take 4 b) (127 ∷ codes "ELF"))

abbrev pub IsProgram : Files → List ℕ → Type 0
IsProgram files tool = is_program (content files tool) ≡ true

abbrev pub ArePrograms : Files → List (List ℕ) → Type 0
ArePrograms files tools = AreAll (IsProgram files) tools

-- The first that isn't has this cause: its first line.
abbrev pub IsToolCause : Files → List (List ℕ) → Hidden → Type 0
IsToolCause files tools h = AreUpTo (IsProgram files) (λ tool. (is_program (content files tool) ≡ false) × (h ≡ hidden.Input tool 1)) tools

abbrev pub AreTools : Files → List (List ℕ) → Option Hidden → Type 0
AreTools files tools None = ArePrograms files tools
AreTools files tools (Some h) = IsToolCause files tools h

-- or it is no path
abbrev pub IsBadTool : Files → List (List ℕ) → EngineError → Type 0
IsBadTool files tools e = AreUpTo (IsProgram files) (λ tool. legal tool ≡ Err e) tools

abbrev pub tools_of : StrictPaths → List (List ℕ)
tools_of strict = map (λ tool. string_bytes tool) strict.tools.items

-- ---- a compile

-- what is read first: the dependency file and auto.conf
pub record FirstRead (options : RecordOptions) (files : Files) (depfile : List ℕ) : Type 0 where
  pub was : List ℕ
  pub was_there : content files depfile ≡ Some was
  pub listed : List (List ℕ × Role)
  pub are_listed : AreListed (placed_by options was) listed
  pub auto : OldAuto
  pub auto_is : old_auto (content files auto_path) ≡ Ok auto

-- how the files are looked at then
abbrev pub look_by : Dialect → Header → List ℕ → List ℕ → {options : RecordOptions} {files : Files} {depfile : List ℕ} → FirstRead options files depfile → Look
look_by dialect header alias command r = record {
  dialect = dialect;
  header = header;
  alias = alias;
  texts = r.auto.texts;
  is_listed = is_listed r.listed;
  command = command;
}

-- The first reads gave the dependency file and auto.conf, and by these this was found of the files.
abbrev pub AreFilesLooked : Dialect → Header → RecordOptions → List ℕ → Files → List ℕ → List ℕ → Option Hidden → Type 0
AreFilesLooked dialect header options alias files depfile command found =
    (r : FirstRead options files depfile) × IsFound (look_by dialect header alias command r) files r.listed found

-- What was found of an object: an argument that isn't known, a tool that is no program, or by its files.
abbrev pub IsLooked : Dialect → Header → RecordOptions → StrictPaths → Files → List ℕ → List ℕ → Option Hidden → Type 0
IsLooked dialect header options strict files depfile command found =
    ((word : ℕ) × (unknown_argument command ≡ Some word) × (found ≡ Some (hidden.Argument word)))
    ⊎ ((unknown_argument command ≡ None)
    × (((h : Hidden) × IsToolCause files (tools_of strict) h × (found ≡ Some h))
    ⊎ (ArePrograms files (tools_of strict) × AreFilesLooked dialect header options (string_bytes strict.alias) files depfile command found)))

-- The first of what has to be read is refused, or can't be: the dependency file, auto.conf, or one of the files.
abbrev pub IsUnreadFile : Dialect → Header → RecordOptions → List ℕ → Files → List ℕ → List ℕ → EngineError → Type 0
IsUnreadFile dialect header options alias files depfile command e =
    (given files depfile ≡ Err e)
    ⊎ (((was : List ℕ) × (content files depfile ≡ Some was)
    × (IsListRefused (placed_by options was) e ⊎ ((listed : List (List ℕ × Role)) × AreListed (placed_by options was) listed × (old_auto (content files auto_path) ≡ Err e))))
    ⊎ ((r : FirstRead options files depfile) × IsUnreadListed (look_by dialect header alias command r) files r.listed e))

-- Each argument is known, and a tool is no path, or each is a program and this is so.
abbrev pub IsUnread : Dialect → Header → RecordOptions → StrictPaths → Files → List ℕ → List ℕ → EngineError → Type 0
IsUnread dialect header options strict files depfile command e =
    (unknown_argument command ≡ None)
    × (IsBadTool files (tools_of strict) e
    ⊎ (ArePrograms files (tools_of strict) × IsUnreadFile dialect header options (string_bytes strict.alias) files depfile command e))

-- ---- before a record

-- Where it is asked for, nothing but names can matter.
abbrev pub AllowsRecord : Files → Dialect → Header → RecordOptions → Option StrictPaths → List ℕ → List ℕ → Type 0
AllowsRecord files dialect header options None depfile command = ⊤
AllowsRecord files dialect header options (Some strict) depfile command = IsLooked dialect header options strict files depfile command None

-- or it is refused for what may matter, or what can't be looked at
abbrev pub RefusesRecord : Files → Dialect → Header → RecordOptions → Option StrictPaths → List ℕ → List ℕ → Ending → Type 0
RefusesRecord files dialect header options None depfile command ended = ⊥
RefusesRecord files dialect header options (Some strict) depfile command ended =
    ((h : Hidden) × IsLooked dialect header options strict files depfile command (Some h) × (ended ≡ Err (OfHidden h)))
    ⊎ ((e : EngineError) × (IsAborted e ⊎ IsUnread dialect header options strict files depfile command e) × (ended ≡ Err (Engine e)))
