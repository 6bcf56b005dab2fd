-- What a Kconfig text of bare entries declares, and why one is refused. The selection of forms is this project's.
use Rattle.std.specs.Prelude.{ℕ, Bool, ◌&&◌, not, ◌==◌, List, length, codes, [], ◌∷◌, ◌++◌, bytes_eq, Option, Some, None, if◌then◌else◌, map, ◌+◌, false, nat_lt, find, reverse, true, filter}
use Rattle.std.specs.List.{list_any}
use Rattle.ks_symbols.specs.declared.kinds.Kind.{Kind}
use Rattle.ks_symbols.specs.declared.error.SourceError.{SourceError}
use Rattle.std.specs.Map.{lookup}
use Rattle.ks_symbols.specs.declared.error.SourceError.TheVariants as fault
use Rattle.ks_symbols.specs.Names.{is_name}
use Rattle.ks_symbols.specs.Lines.{max_bytes, lines}
use Rattle.ks_symbols.specs.Kinds.{fits, kind_number}
use Rattle.ks_symbols.specs.Refusals.{or_else}
use Rattle.ks_symbols.specs.Titles.{is_title}
use Rattle.ks_symbols.specs.Dialects.{KconfigText}
use Rattle.ks_symbols.specs.LineKinds.{LineKind, line_kind, CommentOrBlank, Title, Untitled, Entry, ModuleEntry, HasKind, Unknown}

-- The forms that say something, the latest first, are the story of a text.
abbrev pub says : LineKind → Bool
says CommentOrBlank = false
says f = true

abbrev pub opens : LineKind → Bool
opens (Entry name) = true
opens (Title title) = true
opens f = false

abbrev pub entry_of : List LineKind → Option (List ℕ)
entry_of (Entry name ∷ earlier) = Some name
entry_of earlier = None

abbrev pub declares : Kind → Option (List ℕ) → List (List ℕ × Kind)
declares k None = []
declares k (Some name) = (name, k) ∷ []

-- Each entry that is followed by a kind declares its name, the latest first.
unfoldable pub declarations : List LineKind → List (List ℕ × Kind)
declarations [] = []
declarations (HasKind k ∷ earlier) = declares k (entry_of earlier) ++ declarations earlier
declarations (f ∷ earlier) = declarations earlier

-- the kind with which a story declares a name
abbrev pub kind_in : List LineKind → List ℕ → Option Kind
kind_in story name = lookup (bytes_eq name) (declarations story)

unfoldable pub title_in : List LineKind → List ℕ
title_in [] = codes "Main menu"
title_in (Title title ∷ earlier) = title
title_in (f ∷ earlier) = title_in earlier

-- the forms of its lines
abbrev pub line_kinds : KconfigText → List LineKind
line_kinds kconfig = map (line_kind kconfig.dialect) (lines kconfig.text)

abbrev pub story : KconfigText → List LineKind
story kconfig = reverse (filter says (line_kinds kconfig))

-- What a text declares, and its title
unfoldable pub declared : KconfigText → List ℕ → Option Kind
declared kconfig name = kind_in (story kconfig) name

unfoldable pub title_of : KconfigText → List ℕ
title_of kconfig = title_in (story kconfig)

-- an entry has no kind where nothing or one of these forms comes next
abbrev pub lacks_kind : Option LineKind → Bool
lacks_kind None = true
lacks_kind (Some (Entry name)) = true
lacks_kind (Some (Title title)) = true
lacks_kind (Some Untitled) = true
lacks_kind (Some ModuleEntry) = true
lacks_kind (Some f) = false

abbrev pub clashes : Kind → Option Kind → Bool
clashes k None = false
clashes k (Some before) = not (kind_number k == kind_number before)

abbrev pub kind_fault : ℕ → List LineKind → Kind → Option (List ℕ) → Option SourceError
kind_fault number earlier k None = Some (fault.NotBare number)
kind_fault number earlier k (Some name) =
    if fits k name then (if clashes k (kind_in earlier name) then Some (fault.TypeClash number) else None) else Some (fault.ModuleName number)

-- What is wrong with the line of a number and a form, between the forms of a story and those of the lines after it.
abbrev pub line_kind_fault : ℕ → List LineKind → LineKind → List LineKind → Option SourceError
line_kind_fault number earlier CommentOrBlank later = None
line_kind_fault number earlier Unknown later = Some (fault.NotBare number)
line_kind_fault number earlier Untitled later = Some (fault.BadTitle number)
line_kind_fault number earlier (Title title) later = if is_title title && not (list_any opens earlier) then None else Some (fault.BadTitle number)
line_kind_fault number earlier (Entry name) later =
    if not (is_name name) then Some (fault.BadName number) else (if lacks_kind (find says later) then Some (fault.NoType number) else None)
line_kind_fault number earlier ModuleEntry later = Some (fault.ModuleName number)
line_kind_fault number earlier (HasKind k) later = kind_fault number earlier k (entry_of earlier)

-- a story that goes on
abbrev pub goes_on : LineKind → List LineKind → List LineKind
goes_on f earlier = if says f then f ∷ earlier else earlier

-- the first fault of the lines that follow a story, counted from a number on
unfoldable pub first_line_kind_fault : ℕ → List LineKind → List LineKind → Option SourceError
first_line_kind_fault number earlier [] = None
first_line_kind_fault number earlier (f ∷ later) = or_else (line_kind_fault number earlier f later) (first_line_kind_fault (number + 1) (goes_on f earlier) later)

-- why a text is refused
unfoldable pub kconfig_refusal : KconfigText → Option SourceError
kconfig_refusal kconfig = if nat_lt max_bytes (length kconfig.text) then Some fault.TooLarge else first_line_kind_fault 1 [] (line_kinds kconfig)
