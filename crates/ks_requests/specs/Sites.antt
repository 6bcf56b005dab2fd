-- Which file a refusal is about, and the line that says so: its path, the line or the token of it, and what stands there. The form is this project's.
use Rattle.std.specs.Prelude.{◌≡◌, ℕ, ◌-◌, ◌||◌, ◌==◌, nat_lt, List, [], ◌++◌, Option, Some, None, IfSome, Result, Ok, Err, option_map, ⊤}
use Rattle.std.specs.Prelude.{option_and_then, codes, map, take, slice_get, string_bytes, if◌then◌else◌}
use Rattle.ks_symbols.specs.Lines.{lines}
use Rattle.ks_symbols.specs.declared.error.SourceError.{SourceError}
use Rattle.ks_symbols.specs.declared.error.SourceError.TheVariants as source
use Rattle.ks_output.specs.declared.written.WrittenError.{WrittenError}
use Rattle.ks_output.specs.declared.written.WrittenError.TheVariants as written
use Rattle.ks_fixdep.specs.Tokens.{tokens}
use Rattle.ks_tree.specs.Files.{Files, IsTooLarge, content}
use Rattle.ks_tree.specs.declared.fault.TreeFault.{TreeFault}
use Rattle.ks_tree.specs.declared.fault.TreeFault.TheVariants.{TooLarge}
use Rattle.ks_tree.specs.Paths.{auto_path}
use Rattle.ks_hidden.specs.declared.hidden.Hidden.{Hidden}
use Rattle.ks_hidden.specs.declared.hidden.Hidden.TheVariants as hidden
use Rattle.ks_engine.specs.declared.error.EngineError.TheVariants.{BadAuto, BadPath, NoTarget, Source, Written}
use Rattle.ks_requests.specs.declared.refusal.Refusal.{Refusal}
use Rattle.ks_requests.specs.declared.refusal.Refusal.TheVariants.{Engine, Hidden as OfHidden, BadScript}
use Rattle.ks_requests.specs.declared.request.ConfigPaths.{ConfigPaths}
use Rattle.ks_requests.specs.declared.request.Request.{Request}
use Rattle.ks_requests.specs.declared.request.Request.TheVariants.{Backdate, Batch, Cost, Depfile, Diff, Fixdep, Impact, Mark, Outdated, Preview, Record, Repair, Stale, Status, Sync, Users, Why}
use Rattle.ks_requests.specs.declared.sites.Part.{Part}
use Rattle.ks_requests.specs.declared.sites.Part.TheVariants.{Whole, Line, Token}
use Rattle.ks_requests.specs.Endings.{Ending}
use Rattle.ks_requests.specs.Faults.{counted}

-- the path of a file, and a part of it
abbrev pub Site : Type 0
Site = List ℕ × Part

-- ---- which file a refusal is about

abbrev pub source_site : List ℕ → List ℕ → SourceError → Option Site
source_site kconfig dotconfig (source.NotBare line) = Some (kconfig, Line line)
source_site kconfig dotconfig (source.BadName line) = Some (kconfig, Line line)
source_site kconfig dotconfig (source.ModuleName line) = Some (kconfig, Line line)
source_site kconfig dotconfig (source.NoType line) = Some (kconfig, Line line)
source_site kconfig dotconfig (source.TypeClash line) = Some (kconfig, Line line)
source_site kconfig dotconfig (source.BadTitle line) = Some (kconfig, Line line)
source_site kconfig dotconfig (source.NotAConfigLine line) = Some (dotconfig, Line line)
source_site kconfig dotconfig (source.BadValue line) = Some (dotconfig, Line line)
source_site kconfig dotconfig _ = None

-- of what conf wrote: the header where that line is the wrong one, else auto.conf
abbrev pub written_site : List ℕ → List ℕ → WrittenError → Option Site
written_site auto header written.BadHeading = Some (auto, Whole)
written_site auto header (written.NotAnEntry line) = Some (auto, Line line)
written_site auto header (written.ModuleSymbol line) = Some (auto, Line line)
written_site auto header (written.Unexplained line) = Some (auto, Line line)
written_site auto header (written.Undefined line) = Some (auto, Line line)
written_site auto header (written.Undeclared line) = Some (header, Whole)
written_site auto header (written.Twice line) = Some (auto, Line line)
written_site auto header _ = None

-- of the two files of a configuration, and an old auto.conf
abbrev pub config_site : ConfigPaths → Option (List ℕ) → Refusal → Option Site
config_site c auto (Engine (Source e)) = source_site (string_bytes c.first) (string_bytes c.second) e
config_site c auto (Engine (Written e)) = written_site (string_bytes c.first) (string_bytes c.second) e
config_site c auto (Engine (BadAuto line)) = option_map (λ path. (path, Line line)) auto
config_site c auto _ = None

-- .. where they are named, and of this tree's auto.conf
abbrev pub status_site : Option ConfigPaths → Refusal → Option Site
status_site (Some c) refusal = config_site c (Some auto_path) refusal
status_site None (Engine (BadAuto line)) = Some (auto_path, Line line)
status_site None _ = None

-- of a dependency file; token 0 is a word of the command line
abbrev pub depfile_site : List ℕ → Refusal → Option Site
depfile_site depfile (Engine NoTarget) = Some (depfile, Whole)
depfile_site depfile (Engine (BadPath token)) = if token == 0 then None else Some (depfile, Token token)
depfile_site depfile _ = None

abbrev pub record_site : List ℕ → Refusal → Option Site
record_site depfile (Engine (BadAuto line)) = Some (auto_path, Line line)
record_site depfile refusal = depfile_site depfile refusal

-- of an object that may depend on more than names
abbrev pub hidden_site : Hidden → Option Site
hidden_site (hidden.Input path line) = Some (path, Line line)
hidden_site (hidden.Line path line) = Some (path, Line line)
hidden_site _ = None

abbrev pub rule_site : List ℕ → Refusal → Option Site
rule_site depfile (OfHidden h) = hidden_site h
rule_site depfile refusal = record_site depfile refusal

abbrev pub script_site : List ℕ → Refusal → Option Site
script_site script (BadScript line) = Some (script, Line line)
script_site script _ = None

-- of a list of names
abbrev pub names_site : List ℕ → Refusal → Option Site
names_site list (Engine (Source (source.BadName line))) = Some (list, Line line)
names_site list _ = None

-- A word that is refused, a missing file and a stamp are named by the refusal itself, and objects by their lines.
abbrev pub site_of : Request → Refusal → Option Site
site_of (Sync c stamps) refusal = config_site c (Some auto_path) refusal
site_of (Preview c o) refusal = config_site c (option_map (λ path. string_bytes path) o) refusal
site_of (Diff c report_style) refusal = config_site c (Some auto_path) refusal
site_of (Status c) refusal = status_site c refusal
site_of (Impact c targets format) refusal = config_site c (Some auto_path) refusal
site_of (Fixdep d t c) refusal = depfile_site (string_bytes d) refusal
site_of (Record d t c after options) refusal = record_site (string_bytes d) refusal
site_of (Depfile end strict elsewhere d t c) refusal = rule_site (string_bytes d) refusal
site_of (Batch script) refusal = script_site (string_bytes script) refusal
site_of (Repair stamps targets kept) refusal = names_site (string_bytes stamps) refusal
site_of (Stale targets format) refusal = None
site_of (Why targets format) refusal = None
site_of (Backdate which targets) refusal = None
site_of (Mark which targets) refusal = None
site_of (Outdated t c) refusal = None
site_of (Users symbols targets) refusal = None
site_of (Cost top targets) refusal = None

-- ---- what stands there

-- the line or the token of a number, where the text has so many
abbrev pub part_text : Part → List ℕ → Option (List ℕ)
part_text Whole text = None
part_text (Line n) text = slice_get (lines text) (n - 1)
part_text (Token n) text = slice_get (tokens text) (n - 1)

-- a byte that no terminal takes for a command: a tab as a space, any other control byte as `?`
abbrev pub visible : ℕ → ℕ
visible b = if b == 9 then 32 else if nat_lt b 32 || b == 127 then 63 else b

-- at most 120 bytes
abbrev pub excerpt : List ℕ → List ℕ
excerpt text = map visible (take 120 text)

abbrev pub excerpt_in : Part → List ℕ → Option (List ℕ)
excerpt_in part text = option_map excerpt (part_text part text)

abbrev pub excerpt_at : Files → Site → Option (List ℕ)
excerpt_at files site = option_and_then (excerpt_in site.1) (content files site.0)

-- ---- the line

unfoldable pub part_label : Part → List ℕ
part_label Whole = []
part_label (Line n) = counted (codes ":") n
part_label (Token n) = counted (codes ": token ") n

abbrev pub shown : Option (List ℕ) → List ℕ
shown None = []
shown (Some text) = codes ": " ++ text

-- two spaces, the path, the part, and what stands there where that is known
unfoldable pub site_line : Site → Option (List ℕ) → List ℕ
site_line site text = codes "  " ++ site.0 ++ part_label site.1 ++ shown text ++ codes "\n"

-- On an honest tree it is what the file has at the site, and on any tree an excerpt; or the file is too large, or gave no answer.
abbrev pub IsThere : Type 0 → Files → Site → Result (Option (List ℕ)) TreeFault → Type 0
IsThere honest files site (Ok text) = (honest → text ≡ excerpt_at files site) × IfSome text (λ t. (bytes : List ℕ) × (t ≡ excerpt bytes))
IsThere honest files site (Err TooLarge) = honest → IsTooLarge (content files site.0)
IsThere honest files site (Err fault) = ⊤

abbrev pub found_text : Result (Option (List ℕ)) TreeFault → Option (List ℕ)
found_text (Ok text) = text
found_text (Err fault) = None

-- There is a line where there is a site. What stands there is left out where the file has no such part, or where it can't be read.
abbrev pub IsSiteLine : Type 0 → Files → Option Site → List ℕ → Type 0
IsSiteLine honest files None line = line ≡ []
IsSiteLine honest files (Some site) line =
    (found : Result (Option (List ℕ)) TreeFault) × IsThere honest files site found × (line ≡ site_line site (found_text found))

-- the site of what is refused as a whole
abbrev pub ending_site : Request → Ending → Option Site
ending_site request (Ok o) = None
ending_site request (Err e) = site_of request e
