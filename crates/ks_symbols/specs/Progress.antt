-- How far a reader of Kconfig is, and what each line does to that. `Kconfig` says what a whole text means.
use Rattle.std.specs.Prelude.{ℕ, Bool, ◌&&◌, not, List, [], ◌∷◌, ◌++◌, Option, Some, None, if◌then◌else◌, refl, false, true, bytes_eq}
use Rattle.std.specs.Coded.{Coded, code_by, coded_ℕ, coded_list, coded×, coded_option, coded_bool}
use Rattle.ks_symbols.specs.declared.kinds.Kind.{Kind}
use Rattle.ks_symbols.specs.declared.error.SourceError.{SourceError}
use Rattle.ks_symbols.specs.declared.error.SourceError.TheVariants as fault
use Rattle.ks_symbols.specs.Names.{is_name}
use Rattle.ks_symbols.specs.Kinds.{coded_kind, fits}
use Rattle.ks_symbols.specs.Refusals.{or_else}
use Rattle.ks_symbols.specs.Titles.{is_title}
use Rattle.ks_symbols.specs.LineKinds.{LineKind, CommentOrBlank, Title, Untitled, Entry, ModuleEntry, HasKind, Unknown}
use Rattle.ks_symbols.specs.Kconfig.{clashes}
use Rattle.ks_symbols.specs.declared.kconfig.Declaration.{Declaration}

-- a declaration: its name, its kind, and the number of its line
abbrev pub Declared : Type 0
Declared = List ℕ × (Kind × ℕ)

abbrev pub seen : Declaration → Declared
seen d = (d.name.now, (d.kind, d.number))

-- the kind with which a name is declared first, and last
unfoldable pub first_kind : List Declared → List ℕ → Option Kind
first_kind [] x = None
first_kind (d ∷ ds) x = if bytes_eq x d.0 then Some d.1.0 else first_kind ds x

unfoldable pub last_kind : List Declared → List ℕ → Option Kind
last_kind [] x = None
last_kind (d ∷ ds) x = or_else (last_kind ds x) (if bytes_eq x d.0 then Some d.1.0 else None)

-- a kind, as a table of names has it: without a text
abbrev pub without_text : Kind → Kind × List ℕ
without_text k = (k, [])

-- the declarations so far, the title, whether a title or an entry was seen, and the line and the name of an entry that waits for its kind
pub record Progress : Type 0 where
  pub declared : List Declared
  pub title : Option (List ℕ)
  pub started : Bool
  pub waiting : Option (ℕ × List ℕ)

abbrev pub coded_progress : Coded Progress
coded_progress =
    code_by (List Declared × (Option (List ℕ) × (Bool × Option (ℕ × List ℕ))))
    (coded× (coded_list (coded× (coded_list coded_ℕ) (coded× coded_kind coded_ℕ)))
    (coded× (coded_option (coded_list coded_ℕ)) (coded× coded_bool (coded_option (coded× coded_ℕ (coded_list coded_ℕ))))))
    (λ s. (s.declared, (s.title, (s.started, s.waiting))))
    (λ p. record { declared = p.0; title = p.1.0; started = p.1.1.0; waiting = p.1.1.1 }) (λ _. refl)

abbrev pub no_progress : Progress
no_progress = record { declared = []; title = None; started = false; waiting = None }

abbrev pub with_kind : Progress → ℕ → Kind → Option (ℕ × List ℕ) → Progress
with_kind s number k None = s
with_kind s number k (Some w) = record s { declared = s.declared ++ (w.1, (k, number)) ∷ []; waiting = None }

abbrev pub progress_after : Progress → ℕ → LineKind → Progress
progress_after s number (Title title) = record s { title = Some title; started = true }
progress_after s number (Entry name) = record s { started = true; waiting = Some (number, name) }
progress_after s number (HasKind k) = with_kind s number k s.waiting
progress_after s number f = s

abbrev pub waiting_fault : Option (ℕ × List ℕ) → Option SourceError
waiting_fault None = None
waiting_fault (Some w) = Some (fault.NoType w.0)

-- a declaration of a name that was declared with another kind before
abbrev pub clash_fault : ℕ → Kind → Option Kind → Option SourceError
clash_fault number k before = if clashes k before then Some (fault.TypeClash number) else None

-- the first one among declarations, after others
unfoldable pub first_clash : List Declared → List Declared → Option SourceError
first_clash before [] = None
first_clash before (d ∷ ds) = or_else (clash_fault d.1.1 d.1.0 (last_kind before d.0)) (first_clash (before ++ d ∷ []) ds)

abbrev pub given_fault : (List ℕ → Option Kind) → ℕ → Kind → Option (ℕ × List ℕ) → Option SourceError
given_fault kinds number k None = Some (fault.NotBare number)
given_fault kinds number k (Some w) = if fits k w.1 then clash_fault number k (kinds w.1) else Some (fault.ModuleName number)

abbrev pub name_fault : ℕ → List ℕ → Option SourceError
name_fault number name = if not (is_name name) then Some (fault.BadName number) else None

abbrev pub title_fault : Bool → ℕ → List ℕ → Option SourceError
title_fault started number title = if is_title title && not started then None else Some (fault.BadTitle number)

-- what is wrong with a line where names have these kinds
abbrev pub step_fault : (List ℕ → Option Kind) → Progress → ℕ → LineKind → Option SourceError
step_fault kinds s number CommentOrBlank = None
step_fault kinds s number Unknown = Some (fault.NotBare number)
step_fault kinds s number Untitled = or_else (waiting_fault s.waiting) (Some (fault.BadTitle number))
step_fault kinds s number ModuleEntry = or_else (waiting_fault s.waiting) (Some (fault.ModuleName number))
step_fault kinds s number (Title title) = or_else (waiting_fault s.waiting) (title_fault s.started number title)
step_fault kinds s number (Entry name) = or_else (waiting_fault s.waiting) (name_fault number name)
step_fault kinds s number (HasKind k) = given_fault kinds number k s.waiting

-- .. and where none is known yet, so that nothing clashes
abbrev pub no_kinds : List ℕ → Option Kind
no_kinds x = None
