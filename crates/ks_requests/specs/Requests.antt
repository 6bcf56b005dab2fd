-- What is asked of the program, without where its arguments lie.
use Rattle.std.specs.Prelude.{◌≡◌, ℕ, List, Option, option_map, string_bytes, ⊤}
use Rattle.ks_engine.specs.declared.planning.ConfigForm.{ConfigForm}
use Rattle.ks_requests.specs.declared.request.Request.{Request}
use Rattle.ks_requests.specs.declared.request.Request.TheVariants.{Backdate, Batch, Cost, Depfile, Diff, Fixdep, Impact, Outdated, Preview, Record, Stale, Status, Sync, Users, Why}
use Rattle.ks_requests.specs.declared.report_style.ReportStyle.TheVariants.{LinesAndStatus, Status as StatusAlone}

-- the request is a preview of these two files of this form, over this old auto.conf if there is one
abbrev pub IsPreviewOf : ConfigForm → List ℕ → List ℕ → Option (List ℕ) → Request → Type 0
IsPreviewOf form first second old (Preview c o) =
    (c.form ≡ form) × (string_bytes c.first ≡ first) × (string_bytes c.second ≡ second) × (option_map (λ path. string_bytes path) o ≡ old)
IsPreviewOf form first second old _ = ⊥

-- the request is a run of the script at this path
abbrev pub IsBatchOf : List ℕ → Request → Type 0
IsBatchOf path (Batch p) = string_bytes p ≡ path
IsBatchOf path _ = ⊥

-- a request that is done or refused as a whole: its status is not to say that an object is stale, nor that something differs
abbrev pub IsNoQuery : Request → Type 0
IsNoQuery (Stale targets format) = ⊥
IsNoQuery (Why targets format) = ⊥
IsNoQuery (Impact config targets format) = ⊥
IsNoQuery (Backdate which targets) = ⊥
IsNoQuery (Outdated target command) = ⊥
IsNoQuery (Batch script) = ⊥
IsNoQuery (Diff config LinesAndStatus) = ⊥
IsNoQuery (Diff config StatusAlone) = ⊥
IsNoQuery (Status config) = ⊥
IsNoQuery (Users symbols targets) = ⊥
IsNoQuery (Cost top targets) = ⊥
IsNoQuery _ = ⊤

-- a request of one step: it neither answers object by object nor runs a script
abbrev pub IsOneStep : Request → Type 0
IsOneStep (Sync config stamps) = ⊤
IsOneStep (Preview config old) = ⊤
IsOneStep (Diff config report_style) = ⊤
IsOneStep (Status config) = ⊤
IsOneStep (Fixdep depfile target command) = ⊤
IsOneStep (Record depfile target command after options) = ⊤
IsOneStep (Depfile header strict elsewhere depfile target command) = ⊤
IsOneStep _ = ⊥
