-- What the command line makes of arguments that begin with no hyphen.
use Rattle.ks_cli.proofs.Prelude.{◌≡◌, ◌≢◌, ◌==◌, inl, inr, ap, sym, subst, ◌∙◌, ℕ, List, [], ◌∷◌, Option, Some, None, refl, codes, true, false, slice_index, option_map, arith, true≢false, nat_tests, Error, HasKind, IsAmong, kind_of, Row, Text, first_of, first_value, is_simple, is_simple_and_free, rows_of, subcommand_name_of, subcommand_of, subcommand_rows_of, takes, is_some, same_Some, IsBatchOf, IsPreviewOf, Request, WordsError, IfErr, IfOk, IsPageNamed, IsPageReported, IsReason, IsRequestOf, IsTakenAs, HasText, IsReported, Makes, Ok, Err, Result, fault_of, is_no_memory, ArgMatches, CommandLine, reading_of, strip_byte, bytes_eq, Found, first_value-rows, clap_on_literals, command_line_app, rules}
use Rattle.clap.specs.declared.error.kind.ErrorKind.{ErrorKind}
use Rattle.clap.specs.declared.error.kind.ErrorKind.TheVariants.{OutOfMemory as NoMemory}
use Rattle.std.specs.Prelude.{IsSomeAnd}
use Rattle.ks_errors.specs.Errors.{Texts}
unfoldable use Rattle.ks_errors.specs.Errors.{page}
use Rattle.ks_cli.specs.Args.{IsPlainArg, asks_both, is_visible, arg_at}
use Rattle.ks_cli.specs.Meaning.{IsBothReported}
use Rattle.clap.specs.declared.parser.matches.ValueSource.TheVariants.{DefaultValue}
use Rattle.ks_engine.specs.declared.planning.ConfigForm.TheVariants.{Kconfig}
use Rattle.ks_requests.specs.declared.request.Request.TheVariants as request
use Rattle.ks_cli.specs.declared.args.WordsError.TheVariants as args
use Rattle.clap.specs.declared.builder.value_parser.ValueParser.TheVariants as vp

pub is_free_line : is_simple_and_free command_line_app ≡ true
unfolding clap_on_literals
is_free_line = refl

pub is_simple_line : is_simple command_line_app ≡ true
unfolding clap_on_literals
is_simple_line = refl

-- the row of a word that was given once
abbrev pub given : Text → Text → Row
given id arg = record {
  id = id;
  values = arg ∷ [];
  count = None;
  source = Some CommandLine;
  reading = reading_of vp.String;
}

-- .. and of an option that was not
abbrev pub not_given : Text → Row
not_given id = record {
  id = id;
  values = codes "false" ∷ [];
  count = None;
  source = Some DefaultValue;
  reading = reading_of vp.Bool;
}

-- the first byte is no hyphen
not_hyphen : (x : ℕ) → x ≢ 45 → (x == 45) ≡ false
not_hyphen x differs = grind (arith, nat_tests)

pub no_hyphen : (arg : Text) → slice_index arg 0 ≢ 45 → strip_byte 45 arg ≡ None
no_hyphen [] plain = refl
no_hyphen (x ∷ xs) plain = rw (not_hyphen x plain) refl

pub no_escape : (arg : Text) → slice_index arg 0 ≢ 45 → bytes_eq arg (45 ∷ 45 ∷ []) ≡ false
no_escape [] plain = refl
no_escape (x ∷ xs) plain = rw (not_hyphen x plain) refl

pub batch_rows : (p : Text) → slice_index p 0 ≢ 45
    → subcommand_of command_line_app (codes "batch" ∷ p ∷ []) ≡ Some (codes "batch", given (codes "SCRIPT") p ∷ [])
unfolding clap_on_literals
batch_rows p f = simp (no_escape p f, no_hyphen p f) refl

pub batch_takes : (p : Text) → slice_index p 0 ≢ 45 → takes command_line_app (codes "batch" ∷ p ∷ []) ≡ true
unfolding clap_on_literals
batch_takes p f = simp (no_escape p f, no_hyphen p f) refl

pub preview_rows : (k d : Text) → slice_index k 0 ≢ 45 → slice_index d 0 ≢ 45
    → subcommand_of command_line_app (codes "preview" ∷ k ∷ d ∷ []) ≡ Some (codes "preview", given (codes "KCONFIG") k ∷ given (codes "DOTCONFIG") d ∷ not_given (codes "written") ∷ [])
unfolding clap_on_literals
preview_rows k d f g = simp (no_escape k f, no_hyphen k f, no_escape d g, no_hyphen d g) refl

pub preview_takes : (k d : Text) → slice_index k 0 ≢ 45 → slice_index d 0 ≢ 45 → takes command_line_app (codes "preview" ∷ k ∷ d ∷ []) ≡ true
unfolding clap_on_literals
preview_takes k d f g = simp (no_escape k f, no_hyphen k f, no_escape d g, no_hyphen d g) refl

-- what is found for a name, by its row
pub first_at : (f : Found) (name : Text) → first_value f name ≡ first_of name (rows_of f)
first_at f name = first_value-rows f name

-- the name of the subcommand that was entered, by its rows
pub entered_name : (m : ArgMatches) → subcommand_name_of m ≡ option_map (λ p. p.0) (subcommand_rows_of m)
entered_name m = search rules

-- what holds of the name and the rows of a subcommand holds of the two together
pub both : (o : Option (Text × List Row)) (name : Text) (rows : List Row) (P : Text → List Row → Type 0)
    → Some name ≡ option_map (λ p. p.0) o → Some rows ≡ option_map (λ p. p.1) o → P name rows → IsSomeAnd o (λ p. P p.0 p.1)
both None name rows P e f h = absurd (true≢false (ap is_some e))
both (Some p) name rows P e f h = subst (λ n. P n p.1) (same_Some _ _ e) (subst (P name) (same_Some _ _ f) h)

-- the request of a command is no other command's: their names begin with other letters, and `stale` is the rest
pub preview_of : (k d : Text) (r : Request) → IsRequestOf (codes "preview") (given (codes "KCONFIG") k ∷ given (codes "DOTCONFIG") d ∷ not_given (codes "written") ∷ []) r
    → IsPreviewOf Kconfig k d None r
preview_of k d (request.Preview c o) h = (h.1.0, h.1.1, h.1.2, h.2)
preview_of k d (request.Stale ts f) h = absurd (h.0 1 [] (omega arith) refl)
preview_of k d (request.Backdate which ts) h = elim h.0 [
  | inl e ↦ absurd (true≢false (ap (λ t. slice_index t 0 == 112) e))
  | inr e ↦ absurd (true≢false (ap (λ t. slice_index t 0 == 112) e))
]
preview_of k d r h = absurd (true≢false (ap (λ t. slice_index t 0 == 112) h.0))

pub batch_of : (p : Text) (r : Request) → IsRequestOf (codes "batch") (given (codes "SCRIPT") p ∷ []) r → IsBatchOf p r
batch_of p (request.Batch s) h = h.1
batch_of p (request.Stale ts f) h = absurd (h.0 6 [] (omega arith) refl)
batch_of p (request.Backdate which ts) h = elim h.0 [
  | inl e ↦ absurd (true≢false (ap (λ t. slice_index t 2 == 116) e))
  | inr e ↦ absurd (true≢false (ap (λ t. slice_index t 0 == 98) e))
]
batch_of p r h = absurd (true≢false (ap (λ t. slice_index t 0 == 98) h.0))

-- an error that is reported is of a kind of its arguments
pub fault_reported : (e : Error) (asked : List Text) (reported : WordsError) → HasKind (fault_of command_line_app asked) e → IsReported e reported
    → IsReason asked reported
fault_reported e asked (args.Refused help) (inl memory) h = absurd (true≢false (sym (ap is_no_memory memory) ∙ h.1))
fault_reported e asked (args.Refused help) (inr among) h = inl (subst (λ (k : ErrorKind). IsAmong k (fault_of command_line_app asked)) (sym h.0) among)
fault_reported e asked args.OutOfMemory has h = tt

pub memory_reported : (e : Error) (asked : List Text) (reported : WordsError) → kind_of e ≡ NoMemory → IsReported e reported → IsTakenAs asked reported
memory_reported e asked (args.Refused help) memory h = absurd (true≢false (sym (ap is_no_memory memory) ∙ h.1))
memory_reported e asked args.OutOfMemory memory h = tt

-- .. and has something to see in it
pub visibly_reported : (e : Error) (reported : WordsError) → IsReported e reported → HasText reported
visibly_reported e (args.Refused help) h = h.2
visibly_reported e args.OutOfMemory h = tt

-- the page of an error has something to see in it
pub page_visible : (error : Texts) → is_visible (page error) ≡ true
unfolding page
page_visible error = refl

-- the page that is printed for its argument is that of the command
pub page_named : (name : Text) (rows : List Row) (reported : WordsError) → name ≡ codes "explain" → IsPageReported (arg_at (codes "NUMBER") rows) reported
    → IsPageNamed name rows reported
page_named name rows (args.Refused help) is h = inl (is, h.0)
page_named name rows args.OutOfMemory is h = tt

-- .. and so is what is said of two options
pub both_named : (name : Text) (rows : List Row) (reported : WordsError) → name ≡ codes "sync" → asks_both rows ≡ true → IsBothReported reported
    → IsPageNamed name rows reported
both_named name rows (args.Refused help) is both h = inr (is, both, h.0, h.1)
both_named name rows args.OutOfMemory is both h = tt

pub both_report_style : (reported : WordsError) → IsBothReported reported → HasText reported
both_report_style (args.Refused help) h = h.2
both_report_style args.OutOfMemory h = tt

pub page_report_style : (arg : Text) (reported : WordsError) → IsPageReported arg reported → HasText reported
page_report_style arg (args.Refused help) h = h.1
page_report_style arg args.OutOfMemory h = tt

-- what holds of the command that was entered holds of the one that the arguments name
pub made_by : (o : Option (Text × List Row)) (name : Text) (rows : List Row) (r : Result Request WordsError)
    → Some name ≡ option_map (λ p. p.0) o → Some rows ≡ option_map (λ p. p.1) o → IfOk r (IsRequestOf name rows)
    → IfOk r (λ q. IsSomeAnd o (λ p. IsRequestOf p.0 p.1 q))
made_by o name rows (Ok q) e f h = both o name rows (λ n ws. IsRequestOf n ws q) e f h
made_by o name rows (Err reported) e f h = tt

pub paged_by : (o : Option (Text × List Row)) (name : Text) (rows : List Row) (r : Result Request WordsError)
    → Some name ≡ option_map (λ p. p.0) o → Some rows ≡ option_map (λ p. p.1) o → IfErr r (IsPageNamed name rows)
    → IfErr r (λ reported. IsSomeAnd o (λ p. IsPageNamed p.0 p.1 reported))
paged_by o name rows (Ok q) e f h = tt
paged_by o name rows (Err reported) e f h = both o name rows (λ n ws. IsPageNamed n ws reported) e f h

-- .. so arguments that are accepted make no request for its page alone
pub page_taken : (asked : List Text) (r : Result Request WordsError)
    → IfErr r (λ reported. IsSomeAnd (subcommand_of command_line_app asked) (λ p. IsPageNamed p.0 p.1 reported))
    → IfErr r (λ reported. takes command_line_app asked ≡ true → IsTakenAs asked reported)
page_taken asked (Ok q) h = tt
page_taken asked (Err (args.Refused help)) h = λ _. h
page_taken asked (Err args.OutOfMemory) h = λ _. tt

pub page_reason : (asked : List Text) (r : Result Request WordsError)
    → IfErr r (λ reported. IsSomeAnd (subcommand_of command_line_app asked) (λ p. IsPageNamed p.0 p.1 reported)) → IfErr r (IsReason asked)
page_reason asked (Ok q) h = tt
page_reason asked (Err (args.Refused help)) h = inr h
page_reason asked (Err args.OutOfMemory) h = tt

pub batch_made : (asked : List Text) (r : Result Request WordsError) → IfOk r (λ q. Makes asked q)
    → IfOk r (λ q. (p : List ℕ) → asked ≡ codes "batch" ∷ p ∷ [] → IsPlainArg p → IsBatchOf p q)
batch_made asked (Ok q) made = λ p are plain. batch_of p q (subst (λ o. IsSomeAnd o (λ c. IsRequestOf c.0 c.1 q))
    (ap (subcommand_of command_line_app) are ∙ batch_rows p plain) made)
batch_made asked (Err reported) made = tt

pub preview_made : (asked : List Text) (r : Result Request WordsError) → IfOk r (λ q. Makes asked q)
    → IfOk r (λ q. (k d : List ℕ) → asked ≡ codes "preview" ∷ k ∷ d ∷ [] → IsPlainArg k → IsPlainArg d → IsPreviewOf Kconfig k d None q)
preview_made asked (Ok q) made = λ k d are first second. preview_of k d q (subst (λ o. IsSomeAnd o (λ c. IsRequestOf c.0 c.1 q))
    (ap (subcommand_of command_line_app) are ∙ preview_rows k d first second) made)
preview_made asked (Err reported) made = tt
