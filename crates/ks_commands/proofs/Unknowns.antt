-- Names that no Kconfig declares, and what is printed of them.
use Rattle.ks_commands.proofs.Prelude.{◌≡◌, ◌∙◌, ◌+◌, ◌++◌, ℕ, List, [], ◌∷◌, Option, Some, None, cond, flat_map, refl, sym, ap, ap₂, arith, Kind, is_of_unknown, unknown_count, declared, lines, Statement, statement, unknown-cons, unknown_in, unknown_line, unknown_lines, unknown_names, IsUnknown, ReportStyle, lines_asked, KconfigText, rules}
use Rattle.ks_commands.proofs.Prelude.{inl, inr, option_map, IsRefusal, SourceError, of_source}
use Rattle.ks_symbols.specs.declared.error.SourceError.TheVariants as source
use Rattle.ks_engine.specs.declared.error.EngineError.TheVariants.{OutOfMemory}
use Rattle.ks_requests.specs.declared.status.Count.{Count}
use Rattle.ks_requests.specs.declared.report_style.ReportStyle.TheVariants.{Status}

none_in : (kinds : List ℕ → Option Kind) (printed : Option Statement) → ◌≡◌ {A = ℕ} (cond (is_of_unknown kinds printed) 1 0) 0 → unknown_in kinds printed ≡ []
none_in kinds None none = refl
none_in kinds (Some printed) none = search rules

none_unknown : (kinds : List ℕ → Option Kind) (ls : List (List ℕ)) → unknown_count kinds ls ≡ 0 → unknown_names kinds ls ≡ []
none_unknown kinds [] none = refl
none_unknown kinds (l ∷ ls) none =
    let counted : cond (is_of_unknown kinds (statement l)) 1 0 + unknown_count kinds ls ≡ 0 = sym (unknown-cons kinds l ls) ∙ none in
    ap₂ (λ (xs ys : List (List ℕ)). xs ++ ys) (none_in kinds (statement l) (omega (arith, counted))) (none_unknown kinds ls (omega (arith, counted)))

-- where none is counted there are no lines
pub no_lines : (report_style : ReportStyle) (kinds : List ℕ → Option Kind) (ls : List (List ℕ)) → unknown_count kinds ls ≡ 0
    → lines_asked report_style (flat_map unknown_line (unknown_names kinds ls)) ≡ []
no_lines Status kinds ls none = refl
no_lines report_style kinds ls none = ap (flat_map unknown_line) (none_unknown kinds ls none)

-- what is not declared by a Kconfig is what is none of its symbols
pub reported_unknown : (report_style : ReportStyle) (kconfig : KconfigText) (dotconfig : List ℕ) (kinds : List ℕ → Option Kind) (count : Option Count)
    → ((x : List ℕ) → kinds x ≡ declared kconfig x) → IsUnknown (lines_asked report_style (flat_map unknown_line (unknown_names kinds (lines dotconfig)))) count
    → IsUnknown (lines_asked report_style (unknown_lines kconfig dotconfig)) count
unfolding unknown_lines
reported_unknown report_style kconfig dotconfig kinds count same reported =
    let kinds_same : kinds ≡ declared kconfig = λ i x. same x i in
    rw kinds_same at reported

-- so many lines are counted of both
pub counted_unknown : (kconfig : KconfigText) (dotconfig : List ℕ) (kinds : List ℕ → Option Kind) (n : ℕ) → ((x : List ℕ) → kinds x ≡ declared kconfig x)
    → n ≡ unknown_count (declared kconfig) (lines dotconfig) → n ≡ unknown_count kinds (lines dotconfig)
counted_unknown kconfig dotconfig kinds n same counted =
    let kinds_same : kinds ≡ declared kconfig = λ i x. same x i in
    rw kinds_same counted

-- a refusal of the texts, as the engine has it
pub engine_refused : (e : SourceError) (r : Option SourceError) → IsRefusal source.OutOfMemory e r → IsRefusal OutOfMemory (of_source e) (option_map of_source r)
engine_refused e r (inl memory) = inl (ap of_source memory)
engine_refused e r (inr is) = inr (ap (option_map of_source) is)
