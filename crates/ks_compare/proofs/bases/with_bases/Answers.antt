use Rattle.ks_compare.proofs.Prelude.{rules, ◌≡◌, ℕ, List, AreNoted, AreWithBases, Noted, subst, sym}
use Rattle.std.proofs.Common.{map as map_list}
use Rattle.std.proofs.lemmas.Result.{IfOk-weaker}
use Rattle.std.specs.FinMap as map
use Rattle.ks_compare.proofs.BaseLemmas.{none_legal, with_bases_by}
use Rattle.ks_compare.proofs.bases.with_bases.Goals as goal

pub note_names-requires : goal.note_names-requires
note_names-requires c = none_legal _ c.new-draft.ensures

pub returns : goal.returns
returns c =
    let named = c.in_ok-note_names.ensures.noted in
    let based = c.in_ok-note_bases.ensures.noted in
    let by : (table : Noted) (all : List (List ℕ)) → table ≡ c.note_bases.new.draft → all ≡ map_list (λ e. e.0) (map.entries table)
    → AreWithBases c.args.names.now c.args.companions.now all
    = λ table all is listed. with_bases_by _ _ all _ _ table c.new-draft.ensures named (subst (AreNoted _ _) (sym is) based) listed in
    IfOk-weaker c.names_of.result _ _ (λ all listed. by _ _ (search rules) listed) c.names_of.ensures
