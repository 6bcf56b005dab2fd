use Rattle.ks_engine.proofs.Prelude.{[], ◌∷◌, ◌++◌, ◌∙◌, ap, refl, names_in_as}
use Rattle.ks_engine.proofs.Keeping.{grows_none, cache_grown}
use Rattle.ks_engine.proofs.Scanning.{picked_last}
use Rattle.ks_engine.proofs.caches.Cache.scan_command.Goals as goal

pub returns-in_err-feed_as-clause-cache : goal.returns-in_err-feed_as-clause-cache
returns-in_err-feed_as-clause-cache c = λ files is.
    cache_grown files c.args.self.now _ refl refl refl refl (grows_none _ _ (c.feed_as.ensures.found ∙ c.begin_source.ensures.found)) is

pub returns-in_err-end_source_as-clause-cache : goal.returns-in_err-end_source_as-clause-cache
returns-in_err-end_source_as-clause-cache c = λ files is.
    cache_grown files c.args.self.now _ refl refl refl refl
    (grows_none _ _ (c.in_err-end_source_as.ensures.err ∙ c.feed_as.ensures.found ∙ c.begin_source.ensures.found)) is

pub returns-in_err-push-clause-cache : goal.returns-in_err-push-clause-cache
returns-in_err-push-clause-cache c = λ files is. cache_grown files c.args.self.now _ refl refl refl refl (
  names_in_as c.args.self.now.rules c.args.command.now ∷ [],
  c.in_ok-end_source_as.ensures.found c.args.command.now (c.in_ok-feed_as.ensures.stands [] (c.begin_source.ensures.under_rules c.args.self.now.rules))
      ∙ ap (λ f. f ++ names_in_as c.args.self.now.rules c.args.command.now ∷ []) (c.in_ok-feed_as.ensures.found ∙ c.begin_source.ensures.found),
) is

pub returns-clause-cache : goal.returns-clause-cache
returns-clause-cache c = λ files is. cache_grown files c.args.self.now _ refl refl refl refl (
  names_in_as c.args.self.now.rules c.args.command.now ∷ [],
  c.in_ok-end_source_as.ensures.found c.args.command.now (c.in_ok-feed_as.ensures.stands [] (c.begin_source.ensures.under_rules c.args.self.now.rules))
      ∙ ap (λ f. f ++ names_in_as c.args.self.now.rules c.args.command.now ∷ []) (c.in_ok-feed_as.ensures.found ∙ c.begin_source.ensures.found),
) is

pub returns-clause-names : goal.returns-clause-names
returns-clause-names c = λ placed.
    let fed = c.in_ok-feed_as.ensures.stands [] (c.begin_source.ensures.under_rules c.args.self.now.rules) in
    let names = names_in_as c.args.self.now.rules c.args.command.now in
    let kept = c.in_ok-feed_as.ensures.found ∙ c.begin_source.ensures.found in
    picked_last _ _ _ _ names c.len-place.result (c.in_ok-end_source_as.ensures.found c.args.command.now fed ∙ ap (λ f. f ++ names ∷ []) kept) c.len-place.ensures placed
    c.in_ok-push.ensures.items
