-- The command line, rule by rule.
use Rattle.ks_cli.proofs.Prelude.{◌≡◌, ◌∙◌, ◌<◌, ◌+◌, ℕ, List, ap, ap₂, false, fold, map, take, get_or, length, map_more, fold-append, AddsSubcommand, App, app_of, with_subcommand, bare_app, with_all, Command, out-Command, arith, common_steps}

-- the items below the next place, where a loop that folds them stands at i
pub fold_more : {A B X : Type 0} (f : B → A → B) (g : X → A) (a : B) (xs : List X) (i : ℕ) (d : X) → i < length xs
    → fold f a (map g (take (i + 1) xs)) ≡ f (fold f a (map g (take i xs))) (g (get_or xs i d))
fold_more f g a xs i d lt = grind (arith, common_steps, map_more, fold-append)

-- a subcommand is added
pub added : (old sub new : Command) (a b : App) → AddsSubcommand old sub new → (out-Command sub).has_globals ≡ false → app_of old ≡ a → app_of sub ≡ b
    → app_of new ≡ with_subcommand a b.top
added old sub new a b h local e f = h.shape local ∙ ap₂ with_subcommand e (ap (λ (x : App). x.top) f)

-- the commands of two tables, one after the other
pub both_tables : (bare writing all : App) (ws vs : List App) → bare ≡ bare_app → writing ≡ with_all bare ws → all ≡ with_all writing vs
    → all ≡ with_all (with_all bare_app ws) vs
both_tables bare writing all ws vs e f g = g ∙ ap (λ a. with_all a vs) (f ∙ ap (λ a. with_all a ws) e)
