-- Laws of what a tree is: what synchronisations leave, and what they would do.
use Rattle.std.specs.Prelude.{◌≡◌, ℕ, List, [], Ok, Option, Some, true}
use Rattle.ks_symbols.specs.declared.dialect.Dialect.{Dialect}
use Rattle.ks_compare.specs.Changes.{AreChanges}
use Rattle.ks_tree.specs.Files.{Files}
use Rattle.ks_engine.specs.declared.synchronise.Report.{Report}
use Rattle.ks_engine.specs.Sources.{Source}
use Rattle.ks_engine.specs.SyncPlan.{AreInputs, ConfigInputs, IsSyncPlan, Plan}
use Rattle.ks_engine.specs.Synchronised.{IsSynced}
use Rattle.ks_commands.specs.declared.tree_status.TreeStatus.{TreeStatus}
use Rattle.ks_commands.specs.declared.tree_status.HeaderState.TheVariants.{Same}
use Rattle.ks_commands.specs.TreeStatus.{IsTreeStatus, is_same, unchanged}

-- A tree that was just synchronised has the generation that was reported and the header of it, whatever it is beside; ..
pub record IsOf (report : Report) (s : TreeStatus) : Type 0 where
  pub generation : s.generation ≡ report.generation
  pub header : s.header ≡ Same

abbrev pub SynchronisedTreesAreWhole : Type 0
SynchronisedTreesAreWhole = (dialect : Dialect) (old new : Files) (source : Source) (report : Report) (beside : Option ConfigInputs) (s : TreeStatus)
    → IsSynced old new source report → IsTreeStatus new dialect beside s → IsOf report s

-- .. and beside what it was synchronised with nothing is changed.
abbrev pub SynchronisedTreesAreSame : Type 0
SynchronisedTreesAreSame = (dialect : Dialect) (old new : Files) (source : Source) (report : Report) (inputs : ConfigInputs) (s : TreeStatus)
    → IsSynced old new source report → AreInputs source inputs → IsTreeStatus new dialect (Some inputs) s → unchanged s.changed ≡ true

-- Where all is the same beside a configuration, a synchronisation of it renews no stamp.
abbrev pub SameTreesTouchNothing : Type 0
SameTreesTouchNothing = (dialect : Dialect) (files : Files) (source : Source) (inputs : ConfigInputs) (s : TreeStatus) (plan : Plan) (names : List (List ℕ))
    → AreInputs source inputs → IsTreeStatus files dialect (Some inputs) s → is_same s ≡ true
    → IsSyncPlan files source (Ok plan) → AreChanges plan.old plan.config names → names ≡ []
