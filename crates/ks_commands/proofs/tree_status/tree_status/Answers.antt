use Rattle.ks_commands.proofs.Prelude.{◌≡◌, ◌⊎◌, inl, inr, Ok, err_from_is_err_and}
use Rattle.ks_symbols.specs.Names.{header_path}
use Rattle.ks_tree.specs.Files.{Files, IsTooLarge, content}
use Rattle.ks_tree.specs.Paths.{auto_path}
use Rattle.ks_engine.specs.declared.error.EngineError.{EngineError}
use Rattle.ks_engine.specs.declared.error.EngineError.TheVariants.{TooLarge}
use Rattle.ks_engine.specs.LastSync.{OldAuto, old_auto}
use Rattle.ks_engine.specs.Refusals.{IsAborted}
use Rattle.ks_engine.specs.Views.{old_of}
use Rattle.ks_commands.specs.TreeStatus.{IsStatusRefused}
use Rattle.ks_commands.proofs.tree_status.tree_status.Goals as goal

pub returns-clause-found : goal.returns-clause-found
returns-clause-found g c = λ honest.
    record {
      auto = old_of c.in_ok-old.old;
      there = c.in_ok-old.ensures.read honest;
      generation = c.generation.ensures;
      header = rw (← c.in_ok-old.ensures.reads.unchanged honest) (c.in_ok-header.ensures.found honest);
      changed = c.in_ok-changed.ensures;
    }

too_large : (files : Files) (auto : OldAuto) (e : EngineError) → old_auto (content files auto_path) ≡ Ok auto
    → IsAborted e ⊎ (IsTooLarge (content files header_path) × (e ≡ TooLarge)) → IsAborted e ⊎ IsStatusRefused files e
too_large files auto e read (inl aborted) = inl aborted
too_large files auto e read (inr large) = inr (inr (auto, read, large.0, large.1))

pub returns-in_err-header-clause-refused : goal.returns-in_err-header-clause-refused
returns-in_err-header-clause-refused g c = λ honest.
    let p = err_from_is_err_and c.from_residual-in_err-header.result c.from_residual-in_err-header.ensures.1 in
    rw (p.1, p.2) (too_large (g.T.Tree.files c.args.tree.now) (old_of c.in_ok-old.old) c.in_err-header.field-0.0
    (c.in_ok-old.ensures.read honest)
    (rw (← c.in_ok-old.ensures.reads.unchanged honest) (c.in_err-header.ensures.refused honest)))
