-- What stops a command once its lock is had.
use Rattle.std.specs.Prelude.{ℕ, Bool, true, false, List, Option, Result, Err}
use Rattle.std.proofs.Common.{rules}
use Rattle.ks_tree.specs.declared.tree.Tree.{Ghosts}
use Rattle.ks_requests.specs.declared.request.Request.{Request}
use Rattle.ks_cli.specs.declared.args.WordsError.{WordsError}
use Rattle.ks_session.specs.Lock.{Readings}
use Rattle.ks_session.specs.Start.{Calls, LooksIf, LooksLocked, Starts}
use Rattle.ks_session.specs.declared.global_options.Settings.{Settings}
use Rattle.ks_session.specs.declared.lock.FoundFile.{FoundFile}
use Rattle.ks_session.specs.declared.start.Stop.{Stop}
use Rattle.ks_session.specs.declared.start.Stop.TheVariants as stop

-- a look for numbers stops a command for these reasons
abbrev pub IsOfLooking : Stop → Type 0
IsOfLooking (stop.NoDirectory why) = ⊥
IsOfLooking stop.NoSeed = ⊥
IsOfLooking (stop.NoLock why) = ⊥
IsOfLooking (stop.Lost loss) = Unit {0}
IsOfLooking stop.OutOfMemory = Unit {0}

pub of_looking : {P L : Type 0} (tree : Ghosts P) (did : Calls P L) (reads : Readings P) (directory : List ℕ) (old new : P) (looks : Bool) (e : Stop) →
    LooksIf looks tree did reads directory old (Err e) new → IsOfLooking e
of_looking tree did reads directory old new true (stop.NoDirectory why) h = h.3
of_looking tree did reads directory old new true stop.NoSeed h = h.3
of_looking tree did reads directory old new true (stop.NoLock why) h = h.3
of_looking tree did reads directory old new true (stop.Lost loss) h = tt
of_looking tree did reads directory old new true stop.OutOfMemory h = tt
of_looking tree did reads directory old new false e h = search rules

pub stopped : {P L : Type 0} (tree : Ghosts P) (did : Calls P L) (reads : Readings P) (settings : Settings) (asked : Result Request WordsError)
    (script : Option FoundFile) (lock : Option L) (e : Stop) (work_tree : P) → LooksLocked tree did reads settings asked script lock (Err e) work_tree →
    IsOfLooking e → Starts tree did reads settings asked (Err e)
stopped tree did reads settings asked script lock (stop.Lost loss) work_tree locked is = (script, lock, work_tree, locked)
stopped tree did reads settings asked script lock stop.OutOfMemory work_tree locked is = tt
stopped tree did reads settings asked script lock (stop.NoDirectory why) work_tree locked is = absurd is
stopped tree did reads settings asked script lock stop.NoSeed work_tree locked is = absurd is
stopped tree did reads settings asked script lock (stop.NoLock why) work_tree locked is = absurd is
