-- `preview` and `sync` come to one plan: what a preview over the auto.conf of a tree prints is what a synchronisation of the same texts would leave.
use Rattle.std.specs.Prelude.{◌≡◌, ◌≢◌, ◌++◌, List, ℕ, Some, option_map, is_some, Result, Err, is_err}
use Rattle.ks_engine.specs.Sources.{Source}
use Rattle.ks_tree.specs.Files.{Files, content}
use Rattle.ks_tree.specs.Paths.{auto_path}
use Rattle.ks_engine.specs.SyncPlan.{Plan, IsSyncPlan}
use Rattle.ks_engine.specs.Synchronised.{IsSynced}
use Rattle.ks_engine.specs.declared.error.EngineError.{EngineError}
use Rattle.ks_engine.specs.declared.error.EngineError.TheVariants.{TooLarge}
use Rattle.ks_engine.specs.declared.synchronise.Report.{Report}
use Rattle.ks_requests.specs.Preview.{IsPreview, preview_refusal, touch_lines}

-- It prints a line for each name whose stamp the synchronisation renews, and then the auto.conf that it leaves.
abbrev pub PreviewsReportSyncs : Type 0
PreviewsReportSyncs =
    (old new : Files) (source : Source) (text : List ℕ) (report : Report)
    → IsPreview source (content old auto_path) text → IsSynced old new source report
    → option_map (λ auto. touch_lines report.touched.items ++ auto) (content new auto_path) ≡ Some text

-- It is refused exactly where the synchronisation would be, but that one is refused for the length of an auto.conf too.
abbrev pub PreviewsAreRefusedAsSyncs : Type 0
PreviewsAreRefusedAsSyncs =
    (files : Files) (source : Source) (result : Result Plan EngineError)
    → IsSyncPlan files source result → result ≢ Err TooLarge
    → is_some (preview_refusal source (content files auto_path)) ≡ is_err result
