-- Laws of the definitions: the arguments of a preview and of a script that begin with no hyphen.
use Rattle.std.specs.Prelude.{◌≡◌, List, [], ◌∷◌, None, codes, true}
use Rattle.clap.specs.Words.{Text, takes}
use Rattle.ks_engine.specs.declared.planning.ConfigForm.TheVariants.{Kconfig}
use Rattle.ks_requests.specs.Requests.{IsBatchOf, IsPreviewOf}
use Rattle.ks_requests.specs.declared.request.Request.{Request}
use Rattle.ks_cli.specs.CommandLine.{command_line_app}
use Rattle.ks_cli.specs.Meaning.{Makes}
use Rattle.ks_cli.specs.Args.{IsPlainArg}

-- `clap` accepts the arguments, and each request that they make is of this kind.
pub record AreArgsOf (args : List Text) (Is : Request → Type 0) : Type 0 where
  pub taken : takes command_line_app args ≡ true
  pub made : (request : Request) → Makes args request → Is request

abbrev pub PreviewArgs : Type 0
PreviewArgs = (k d : Text) → IsPlainArg k → IsPlainArg d → AreArgsOf (codes "preview" ∷ k ∷ d ∷ []) (IsPreviewOf Kconfig k d None)

abbrev pub BatchArgs : Type 0
BatchArgs = (p : Text) → IsPlainArg p → AreArgsOf (codes "batch" ∷ p ∷ []) (IsBatchOf p)
