-- What the proofs of this crate import: one name for each thing.
pub use Rattle.std.proofs.Common.{Bool, Bor, Err, IsTrue, List, None, Option, Result, Some, [], ap, append-nil, append_assoc, arith, drop, drop-cons, false, flat_map, get_or, inl, inr, length, length-drop, min, refl, subst, suc, sym, take, take_all, true, true≢false, ℕ, ◌++◌, ◌+◌, ◌-◌, ◌<◌, ◌∙◌, ◌∷◌, ◌≡◌, ◌≤◌, ◌⊎◌}
pub use Rattle.std.proofs.Math.Seq.{take-add}
pub use Rattle.std.proofs.lemmas.List.{take-append-drop, take_more, take_rest}
pub use Rattle.std.proofs.lemmas.List.Concat.{flat_map-append}
pub use Rattle.std.specs.Io.KnownBytes.{Appends, Keeps}
pub use Rattle.ks_streams.specs.declared.write_error.WriteError.{WriteError}
pub use Rattle.ks_streams.specs.Writers.{HasFailed, HasTaken, IsInterrupted, IsLeft, IsSeenOut, counted}
pub use Rattle.ks_streams.specs.Streams.{Breaks, IsCause, IsAborted, IsPart, Prints, PrintsOrBreaks, State, Takes, state_of, tries}
