-- What the proofs of this crate import: one name for each thing.
pub use Rattle.ks_symbols.proofs.Prelude.{AllByRecursion, BTreeMap, Bool, Consumes, IsTrue, Keeps, Less, List, None, OnErr, Option, Ordering, Result, Some, T, UpdatesBy, Vec, [], and_parts, ap, append_assoc, append_cancel_left, append_cancel_right, arith, below_all, bytes_decides, bytes_eq, bytes_eq-Decides, cases_Bool, cases_eq, codes, common_steps, cond, cond-false, cond-true, decimal_injective, drop, drop_all, entries, entries-from_sorted, eq_by_cmp_equiv, false, false_from_ne_true, find, from_sorted, get, get-from_entries, get-from_sorted, get_or, is_eq, is_eq-slice_cmp, is_sorted, is_word_byte, keys_of, length, length-append, length-decimal-le, list_all, list_any, lookup, ltb-true, map, min, nat_cmp-IsAntisymmetric, nat_eq, nat_list_cmp_total, ne_eqb, option_map, or_right, prepend_known, put_mid, refl, rules, same_map, slice_cmp, slice_cmp-IsAntisymmetric, subst, sym, take, take-append-drop, take-append-le, take-put_mid, take_all, take_at, true, ℕ, ◌++◌, ◌+◌, ◌-◌, ◌<◌, ◌∙◌, ◌∷◌, ◌≡◌, ◌≢◌, ◌≤◌}
unfoldable pub use Rattle.ks_symbols.proofs.Prelude.{IsStrictlySortedBy, KeepsOthers, header_path, is_name}
pub use Rattle.std.proofs.Common.{IfSome, nat_cmp, ⊎_elim}
pub use Rattle.std.proofs.lemmas.List.{length-take-le, take-take}
pub use Rattle.ks_symbols.proofs.Digits.{reads_back, reads_only_written}
pub use Rattle.ks_tree.specs.Files.{Files, HasRisen, IsMoved, IsPieceRead, IsTooLarge, SameBut, SameButBoth, content, kept_or}
pub use Rattle.ks_tree.specs.Memory.{files_of, named}
pub use Rattle.ks_tree.specs.Paths.{AutoConf, AutoTemporary, CommandFile, CommandTemporary, Header, HeaderTemporary, IsLegalPlace, PathsNeverMeet, Place, Stamp, StampTemporary, dotted, has_slash, path_of, temporary}
unfoldable pub use Rattle.ks_tree.specs.Paths.{auto_path, auto_temporary, command_path, command_temporary, header_temporary, stamp_path, stamp_temporary}
pub use Rattle.ks_tree.specs.Stamps.{HasNumber, IsStampRefusal, MakesStamps, Touches, left_over, stamp_text}
pub use Rattle.ks_tree.specs.Frames.{Reads}
pub use Rattle.std.proofs.lemmas.List.Folds.{list_any-append}
