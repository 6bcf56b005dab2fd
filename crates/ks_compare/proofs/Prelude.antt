-- What the proofs of this crate import: one name for each thing.
pub use Rattle.ks_symbols.proofs.Prelude.{AllByRecursion, Bool, Configuration, Equal, Greater, IsTrue, Less, List, None, Option, Ordering, Some, T, TakesFirst, [], and_parts, ap, append-nil, ap₂, arith, below_all, borrowed_entry, bytes_decides, bytes_eq, cases_Bool, class_again, cond, cons_option, eqb-true, false, false≢true, filter, filter_map, find, is_eq, is_eq-slice_cmp, is_in, is_lt, is_name, is_sorted, nat_list_cmp_total, not-false, option_map, refl, rules, subst, sym, true, ℕ, ◌++◌, ◌↔◌, ◌∙◌, ◌∷◌, ◌≡◌}
unfoldable pub use Rattle.ks_symbols.proofs.Prelude.{IsStrictlySortedBy}
pub use Rattle.ks_output.proofs.Prelude.{Texts, as_companion, borrowed_old_entry, eq-eqb, first, inl, inr, order, second}
pub use Rattle.ks_output.proofs.Definitions.{alike_is_defined_alike}
pub use Rattle.ks_output.proofs.Companions.{base_test, ends_so, joined, less-module}
pub use Rattle.ks_output.proofs.Entries.{AllEntries, all_entries, find_below, tied}
pub use Rattle.ks_output.proofs.Texts.{name_of_symbol, texts_are_of_entries}
pub use Rattle.ks_symbols.proofs.LastOnes.{is_less, two}
pub use Rattle.ks_symbols.specs.declared.kinds.Class.{Class}
pub use Rattle.ks_symbols.specs.declared.kinds.Kind.{Kind}
pub use Rattle.ks_compare.specs.Bases.{AreChangedEntries, AreLegal, AreNoted, AreWithBases, Noted, base_of, changed_companions, is_base_of}
pub use Rattle.ks_compare.specs.Changes.{AreChanges, companion_differs, compared, differ, entry_differs, same_class}
unfoldable pub use Rattle.ks_compare.specs.Changes.{differs}
unfoldable pub use Rattle.ks_output.proofs.Prelude.{about}
pub use Rattle.ks_compare.specs.Laws.{ChangesAreLegal, ChangesAreOne, ChangesExist, FirstChangesAreNames, NothingChanges, UnchangedIsDefinedAlike, UnchangedIsKept}
pub use Rattle.ks_compare.specs.Pass.{NewItem, OldItem, changed_name}
pub use Rattle.itertools.proofs.ListLemmas.{merge_join_by-nil}
pub use Rattle.itertools.specs.EitherOrBoth.{map_any}
pub use Rattle.itertools.specs.List.{by_ordering, merge_join_by}
pub use Rattle.itertools.specs.declared.either_or_both.EitherOrBoth.{EitherOrBoth}
pub use Rattle.itertools.specs.declared.either_or_both.EitherOrBoth.TheVariants.{Both, Left, Right}
pub use Rattle.std.proofs.lemmas.Bool.{or_left, or_from}
pub use Rattle.std.proofs.Common.{map-id}
pub use Rattle.std.proofs.iter.runs.Made.{seen, took}
pub use Rattle.std.proofs.lemmas.Map.Iter.{rest_so_far}
pub use Rattle.std.specs.Iterator.Runs.{Run}
pub use Rattle.std.proofs.lemmas.Grind.{common_steps}
pub use Rattle.std.proofs.lemmas.Iterator.Consumers.{YieldsList-from_rest}
pub use Rattle.std.proofs.lemmas.List.Elements.{filter_map-append}
