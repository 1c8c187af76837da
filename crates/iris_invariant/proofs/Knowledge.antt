-- The laws of what an agreeing core knows.
use Rattle.std.proofs.Common.{inl, inr}
use Rattle.iris_history.specs.Kept.{Kept}
use Rattle.iris_history.specs.Legal.{Rules}
use Rattle.iris_invariant.specs.Knowledge as l
use Rattle.iris_invariant.proofs.Begins.{resident_live, unmarked_clean, marked_dirty, marked_doomed, unmarked_not_dirty}
use Rattle.iris_invariant.proofs.Facts.{none_dirty, crowded_blocks, crowded_nodes, fetch_now, need_new}

module _ (k : Kept) (r : Rules) where
  pub marks_tell : l.MarksTell k r
  marks_tell opened past v h n = record {
    live = resident_live k n past _ _ (h.marks n);
    clean = unmarked_clean k n past _ _ (h.marks n);
    not_dirty = unmarked_not_dirty k n past _ _ (h.marks n);
    dirty = marked_dirty k n past _ _ (h.marks n);
    doomed = marked_doomed k n past _ _ (h.marks n);
  }

  pub unmarked_is_synced : l.UnmarkedIsSynced k r
  unmarked_is_synced opened past v h f = none_dirty k r opened past v h f

  pub marks_crowd : l.MarksCrowd k r
  marks_crowd opened past v h (inl c) = crowded_blocks k r opened past v h c
  marks_crowd opened past v h (inr c) = crowded_nodes k r opened past v h c

  pub fetches_tell : l.FetchesTell k r
  fetches_tell opened past v n o expect h f d ch = let t = fetch_now k r opened past v h n o expect f d ch in record { clean = t.0; absent = t.1; expected = t.2 }

  pub needs_are_new : l.NeedsAreNew k r
  needs_are_new opened past v who n h a live = need_new k r opened past v h who n a live
