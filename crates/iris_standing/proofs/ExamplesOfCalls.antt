-- The hashes that are kept after a call, and which requests ask how many blocks are marked, by small cases.
use Rattle.std.proofs.Common.{◌≡◌, [], Some, None, refl}
use Rattle.iris_invariant.specs.Bounds.{AtMost}
use Rattle.iris_invariant.specs.Knowledge.{IsMarkedBlock}
use Rattle.iris_name.specs.declared.name.Hash32.{Hash32}
use Rattle.iris_name.specs.declared.request.Request.TheVariants.{Mkdir, Read, Resize, Write}
use Rattle.iris_pool.specs.Pool.{PoolState}
use Rattle.iris_requests.specs.declared.planned.Counters.{Counters}
use Rattle.iris_standing.specs.Calls.{HasMarksFor, answered}
use Rattle.iris_standing.specs.Standing.{Standing, standing_view}

module _ (s : Standing) (q : PoolState) (counters : Counters) (x : Hash32) where
  -- a hash that settling told is kept, and else the one before
  told_is_kept : (answered counters q (Some x) None s).visible ≡ x
  told_is_kept = refl

  untold_stays : (answered counters q (Some x) None s).trash ≡ s.trash
  untold_stays = refl

  -- a write and a new length ask that fewer than 448 blocks are marked, no other request does
  write_asks : HasMarksFor (Write [] 0 []) s → AtMost 447 (IsMarkedBlock (standing_view s))
  write_asks h = h

  length_asks : HasMarksFor (Resize [] 1) s → AtMost 447 (IsMarkedBlock (standing_view s))
  length_asks h = h

  read_does_not : HasMarksFor (Read [] 0 1) s
  read_does_not = tt

  folder_does_not : HasMarksFor (Mkdir []) s
  folder_does_not = tt
