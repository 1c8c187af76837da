use Rattle.std.proofs.Common.{rules, ◌≡◌, ℕ, length, take, List, ap, ◌∙◌}
use Rattle.iris_jobs.proofs.Fronts.{front_of_grown}
use Rattle.iris_jobs.proofs.chore.block_with_room.Goals as goal

pub returns-clause-page : goal.returns-clause-page
returns-clause-page c = front_of_grown _ _ _ _ _ _ c.in_ok-bytes.ensures.items c.in_ok-extend_from_slice.ensures.items c.in_ok-extend_from_slice-2.ensures.items c.as_slice.ensures.same (ap length c.as_slice.ensures.same ∙ c.as_slice.ensures.len)
