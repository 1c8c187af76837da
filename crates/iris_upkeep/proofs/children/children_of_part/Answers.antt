use Rattle.std.proofs.Common.{◌≡◌, ◌↔◌, Some, subst}
use Rattle.iris_node.specs.Fields.{PartFields}
use Rattle.iris_cache.specs.Pictures.{SideHolds}
use Rattle.iris_cache.specs.Rehash.{low_part, high_part}
use Rattle.iris_upkeep.specs.Children.{HasHash}
use Rattle.iris_upkeep.proofs.children.children_of_part.Goals as goal

pub returns-clause-left : goal.returns-clause-left
returns-clause-left c = λ n. subst (λ (p : PartFields). c.part_of_side.result ≡ Some n ↔ HasHash (SideHolds (low_part p) p.low n)) c.part.view_is (c.part_of_side.ensures n)

pub returns-clause-right : goal.returns-clause-right
returns-clause-right c = λ n. subst (λ (p : PartFields). c.part_of_side-2.result ≡ Some n ↔ HasHash (SideHolds (high_part p) p.high n)) c.part.view_is (c.part_of_side-2.ensures n)
