use Rattle.std.proofs.Common.{◌≡◌, ◌↔◌, Some, sym, subst}
use Rattle.iris_cache.specs.Pictures.{BodyHolds}
use Rattle.iris_upkeep.specs.Children.{HasHash}
use Rattle.iris_upkeep.proofs.children.top_inside.Goals as goal

pub returns-in-Dir : goal.returns-in-Dir
returns-in-Dir c = λ n. subst (λ b. c.linked_entry.result ≡ Some n ↔ HasHash (BodyHolds c.args.id b n)) (sym c.in-Dir.is) (c.linked_entry.ensures n)

pub returns-in-File : goal.returns-in-File
returns-in-File c = λ n. subst (λ b. c.part_of_side.result ≡ Some n ↔ HasHash (BodyHolds c.args.id b n)) (sym c.in-File.is) (c.part_of_side.ensures n)
