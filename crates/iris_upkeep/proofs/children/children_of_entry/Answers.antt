use Rattle.std.proofs.Common.{◌≡◌, ◌↔◌, Some, subst}
use Rattle.iris_node.specs.Fields.{EntryFields}
use Rattle.iris_cache.specs.Pictures.{LinkHolds, BodyHolds}
use Rattle.iris_upkeep.specs.Children.{HasHash}
use Rattle.iris_upkeep.proofs.children.children_of_entry.Goals as goal

pub returns-clause-left : goal.returns-clause-left
returns-clause-left c = λ n. subst (λ (e : EntryFields). c.linked_entry.result ≡ Some n ↔ HasHash (LinkHolds e.left n)) c.entry.view_is (c.linked_entry.ensures n)

pub returns-clause-right : goal.returns-clause-right
returns-clause-right c = λ n. subst (λ (e : EntryFields). c.linked_entry-2.result ≡ Some n ↔ HasHash (LinkHolds e.right n)) c.entry.view_is (c.linked_entry-2.ensures n)

pub returns-clause-top : goal.returns-clause-top
returns-clause-top c = λ n. subst (λ (e : EntryFields). c.top_inside.result ≡ Some n ↔ HasHash (BodyHolds e.id e.body n)) c.entry.view_is (c.top_inside.ensures n)
