-- The laws of treaps, as their statements have them.
use Rattle.std.proofs.Common.{◌≡◌, true, refl, sym, ◌∙◌, ap}
use Rattle.iris_shape.specs.Treap.{treap}
use Rattle.iris_shape.specs.TreapLaws.{TreapOver, OneTreap, TreapPut, TreapWithout, NodesAfterPut, NodesAfterRemoval, WayAfterRemoval, NodesAfterMerge, PrioritiesRank, NamesPart}
use Rattle.iris_shape.proofs.Treaps as treaps
use Rattle.iris_shape.proofs.Frames as frames
use Rattle.iris_shape.proofs.Orders as orders
use Rattle.iris_shape.proofs.Ways as ways

pub treap_over : {A : Type 0} → TreapOver A
treap_over up x before after ranks apart a b = treaps.treap_at up ranks x before (treap up after) after a refl (treaps.every_treap (λ z. up x z ≡ true) up after b)

pub one_treap : {A : Type 0} → OneTreap A
one_treap up xs ranks apart =
    (treaps.rows_treap up xs, treaps.heap_treap up ranks xs apart, (λ t same heap. sym (treaps.treap_rows up ranks t heap) ∙ ap (treap up) same))

pub treap_put : {A : Type 0} → TreapPut A
treap_put up p x xs ranks a b f = treaps.treap_put up ranks p x xs a b f

pub treap_without : {A : Type 0} → TreapWithout A
treap_without up p e xs ranks a f h = treaps.treap_without up ranks p e xs a f h

pub nodes_after_put : {A : Type 0} → NodesAfterPut A
nodes_after_put up g p x t h k = frames.found_insert up g p x t h k

pub nodes_after_removal : {A : Type 0} → NodesAfterRemoval A
nodes_after_removal up g p e t h = frames.found_remove up g p e t h

pub nodes_after_merge : {A : Type 0} → NodesAfterMerge A
nodes_after_merge up g a b h k = frames.found_merge up g a b h k

pub priorities_rank : {A : Type 0} → PrioritiesRank A
priorities_rank prio id = (orders.ranks prio id, (λ xs h. orders.all_apart prio id xs h))

pub names_part : {A : Type 0} → NamesPart A
names_part name n xs h = (orders.falls name n xs h, (λ e named. orders.parts name n e xs named h))

pub way_after_removal : {A : Type 0} → WayAfterRemoval A
way_after_removal up p e q g t f h k = ways.way_remove up p e q (λ z. g z ≡ true) t f h k
