use Rattle.std.proofs.Common.{inl, inr}
use Rattle.std.proofs.lemmas.Option.{IfSome_then}
use Rattle.iris_upkeep.proofs.ChildrenOf.{none-then}
use Rattle.iris_upkeep.proofs.descent.marked_child.Goals as goal

pub returns-in-Some-clause-some : goal.returns-in-Some-clause-some
returns-in-Some-clause-some c = let s = c.in-Some.ensures.some in ((c.children_of-children.ensures c.in-Some.left).0 (inl s.0), s.1)

pub returns-in-Some-if_marked-clause-some : goal.returns-in-Some-if_marked-clause-some
returns-in-Some-if_marked-clause-some c = let s = c.in-Some-if_marked.ensures.some in ((c.children_of-children.ensures c.in-Some-if_marked.right).0 (inr (inl s.0)), s.1)

pub returns-clause-some : goal.returns-clause-some
returns-clause-some c = IfSome_then c.if_marked-3.result c.if_marked-3.ensures.some (λ n s. ((c.children_of-children.ensures n).0 (inr (inr s.0)), s.1))

pub returns-clause-none : goal.returns-clause-none
returns-clause-none c = none-then c.if_marked-3.result c.if_marked-3.ensures.none (λ third n has marked. elim ((c.children_of-children.ensures n).1 has) [
  | inl a ↦ c.in_default.ensures.none n a marked
  | inr b ↦ elim b [ inl a ↦ c.in_default-if_marked.ensures.none n a marked | inr a ↦ third n a marked ]
])
