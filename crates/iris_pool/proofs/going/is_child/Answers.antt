use Rattle.std.proofs.Common.{inl, inr, refl, sym, ◌∙◌, true≢false}
use Rattle.iris_pool.proofs.going.is_child.Goals as goal

pub returns-then-is_name : goal.returns-then-is_name
returns-then-is_name c = (λ _. (c.children_of-children.ensures c.args.name.now).0 (inl (c.is_name.ensures.0 c.if-is_name.true)), λ _. refl)

pub returns-then-is_name-2 : goal.returns-then-is_name-2
returns-then-is_name-2 c = (λ _. (c.children_of-children.ensures c.args.name.now).0 (inr (inl (c.is_name-2.ensures.0 c.if-is_name-2.true))), λ _. refl)

pub returns : goal.returns
returns c = (
  λ t. (c.children_of-children.ensures c.args.name.now).0 (inr (inr (c.is_name-3.ensures.0 t))),
  λ h. elim ((c.children_of-children.ensures c.args.name.now).1 h) [
    | inl l ↦ absurd (true≢false (sym (c.is_name.ensures.1 l) ∙ c.if-is_name.false))
    | inr s ↦ elim s [
      | inl r ↦ absurd (true≢false (sym (c.is_name-2.ensures.1 r) ∙ c.if-is_name-2.false))
      | inr t ↦ c.is_name-3.ensures.1 t
    ]
  ],
)
