-- Rows of a name: there is one at most.
use Rattle.std.proofs.Common.{◌≡◌, ℕ, List, [], ◌∷◌, true, false, sym, subst, ◌∙◌, inl, inr, Some, None, ◌≤◌}
use Rattle.iris_shape.specs.Order.{less_name, Rising}
use Rattle.iris_shape.specs.Treap.{Each}
use Rattle.iris_shape.proofs.Orders.{less_not}
use Rattle.iris_treepaths.specs.Rows.{Row, row_name}
use Rattle.iris_treepaths.specs.Ways.{IsNamed}

-- no row has a name that a row has
pub not_both : (rows : List Row) (n : List ℕ) (i : ℕ) → IsNamed rows n None → IsNamed rows n (Some i) → ⊥
not_both [] n i none some = some
not_both (r ∷ rows) n i none some = elim some [ inl h ↦ none.0 h.1 | inr k ↦ not_both rows n i none.1 k ]

-- a row after one of the same name isn't there
later : (x : Row) (rows : List Row) (n : List ℕ) (i : ℕ) → x.name ≡ n → Each (λ y. less_name (row_name x) (row_name y) ≡ true) rows → IsNamed rows n (Some i) → ⊥
later x [] n i e less some = some
later x (r ∷ rows) n i e less some = elim some [
  | inl h ↦ let a : less_name n n ≡ true = subst (λ m. less_name m n ≡ true) e (subst (λ m. less_name x.name m ≡ true) h.1 less.0) in absurd (differ (sym a ∙ less_not n))
  | inr k ↦ later x rows n i e less.1 k
]
  where
    differ : true ≡ false → ⊥
    differ h = cc

-- two rows of one name have one id
pub one_named : (rows : List Row) (n : List ℕ) (i j : ℕ) → Rising row_name rows → IsNamed rows n (Some i) → IsNamed rows n (Some j) → i ≡ j
one_named [] n i j up a b = absurd a
one_named (r ∷ rows) n i j up a b = elim a [
  | inl h ↦ elim b [ inl k ↦ sym h.0 ∙ k.0 | inr k ↦ absurd (later r rows n j h.1 up.0 k) ]
  | inr h ↦ elim b [ inl k ↦ absurd (later r rows n i k.1 up.0 h) | inr k ↦ one_named rows n i j up.1 h k ]
]

-- the id of a named row is none of the roots'
pub named_id : (rows : List Row) (n : List ℕ) (i : ℕ) → Each (λ r. 2 ≤ r.id) rows → IsNamed rows n (Some i) → 2 ≤ i
named_id [] n i ids a = absurd a
named_id (r ∷ rows) n i ids a = elim a [ inl h ↦ subst (λ k. 2 ≤ k) h.0 ids.0 | inr h ↦ named_id rows n i ids.1 h ]
