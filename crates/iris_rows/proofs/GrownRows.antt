-- The rows at a depth, by the depth of the first item.
use Rattle.std.proofs.Common.{◌≡◌, ◌⊎◌, inl, inr, ℕ, ◌+◌, ◌<◌, ◌≤◌, List, ◌∷◌, Bool, true, false, refl, arith}
use Rattle.std.proofs.lemmas.Bool.Decides.{nat_tests}
use Rattle.std.specs.Prelude.{nat_lt}
use Rattle.iris_rows.specs.declared.item.Item.{Item}
use Rattle.iris_rows.specs.Items.{grown, kept_file}
use Rattle.iris_rows.specs.Rows.{Rows, End, Row, at}

pub lt_true : (a b : ℕ) → a < b → nat_lt a b ≡ true
lt_true a b h = grind (arith, nat_tests)

pub lt_false : (a b : ℕ) → b ≤ a → nat_lt a b ≡ false
lt_false a b h = grind (arith, nat_tests)

-- two numbers: the first is less, or the second, or they are one
pub compared : (a b : ℕ) → (a < b) ⊎ ((b < a) ⊎ (a ≡ b))
compared a b = by (nat_lt a b) (nat_lt b a) refl refl where
  by : (x y : Bool) → nat_lt a b ≡ x → nat_lt b a ≡ y → (a < b) ⊎ ((b < a) ⊎ (a ≡ b))
  by true y e f = inl (grind (arith, nat_tests))
  by false true e f = inr (inl (grind (arith, nat_tests)))
  by false false e f = inr (inr (grind (arith, nat_tests)))

-- the row of an item, with the rows inside it and those after it
unfoldable pub row_of : Item → Rows → Rows → Rows
row_of item inside next = Row item.id.0 item.name (kept_file item.file) inside next

module _ (d : ℕ) (i : Item) (items : List Item) where
  pub grown_higher : i.depth < d → grown d (i ∷ items) ≡ End
  grown_higher h = rw (lt_true i.depth d h) refl

  pub grown_deeper : d < i.depth → grown d (i ∷ items) ≡ grown d items
  grown_deeper h = rw (lt_false i.depth d (omega arith), lt_true d i.depth h) refl

  pub grown_here : i.depth ≡ d → grown d (i ∷ items) ≡ row_of i (grown (d + 1) items) (grown d items)
  unfolding row_of
  grown_here h = rw (lt_false i.depth d (omega arith), lt_false d i.depth (omega arith)) refl
