-- Each node of a table stands above smaller ones, so none stands above itself.
use Rattle.std.proofs.Common.{◌≡◌, ◌⊎◌, ◌<◌, inl, inr, ℕ, Option, Some, None, ap, sym, subst, arith}
use Rattle.iris_name.specs.declared.name.Name.{Name}
use Rattle.iris_node.specs.Trees.{Shown, IsTree, IsParent, IsAbove}
use Rattle.iris_node.specs.Unfolded.{Unfolded, Absent, Folder, Leaf, Even, Split, Stored}
use Rattle.iris_treepaths.specs.Planted.{IsOver, next, far}
use Rattle.iris_treepaths.specs.Reached.{size}

abbrev pub size_in : Option Unfolded → ℕ
size_in None = 0
size_in (Some u) = size u

pub above_larger : (u w : Unfolded) → IsAbove u w → size w < size u
above_larger (Folder id label less more inside) w (inl e) = let s = ap size e in omega (arith, s)
above_larger (Folder id label less more inside) w (inr (inl e)) = let s = ap size e in omega (arith, s)
above_larger (Folder id label less more inside) w (inr (inr e)) = let s = ap size e in omega (arith, s)
above_larger (Leaf id label less more length counter versions) w (inl e) = let s = ap size e in omega (arith, s)
above_larger (Leaf id label less more length counter versions) w (inr (inl e)) = let s = ap size e in omega (arith, s)
above_larger (Leaf id label less more length counter versions) w (inr (inr e)) = let s = ap size e in omega (arith, s)
above_larger (Split file level index low high) w (inl e) = let s = ap size e in omega (arith, s)
above_larger (Split file level index low high) w (inr e) = let s = ap size e in omega (arith, s)
above_larger Absent w h = absurd h
above_larger (Even version) w h = absurd h
above_larger (Stored version bytes) w h = absurd h

pub parent_larger : (t : Shown) → IsTree t → (p n : Name) → IsParent t p n → size_in (t n) < size_in (t p)
parent_larger t tree p n h =
    let child : size_in (t n) ≡ size h.child = ap size_in (tree.below p n h.parent h.child h.live h.above h.named) in
    let parent : size_in (t p) ≡ size h.parent = ap size_in h.live in
    let lt = above_larger h.parent h.child h.above in
    omega (arith, child, parent, lt)

pub over_larger : (t : Shown) → IsTree t → (p n : Name) → IsOver t p n → size_in (t n) < size_in (t p)
over_larger t tree _ _ (next p n h) = parent_larger t tree p n h
over_larger t tree _ _ (far p q n h o) = let a = parent_larger t tree q n h in let b = over_larger t tree p q o in omega (arith, a, b)

pub never_over : (t : Shown) → IsTree t → (p n : Name) → IsOver t p n → p ≡ n → ⊥
never_over t tree p n o e = let lt = over_larger t tree p n o in let s = ap (λ x. size_in (t x)) e in omega (arith, lt, s)

-- what stands above a child is its parent, or stands above that
pub over_parent : (t : Shown) → IsTree t → (p n q : Name) → IsOver t p n → IsParent t q n → (p ≡ q) ⊎ IsOver t p q
over_parent t tree _ _ q (next p n h) parent = inl (tree.once n p q h parent)
over_parent t tree _ _ q (far p m n h o) parent = inr (subst (IsOver t p) (tree.once n m q h parent) o)

pub over_through : (t : Shown) (a b c : Name) → IsOver t a b → IsOver t b c → IsOver t a c
over_through t a _ _ o (next b c h) = far a b c h o
over_through t a _ _ o (far b m c h rest) = far a m c h (over_through t a b m o rest)

-- of two that stand above a child or are it, one stands above the other, or they are one
pub over_lined : (t : Shown) → IsTree t → (a b n : Name) → IsOver t a n → IsOver t b n → (a ≡ b) ⊎ (IsOver t a b ⊎ IsOver t b a)
over_lined t tree _ b _ (next a n h) o = elim (over_parent t tree b n a o h) [ inl e ↦ inl (sym e) | inr x ↦ inr (inr x) ]
over_lined t tree _ b _ (far a m n h rest) o = elim (over_parent t tree b n m o h) [
  | inl e ↦ inr (inl (subst (IsOver t a) (sym e) rest))
  | inr x ↦ over_lined t tree a b m rest x
]

-- a name that isn't live stands above none
pub none_over : (t : Shown) → IsTree t → (p n : Name) → t p ≡ None → IsOver t p n → ⊥
none_over t tree p n e o = let lt = over_larger t tree p n o in let s = ap size_in e in omega (arith, lt, s)
