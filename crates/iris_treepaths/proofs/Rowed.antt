-- The rows of a treap one by one, each with the treaps below it.
use Rattle.std.proofs.Common.{◌≡◌, ◌⊎◌, ◌==◌, ◌++◌, inl, inr, ℕ, true, List, [], ◌∷◌, Option, Some, None, refl, ap, sym, ◌∙◌, subst, true≢false, is_some, eq-eqb}
use Rattle.std.specs.Prelude.{IsSome}
use Rattle.std.proofs.lemmas.Bool.{eqb-true}
use Rattle.iris_name.specs.declared.name.Name.{Name}
use Rattle.iris_name.specs.declared.name.Name.TheVariants as name
use Rattle.iris_node.specs.declared.node.Node.{Node}
use Rattle.iris_node.specs.Trees.{Shown, IsParent, IsAbove, node_name}
use Rattle.iris_node.specs.Unfolded.{Unfolded, id_of}
use Rattle.iris_shape.specs.Treap.{Treap, Empty, Over, rows}
use Rattle.iris_cache.specs.Pictures.{IsLike}
use Rattle.iris_treepaths.specs.Planted.{Likes, Hang, IsSubtreap, StaysBelow, IsOver, next}
use Rattle.iris_treepaths.specs.Rows.{Row, Content, Directory, File, row_entry, entry_of, unfolded_rows, below_row, has_id}
use Rattle.iris_treepaths.specs.Ways.{Any}
use Rattle.iris_treepaths.proofs.Likes.{Placed, entry_named, above_less, above_more, top_parent}
use Rattle.iris_treepaths.proofs.Sizes.{over_through}
use Rattle.iris_treepaths.proofs.There.{one_of}
use Rattle.iris_cache.proofs.Rising.{or-split, or-left, or-right}

-- ---- lists

any-left : (P : Row → Type 0) (xs ys : List Row) → Any P xs → Any P (xs ++ ys)
any-left P [] ys h = absurd h
any-left P (x ∷ xs) ys (inl h) = inl h
any-left P (x ∷ xs) ys (inr h) = inr (any-left P xs ys h)

any-right : (P : Row → Type 0) (xs ys : List Row) → Any P ys → Any P (xs ++ ys)
any-right P [] ys h = h
any-right P (x ∷ xs) ys h = inr (any-right P xs ys h)

any-split : (P : Row → Type 0) (xs ys : List Row) → Any P (xs ++ ys) → Any P xs ⊎ Any P ys
any-split P [] ys h = inr h
any-split P (x ∷ xs) ys (inl h) = inl (inl h)
any-split P (x ∷ xs) ys (inr h) = elim (any-split P xs ys h) [ inl a ↦ inl (inr a) | inr b ↦ inr b ]

-- a row is one of a list
abbrev pub IsIn : Row → List Row → Type 0
IsIn y rows = Any (λ r. r ≡ y) rows

pub any_row : (P : Row → Type 0) (xs : List Row) → Any P xs → (y : Row) × IsIn y xs × P y
any_row P [] h = absurd h
any_row P (x ∷ xs) (inl h) = (x, inl refl, h)
any_row P (x ∷ xs) (inr h) = let r = any_row P xs h in (r.0, inr r.1, r.2)

pub row_any : (P : Row → Type 0) (xs : List Row) (y : Row) → IsIn y xs → P y → Any P xs
row_any P [] y h p = absurd h
row_any P (x ∷ xs) y (inl h) p = inl (subst P (sym h) p)
row_any P (x ∷ xs) y (inr h) p = inr (row_any P xs y h p)

pub has_in : (xs : List Row) (y : Row) → IsIn y xs → has_id y.id xs ≡ true
has_in [] y h = absurd h
has_in (x ∷ xs) y (inl h) = or-left (x.id == y.id) (has_id y.id xs) (ap (λ (r : Row). r.id == y.id) h ∙ eq-eqb y.id y.id refl)
has_in (x ∷ xs) y (inr h) = or-right (x.id == y.id) (has_id y.id xs) (has_in xs y h)

pub in_has : (xs : List Row) (i : ℕ) → has_id i xs ≡ true → (y : Row) × IsIn y xs × (y.id ≡ i)
in_has [] i h = absurd (true≢false (sym h))
in_has (x ∷ xs) i h = elim (or-split (x.id == i) (has_id i xs) h) [
  | inl e ↦ (x, inl refl, eqb-true x.id i e)
  | inr t ↦ (let r = in_has xs i t in (r.0, inr r.1, r.2))
]

-- ---- treaps

pub within_rows : (w : Treap Row) (y : Row) (l m : Treap Row) → IsSubtreap (Over y l m) w → IsIn y (rows w)
within_rows Empty y l m h = absurd h
within_rows (Over z a b) y l m (inl e) = any-right (λ r. r ≡ y) (rows a) (z ∷ rows b) (inl (sym (top e)))
  where
    top-of : Treap Row → Row
    top-of Empty = z
    top-of (Over x c d) = x

    top : Over y l m ≡ Over z a b → y ≡ z
    top e = ap top-of e
within_rows (Over z a b) y l m (inr (inl h)) = any-left (λ r. r ≡ y) (rows a) (z ∷ rows b) (within_rows a y l m h)
within_rows (Over z a b) y l m (inr (inr h)) = any-right (λ r. r ≡ y) (rows a) (z ∷ rows b) (inr (within_rows b y l m h))

-- a row with the treaps below it
pub record Within (w : Treap Row) (y : Row) : Type 0 where
  pub less : Treap Row
  pub more : Treap Row
  pub within : IsSubtreap (Over y less more) w

pub rows_within : (w : Treap Row) (y : Row) → IsIn y (rows w) → Within w y
rows_within Empty y h = absurd h
rows_within (Over z a b) y h = elim (any-split (λ r. r ≡ y) (rows a) (z ∷ rows b) h) [
  | inl x ↦ (let r = rows_within a y x in record { less = r.less; more = r.more; within = inr (inl r.within) })
  | inr x ↦ elim x [
    | inl e ↦ record { less = a; more = b; within = inl (ap (λ v. Over v a b) (sym e)) }
    | inr k ↦ (let r = rows_within b y k in record { less = r.less; more = r.more; within = inr (inr r.within) })
  ]
]

pub within_through : (v w x : Treap Row) → IsSubtreap v w → IsSubtreap w x → IsSubtreap v x
within_through v w Empty h k = k
within_through v w (Over y l m) h (inl e) = subst (IsSubtreap v) e h
within_through v w (Over y l m) h (inr (inl k)) = inr (inl (within_through v w l h k))
within_through v w (Over y l m) h (inr (inr k)) = inr (inr (within_through v w m h k))

pub less_within : (y : Row) (l m x : Treap Row) (z : Row) (a b : Treap Row) → l ≡ Over z a b → IsSubtreap (Over y l m) x → IsSubtreap (Over z a b) x
less_within y l m x z a b e h = within_through (Over z a b) (Over y l m) x (inr (inl (subst (IsSubtreap (Over z a b)) (sym e) (inl refl)))) h

pub more_within : (y : Row) (l m x : Treap Row) (z : Row) (a b : Treap Row) → m ≡ Over z a b → IsSubtreap (Over y l m) x → IsSubtreap (Over z a b) x
more_within y l m x z a b e h = within_through (Over z a b) (Over y l m) x (inr (inr (subst (IsSubtreap (Over z a b)) (sym e) (inl refl)))) h

-- the topmost row, where there is an entry
pub record Topped (w : Treap Row) (n : Name) : Type 0 where
  pub row : Row
  pub less : Treap Row
  pub more : Treap Row
  pub is : w ≡ Over row less more
  pub named : n ≡ name.Entry (id_of row.id)

pub entries_topped : (w : Treap Row) (n : Name) → node_name (unfolded_rows w) ≡ Some n → Topped w n
entries_topped Empty n h = absurd (true≢false (sym (ap is_some h)))
entries_topped (Over y l m) n h =
    record { row = y; less = l; more = m; is = refl; named = one_of n (name.Entry (id_of y.id)) (sym h ∙ entry_named y.id y.name y.content (unfolded_rows l) (unfolded_rows m)) }

-- ---- what is so of each row

abbrev PlacedHere : Shown → Treap Row → Type 0
PlacedHere t Empty = Unit {0}
PlacedHere t (Over y l m) = t (name.Entry (id_of y.id)) ≡ Some (row_entry y (unfolded_rows l) (unfolded_rows m))

pub placed_at : (t : Shown) (w v : Treap Row) → Placed t w → IsSubtreap v w → PlacedHere t v
placed_at t Empty v p h = absurd h
placed_at t (Over y l m) v p (inl e) = subst (PlacedHere t) (sym e) p.0
placed_at t (Over y l m) v p (inr (inl h)) = placed_at t l v p.1 h
placed_at t (Over y l m) v p (inr (inr h)) = placed_at t m v p.2 h

abbrev LikesHere : (Name → Option Node) → Treap Row → Type 0
LikesHere s Empty = Unit {0}
LikesHere s (Over y l m) = (node : Node) → s (name.Entry (id_of y.id)) ≡ Some node → IsLike (Some (row_entry y (unfolded_rows l) (unfolded_rows m))) node

pub likes_at : (s : Name → Option Node) (w v : Treap Row) → Likes s w → IsSubtreap v w → LikesHere s v
likes_at s Empty v p h = absurd h
likes_at s (Over y l m) v p (inl e) = subst (LikesHere s) (sym e) p.0
likes_at s (Over y l m) v p (inr (inl h)) = likes_at s l v p.1 h
likes_at s (Over y l m) v p (inr (inr h)) = likes_at s m v p.2 h

abbrev StaysHere : (Name → Option Node) → Treap Row → Treap Row → Type 0
StaysHere s t Empty = Unit {0}
StaysHere s t (Over y l m) = s (name.Entry (id_of y.id)) ≡ None → IsSubtreap (Over y l m) t

pub stays_at : (s : Name → Option Node) (t w v : Treap Row) → StaysBelow s t w → IsSubtreap v w → StaysHere s t v
stays_at s t Empty v p h = absurd h
stays_at s t (Over y l m) v p (inl e) = subst (StaysHere s t) (sym e) p.0
stays_at s t (Over y l m) v p (inr (inl h)) = stays_at s t l v p.1 h
stays_at s t (Over y l m) v p (inr (inr h)) = stays_at s t m v p.2 h

-- each row stands directly below the one above it, the topmost below p
abbrev pub Stands : Shown → Name → Treap Row → Type 0
Stands t p Empty = Unit {0}
Stands t p (Over y l m) = IsParent t p (name.Entry (id_of y.id)) × Stands t (name.Entry (id_of y.id)) l × Stands t (name.Entry (id_of y.id)) m

pub stands : (t : Shown) (w : Treap Row) (p : Name) (u : Unfolded) → t p ≡ Some u → IsAbove u (unfolded_rows w) → Placed t w → Stands t p w
stands t Empty p u live above h = tt
stands t (Over y l m) p u live above h = (
  top_parent t p u y l m live above,
  stands t l (name.Entry (id_of y.id)) (unfolded_rows (Over y l m)) h.0 (above_less y.id y.name y.content (unfolded_rows l) (unfolded_rows m)) h.1,
  stands t m (name.Entry (id_of y.id)) (unfolded_rows (Over y l m)) h.0 (above_more y.id y.name y.content (unfolded_rows l) (unfolded_rows m)) h.2,
)

abbrev OverHere : Shown → Name → Treap Row → Type 0
OverHere t p Empty = Unit {0}
OverHere t p (Over y l m) = IsOver t p (name.Entry (id_of y.id))

over-here : (t : Shown) (p q : Name) (v : Treap Row) → IsParent t p q → OverHere t q v → OverHere t p v
over-here t p q Empty h o = tt
over-here t p q (Over y l m) h o = over_through t p q (name.Entry (id_of y.id)) (next p q h) o

pub over_at : (t : Shown) (p : Name) (w v : Treap Row) → Stands t p w → IsSubtreap v w → OverHere t p v
over_at t p Empty v s h = absurd h
over_at t p (Over y l m) v s (inl e) = subst (OverHere t p) (sym e) (next p (name.Entry (id_of y.id)) s.0)
over_at t p (Over y l m) v s (inr (inl h)) = over-here t p (name.Entry (id_of y.id)) v s.0 (over_at t (name.Entry (id_of y.id)) l v s.1 h)
over_at t p (Over y l m) v s (inr (inr h)) = over-here t p (name.Entry (id_of y.id)) v s.0 (over_at t (name.Entry (id_of y.id)) m v s.2 h)

-- the one from which a row hangs is its parent
pub record Hung (s : Name → Option Node) (over : Name → Option Name) (t : Shown) (n : Name) : Type 0 where
  pub from : Name
  pub over_is : over n ≡ Some from
  pub sees : IsSome (s from)
  pub parent : IsParent t from n

abbrev HungHere : (Name → Option Node) → (Name → Option Name) → Shown → Treap Row → Type 0
HungHere s over t Empty = Unit {0}
HungHere s over t (Over y l m) = (node : Node) → s (name.Entry (id_of y.id)) ≡ Some node → Hung s over t (name.Entry (id_of y.id))

pub hung_at : (s : Name → Option Node) (over : Name → Option Name) (t : Shown) (p : Name) (w v : Treap Row) → Hang s over p w → Stands t p w → IsSubtreap v w → HungHere s over t v
hung_at s over t p Empty v h st k = absurd k
hung_at s over t p (Over y l m) v h st (inl e) = subst (HungHere s over t) (sym e) (λ node at. (let x = h.0 node at in record { from = p; over_is = x.0; sees = x.1; parent = st.0 }))
hung_at s over t p (Over y l m) v h st (inr (inl k)) = hung_at s over t (name.Entry (id_of y.id)) l v h.1 st.1 k
hung_at s over t p (Over y l m) v h st (inr (inr k)) = hung_at s over t (name.Entry (id_of y.id)) m v h.2 st.2 k

-- ---- the entry of a row

pub above_row : (id : ℕ) (label : List ℕ) (c : Content) (a b w : Unfolded) → IsAbove (entry_of id label c a b) w → (w ≡ a) ⊎ ((w ≡ b) ⊎ (w ≡ below_row c))
above_row id label (Directory inside) a b w h = h
above_row id label (File size counter versions) a b w h = h

pub above_content : (id : ℕ) (label : List ℕ) (c : Content) (a b : Unfolded) → IsAbove (entry_of id label c a b) (below_row c)
above_content id label (Directory inside) a b = inr (inr refl)
above_content id label (File size counter versions) a b = inr (inr refl)
