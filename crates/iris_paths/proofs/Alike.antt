-- Treaps of rows of the same ids and names, and what is met in them.
use Rattle.std.proofs.Common.{◌≡◌, ◌∙◌, ℕ, List, [], ◌∷◌, Bool, true, false, cond, refl, sym, ap, subst, inl, inr}
use Rattle.iris_name.specs.declared.name.Name.{Name}
use Rattle.iris_name.specs.declared.name.Name.TheVariants as name
use Rattle.iris_node.specs.Unfolded.{Unfolded, Absent, Folder, Leaf, Even, Split, Stored, id_of}
use Rattle.iris_shape.specs.Treap.{Treap, Empty, Over, Each, Every, way}
use Rattle.iris_treepaths.specs.Rows.{Row, Content, Directory, File, entry_of, unfolded_rows, refilled}
use Rattle.iris_treepaths.specs.Ways.{Any, along, is_row_before, has_name}

-- what an entry is by itself, and what lies beside it
record Parts : Type 0 where
  there : Bool
  id : ℕ
  label : List ℕ
  less : Unfolded
  more : Unfolded

parts : Unfolded → Parts
parts (Folder id label less more inside) = record { there = true; id = id; label = label; less = less; more = more }
parts (Leaf id label less more size counter versions) = record { there = true; id = id; label = label; less = less; more = more }
parts Absent = record { there = false; id = 0; label = []; less = Absent; more = Absent }
parts (Even version) = record { there = false; id = 0; label = []; less = Absent; more = Absent }
parts (Split file level index low high) = record { there = false; id = 0; label = []; less = Absent; more = Absent }
parts (Stored version bytes) = record { there = false; id = 0; label = []; less = Absent; more = Absent }

-- an entry's parts
of_row : (id : ℕ) (label : List ℕ) (x : Content) (l m : Unfolded) → parts (entry_of id label x l m) ≡ record { there = true; id = id; label = label; less = l; more = m }
unfolding parts
of_row id label (Directory inside) l m = refl
of_row id label (File size counter versions) l m = refl

of_refilled : (d : ℕ) (i : Unfolded) (id : ℕ) (label : List ℕ) (x : Content) (l m : Unfolded) → parts (refilled d i (entry_of id label x l m)) ≡ record { there = true; id = id; label = label; less = refilled d i l; more = refilled d i m }
unfolding parts
of_refilled d i id label (Directory inside) l m = refl
of_refilled d i id label (File size counter versions) l m = refl

of_absent : (parts Absent).there ≡ false
unfolding parts
of_absent = refl

-- the rows of one treap have the ids and names of those of another, in the same places
abbrev pub Alike : Treap Row → Treap Row → Type 0
Alike Empty Empty = Unit {0}
Alike Empty (Over z k n) = ⊥
Alike (Over y l m) Empty = ⊥
Alike (Over y l m) (Over z k n) = (y.id ≡ z.id) × (y.name ≡ z.name) × Alike l k × Alike m n

differ : true ≡ false → ⊥
differ h = cc

module _ (f : Unfolded → Unfolded) (bare : f Absent ≡ Absent)
    (keeps : (id : ℕ) (label : List ℕ) (x : Content) (l m : Unfolded) → parts (f (entry_of id label x l m)) ≡ record { there = true; id = id; label = label; less = f l; more = f m }) where
  alike_by : (t u : Treap Row) → unfolded_rows t ≡ f (unfolded_rows u) → Alike t u
  alike_by Empty Empty h = tt
  alike_by Empty (Over z k n) h = differ (sym (ap (λ v. v.there) (keeps z.id z.name z.content (unfolded_rows k) (unfolded_rows n))) ∙ (sym (ap (λ u. (parts u).there) h) ∙ of_absent))
  alike_by (Over y l m) Empty h = differ (sym (ap (λ v. v.there) (of_row y.id y.name y.content (unfolded_rows l) (unfolded_rows m))) ∙ (ap (λ u. (parts u).there) (h ∙ bare) ∙ of_absent))
  alike_by (Over y l m) (Over z k n) h =
      let e : record { there = true; id = y.id; label = y.name; less = unfolded_rows l; more = unfolded_rows m } ≡ record { there = true; id = z.id; label = z.name; less = f (unfolded_rows k); more = f (unfolded_rows n) }
      = sym (of_row y.id y.name y.content (unfolded_rows l) (unfolded_rows m)) ∙ (ap parts h ∙ keeps z.id z.name z.content (unfolded_rows k) (unfolded_rows n)) in
      (ap (λ v. v.id) e, ap (λ v. v.label) e, alike_by l k (ap (λ v. v.less) e), alike_by m n (ap (λ v. v.more) e))

pub alike_same : (t u : Treap Row) → unfolded_rows t ≡ unfolded_rows u → Alike t u
alike_same t u h = alike_by (λ v. v) refl (λ id label x l m. of_row id label x l m) t u h

pub alike_refilled : (d : ℕ) (i : Unfolded) (t u : Treap Row) → unfolded_rows t ≡ refilled d i (unfolded_rows u) → Alike t u
alike_refilled d i t u h = alike_by (refilled d i) refl (λ id label x l m. of_refilled d i id label x l m) t u h

-- one of these rows has the name
abbrev pub AnyNamed : Name → List Row → Type 0
AnyNamed n rows = Any (λ (r : Row). n ≡ name.Entry (id_of r.id)) rows

picked : (n : Name) (a b : Bool) (x y z w : List Row) → (AnyNamed n x → AnyNamed n y) → (AnyNamed n z → AnyNamed n w) → AnyNamed n (cond a [] (cond b x z)) → AnyNamed n (cond a [] (cond b y w))
picked n true b x y z w f g h = h
picked n false true x y z w f g h = f h
picked n false false x y z w f g h = g h

-- the same rows are met in both on going down towards a name
pub any_alike : (label : List ℕ) (n : Name) (t u : Treap Row) → Alike t u → AnyNamed n (along (is_row_before label) (has_name label) t) → AnyNamed n (along (is_row_before label) (has_name label) u)
any_alike label n Empty Empty same h = h
any_alike label n Empty (Over z k o) same h = absurd same
any_alike label n (Over y l m) Empty same h = absurd same
any_alike label n (Over y l m) (Over z k o) same h = elim h [
  | inl e ↦ inl (e ∙ ap (λ i. name.Entry (id_of i)) same.0)
  | inr a ↦
      let s = picked n (has_name label y) (is_row_before label y) (along (is_row_before label) (has_name label) m) (along (is_row_before label) (has_name label) o) (along (is_row_before label) (has_name label) l) (along (is_row_before label) (has_name label) k) (any_alike label n m o same.3) (any_alike label n l k same.2) a in
      inr (subst (λ v. AnyNamed n (cond (has_name label (record { id = z.id; name = v; content = z.content })) [] (cond (is_row_before label (record { id = z.id; name = v; content = z.content })) (along (is_row_before label) (has_name label) o) (along (is_row_before label) (has_name label) k)))) same.1 s)
]

ways : (n : Name) (a b : Bool) (x y z w : List Row) → (AnyNamed n x → AnyNamed n y) → (AnyNamed n z → AnyNamed n w) → AnyNamed n (cond a [] (cond b x z)) → AnyNamed n (cond b y w)
ways n true b x y z w f g h = absurd h
ways n false true x y z w f g h = f h
ways n false false x y z w f g h = g h

-- what is met towards a row is met towards its name
pub along_way : (p e : Row → Bool) (n : Name) (t : Treap Row) → AnyNamed n (along p e t) → AnyNamed n (way p t)
along_way p e n Empty h = h
along_way p e n (Over y l m) h = elim h [ inl k ↦ inl k | inr a ↦ inr (ways n (e y) (p y) (along p e m) (way p m) (along p e l) (way p l) (along_way p e n m) (along_way p e n l) a) ]

-- where no row has the name, both are one
pub way_along : (p e : Row → Bool) (t : Treap Row) → Every (λ z. e z ≡ false) t → way p t ≡ along p e t
way_along p e Empty h = refl
way_along p e (Over y l m) h = ap (λ r. y ∷ r) (ap (λ a. cond (p y) a (way p l)) (way_along p e m h.2) ∙ (ap (λ a. cond (p y) (along p e m) a) (way_along p e l h.1) ∙ ap (λ b. cond b [] (cond (p y) (along p e m) (along p e l))) (sym h.0)))

pub each_of : (Q : Name → Type 0) (rows : List Row) → ((n : Name) → AnyNamed n rows → Q n) → Each (λ r. Q (name.Entry (id_of r.id))) rows
each_of Q [] f = tt
each_of Q (r ∷ rows) f = (f (name.Entry (id_of r.id)) (inl refl), each_of Q rows (λ n h. f n (inr h)))

pub any_of : (Q : Name → Type 0) (n : Name) (rows : List Row) → Each (λ r. Q (name.Entry (id_of r.id))) rows → AnyNamed n rows → Q n
any_of Q n [] h a = absurd a
any_of Q n (r ∷ rows) h a = elim a [ inl e ↦ subst Q (sym e) h.0 | inr k ↦ any_of Q n rows h.1 k ]
