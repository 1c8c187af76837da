-- What a renaming reaches with the row in hand is reached before.
use Rattle.std.proofs.Common.{◌≡◌, ◌∙◌, ◌⊎◌, ◌++◌, ◌&&◌, ◌||◌, ◌==◌, nat_lt, not, ℕ, List, [], ◌∷◌, Bool, true, false, cond, Option, Some, None, IsSome, refl, sym, ap, subst, inl, inr, arith}
use Rattle.std.proofs.lemmas.Bool.Decides.{nat_tests}
use Rattle.std.proofs.lemmas.Bool.{eqb-true}
use Rattle.std.proofs.Common.{eq-eqb}
use Rattle.std.specs.Option.{option_map}
use Rattle.iris_name.specs.Hmac.{priority}
use Rattle.iris_name.specs.declared.name.FileId.{FileId}
use Rattle.iris_name.specs.declared.name.Name.{Name}
use Rattle.iris_name.specs.declared.name.Name.TheVariants as name
use Rattle.iris_node.specs.Trees.{Shown, IsTree}
use Rattle.iris_node.specs.Unfolded.{Unfolded, Absent, Folder, Leaf, Even, Split, Stored, id_of}
use Rattle.iris_shape.specs.Order.{less_name}
use Rattle.iris_shape.specs.Treap.{Treap, Empty, Over, treap, rows, remove, rows_without, way, near, Each, Every, Falls}
use Rattle.iris_shape.proofs.Orders.{ranks, all_apart, falls, parts}
use Rattle.iris_shape.proofs.Treaps.{every_treap, rows_treap, treap_without}
use Rattle.iris_shape.proofs.Ways.{way_remove}
use Rattle.iris_treepaths.specs.Rows.{Row, row_id, row_name, Content, Directory, File, HasRows, IsFolderOf, Rearranges, treap_of_rows, unfolded_rows, entry_of, row_entry, refilled, has_id, up}
use Rattle.iris_treepaths.specs.Ways.{Any, IsNamed, along, along_name, near_name, is_row_before, has_name}
use Rattle.iris_treepaths.proofs.Likes.{Placed, placed_rows}
use Rattle.iris_paths.proofs.Alike.{Alike, alike_same, alike_refilled, any_alike, along_way, way_along, each_of, any_of, AnyNamed}

-- names of which neither is less than the other are one
less_same : (a b : List ℕ) → less_name a b ≡ false → less_name b a ≡ false → a ≡ b
less_same [] [] h k = refl
less_same [] (y ∷ b) h k = cc
less_same (x ∷ a) [] h k = cc
less_same (x ∷ a) (y ∷ b) h k = both x y a b (head x y _ _ h k) (less_same a b (tail x y _ _ h k) (tail y x _ _ k h))
  where
    head : (x y : ℕ) (s t : Bool) → (nat_lt x y || ((x == y) && s)) ≡ false → (nat_lt y x || ((y == x) && t)) ≡ false → x ≡ y
    head x y s t h k = grind (arith, nat_tests)

    tail : (x y : ℕ) (s t : Bool) → (nat_lt x y || ((x == y) && s)) ≡ false → (nat_lt y x || ((y == x) && t)) ≡ false → s ≡ false
    tail x y s t h k = grind (arith, nat_tests)

    both : (x y : ℕ) (a b : List ℕ) → x ≡ y → a ≡ b → x ∷ a ≡ y ∷ b
    both x y a b h k = cc

named_by : (a b : Bool) → (not a && not b) ≡ true → (a ≡ false) × (b ≡ false)
named_by true b h = cc
named_by false true h = cc
named_by false false h = (refl, refl)

named_is : (n : List ℕ) (r : Row) → has_name n r ≡ true → r.name ≡ n
named_is n r h = let k = named_by (less_name r.name n) (less_name n r.name) h in less_same r.name n k.0 k.1

named_off : (b : Bool) (P : Type 0) → (b ≡ true → P) → (P → ⊥) → b ≡ false
named_off true P f g = absurd (g (f refl))
named_off false P f g = refl

none_named : (n : List ℕ) (xs : List Row) → IsNamed xs n None → Each (λ z. has_name n z ≡ false) xs
none_named n [] h = tt
none_named n (r ∷ xs) h = (named_off (has_name n r) (r.name ≡ n) (named_is n r) h.0, none_named n xs h.1)

-- ---- what stands in the table

picks : (n : Name) (a b : Bool) (x y : List Row) (G : Type 0) → (AnyNamed n x → G) → (AnyNamed n y → G) → AnyNamed n (cond a [] (cond b x y)) → G
picks n true b x y G f g h = absurd h
picks n false true x y G f g h = f h
picks n false false x y G f g h = g h

either : (n : Name) (b : Bool) (x y : List Row) (G : Type 0) → (AnyNamed n x → G) → (AnyNamed n y → G) → AnyNamed n (cond b x y) → G
either n true x y G f g h = f h
either n false x y G f g h = g h

live_row : (t : Shown) (n p : Name) (u : Unfolded) → n ≡ p → t p ≡ Some u → IsSome (t n)
live_row t n p u e h = let a = ap t e ∙ h in cc

pub live_along : (t : Shown) (w : Treap Row) (p e : Row → Bool) (n : Name) → Placed t w → AnyNamed n (along p e w) → IsSome (t n)
live_along t Empty p e n placed h = absurd h
live_along t (Over y l m) p e n placed h = elim h [
  | inl k ↦ live_row t n _ _ k placed.0
  | inr k ↦ picks n (e y) (p y) (along p e m) (along p e l) (IsSome (t n)) (live_along t m p e n placed.2) (live_along t l p e n placed.1) k
]

live_way : (t : Shown) (w : Treap Row) (p : Row → Bool) (n : Name) → Placed t w → AnyNamed n (way p w) → IsSome (t n)
live_way t Empty p n placed h = absurd h
live_way t (Over y l m) p n placed h = elim h [
  | inl k ↦ live_row t n _ _ k placed.0
  | inr k ↦ either n (p y) (way p m) (way p l) (IsSome (t n)) (live_way t m p n placed.2) (live_way t l p n placed.1) k
]

any_split : (n : Name) (a b : List Row) → AnyNamed n (a ++ b) → AnyNamed n a ⊎ AnyNamed n b
any_split n [] b h = inr h
any_split n (x ∷ a) b h = elim h [ inl k ↦ inl (inl k) | inr k ↦ elim (any_split n a b k) [ inl g ↦ inl (inr g) | inr g ↦ inr g ] ]

near_picks : (n : Name) (a b : Bool) (x y z w : List Row) (G : Type 0) → (AnyNamed n x → G) → (AnyNamed n y → G) → (AnyNamed n z → G) → (AnyNamed n w → G) → AnyNamed n (cond a (x ++ y) (cond b z w)) → G
near_picks n true b x y z w G f g h k a = elim (any_split n x y a) [ inl c ↦ f c | inr c ↦ g c ]
near_picks n false true x y z w G f g h k a = h a
near_picks n false false x y z w G f g h k a = k a

pub live_near : (t : Shown) (w : Treap Row) (p e : Row → Bool) (n : Name) → Placed t w → AnyNamed n (near p e w) → IsSome (t n)
live_near t Empty p e n placed h = absurd h
live_near t (Over y l m) p e n placed h = elim h [
  | inl k ↦ live_row t n _ _ k placed.0
  | inr k ↦ near_picks n (e y) (p y) (way (λ _. true) l) (way (λ _. false) m) (near p e m) (near p e l) (IsSome (t n))
      (live_way t l (λ _. true) n placed.1) (live_way t m (λ _. false) n placed.2) (live_near t m p e n placed.2) (live_near t l p e n placed.1) k
]

pub live_folder : (i : ℕ) (a : Unfolded) (o : Option Unfolded) → IsFolderOf i a o → IsSome o
live_folder i a None f = absurd f
live_folder i a (Some u) f = refl

-- ---- one directory

folder_one : (i : ℕ) (a b : Unfolded) (o : Option Unfolded) → IsFolderOf i a o → IsFolderOf i b o → a ≡ b
folder_one i a b None f g = absurd f
folder_one i a b (Some (Folder id label less more kept)) f g = sym f.1 ∙ g.1
folder_one i a b (Some (Leaf id label less more size counter versions)) f g = absurd f
folder_one i a b (Some Absent) f g = absurd f
folder_one i a b (Some (Even version)) f g = absurd f
folder_one i a b (Some (Split h level index low high)) f g = absurd f
folder_one i a b (Some (Stored version bytes)) f g = absurd f

same_rows : (key : List ℕ) (i : FileId) (t : Shown) (xs ys : List Row) → HasRows t key i xs → HasRows t key i ys → Alike (treap (up key) xs) (treap (up key) ys)
unfolding treap_of_rows
same_rows key i t xs ys h k = alike_same (treap (up key) xs) (treap (up key) ys) (folder_one i.0 _ _ (t (name.Entry i)) h.entry k.entry)

removed : (key n : List ℕ) (xs : List Row) (t : Shown) (i : FileId) → HasRows t key i xs → treap (up key) (rows_without (has_name n) xs) ≡ remove (up key) (is_row_before n) (has_name n) (treap (up key) xs)
removed key n xs t i h = treap_without (up key) (ranks (priority key) row_id) (is_row_before n) (has_name n) xs (all_apart (priority key) row_id xs h.distinct) (falls row_name n xs h.rising) (parts row_name n (has_name n) xs (named_is n) h.rising)

-- going down towards a new name in the rows without one meets what is met towards it in all rows, or near that one
pub same_reach : (key gone label : List ℕ) (t u : Shown) (i : FileId) (xs others : List Row) (Q : Name → Type 0) → HasRows t key i xs → HasRows u key i (rows_without (has_name gone) xs) → HasRows u key i others → IsNamed xs label None
    → ((n : Name) → AnyNamed n (along_name label key xs) → Q n) → ((n : Name) → AnyNamed n (near_name gone key xs) → Q n) → (n : Name) → AnyNamed n (along_name label key others) → Q n
same_reach key gone label t u i xs others Q has left mine free first next n h =
    let w = treap (up key) xs in
    let off : Every (λ z. has_name label z ≡ false) w = every_treap (λ z. has_name label z ≡ false) (up key) xs (none_named label xs free) in
    let a = each_of Q (way (is_row_before label) w) (λ m k. first m (subst (λ l. AnyNamed m l) (way_along (is_row_before label) (has_name label) w off) k)) in
    let b = each_of Q (near (is_row_before gone) (has_name gone) w) next in
    let f = subst (λ l. Falls (is_row_before label) l) (sym (rows_treap (up key) xs)) (falls row_name label xs has.rising) in
    let each = way_remove (up key) (is_row_before gone) (has_name gone) (is_row_before label) (λ z. Q (name.Entry (id_of z.id))) w f a b in
    let k = any_alike label n (treap (up key) others) (treap (up key) (rows_without (has_name gone) xs)) (same_rows key i u others (rows_without (has_name gone) xs) mine left) h in
    any_of Q n (way (is_row_before label) (remove (up key) (is_row_before gone) (has_name gone) w)) each
    (along_way (is_row_before label) (has_name label) n (remove (up key) (is_row_before gone) (has_name gone) w) (subst (λ v. AnyNamed n (along (is_row_before label) (has_name label) v)) (removed key gone xs t i has) k))

-- ---- another directory

abbrev IsIn : Row → List Row → Type 0
IsIn z xs = Any (λ (r : Row). r ≡ z) xs

kept_in : (e : Row → Bool) (z : Row) (xs : List Row) → IsIn z (rows_without e xs) → IsIn z xs
kept_in e z [] h = h
kept_in e z (y ∷ xs) h = by (e y) (kept_in e z xs) h
  where
    by : (b : Bool) → (IsIn z (rows_without e xs) → IsIn z xs) → IsIn z (cond b (rows_without e xs) (y ∷ rows_without e xs)) → IsIn z (y ∷ xs)
    by true f h = inr (f h)
    by false f h = elim h [ inl k ↦ inl k | inr k ↦ inr (f k) ]

id_in : (i : ℕ) (xs : List Row) → has_id i xs ≡ true → (z : Row) × IsIn z xs × (z.id ≡ i)
id_in i [] h = cc
id_in i (y ∷ xs) h = by (y.id == i) refl (id_in i xs) h
  where
    by : (b : Bool) → (y.id == i) ≡ b → (has_id i xs ≡ true → (z : Row) × IsIn z xs × (z.id ≡ i)) → (b || has_id i xs) ≡ true → (z : Row) × IsIn z (y ∷ xs) × (z.id ≡ i)
    by true e f h = (y, inl refl, eqb-true y.id i e)
    by false e f h = let r = f h in (r.0, inr r.1, r.2)

split_in : (z : Row) (a b : List Row) → IsIn z (a ++ b) → IsIn z a ⊎ IsIn z b
split_in z [] b h = inr h
split_in z (x ∷ a) b h = elim h [ inl k ↦ inl (inl k) | inr k ↦ elim (split_in z a b k) [ inl g ↦ inl (inr g) | inr g ↦ inr g ] ]

placed_at : (t : Shown) (w : Treap Row) (z : Row) → Placed t w → IsIn z (rows w) → (l : Unfolded) × (m : Unfolded) × (t (name.Entry (id_of z.id)) ≡ Some (row_entry z l m))
placed_at t Empty z placed h = absurd h
placed_at t (Over y l m) z placed h = elim (split_in z (rows l) (y ∷ rows m) h) [
  | inl k ↦ placed_at t l z placed.1 k
  | inr k ↦ elim k [
    | inl e ↦ (unfolded_rows l, unfolded_rows m, subst (λ r. t (name.Entry (id_of r.id)) ≡ Some (row_entry r (unfolded_rows l) (unfolded_rows m))) e placed.0)
    | inr g ↦ placed_at t m z placed.2 g
  ]
]

content_is : (j : ℕ) (a : Unfolded) (id : ℕ) (label : List ℕ) (x : Content) (l m : Unfolded) → IsFolderOf j a (Some (entry_of id label x l m)) → x ≡ Directory a
content_is j a id label (Directory inside) l m h = ap Directory h.1
content_is j a id label (File size counter versions) l m h = absurd h

inside_of : Content → Unfolded
inside_of (Directory inside) = inside
inside_of (File size counter versions) = Absent

directory_one : (a b : Unfolded) → Directory a ≡ Directory b → a ≡ b
unfolding inside_of
directory_one a b h = ap inside_of h

refill_folder : (i : ℕ) (w : Unfolded) (j : ℕ) (a b : Unfolded) (o p : Option Unfolded) → (j ≡ i → ⊥) → IsFolderOf j a o → p ≡ option_map (refilled i w) o → IsFolderOf j b p → b ≡ refilled i w a
refill_folder i w j a b None p off f e g = absurd f
refill_folder i w j a b (Some (Folder id label less more kept)) p off f e g =
    let k = subst (IsFolderOf j b) e g in
    let no = named_off (id == i) (id ≡ i) (eqb-true id i) (λ z. off (sym f.0 ∙ z)) in
    sym k.1 ∙ (ap (λ c. cond c w (refilled i w kept)) no ∙ ap (refilled i w) f.1)
refill_folder i w j a b (Some (Leaf id label less more size counter versions)) p off f e g = absurd f
refill_folder i w j a b (Some Absent) p off f e g = absurd f
refill_folder i w j a b (Some (Even version)) p off f e g = absurd f
refill_folder i w j a b (Some (Split h level index low high)) p off f e g = absurd f
refill_folder i w j a b (Some (Stored version bytes)) p off f e g = absurd f

no_folder : (j : ℕ) (a : Unfolded) (o : Option Unfolded) → o ≡ None → IsFolderOf j a o → ⊥
no_folder j a o e f = subst (IsFolderOf j a) e f

or_true : (b : Bool) → (b || true) ≡ true
or_true true = refl
or_true false = refl

in_id : (z : Row) (ys : List Row) (i : ℕ) → IsIn z ys → z.id ≡ i → has_id i ys ≡ true
in_id z [] i g q = absurd g
in_id z (y ∷ ys) i g q = elim g [
  | inl s ↦ ap (λ b. b || has_id i ys) (eq-eqb y.id i (ap row_id s ∙ q))
  | inr s ↦ ap (λ b. (y.id == i) || b) (in_id z ys i s q) ∙ or_true (y.id == i)
]

away : (i : ℕ) (e : Row → Bool) (xs : List Row) (b : Bool) → has_id i xs ≡ false → has_id i (rows_without e xs) ≡ b → b ≡ false
away i e xs false h k = refl
away i e xs true h k = let r = id_in i (rows_without e xs) k in let t = in_id r.0 xs i (kept_in e r.0 xs r.1) r.2 in cc

module _ (key gone : List ℕ) (t u : Shown) (i j : FileId) (xs others ys : List Row) (was : IsTree t) (is : IsTree u) (off : j.0 ≡ i.0 → ⊥)
    (has : HasRows t key i xs) (arranges : Rearranges t u key i xs (rows_without (has_name gone) xs)) (mine : HasRows t key j ys) (then : HasRows u key j others) where
  inside_same : (b c : Bool) → has_id j.0 xs ≡ b → has_id j.0 (rows_without (has_name gone) xs) ≡ c → Alike (treap (up key) others) (treap (up key) ys)
  unfolding treap_of_rows
  inside_same false c h k =
      let e = arranges.others (name.Entry j) (h, k ∙ away j.0 (has_name gone) xs c h k) in
      alike_refilled i.0 (treap_of_rows key (rows_without (has_name gone) xs)) (treap (up key) others) (treap (up key) ys)
      (refill_folder i.0 (treap_of_rows key (rows_without (has_name gone) xs)) j.0 (treap_of_rows key ys) (treap_of_rows key others) (t (name.Entry j)) (u (name.Entry j)) off mine.entry e then.entry)
  inside_same true false h k = absurd (no_folder j.0 (treap_of_rows key others) (u (name.Entry j)) (arranges.gone j h k) then.entry)
  inside_same true true h k =
      let r = id_in j.0 (rows_without (has_name gone) xs) k in
      let z = r.0 in
      let same : id_of z.id ≡ j = ap id_of r.2 in
      let a = placed_at t (treap (up key) xs) z (placed_rows t key i xs was has) (subst (IsIn z) (sym (rows_treap (up key) xs)) (kept_in (has_name gone) z xs r.1)) in
      let b = placed_at u (treap (up key) (rows_without (has_name gone) xs)) z (placed_rows u key i (rows_without (has_name gone) xs) is arranges.rows) (subst (IsIn z) (sym (rows_treap (up key) (rows_without (has_name gone) xs))) r.1) in
      let f = content_is j.0 (treap_of_rows key ys) z.id z.name z.content a.0 a.1 (subst (IsFolderOf j.0 (treap_of_rows key ys)) (sym (ap (λ k. t (name.Entry k)) same) ∙ a.2) mine.entry) in
      let g = content_is j.0 (treap_of_rows key others) z.id z.name z.content b.0 b.1 (subst (IsFolderOf j.0 (treap_of_rows key others)) (sym (ap (λ k. u (name.Entry k)) same) ∙ b.2) then.entry) in
      alike_same (treap (up key) others) (treap (up key) ys) (directory_one (treap_of_rows key others) (treap_of_rows key ys) (sym g ∙ f))

  -- another directory goes on having rows of these ids and names
  pub other_alike : Alike (treap (up key) others) (treap (up key) ys)
  other_alike = inside_same (has_id j.0 xs) (has_id j.0 (rows_without (has_name gone) xs)) refl refl
