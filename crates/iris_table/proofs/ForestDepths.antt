-- Items stay a forest in preorder.
use Rattle.std.proofs.Common.{◌≡◌, inl, inr, ℕ, zero, suc, ◌+◌, ◌-◌, ◌^◌, ◌<◌, ◌≤◌, List, [], ◌∷◌, ◌++◌, length, take, drop, map, Bool, true, false, cond, Option, Some, None, refl, sym, ap, subst, arith}
use Rattle.std.proofs.lemmas.List.{append-nil}
use Rattle.iris_plain.specs.Routes.{is_name_before}
use Rattle.iris_rows.specs.declared.item.Item.{Item}
use Rattle.iris_rows.specs.Places.{StoredPlaces}
use Rattle.iris_rows.specs.Items.{most_depth, IsForestTo}
use Rattle.iris_table.specs.Stops.{deeper, room, relabelled, AreDeeper, AreWithin}
use Rattle.iris_rows.proofs.GrownRows.{lt_true, lt_false, compared}

-- how deep the item at a place may lie
abbrev pub most_at : ℕ → ℕ → List Item → ℕ
most_at m zero items = m
most_at m (suc k) [] = m
most_at m (suc k) (i ∷ items) = most_at (most_depth i i.file) k items

pub forest_from : (m k : ℕ) (items : List Item) → IsForestTo m items → IsForestTo (most_at m k items) (drop k items)
forest_from m zero items f = f
forest_from m (suc k) [] f = tt
forest_from m (suc k) (i ∷ items) f = forest_from (most_depth i i.file) k items f.1

pub forest_joined : (m k : ℕ) (items new : List Item) → IsForestTo m items → IsForestTo (most_at m k items) new → IsForestTo m (take k items ++ new)
forest_joined m zero items new f g = g
forest_joined m (suc k) [] new f g = g
forest_joined m (suc k) (i ∷ items) new f g = (f.0, forest_joined (most_depth i i.file) k items new f.1 g)

pub most_least : (i : Item) (f : Option StoredPlaces) → i.depth ≤ most_depth i f
most_least i None = omega arith
most_least i (Some f) = omega arith

pub most_most : (i : Item) (f : Option StoredPlaces) → most_depth i f ≤ i.depth + 1
most_most i None = omega arith
most_most i (Some f) = omega arith

pub forest_wider : (m n : ℕ) (items : List Item) → m ≤ n → IsForestTo m items → IsForestTo n items
forest_wider m n [] h f = tt
forest_wider m n (i ∷ items) h f = (omega (arith, f.0), f.1)

pub forest_front : (m k : ℕ) (items : List Item) → IsForestTo m items → IsForestTo m (take k items)
forest_front m zero items f = tt
forest_front m (suc k) [] f = tt
forest_front m (suc k) (i ∷ items) f = (f.0, forest_front (most_depth i i.file) k items f.1)

-- after a run that is taken out
pub forest_after : (m d e : ℕ) (items : List Item) → d ≤ e → IsForestTo m items → IsForestTo e (drop (deeper d items) items)
forest_after m d e [] h f = tt
forest_after m d e (i ∷ items) h f = elim (compared d i.depth) [
  | inl l ↦ let Q : ℕ → Type 0 = λ k. IsForestTo e (drop k (i ∷ items)) in let x : deeper d (i ∷ items) ≡ suc (deeper d items) = rw (lt_true d i.depth l) refl in subst Q (sym x) (forest_after (most_depth i i.file) d e items h f.1)
  | inr r ↦ let g : i.depth ≤ d = elim r [ inl l ↦ omega arith | inr s ↦ omega arith ] in let Q : ℕ → Type 0 = λ k. IsForestTo e (drop k (i ∷ items)) in let x : deeper d (i ∷ items) ≡ 0 = rw (lt_false d i.depth g) refl in subst Q (sym x) (omega arith, f.1)
]

-- the first item, where there is one, lies at most this deep
abbrev pub IsLow : ℕ → List Item → Type 0
IsLow d [] = Unit {0}
IsLow d (i ∷ items) = i.depth ≤ d

low_forest : (d m n : ℕ) (items : List Item) → IsLow d items → d ≤ n → IsForestTo m items → IsForestTo n items
low_forest d m n [] l h f = tt
low_forest d m n (i ∷ items) l h f = (omega arith, f.1)

-- a run with what follows it
forest_run : (d m n : ℕ) (r : Item) (rs items : List Item) → d ≤ r.depth → AreDeeper d rs → IsForestTo m (r ∷ rs) → IsLow d items → IsForestTo n items → IsForestTo m ((r ∷ rs) ++ items)
forest_run d m n r [] items h a f l g = (f.0, low_forest d n (most_depth r r.file) items l (let x = most_least r r.file in omega arith) g)
forest_run d m n r (s ∷ rs) items h a f l g = (f.0, forest_run d (most_depth r r.file) n s rs items (omega (arith, a.0)) a.1 f.1 l g)

module _ (d : ℕ) (r : Item) (rs : List Item) (here : r.depth ≡ d) (deep : AreDeeper d rs) (forest : IsForestTo d (r ∷ rs)) where
  -- a run put into a directory
  pub forest_put : (m : ℕ) (items : List Item) → d ≤ m → IsForestTo m items → IsForestTo m (take (room d r.name items) items ++ ((r ∷ rs) ++ drop (room d r.name items) items))
  forest_put m [] h f = forest_wider d m ((r ∷ rs) ++ []) h (let Q : List Item → Type 0 = λ x. IsForestTo d (r ∷ x) in subst Q (sym (append-nil rs)) forest)
  forest_put m (x ∷ xs) h f = elim (compared x.depth d) [
    | inl l ↦ let k : room d r.name (x ∷ xs) ≡ 0 = rw (lt_true x.depth d l) refl in let Q : ℕ → Type 0 = λ k. IsForestTo m (take k (x ∷ xs) ++ ((r ∷ rs) ++ drop k (x ∷ xs))) in
        subst Q (sym k) (forest_run d m m r rs (x ∷ xs) (omega arith) deep (forest_wider d m (r ∷ rs) h forest) (omega arith) f)
    | inr s ↦ elim s [
      | inl l ↦ let k : room d r.name (x ∷ xs) ≡ suc (room d r.name xs) = rw (lt_false x.depth d (omega arith), lt_true d x.depth l) refl in let Q : ℕ → Type 0 = λ k. IsForestTo m (take k (x ∷ xs) ++ ((r ∷ rs) ++ drop k (x ∷ xs))) in
          subst Q (sym k) (f.0, forest_put (most_depth x x.file) xs (let y = most_least x x.file in omega arith) f.1)
      | inr t ↦ let k : room d r.name (x ∷ xs) ≡ cond (is_name_before r.name x.name) 0 (suc (room d r.name xs)) = rw (lt_false x.depth d (omega arith), lt_false d x.depth (omega arith)) refl in let Q : ℕ → Type 0 = λ k. IsForestTo m (take k (x ∷ xs) ++ ((r ∷ rs) ++ drop k (x ∷ xs))) in
          subst Q (sym k) (by (is_name_before r.name x.name) (forest_run d m m r rs (x ∷ xs) (omega arith) deep (forest_wider d m (r ∷ rs) h forest) (omega arith) f)
          (f.0, forest_put (most_depth x x.file) xs (let y = most_least x x.file in omega arith) f.1))
    ]
  ] where
    by : (b : Bool) → IsForestTo m ((r ∷ rs) ++ (x ∷ xs)) → IsForestTo m (x ∷ (take (room d r.name xs) xs ++ ((r ∷ rs) ++ drop (room d r.name xs) xs))) → IsForestTo m (take (cond b 0 (suc (room d r.name xs))) (x ∷ xs) ++ ((r ∷ rs) ++ drop (cond b 0 (suc (room d r.name xs))) (x ∷ xs)))
    by true p q = p
    by false p q = q

-- a run at another depth
pub forest_relabelled : (d e m : ℕ) (items : List Item) → AreWithin d e items → d ≤ m → IsForestTo m items → IsForestTo (m - d + e) (map (relabelled d e) items)
forest_relabelled d e m [] a h f = tt
forest_relabelled d e m (i ∷ items) a h f = (omega (arith, a.0, f.0), by i.file (forest_relabelled d e (most_depth i i.file) items a.2 (let x = most_least i i.file in omega (arith, a.0)) f.1)) where
  by : (g : Option StoredPlaces) → IsForestTo (most_depth i g - d + e) (map (relabelled d e) items) → IsForestTo (most_depth (relabelled d e i) g) (map (relabelled d e) items)
  by None p = let Q : ℕ → Type 0 = λ x. IsForestTo x (map (relabelled d e) items) in let x : i.depth + 1 - d + e ≡ i.depth - d + e + 1 = omega (arith, a.0) in subst Q x p
  by (Some g) p = p

-- depths of a forest fit
pub forest_within : (d e m : ℕ) (items : List Item) → AreDeeper d items → IsForestTo m items → m + length items + e < 2 ^ 64 → AreWithin d e items
forest_within d e m [] a f h = tt
forest_within d e m (i ∷ items) a f h = (omega (arith, a.0), omega (arith, a.0, f.0), forest_within d e (most_depth i i.file) items a.1 f.1 (let x = most_most i i.file in omega (arith, f.0)))

pub most_bound : (m k : ℕ) (items : List Item) → IsForestTo m items → most_at m k items ≤ m + k
most_bound m zero items f = omega arith
most_bound m (suc k) [] f = omega arith
most_bound m (suc k) (i ∷ items) f = let x = most_bound (most_depth i i.file) k items f.1 in let y = most_most i i.file in omega (arith, f.0)

pub relabelled_deeper : (d e : ℕ) (items : List Item) → AreDeeper d items → AreDeeper e (map (relabelled d e) items)
relabelled_deeper d e [] a = tt
relabelled_deeper d e (i ∷ items) a = (omega (arith, a.0), relabelled_deeper d e items a.1)

-- no item lies deeper than the items before it are many
pub forest_bound : (m k : ℕ) (items : List Item) (i : Item) (others : List Item) → IsForestTo m items → drop k items ≡ i ∷ others → i.depth ≤ m + k
forest_bound m zero [] i others f e = absurd (cc)
forest_bound m (suc k) [] i others f e = absurd (cc)
forest_bound m zero (x ∷ xs) i others f e = let y : x ≡ i = cc in let z : x.depth ≡ i.depth = ap (λ w. w.depth) y in omega (arith, f.0)
forest_bound m (suc k) (x ∷ xs) i others f e = let y = forest_bound (most_depth x x.file) k xs i others f.1 e in let z = most_most x x.file in omega (arith, f.0)
