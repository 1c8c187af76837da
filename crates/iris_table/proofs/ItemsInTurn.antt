-- A list whose items are changed in turn.
use Rattle.std.proofs.Common.{◌≡◌, ℕ, zero, suc, ◌+◌, ◌-◌, ◌^◌, ◌<◌, ◌≤◌, List, [], ◌∷◌, ◌++◌, length, get_or, take, drop, map, refl, sym, ◌∙◌, ap, subst, arith}
use Rattle.std.proofs.Math.ListN.{set}
use Rattle.iris_rows.specs.declared.item.Item.{Item}
use Rattle.iris_table.specs.Stops.{relabelled, AreWithin}

-- a list of which so many items are changed
module _ {A : Type 0} (f : A → A) where
  abbrev pub changed_to : ℕ → List A → List A
  changed_to k xs = map f (take k xs) ++ drop k xs

  pub changed_at : (k : ℕ) (xs : List A) (d : A) → get_or (changed_to k xs) k d ≡ get_or xs k d
  changed_at zero xs d = refl
  changed_at (suc k) [] d = refl
  changed_at (suc k) (x ∷ xs) d = changed_at k xs d

  pub changed_more : (k : ℕ) (xs : List A) (x : A) → k < length xs → x ≡ get_or xs k x → set (changed_to k xs) k (f x) ≡ changed_to (suc k) xs
  changed_more zero [] x h e = absurd (omega arith)
  changed_more zero (y ∷ xs) x h e = ap (λ z. f z ∷ xs) e
  changed_more (suc k) [] x h e = absurd (omega arith)
  changed_more (suc k) (y ∷ xs) x h e = ap (λ z. f y ∷ z) (changed_more k xs x (omega arith) e)

  pub changed_all : (k : ℕ) (xs : List A) → length xs ≤ k → changed_to k xs ≡ map f xs
  changed_all k [] h = by k where
    by : (k : ℕ) → changed_to k [] ≡ []
    by zero = refl
    by (suc k) = refl
  changed_all zero (x ∷ xs) h = absurd (omega arith)
  changed_all (suc k) (x ∷ xs) h = ap (λ z. f x ∷ z) (changed_all k xs (omega arith))

-- an item in range, whatever stands for one out of range
in_range : {A : Type 0} (k : ℕ) (xs : List A) (d e : A) → k < length xs → get_or xs k d ≡ get_or xs k e
in_range zero [] d e h = absurd (omega arith)
in_range zero (x ∷ xs) d e h = refl
in_range (suc k) [] d e h = absurd (omega arith)
in_range (suc k) (x ∷ xs) d e h = in_range k xs d e (omega arith)

within_at : (a b k : ℕ) (xs : List Item) (d : Item) → AreWithin a b xs → k < length xs → (a ≤ (get_or xs k d).depth) × ((get_or xs k d).depth - a + b < 2 ^ 64)
within_at a b zero [] d w h = absurd (omega arith)
within_at a b zero (x ∷ xs) d w h = (w.0, w.1)
within_at a b (suc k) [] d w h = absurd (omega arith)
within_at a b (suc k) (x ∷ xs) d w h = within_at a b k xs d w.2 (omega arith)

pub relabel_within : (a b k : ℕ) (xs run : List Item) (d : Item) → AreWithin a b xs → run ≡ changed_to (relabelled a b) k xs → k < length xs → (a ≤ (get_or run k d).depth) × ((get_or run k d).depth - a + b < 2 ^ 64)
relabel_within a b k xs run d w e h = let Q : Item → Type 0 = λ i. (a ≤ i.depth) × (i.depth - a + b < 2 ^ 64) in
    subst Q (sym (ap (λ z. get_or z k d) e ∙ changed_at (relabelled a b) k xs d)) (within_at a b k xs d w h)

pub relabel_more : (a b k : ℕ) (xs run : List Item) (r s : Item) → run ≡ changed_to (relabelled a b) k xs → k < length xs → r ≡ get_or run k r
    → set run k (record { depth = (get_or run k r).depth - a + b; id = (get_or run k s).id; name = (get_or run k s).name; file = (get_or run k s).file }) ≡ changed_to (relabelled a b) (k + 1) xs
relabel_more a b k xs run r s e h p =
    let at_r : r ≡ get_or xs k r = p ∙ ap (λ z. get_or z k r) e ∙ changed_at (relabelled a b) k xs r in
    let at_s : get_or run k s ≡ r = ap (λ z. get_or z k s) e ∙ changed_at (relabelled a b) k xs s ∙ in_range k xs s r h ∙ sym at_r in
    ap (λ z. set run k (record { depth = z.depth - a + b; id = (get_or run k s).id; name = (get_or run k s).name; file = (get_or run k s).file })) (sym p)
    ∙ ap (λ z. set run k (record { depth = r.depth - a + b; id = z.id; name = z.name; file = z.file })) at_s
    ∙ ap (λ z. set z k (relabelled a b r)) e ∙ changed_more (relabelled a b) k xs r h at_r ∙ (let j : suc k ≡ k + 1 = omega arith in ap (λ z. changed_to (relabelled a b) z xs) j)
