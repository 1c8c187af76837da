use Rattle.std.proofs.Common.{◌≡◌, ◌≢◌, ◌⊎◌, inl, inr, ℕ, List, ◌∷◌, Bool, true, false, cond, Option, Some, None, refl, sym, ◌∙◌, ap, subst}
use Rattle.std.specs.Cmp.Lexicographic.{bytes_decides}
use Rattle.iris_rows.specs.Rows.{Rows, End, Row, Taken, find, with_row, without_row, at}
use Rattle.std.specs.Str.{bytes_eq as same}
use Rattle.iris_plain.specs.Routes.{is_name_before}
use Rattle.iris_rows.specs.Sound.{IsDistinct}
use Rattle.iris_rows.proofs.RowHolding.{holding, mapped}

pub same_tells : (a b : List ℕ) → ((same a b ≡ true) × (a ≡ b)) ⊎ ((same a b ≡ false) × (a ≢ b))
same_tells a b = by (same a b) (bytes_decides a b) where
  by : (r : Bool) → (r ≡ true → a ≡ b) × (a ≡ b → r ≡ true) → ((r ≡ true) × (a ≡ b)) ⊎ ((r ≡ false) × (a ≢ b))
  by true d = inl (refl, d.0 refl)
  by false d = inr (refl, λ e. absurd (let h = d.1 e in cc))

pub either : (b : Bool) (o : Option Taken) → o ≡ cond b o o
either true o = refl
either false o = refl

-- two names that differ
pub apart : (m n k : List ℕ) → same n k ≡ false → same m k ≡ true → same m n ≡ true → ⊥
apart m n k h p q = elim (same_tells n k) [
  | inl e ↦ absurd (let x = e.0 in cc)
  | inr e ↦ elim (same_tells m k) [
    | inl f ↦ elim (same_tells m n) [ inl g ↦ e.1 (sym g.1 ∙ f.1) | inr g ↦ absurd (let x = g.0 in cc) ]
    | inr f ↦ absurd (let x = f.0 in cc)
  ]
]

swapped : {A : Type 0} (a b : Bool) (x y z w : A) → (a ≡ true → b ≡ true → ⊥) → w ≡ cond b y z → cond a x w ≡ cond b y (cond a x z)
swapped true true x y z w n e = absurd (n refl refl)
swapped true false x y z w n e = refl
swapped false b x y z w n e = e

-- a test that failed, with what came then
pub past : (b : Bool) (x : Taken) (o : Option Taken) → cond b (Some x) o ≡ None → (b ≡ false) × (o ≡ None)
past true x o e = absurd (cc)
past false x o e = (refl, e)

pub find_put : (m n : List ℕ) (new : Taken) (rows : Rows) → find n rows ≡ None → find m (with_row n new rows) ≡ cond (same m n) (Some new) (find m rows)
find_put m n new End h = refl
find_put m n new (Row id name file inside next) h =
    let p = past (same n name) _ _ h in by (is_name_before n name) p.0 (find_put m n new next p.1) where
      by : (b : Bool) → same n name ≡ false → find m (with_row n new next) ≡ cond (same m n) (Some new) (find m next)
          → find m (cond b (Row new.id n new.file new.inside (Row id name file inside next)) (Row id name file inside (with_row n new next)))
          ≡ cond (same m n) (Some new) (cond (same m name) (Some (record { id = id; file = file; inside = inside })) (find m next))
      by true f e = refl
      by false f e = swapped (same m name) (same m n) _ _ _ _ (apart m n name f) e

pub find_without : (m n : List ℕ) (rows : Rows) → IsDistinct rows → find m (without_row n rows) ≡ cond (same m n) None (find m rows)
find_without m n End d = either (same m n) None
find_without m n (Row id name file inside next) d = elim (same_tells n name) [
  | inl e ↦ subst (λ b. find m (cond b next (Row id name file inside (without_row n next))) ≡ cond (same m n) None (cond (same m name) (Some x) (find m next))) (sym e.0)
      (subst (λ k. find m next ≡ cond (same m k) None (cond (same m name) (Some x) (find m next))) (sym e.1) (here (same_tells m name)))
  | inr e ↦ subst (λ b. find m (cond b next (Row id name file inside (without_row n next))) ≡ cond (same m n) None (cond (same m name) (Some x) (find m next))) (sym e.0)
      (swapped (same m name) (same m n) _ _ _ _ (apart m n name e.0) (find_without m n next d.2))
] where
  x : Taken
  x = record { id = id; file = file; inside = inside }

  here : ((same m name ≡ true) × (m ≡ name)) ⊎ ((same m name ≡ false) × (m ≢ name)) → find m next ≡ cond (same m name) None (cond (same m name) (Some x) (find m next))
  here (inl f) = rw f.0 (ap (λ k. find k next) f.1 ∙ d.0)
  here (inr f) = rw f.0 refl

-- a change of the rows inside the row of a name
pub find_at : (m n : List ℕ) (ns : List (List ℕ)) (f : Rows → Rows) (rows : Rows)
    → find m (at (n ∷ ns) f rows) ≡ cond (same m n) (mapped (λ row. holding (at ns f row.inside) row) (find m rows)) (find m rows)
find_at m n ns f End = either (same m n) None
find_at m n ns f (Row id name file inside next) = elim (same_tells n name) [
  | inl e ↦ subst (λ b. find m (cond b (Row id name file (at ns f inside) next) (Row id name file inside (at (n ∷ ns) f next))) ≡ cond (same m n) (mapped g (cond (same m name) (Some x) (find m next))) (cond (same m name) (Some x) (find m next))) (sym e.0)
      (subst (λ k. cond (same m name) (Some (g x)) (find m next) ≡ cond (same m k) (mapped g (cond (same m name) (Some x) (find m next))) (cond (same m name) (Some x) (find m next))) (sym e.1) (here (same m name)))
  | inr e ↦ subst (λ b. find m (cond b (Row id name file (at ns f inside) next) (Row id name file inside (at (n ∷ ns) f next))) ≡ cond (same m n) (mapped g (cond (same m name) (Some x) (find m next))) (cond (same m name) (Some x) (find m next))) (sym e.0)
      (later (same m name) (same m n) (apart m n name e.0) (find_at m n ns f next))
] where
  x : Taken
  x = record { id = id; file = file; inside = inside }

  g : Taken → Taken
  g row = holding (at ns f row.inside) row

  here : (b : Bool) → cond b (Some (g x)) (find m next) ≡ cond b (mapped g (cond b (Some x) (find m next))) (cond b (Some x) (find m next))
  here true = refl
  here false = refl

  later : (a b : Bool) → (a ≡ true → b ≡ true → ⊥) → find m (at (n ∷ ns) f next) ≡ cond b (mapped g (find m next)) (find m next)
      → cond a (Some x) (find m (at (n ∷ ns) f next)) ≡ cond b (mapped g (cond a (Some x) (find m next))) (cond a (Some x) (find m next))
  later true true h e = absurd (h refl refl)
  later true false h e = refl
  later false b h e = e
