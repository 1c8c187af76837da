-- Open rows, their ends, and the row that is put first.
use Rattle.std.proofs.Common.{◌≡◌, ℕ, List, [], ◌∷◌, ◌++◌, map, Bool, true, false, refl, sym, ◌∙◌, ap, subst, append_assoc, append-nil}
use Rattle.std.proofs.lemmas.Bool.{cond-true, cond-false, both_ways}
use Rattle.iris_shape.specs.declared.heaping.Shape.{Shape}
use Rattle.iris_shape.specs.declared.heaping.Half.{Half}
use Rattle.iris_shape.specs.Treap.{Treap, Empty, Over, with_first, Each, Every, IsHeap, Ranks}
use Rattle.iris_shape.specs.Shaped.{made_treap, made_half, spine, Parted, Closes}

abbrev pub Spine : Type 0
Spine = List (ℕ × Treap ℕ)

-- the last element of a list that a function made
pub map_ends : {A B : Type 0} (f : A → B) (s : List B) (x : B) (xs : List A) → s ++ x ∷ [] ≡ map f xs → (front : List A) × (a : A) × (xs ≡ front ++ a ∷ []) × (s ≡ map f front) × (x ≡ f a)
map_ends f [] x [] h = absurd cc
map_ends f [] x (a ∷ []) h = ([], a, refl, refl, cc)
map_ends f [] x (a ∷ b ∷ xs) h = absurd cc
map_ends f (y ∷ s) x [] h = absurd cc
map_ends f (y ∷ s) x (a ∷ xs) h =
    let t : s ++ x ∷ [] ≡ map f xs = cc in
    let e : y ≡ f a = cc in
    let r = map_ends f s x xs t in
    (a ∷ r.0, r.1, ap (λ w. a ∷ w) r.2, (let g : y ∷ s ≡ f a ∷ map f r.0 = rw (e, r.3) refl in g), r.4)

pub same_last : {A : Type 0} (s t : List A) (x y : A) → s ++ x ∷ [] ≡ t ++ y ∷ [] → x ≡ y
same_last [] [] x y h = cc
same_last [] (b ∷ []) x y h = absurd cc
same_last [] (b ∷ c ∷ t) x y h = absurd cc
same_last (a ∷ []) [] x y h = absurd cc
same_last (a ∷ c ∷ s) [] x y h = absurd cc
same_last (a ∷ s) (b ∷ t) x y h = same_last s t x y cc

map_both : {A B : Type 0} (f : A → B) (xs ys : List A) → map f (xs ++ ys) ≡ map f xs ++ map f ys
map_both f [] ys = refl
map_both f (x ∷ xs) ys = ap (λ w. f x ∷ w) (map_both f xs ys)

pub starts : (all : Spine) (left : List Half) (below : Shape) → left ≡ map made_half all → below ≡ made_treap Empty → Parted all left below
starts all left below h k = record { stay = all; go = []; parts = sym (append-nil all); left_is = h; below_is = k }

-- what the program made of the last open row
abbrev pub Closed : Half → Shape → Shape → Type 0
Closed half below made = (a : ℕ × Treap ℕ) (t : Treap ℕ) → half ≡ made_half a → below ≡ made_treap t → made ≡ made_treap (Over a.0 t a.1)

-- the last row that is left, as a pair
pub ending : (all : Spine) (left : List Half) (half : Half) (below : Shape) (p : Parted all (left ++ half ∷ []) below) → (front : Spine) × (a : ℕ × Treap ℕ) × (p.stay ≡ front ++ a ∷ []) × (left ≡ map made_half front) × (half ≡ made_half a)
ending all left half below p = map_ends made_half left half p.stay p.left_is

pub steps : (all : Spine) (left : List Half) (half : Half) (below made : Shape) → Parted all (left ++ half ∷ []) below → Closed half below made → Parted all left made
steps all left half below made p c =
    let e = ending all left half below p in
    record {
      stay = e.0;
      go = e.1 ∷ p.go;
      parts = p.parts ∙ ap (λ w. w ++ p.go) e.2 ∙ append_assoc e.0 (e.1 ∷ []) p.go;
      left_is = e.3;
      below_is = c e.1 (spine p.go) e.4 p.below_is;
    }

nothing_left : {A B : Type 0} (f : A → B) (xs : List A) → [] ≡ map f xs → xs ≡ []
nothing_left f [] h = refl
nothing_left f (x ∷ xs) h = absurd cc

pub ended : (all : Spine) (below : Shape) → Parted all [] below → below ≡ made_treap (spine all)
ended all below p =
    let n = nothing_left made_half p.stay p.left_is in
    let e : p.go ≡ all = sym (p.parts ∙ ap (λ w. w ++ p.go) n) in
    p.below_is ∙ ap (λ w. made_treap (spine w)) e

-- ---- closing below a row

-- the rows closed so far are those that x stands above
pub record Below (up : ℕ → ℕ → Bool) (x : ℕ) (all : Spine) (left : List Half) (below : Shape) : Type 0 where
  pub parted : Parted all left below
  pub above : Each (λ o. up x o.0 ≡ true) parted.go

pub below_starts : (up : ℕ → ℕ → Bool) (x : ℕ) (all : Spine) (left : List Half) (below : Shape) → left ≡ map made_half all → below ≡ made_treap Empty → Below up x all left below
unfolding starts
below_starts up x all left below h k = record { parted = starts all left below h k; above = tt }

row_of : (half : Half) (a : ℕ × Treap ℕ) → half ≡ made_half a → half.row ≡ a.0
row_of half a h = ap (λ (w : Half). w.row) h

pub below_steps : (up : ℕ → ℕ → Bool) (x : ℕ) (all : Spine) (left : List Half) (half : Half) (below made : Shape) → Below up x all (left ++ half ∷ []) below → up x half.row ≡ true → Closed half below made → Below up x all left made
unfolding steps
below_steps up x all left half below made b h c =
    let e = ending all left half below b.parted in
    record { parted = steps all left half below made b.parted c; above = (ap (up x) (sym (row_of half e.1 e.4)) ∙ h, b.above) }

pub below_stops : (up : ℕ → ℕ → Bool) (x : ℕ) (all : Spine) (left : List Half) (half : Half) (below : Shape) → Below up x all (left ++ half ∷ []) below → up x half.row ≡ false → Closes up x all (left ++ half ∷ []) below
below_stops up x all left half below b h =
    record {
      parted = b.parted;
      above = b.above;
      last = λ front o e.
          let f : left ++ half ∷ [] ≡ map made_half front ++ made_half o ∷ [] = b.parted.left_is ∙ ap (map made_half) e ∙ map_both made_half front (o ∷ []) in
          ap (up x) (sym (row_of half o (same_last left (map made_half front) half (made_half o) f))) ∙ h;
    }

no_last : {A : Type 0} (front : List A) (o : A) → [] ≡ front ++ o ∷ [] → ⊥
no_last [] o h = cc
no_last (x ∷ front) o h = cc

pub below_ends : (up : ℕ → ℕ → Bool) (x : ℕ) (all : Spine) (below : Shape) → Below up x all [] below → Closes up x all [] below
below_ends up x all below b =
    record { parted = b.parted; above = b.above; last = λ front o e. absurd (no_last front o (sym (nothing_left made_half b.parted.stay b.parted.left_is) ∙ e)) }

-- ---- the row that is put first

passes : (up : ℕ → ℕ → Bool) (x : ℕ) (stay go : Spine) → Each (λ o. up x o.0 ≡ false) stay → Each (λ o. up x o.0 ≡ true) go → with_first up x (spine (stay ++ go)) ≡ spine (stay ++ (x, spine go) ∷ [])
passes up x [] [] h k = refl
passes up x [] (o ∷ go) h k = cond-true (up x o.0) (Over x Empty (spine (o ∷ go))) (Over o.0 (with_first up x (spine go)) o.1) k.0
passes up x (o ∷ stay) go h k =
    cond-false (up x o.0) (Over x Empty (spine (o ∷ (stay ++ go)))) (Over o.0 (with_first up x (spine (stay ++ go))) o.1) h.0
    ∙ ap (λ t. Over o.0 t o.1) (passes up x stay go h.1 k)

-- the row at the end of open rows is below each of them
end_below : (P : ℕ → Type 0) (front : Spine) (o : ℕ × Treap ℕ) (go : Spine) → Every P (spine ((front ++ o ∷ []) ++ go)) → P o.0
end_below P [] o go h = h.0
end_below P (a ∷ front) o go h = end_below P front o go h.1

not_above : (up : ℕ → ℕ → Bool) (r : Ranks up) (x : ℕ) (front : Spine) (o : ℕ × Treap ℕ) (go : Spine) → up x o.0 ≡ false → IsHeap up (spine ((front ++ o ∷ []) ++ go)) → Each (λ a. up x a.0 ≡ false) (front ++ o ∷ [])
not_above up r x [] o go f h = (f, tt)
not_above up r x (a ∷ front) o go f h =
    let lies : up a.0 o.0 ≡ true = end_below (λ z. up a.0 z ≡ true) front o go h.0 in
    (by (up x a.0) (λ t. r.through x a.0 o.0 t lies), not_above up r x front o go f h.2)
  where
    by : (b : Bool) → (b ≡ true → up x o.0 ≡ true) → b ≡ false
    by true g = absurd (both_ways (up x o.0) f (g refl))
    by false g = refl

front_or_none : {A : Type 0} (xs : List A) → (P : Type 0) → (xs ≡ [] → P) → ((front : List A) (a : A) → xs ≡ front ++ a ∷ [] → P) → P
front_or_none [] P f g = f refl
front_or_none (x ∷ xs) P f g = front_or_none xs P (λ e. g [] x (ap (λ w. x ∷ w) e)) (λ front a e. g (x ∷ front) a (ap (λ w. x ∷ w) e))

pub opens : (up : ℕ → ℕ → Bool) (r : Ranks up) (x : ℕ) (all : Spine) (left : List Half) (below : Shape) (half : Half) (now : List Half) → Closes up x all left below → IsHeap up (spine all) → half.row ≡ x → half.more ≡ below → now ≡ left ++ half ∷ []
    → (t : Spine) × (now ≡ map made_half t) × (spine t ≡ with_first up x (spine all))
opens up r x all left below half now c heap hr hm e =
    let p = c.parted in
    let heap2 : IsHeap up (spine (p.stay ++ p.go)) = subst (λ (w : Spine). IsHeap up (spine w)) p.parts heap in
    let none : Each (λ a. up x a.0 ≡ false) p.stay =
    front_or_none p.stay (Each (λ a. up x a.0 ≡ false) p.stay)
    (λ n. subst (Each (λ a. up x a.0 ≡ false)) (sym n) tt)
    (λ front a n. subst (Each (λ z. up x z.0 ≡ false)) (sym n) (not_above up r x front a p.go (c.last front a n) (subst (λ (w : Spine). IsHeap up (spine (w ++ p.go))) n heap2))) in
    let same : half ≡ made_half (x, spine p.go) = made_is half.row x half.more (made_treap (spine p.go)) hr (hm ∙ p.below_is) in (
      p.stay ++ (x, spine p.go) ∷ [],
      e ∙ ap (λ w. w ++ half ∷ []) p.left_is ∙ ap (λ h. map made_half p.stay ++ h ∷ []) same ∙ sym (map_both made_half p.stay ((x, spine p.go) ∷ [])),
      sym (passes up x p.stay p.go none c.above) ∙ ap (λ w. with_first up x (spine w)) (sym p.parts),
    )
  where
    made_is : (a b : ℕ) (s t : Shape) → a ≡ b → s ≡ t → (let m : Half = record { row = a; more = s } in m) ≡ (let n : Half = record { row = b; more = t } in n)
    made_is a b s t h k = rw (h, k) refl
