-- Putting a row into the list is inserting it into the treap.
use Rattle.std.proofs.Common.{◌≡◌, List, [], ◌∷◌, ◌++◌, Bool, true, false, cond, refl, sym, ◌∙◌, ap, subst, append_assoc, append-nil}
use Rattle.std.proofs.lemmas.Bool.{cond_both, cond-true, cond-false, both_ways}
use Rattle.iris_shape.specs.Treap.{Treap, Empty, Over, with_first, treap, rows, low, high, insert, onto, merge, remove, keep, skip, rows_with, rows_without, Each, Every, IsHeap, Apart, AllApart, Ranks, Falls, Parts}

-- what is so of each row stays so

every_first : {A : Type 0} (P : A → Type 0) (up : A → A → Bool) (x : A) (t : Treap A) → P x → Every P t → Every P (with_first up x t)
every_first P up x Empty h k = (h, tt, tt)
every_first P up x (Over y l m) h k =
    elim (up x y) as (λ b. Every P (cond b (Over x Empty (Over y l m)) (Over y (with_first up x l) m))) [ true ↦ (h, tt, k) | false ↦ (k.0, every_first P up x l h k.1, k.2) ]

pub every_treap : {A : Type 0} (P : A → Type 0) (up : A → A → Bool) (xs : List A) → Each P xs → Every P (treap up xs)
every_treap P up [] h = tt
every_treap P up (x ∷ xs) h = every_first P up x (treap up xs) h.0 (every_treap P up xs h.1)

pub every_low : {A : Type 0} (P : A → Type 0) (p : A → Bool) (t : Treap A) → Every P t → Every P (low p t)
every_low P p Empty k = tt
every_low P p (Over y l m) k =
    elim (p y) as (λ b. Every P (cond b (Over y l (low p m)) (low p l))) [ true ↦ (k.0, k.1, every_low P p m k.2) | false ↦ every_low P p l k.1 ]

pub every_high : {A : Type 0} (P : A → Type 0) (p : A → Bool) (t : Treap A) → Every P t → Every P (high p t)
every_high P p Empty k = tt
every_high P p (Over y l m) k =
    elim (p y) as (λ b. Every P (cond b (high p m) (Over y (high p l) m))) [ true ↦ every_high P p m k.2 | false ↦ (k.0, every_high P p l k.1, k.2) ]

pub every_insert : {A : Type 0} (P : A → Type 0) (up : A → A → Bool) (p : A → Bool) (x : A) (t : Treap A) → P x → Every P t → Every P (insert up p x t)
every_insert P up p x Empty h k = (h, tt, tt)
every_insert P up p x (Over y l m) h k =
    elim (up x y) as (λ b. Every P (cond b (Over x (low p (Over y l m)) (high p (Over y l m))) (cond (p y) (Over y l (insert up p x m)) (Over y (insert up p x l) m)))) [
      | true ↦ (h, every_low P p (Over y l m) k, every_high P p (Over y l m) k)
      | false ↦ elim (p y) as (λ b. Every P (cond b (Over y l (insert up p x m)) (Over y (insert up p x l) m))) [ true ↦ (k.0, k.1, every_insert P up p x m h k.2) | false ↦ (k.0, every_insert P up p x l h k.1, k.2) ]
    ]

every_onto : {A : Type 0} (P : A → Type 0) (up : A → A → Bool) (x : A) (l m : Treap A) (f : Treap A → Treap A) (b : Treap A) → P x → Every P l → Every P m → ((c : Treap A) → Every P c → Every P (f c)) → Every P b → Every P (onto up x l m f b)
every_onto P up x l m f Empty h i j g k = (h, i, j)
every_onto P up x l m f (Over y l2 m2) h i j g k =
    elim (up x y) as (λ b. Every P (cond b (Over x l (f (Over y l2 m2))) (Over y (onto up x l m f l2) m2)))
    [ true ↦ (h, i, g (Over y l2 m2) k) | false ↦ (k.0, every_onto P up x l m f l2 h i j g k.1, k.2) ]

pub every_merge : {A : Type 0} (P : A → Type 0) (up : A → A → Bool) (a b : Treap A) → Every P a → Every P b → Every P (merge up a b)
every_merge P up Empty b h k = k
every_merge P up (Over x l m) b h k = every_onto P up x l m (merge up m) b h.0 h.1 h.2 (λ c i. every_merge P up m c h.2 i) k

every_remove : {A : Type 0} (P : A → Type 0) (up : A → A → Bool) (p e : A → Bool) (t : Treap A) → Every P t → Every P (remove up p e t)
every_remove P up p e Empty k = tt
every_remove P up p e (Over y l m) k =
    elim (e y) as (λ b. Every P (cond b (merge up l m) (cond (p y) (Over y l (remove up p e m)) (Over y (remove up p e l) m)))) [
      | true ↦ every_merge P up l m k.1 k.2
      | false ↦ elim (p y) as (λ b. Every P (cond b (Over y l (remove up p e m)) (Over y (remove up p e l) m))) [ true ↦ (k.0, k.1, every_remove P up p e m k.2) | false ↦ (k.0, every_remove P up p e l k.1, k.2) ]
    ]

pub every_map : {A : Type 0} (P Q : A → Type 0) (t : Treap A) → ((z : A) → P z → Q z) → Every P t → Every Q t
every_map P Q Empty f k = tt
every_map P Q (Over y l m) f k = (f y k.0, every_map P Q l f k.1, every_map P Q m f k.2)

pub each_left : {A : Type 0} (P : A → Type 0) (a b : List A) → Each P (a ++ b) → Each P a
each_left P [] b h = tt
each_left P (x ∷ a) b h = (h.0, each_left P a b h.1)

pub each_right : {A : Type 0} (P : A → Type 0) (a b : List A) → Each P (a ++ b) → Each P b
each_right P [] b h = h
each_right P (x ∷ a) b h = each_right P a b h.1

pub every_of : {A : Type 0} (P : A → Type 0) (t : Treap A) → Each P (rows t) → Every P t
every_of P Empty h = tt
every_of P (Over y l m) h =
    let r = each_right P (rows l) (y ∷ rows m) h in
    (r.0, every_of P l (each_left P (rows l) (y ∷ rows m) h), every_of P m r.1)

-- the order from above stays

abbrev Below : {A : Type 0} → (A → A → Bool) → A → Treap A → Type 0
Below up x t = Every (λ z. up x z ≡ true) t

below_through : {A : Type 0} (up : A → A → Bool) (r : Ranks up) (x y : A) (t : Treap A) → up x y ≡ true → Below up y t → Below up x t
below_through up r x y t h k = every_map (λ z. up y z ≡ true) (λ z. up x z ≡ true) t (λ z. r.through x y z h) k

heap_low : {A : Type 0} (up : A → A → Bool) (p : A → Bool) (t : Treap A) → IsHeap up t → IsHeap up (low p t)
heap_low up p Empty h = tt
heap_low up p (Over y l m) h =
    elim (p y) as (λ b. IsHeap up (cond b (Over y l (low p m)) (low p l))) [ true ↦ (h.0, every_low (λ z. up y z ≡ true) p m h.1, h.2, heap_low up p m h.3) | false ↦ heap_low up p l h.2 ]

heap_high : {A : Type 0} (up : A → A → Bool) (p : A → Bool) (t : Treap A) → IsHeap up t → IsHeap up (high p t)
heap_high up p Empty h = tt
heap_high up p (Over y l m) h =
    elim (p y) as (λ b. IsHeap up (cond b (high p m) (Over y (high p l) m))) [ true ↦ heap_high up p m h.3 | false ↦ (every_high (λ z. up y z ≡ true) p l h.0, h.1, heap_high up p l h.2, h.3) ]

heap_insert : {A : Type 0} (up : A → A → Bool) (r : Ranks up) (p : A → Bool) (x : A) (t : Treap A) → Every (Apart up x) t → IsHeap up t → IsHeap up (insert up p x t)
heap_insert up r p x Empty a h = (tt, tt, tt, tt)
heap_insert up r p x (Over y l m) a h =
    cond_both (up x y) (Over x (low p (Over y l m)) (high p (Over y l m))) (cond (p y) (Over y l (insert up p x m)) (Over y (insert up p x l) m)) (IsHeap up)
    (λ t. let b : Below up x (Over y l m) = (t, below_through up r x y l t h.0, below_through up r x y m t h.1) in
    (every_low (λ z. up x z ≡ true) p (Over y l m) b, every_high (λ z. up x z ≡ true) p (Over y l m) b, heap_low up p (Over y l m) h, heap_high up p (Over y l m) h))
    (λ f. let u = a.0.0 f in
    elim (p y) as (λ b. IsHeap up (cond b (Over y l (insert up p x m)) (Over y (insert up p x l) m))) [
      | true ↦ (h.0, every_insert (λ z. up y z ≡ true) up p x m u h.1, h.2, heap_insert up r p x m a.2 h.3)
      | false ↦ (every_insert (λ z. up y z ≡ true) up p x l u h.0, h.1, heap_insert up r p x l a.1 h.2, h.3)
    ])

heap_first : {A : Type 0} (up : A → A → Bool) (r : Ranks up) (x : A) (t : Treap A) → Every (Apart up x) t → IsHeap up t → IsHeap up (with_first up x t)
heap_first up r x Empty a h = (tt, tt, tt, tt)
heap_first up r x (Over y l m) a h =
    cond_both (up x y) (Over x Empty (Over y l m)) (Over y (with_first up x l) m) (IsHeap up)
    (λ t. (tt, (t, below_through up r x y l t h.0, below_through up r x y m t h.1), tt, h))
    (λ f. (every_first (λ z. up y z ≡ true) up x l (a.0.0 f) h.0, h.1, heap_first up r x l a.1 h.2, h.3))

pub heap_treap : {A : Type 0} (up : A → A → Bool) (r : Ranks up) (xs : List A) → AllApart up xs → IsHeap up (treap up xs)
heap_treap up r [] a = tt
heap_treap up r (x ∷ xs) a = heap_first up r x (treap up xs) (every_treap (Apart up x) up xs a.0) (heap_treap up r xs a.1)

heap_onto : {A : Type 0} (up : A → A → Bool) (r : Ranks up) (x : A) (l m : Treap A) (f : Treap A → Treap A) (b : Treap A) → IsHeap up (Over x l m) → Every (Apart up x) b → Every (λ z. Every (Apart up z) b) (Over x l m) → ((P : A → Type 0) (c : Treap A) → Every P m → Every P c → Every P (f c)) → ((c : Treap A) → Every (λ z. Every (Apart up z) c) m → IsHeap up c → IsHeap up (f c)) → IsHeap up b → IsHeap up (onto up x l m f b)
heap_onto up r x l m f Empty h a d g i k = h
heap_onto up r x l m f (Over y l2 m2) h a d g i k =
    cond_both (up x y) (Over x l (f (Over y l2 m2))) (Over y (onto up x l m f l2) m2) (IsHeap up)
    (λ t. (h.0, g (λ z. up x z ≡ true) (Over y l2 m2) h.1 (t, below_through up r x y l2 t k.0, below_through up r x y m2 t k.1), h.2, i (Over y l2 m2) d.2 k))
    (λ n. let u = a.0.0 n in (
      every_onto (λ z. up y z ≡ true) up x l m f l2 u (below_through up r y x l u h.0) (below_through up r y x m u h.1) (λ c j. g (λ z. up y z ≡ true) c (below_through up r y x m u h.1) j) k.0,
      k.1,
      heap_onto up r x l m f l2 h a.1 (every_map (λ z. Every (Apart up z) (Over y l2 m2)) (λ z. Every (Apart up z) l2) (Over x l m) (λ z e. e.1) d) g i k.2,
      k.3,
    ))

heap_merge : {A : Type 0} (up : A → A → Bool) (r : Ranks up) (a b : Treap A) → Every (λ z. Every (Apart up z) b) a → IsHeap up a → IsHeap up b → IsHeap up (merge up a b)
heap_merge up r Empty b d h k = k
heap_merge up r (Over x l m) b d h k =
    heap_onto up r x l m (merge up m) b h d.0 d (λ P c i j. every_merge P up m c i j) (λ c d2 i. heap_merge up r m c d2 h.3 i) k

-- rows of two trees are apart
cross : {A : Type 0} (up : A → A → Bool) (a b : List A) → AllApart up (a ++ b) → Each (λ z. Each (Apart up z) b) a
cross up [] b h = tt
cross up (x ∷ a) b h = (each_right (Apart up x) a b h.0, cross up a b h.1)

apart_left : {A : Type 0} (up : A → A → Bool) (a b : List A) → AllApart up (a ++ b) → AllApart up a
apart_left up [] b h = tt
apart_left up (x ∷ a) b h = (each_left (Apart up x) a b h.0, apart_left up a b h.1)

pub apart_right : {A : Type 0} (up : A → A → Bool) (a b : List A) → AllApart up (a ++ b) → AllApart up b
apart_right up [] b h = h
apart_right up (x ∷ a) b h = apart_right up a b h.1

pub each_map : {A : Type 0} (P Q : A → Type 0) (xs : List A) → ((z : A) → P z → Q z) → Each P xs → Each Q xs
each_map P Q [] f h = tt
each_map P Q (x ∷ xs) f h = (f x h.0, each_map P Q xs f h.1)

heap_remove : {A : Type 0} (up : A → A → Bool) (r : Ranks up) (p e : A → Bool) (t : Treap A) → AllApart up (rows t) → IsHeap up t → IsHeap up (remove up p e t)
heap_remove up r p e Empty a h = tt
heap_remove up r p e (Over y l m) a h =
    let al = apart_left up (rows l) (y ∷ rows m) a in
    let ar = apart_right up (rows l) (y ∷ rows m) a in
    let c = every_of (λ z. Every (Apart up z) m) l (each_map (λ z. Each (Apart up z) (y ∷ rows m)) (λ z. Every (Apart up z) m) (rows l) (λ z i. every_of (Apart up z) m i.1) (cross up (rows l) (y ∷ rows m) a)) in
    elim (e y) as (λ b. IsHeap up (cond b (merge up l m) (cond (p y) (Over y l (remove up p e m)) (Over y (remove up p e l) m)))) [
      | true ↦ heap_merge up r l m c h.2 h.3
      | false ↦ elim (p y) as (λ b. IsHeap up (cond b (Over y l (remove up p e m)) (Over y (remove up p e l) m))) [
        | true ↦ (h.0, every_remove (λ z. up y z ≡ true) up p e m h.1, h.2, heap_remove up r p e m ar.1 h.3)
        | false ↦ (every_remove (λ z. up y z ≡ true) up p e l h.0, h.1, heap_remove up r p e l al h.2, h.3)
      ]
    ]

-- a treap is the treap of its rows

first_below : {A : Type 0} (up : A → A → Bool) (x : A) (t : Treap A) → Below up x t → with_first up x t ≡ Over x Empty t
first_below up x Empty h = refl
first_below up x (Over y l m) h = cond-true (up x y) (Over x Empty (Over y l m)) (Over y (with_first up x l) m) h.0

pub treap_at : {A : Type 0} (up : A → A → Bool) (r : Ranks up) (x : A) (ls : List A) (t : Treap A) (rs : List A) → Each (λ z. up x z ≡ true) ls → treap up rs ≡ t → Below up x t → treap up (ls ++ x ∷ rs) ≡ Over x (treap up ls) t
treap_at up r x [] t rs i e h = ap (with_first up x) e ∙ first_below up x t h
treap_at up r x (y ∷ ls) t rs i e h =
    ap (with_first up y) (treap_at up r x ls t rs i.1 e h) ∙ cond-false (up y x) (Over y Empty (Over x (treap up ls) t)) (Over x (with_first up y (treap up ls)) t) (r.one_way x y i.0)

pub each_both : {A : Type 0} (P : A → Type 0) (a b : List A) → Each P a → Each P b → Each P (a ++ b)
each_both P [] b h k = k
each_both P (x ∷ a) b h k = (h.0, each_both P a b h.1 k)

pub each_of : {A : Type 0} (P : A → Type 0) (t : Treap A) → Every P t → Each P (rows t)
each_of P Empty h = tt
each_of P (Over y l m) h = each_both P (rows l) (y ∷ rows m) (each_of P l h.1) (h.0, each_of P m h.2)

pub treap_rows : {A : Type 0} (up : A → A → Bool) (r : Ranks up) (t : Treap A) → IsHeap up t → treap up (rows t) ≡ t
treap_rows up r Empty h = refl
treap_rows up r (Over y l m) h =
    treap_at up r y (rows l) m (rows m) (each_of (λ z. up y z ≡ true) l h.0) (treap_rows up r m h.3) h.1 ∙ ap (λ a. Over y a m) (treap_rows up r l h.2)

rows_first : {A : Type 0} (up : A → A → Bool) (x : A) (t : Treap A) → rows (with_first up x t) ≡ x ∷ rows t
rows_first up x Empty = refl
rows_first up x (Over y l m) =
    elim (up x y) as (λ b. rows (cond b (Over x Empty (Over y l m)) (Over y (with_first up x l) m)) ≡ x ∷ (rows l ++ y ∷ rows m)) [ true ↦ refl | false ↦ ap (λ a. a ++ y ∷ rows m) (rows_first up x l) ]

pub rows_treap : {A : Type 0} (up : A → A → Bool) (xs : List A) → rows (treap up xs) ≡ xs
rows_treap up [] = refl
rows_treap up (x ∷ xs) = rows_first up x (treap up xs) ∙ ap (λ a. x ∷ a) (rows_treap up xs)

-- the rows after a split, an insertion, a merge and a removal

pub falls_left : {A : Type 0} (p : A → Bool) (a b : List A) → Falls p (a ++ b) → Falls p a
falls_left p [] b h = tt
falls_left p (x ∷ a) b h = ((λ f. each_left (λ z. p z ≡ false) a b (h.0 f)), falls_left p a b h.1)

pub falls_right : {A : Type 0} (p : A → Bool) (a b : List A) → Falls p (a ++ b) → Falls p b
falls_right p [] b h = h
falls_right p (x ∷ a) b h = falls_right p a b h.1

-- what stands before a row that stands before the name does so too
keep_past : {A : Type 0} (p : A → Bool) (a : List A) (y : A) (b : List A) → Falls p (a ++ y ∷ b) → p y ≡ true → keep p (a ++ y ∷ b) ≡ a ++ y ∷ keep p b
keep_past p [] y b h t = cond-true (p y) (y ∷ keep p b) [] t
keep_past p (x ∷ a) y b h t =
    cond_both (p x) (x ∷ keep p (a ++ y ∷ b)) [] (λ c. c ≡ x ∷ (a ++ y ∷ keep p b))
    (λ i. ap (λ c. x ∷ c) (keep_past p a y b h.1 t))
    (λ f. absurd (both_ways (p y) (each_right (λ z. p z ≡ false) a (y ∷ b) (h.0 f)).0 t))

skip_past : {A : Type 0} (p : A → Bool) (a : List A) (y : A) (b : List A) → Falls p (a ++ y ∷ b) → p y ≡ true → skip p (a ++ y ∷ b) ≡ skip p b
skip_past p [] y b h t = cond-true (p y) (skip p b) (y ∷ b) t
skip_past p (x ∷ a) y b h t =
    cond_both (p x) (skip p (a ++ y ∷ b)) (x ∷ (a ++ y ∷ b)) (λ c. c ≡ skip p b)
    (λ i. skip_past p a y b h.1 t)
    (λ f. absurd (both_ways (p y) (each_right (λ z. p z ≡ false) a (y ∷ b) (h.0 f)).0 t))

keep_short : {A : Type 0} (p : A → Bool) (a : List A) (y : A) (b : List A) → p y ≡ false → keep p (a ++ y ∷ b) ≡ keep p a
keep_short p [] y b f = cond-false (p y) (y ∷ keep p b) [] f
keep_short p (x ∷ a) y b f =
    elim (p x) as (λ c. cond c (x ∷ keep p (a ++ y ∷ b)) [] ≡ cond c (x ∷ keep p a) []) [ true ↦ ap (λ c. x ∷ c) (keep_short p a y b f) | false ↦ refl ]

skip_short : {A : Type 0} (p : A → Bool) (a : List A) (y : A) (b : List A) → p y ≡ false → skip p (a ++ y ∷ b) ≡ skip p a ++ y ∷ b
skip_short p [] y b f = cond-false (p y) (skip p b) (y ∷ b) f
skip_short p (x ∷ a) y b f =
    elim (p x) as (λ c. cond c (skip p (a ++ y ∷ b)) (x ∷ (a ++ y ∷ b)) ≡ cond c (skip p a) (x ∷ a) ++ y ∷ b) [ true ↦ skip_short p a y b f | false ↦ refl ]

rows_low : {A : Type 0} (p : A → Bool) (t : Treap A) → Falls p (rows t) → rows (low p t) ≡ keep p (rows t)
rows_low p Empty h = refl
rows_low p (Over y l m) h =
    let fl = falls_left p (rows l) (y ∷ rows m) h in
    let fr = falls_right p (rows l) (y ∷ rows m) h in
    cond_both (p y) (Over y l (low p m)) (low p l) (λ t. rows t ≡ keep p (rows l ++ y ∷ rows m))
    (λ t. ap (λ a. rows l ++ y ∷ a) (rows_low p m fr.1) ∙ sym (keep_past p (rows l) y (rows m) h t))
    (λ f. rows_low p l fl ∙ sym (keep_short p (rows l) y (rows m) f))

pub rows_high : {A : Type 0} (p : A → Bool) (t : Treap A) → Falls p (rows t) → rows (high p t) ≡ skip p (rows t)
rows_high p Empty h = refl
rows_high p (Over y l m) h =
    let fl = falls_left p (rows l) (y ∷ rows m) h in
    let fr = falls_right p (rows l) (y ∷ rows m) h in
    cond_both (p y) (high p m) (Over y (high p l) m) (λ t. rows t ≡ skip p (rows l ++ y ∷ rows m))
    (λ t. rows_high p m fr.1 ∙ sym (skip_past p (rows l) y (rows m) h t))
    (λ f. ap (λ a. a ++ y ∷ rows m) (rows_high p l fl) ∙ sym (skip_short p (rows l) y (rows m) f))

pub rows_insert : {A : Type 0} (up : A → A → Bool) (p : A → Bool) (x : A) (t : Treap A) → Falls p (rows t) → rows (insert up p x t) ≡ rows_with p x (rows t)
rows_insert up p x Empty h = refl
rows_insert up p x (Over y l m) h =
    let fl = falls_left p (rows l) (y ∷ rows m) h in
    let fr = falls_right p (rows l) (y ∷ rows m) h in
    let R = λ (t : Treap _). rows t ≡ rows_with p x (rows l ++ y ∷ rows m) in
    cond_both (up x y) (Over x (low p (Over y l m)) (high p (Over y l m))) (cond (p y) (Over y l (insert up p x m)) (Over y (insert up p x l) m)) R
    (λ u. ap (λ a. a ++ x ∷ rows (high p (Over y l m))) (rows_low p (Over y l m) h) ∙ ap (λ a. keep p (rows l ++ y ∷ rows m) ++ x ∷ a) (rows_high p (Over y l m) h))
    (λ u. cond_both (p y) (Over y l (insert up p x m)) (Over y (insert up p x l) m) R
    (λ t. ap (λ a. rows l ++ y ∷ a) (rows_insert up p x m fr.1) ∙ sym (append_assoc (rows l) (y ∷ keep p (rows m)) (x ∷ skip p (rows m))) ∙ ap (λ a. a ++ x ∷ skip p (rows m)) (sym (keep_past p (rows l) y (rows m) h t)) ∙ ap (λ a. keep p (rows l ++ y ∷ rows m) ++ x ∷ a) (sym (skip_past p (rows l) y (rows m) h t)))
    (λ f. ap (λ a. a ++ y ∷ rows m) (rows_insert up p x l fl) ∙ append_assoc (keep p (rows l)) (x ∷ skip p (rows l)) (y ∷ rows m) ∙ ap (λ a. a ++ x ∷ (skip p (rows l) ++ y ∷ rows m)) (sym (keep_short p (rows l) y (rows m) f)) ∙ ap (λ a. keep p (rows l ++ y ∷ rows m) ++ x ∷ a) (sym (skip_short p (rows l) y (rows m) f))))

rows_onto : {A : Type 0} (up : A → A → Bool) (x : A) (l m : Treap A) (f : Treap A → Treap A) (b : Treap A) → ((c : Treap A) → rows (f c) ≡ rows m ++ rows c) → rows (onto up x l m f b) ≡ (rows l ++ x ∷ rows m) ++ rows b
rows_onto up x l m f Empty g = sym (append-nil (rows l ++ x ∷ rows m))
rows_onto up x l m f (Over y l2 m2) g =
    elim (up x y) as (λ b. rows (cond b (Over x l (f (Over y l2 m2))) (Over y (onto up x l m f l2) m2)) ≡ (rows l ++ x ∷ rows m) ++ (rows l2 ++ y ∷ rows m2)) [
      | true ↦ ap (λ a. rows l ++ x ∷ a) (g (Over y l2 m2)) ∙ sym (append_assoc (rows l) (x ∷ rows m) (rows l2 ++ y ∷ rows m2))
      | false ↦ ap (λ a. a ++ y ∷ rows m2) (rows_onto up x l m f l2 g) ∙ append_assoc (rows l ++ x ∷ rows m) (rows l2) (y ∷ rows m2)
    ]

pub rows_merge : {A : Type 0} (up : A → A → Bool) (a b : Treap A) → rows (merge up a b) ≡ rows a ++ rows b
rows_merge up Empty b = refl
rows_merge up (Over x l m) b = rows_onto up x l m (merge up m) b (λ c. rows_merge up m c)

without_both : {A : Type 0} (e : A → Bool) (a b : List A) → rows_without e (a ++ b) ≡ rows_without e a ++ rows_without e b
without_both e [] b = refl
without_both e (x ∷ a) b = elim (e x) as (λ c. cond c (rows_without e (a ++ b)) (x ∷ rows_without e (a ++ b)) ≡ cond c (rows_without e a) (x ∷ rows_without e a) ++ rows_without e b) [ true ↦ without_both e a b | false ↦ ap (λ c. x ∷ c) (without_both e a b) ]

without_none : {A : Type 0} (e : A → Bool) (a : List A) → Each (λ z. e z ≡ false) a → rows_without e a ≡ a
without_none e [] h = refl
without_none e (x ∷ a) h = cond-false (e x) (rows_without e a) (x ∷ rows_without e a) h.0 ∙ ap (λ c. x ∷ c) (without_none e a h.1)

parts_left : {A : Type 0} (p e : A → Bool) (a b : List A) → Parts p e (a ++ b) → Parts p e a
parts_left p e [] b h = tt
parts_left p e (x ∷ a) b h = (h.0, (λ f. each_left (λ z. e z ≡ false) a b (h.1 f)), parts_left p e a b h.2)

parts_right : {A : Type 0} (p e : A → Bool) (a b : List A) → Parts p e (a ++ b) → Parts p e b
parts_right p e [] b h = h
parts_right p e (x ∷ a) b h = parts_right p e a b h.2

-- what stands before a row that stands before the name, or is its row, is not its row
parts_past : {A : Type 0} (p e : A → Bool) (a : List A) (y : A) (b : List A) → Falls p (a ++ y ∷ b) → Parts p e (a ++ y ∷ b) → (p y ≡ false → e y ≡ true) → Each (λ z. e z ≡ false) a
parts_past p e [] y b f h k = tt
parts_past p e (x ∷ a) y b f h k = (
  elim_bool (p x) (e x ≡ false) (h.0)
      (λ g. let n = (each_right (λ z. p z ≡ false) a (y ∷ b) (f.0 g)).0 in
      absurd (both_ways (e y) (each_right (λ z. e z ≡ false) a (y ∷ b) (h.1 g)).0 (k n))),
  parts_past p e a y b f.1 h.2 k,
)
  where
    elim_bool : (c : Bool) (P : Type 0) → (c ≡ true → P) → (c ≡ false → P) → P
    elim_bool true P f g = f refl
    elim_bool false P f g = g refl

pub rows_remove : {A : Type 0} (up : A → A → Bool) (p e : A → Bool) (t : Treap A) → Falls p (rows t) → Parts p e (rows t) → rows (remove up p e t) ≡ rows_without e (rows t)
rows_remove up p e Empty f h = refl
rows_remove up p e (Over y l m) f h =
    let fl = falls_left p (rows l) (y ∷ rows m) f in
    let fr = falls_right p (rows l) (y ∷ rows m) f in
    let hl = parts_left p e (rows l) (y ∷ rows m) h in
    let hr = parts_right p e (rows l) (y ∷ rows m) h in
    let R = λ (t : Treap _). rows t ≡ rows_without e (rows l ++ y ∷ rows m) in
    let back = sym (without_both e (rows l) (y ∷ rows m)) in
    cond_both (e y) (merge up l m) (cond (p y) (Over y l (remove up p e m)) (Over y (remove up p e l) m)) R
    (λ t. let none = parts_past p e (rows l) y (rows m) f h (λ _. t) in
    let after = past (p y) (e y) t (hr.0) (hr.1) in
    rows_merge up l m ∙ ap (λ a. a ++ rows m) (sym (without_none e (rows l) none)) ∙ ap (λ a. rows_without e (rows l) ++ a) (sym (cond-true (e y) (rows_without e (rows m)) (y ∷ rows_without e (rows m)) t ∙ without_none e (rows m) after)) ∙ back)
    (λ n. cond_both (p y) (Over y l (remove up p e m)) (Over y (remove up p e l) m) R
    (λ t. let none = parts_past p e (rows l) y (rows m) f h (λ g. absurd (both_ways (p y) g t)) in
    ap (λ a. rows l ++ y ∷ a) (rows_remove up p e m fr.1 hr.2) ∙ ap (λ a. a ++ y ∷ rows_without e (rows m)) (sym (without_none e (rows l) none)) ∙ ap (λ a. rows_without e (rows l) ++ a) (sym (cond-false (e y) (rows_without e (rows m)) (y ∷ rows_without e (rows m)) n)) ∙ back)
    (λ g. ap (λ a. a ++ y ∷ rows m) (rows_remove up p e l fl hl) ∙ ap (λ a. rows_without e (rows l) ++ y ∷ a) (sym (without_none e (rows m) (hr.1 g))) ∙ ap (λ a. rows_without e (rows l) ++ a) (sym (cond-false (e y) (rows_without e (rows m)) (y ∷ rows_without e (rows m)) n)) ∙ back))
  where
    past : (b c : Bool) → c ≡ true → (b ≡ true → c ≡ false) → (b ≡ false → Each (λ z. e z ≡ false) (rows m)) → Each (λ z. e z ≡ false) (rows m)
    past true c t i j = absurd (both_ways c (i refl) t)
    past false c t i j = j refl

-- THE LAWS

pub treap_put : {A : Type 0} (up : A → A → Bool) (r : Ranks up) (p : A → Bool) (x : A) (xs : List A) → AllApart up xs → Each (Apart up x) xs → Falls p xs → treap up (rows_with p x xs) ≡ insert up p x (treap up xs)
treap_put up r p x xs a b f =
    let t = treap up xs in
    let e = rows_treap up xs in
    let same = rows_insert up p x t (subst (Falls p) (sym e) f) ∙ ap (rows_with p x) e in
    ap (treap up) (sym same) ∙ treap_rows up r (insert up p x t) (heap_insert up r p x t (every_treap (Apart up x) up xs b) (heap_treap up r xs a))

pub treap_without : {A : Type 0} (up : A → A → Bool) (r : Ranks up) (p e : A → Bool) (xs : List A) → AllApart up xs → Falls p xs → Parts p e xs → treap up (rows_without e xs) ≡ remove up p e (treap up xs)
treap_without up r p e xs a f h =
    let t = treap up xs in
    let i = rows_treap up xs in
    let same = rows_remove up p e t (subst (Falls p) (sym i) f) (subst (Parts p e) (sym i) h) ∙ ap (rows_without e) i in
    ap (treap up) (sym same) ∙ treap_rows up r (remove up p e t) (heap_remove up r p e t (subst (AllApart up) (sym i) a) (heap_treap up r xs a))
