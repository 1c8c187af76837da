-- Going down after a removal.
use Rattle.std.proofs.Common.{◌≡◌, List, [], ◌∷◌, ◌++◌, Bool, true, false, cond, refl, sym, ◌∙◌, ap, subst}
use Rattle.std.proofs.lemmas.Bool.{cond_both, cond-true, cond-false, both_ways}
use Rattle.iris_shape.specs.Treap.{Treap, Empty, Over, rows, onto, merge, remove, way, near, Each, Every, Falls}
use Rattle.iris_shape.proofs.Treaps.{every_of, each_left, each_right, falls_left, falls_right}

either_way : (b : Bool) (P : Type 0) → (b ≡ true → P) → (b ≡ false → P) → P
either_way true P f g = f refl
either_way false P f g = g refl

-- before a row that stands before the name all rows do
all_before : {A : Type 0} (q : A → Bool) (a : List A) (y : A) (b : List A) → Falls q (a ++ y ∷ b) → q y ≡ true → Each (λ z. q z ≡ true) a
all_before q [] y b f h = tt
all_before q (x ∷ a) y b f h = (by (q x) (λ n. both_ways (q y) (each_right (λ z. q z ≡ false) a (y ∷ b) (f.0 n)).0 h), all_before q a y b f.1 h)
  where
    by : (t : Bool) → (t ≡ false → ⊥) → t ≡ true
    by true g = refl
    by false g = absurd (g refl)

way_true : {A : Type 0} (q : A → Bool) (t : Treap A) → Every (λ z. q z ≡ true) t → way q t ≡ way (λ _. true) t
way_true q Empty h = refl
way_true q (Over y l m) h = ap (λ w. y ∷ w) (cond-true (q y) (way q m) (way q l) h.0 ∙ way_true q m h.2)

way_false : {A : Type 0} (q : A → Bool) (t : Treap A) → Every (λ z. q z ≡ false) t → way q t ≡ way (λ _. false) t
way_false q Empty h = refl
way_false q (Over y l m) h = ap (λ w. y ∷ w) (cond-false (q y) (way q m) (way q l) h.0 ∙ way_false q l h.1)

down_more : {A : Type 0} (P : A → Type 0) (q : A → Bool) (y : A) (l m : Treap A) → q y ≡ true → Each P (way q (Over y l m)) → Each P (way q m)
down_more P q y l m t h = subst (Each P) (cond-true (q y) (way q m) (way q l) t) h.1

down_less : {A : Type 0} (P : A → Type 0) (q : A → Bool) (y : A) (l m : Treap A) → q y ≡ false → Each P (way q (Over y l m)) → Each P (way q l)
down_less P q y l m f h = subst (Each P) (cond-false (q y) (way q m) (way q l) f) h.1

way_over : {A : Type 0} (P : A → Type 0) (q : A → Bool) (y : A) (l m : Treap A) → P y → (q y ≡ true → Each P (way q m)) → (q y ≡ false → Each P (way q l)) → Each P (way q (Over y l m))
way_over P q y l m h f g = (h, cond_both (q y) (way q m) (way q l) (Each P) f g)

way_onto : {A : Type 0} (P : A → Type 0) (up : A → A → Bool) (q : A → Bool) (x : A) (l m : Treap A) (f : Treap A → Treap A) (b : Treap A) → P x → (q x ≡ false → Each P (way q l)) → (q x ≡ true → Each P (way q m)) → ((c : Treap A) → q x ≡ true → Each P (way q c) → Each P (way q (f c))) → Each P (way q b) → Each P (way q (onto up x l m f b))
way_onto P up q x l m f Empty h i j g k = way_over P q x l m h j i
way_onto P up q x l m f (Over y l2 m2) h i j g k =
    cond_both (up x y) (Over x l (f (Over y l2 m2))) (Over y (onto up x l m f l2) m2) (λ t. Each P (way q t))
    (λ _. way_over P q x l (f (Over y l2 m2)) h (λ t. g (Over y l2 m2) t k) i)
    (λ _. way_over P q y (onto up x l m f l2) m2 k.0 (λ t. down_more P q y l2 m2 t k) (λ n. way_onto P up q x l m f l2 h i j g (down_less P q y l2 m2 n k)))

way_merge : {A : Type 0} (P : A → Type 0) (up : A → A → Bool) (q : A → Bool) (a b : Treap A) → Each P (way q a) → Each P (way q b) → Each P (way q (merge up a b))
way_merge P up q Empty b h k = k
way_merge P up q (Over x l m) b h k =
    way_onto P up q x l m (merge up m) b h.0 (λ n. down_less P q x l m n h) (λ t. down_more P q x l m t h) (λ c t i. way_merge P up q m c (down_more P q x l m t h) i) k

pub way_remove : {A : Type 0} (up : A → A → Bool) (p e q : A → Bool) (P : A → Type 0) (t : Treap A) → Falls q (rows t) → Each P (way q t) → Each P (near p e t) → Each P (way q (remove up p e t))
way_remove up p e q P Empty f h k = tt
way_remove up p e q P (Over y l m) f h k =
    let fl = falls_left q (rows l) (y ∷ rows m) f in
    let fr = falls_right q (rows l) (y ∷ rows m) f in
    cond_both (e y) (merge up l m) (cond (p y) (Over y l (remove up p e m)) (Over y (remove up p e l) m)) (λ t. Each P (way q t))
    (λ t.
    let s = subst (Each P) (cond-true (e y) (way (λ _. true) l ++ way (λ _. false) m) (cond (p y) (near p e m) (near p e l)) t) k.1 in
    let low = each_left P (way (λ _. true) l) (way (λ _. false) m) s in
    let high = each_right P (way (λ _. true) l) (way (λ _. false) m) s in
    either_way (q y) (Each P (way q (merge up l m)))
    (λ a. way_merge P up q l m (subst (Each P) (sym (way_true q l (every_of (λ z. q z ≡ true) l (all_before q (rows l) y (rows m) f a)))) low) (down_more P q y l m a h))
    (λ b. way_merge P up q l m (down_less P q y l m b h) (subst (Each P) (sym (way_false q m (every_of (λ z. q z ≡ false) m (fr.0 b)))) high)))
    (λ n.
    let s = subst (Each P) (cond-false (e y) (way (λ _. true) l ++ way (λ _. false) m) (cond (p y) (near p e m) (near p e l)) n) k.1 in
    cond_both (p y) (Over y l (remove up p e m)) (Over y (remove up p e l) m) (λ t. Each P (way q t))
    (λ a. way_over P q y l (remove up p e m) h.0 (λ t. way_remove up p e q P m fr.1 (down_more P q y l m t h) (subst (Each P) (cond-true (p y) (near p e m) (near p e l) a) s)) (λ g. down_less P q y l m g h))
    (λ b. way_over P q y (remove up p e l) m h.0 (λ t. down_more P q y l m t h) (λ g. way_remove up p e q P l fl (down_less P q y l m g h) (subst (Each P) (cond-false (p y) (near p e m) (near p e l) b) s))))
