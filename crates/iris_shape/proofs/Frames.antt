-- Nodes off the way stay.
use Rattle.std.proofs.Common.{◌≡◌, List, [], ◌∷◌, ◌++◌, Bool, true, false, cond, Option, Some, None, refl, sym, ◌∙◌, ap}
use Rattle.std.proofs.lemmas.Bool.{cond_both, cond-false}
use Rattle.iris_shape.specs.Treap.{Treap, Empty, Over, low, high, insert, onto, merge, remove, way, near, Each}
use Rattle.iris_shape.specs.Local.{top, either, found}

either_none : {A : Type 0} (a : Option A) → either a None ≡ a
either_none None = refl
either_none (Some x) = refl

either_both : {A : Type 0} (a b c : Option A) → either (either a b) c ≡ either a (either b c)
either_both None b c = refl
either_both (Some x) b c = refl

abbrev Off : {A : Type 0} → (A → Bool) → List A → Type 0
Off g = Each (λ z. g z ≡ false)

passed : {A : Type 0} (g : A → Bool) (y : A) (l m : Treap A) → g y ≡ false → found g (Over y l m) ≡ either (found g l) (found g m)
passed g y l m h = cond-false (g y) (Some (record { row = y; less = top l; more = top m })) (either (found g l) (found g m)) h

found_split : {A : Type 0} (g p : A → Bool) (t : Treap A) → Off g (way p t) → either (found g (low p t)) (found g (high p t)) ≡ found g t
found_split g p Empty h = refl
found_split g p (Over y l m) h = by (λ k. found_split g p m k) (λ k. found_split g p l k) (p y) h.1
  where
    by : (Off g (way p m) → either (found g (low p m)) (found g (high p m)) ≡ found g m) → (Off g (way p l) → either (found g (low p l)) (found g (high p l)) ≡ found g l) → (b : Bool) → Off g (cond b (way p m) (way p l)) → either (found g (cond b (Over y l (low p m)) (low p l))) (found g (cond b (high p m) (Over y (high p l) m))) ≡ found g (Over y l m)
    by rm rl true k = ap (λ a. either a (found g (high p m))) (passed g y l (low p m) h.0) ∙ either_both (found g l) (found g (low p m)) (found g (high p m)) ∙ ap (either (found g l)) (rm k) ∙ sym (passed g y l m h.0)
    by rm rl false k = ap (either (found g (low p l))) (passed g y (high p l) m h.0) ∙ sym (either_both (found g (low p l)) (found g (high p l)) (found g m)) ∙ ap (λ a. either a (found g m)) (rl k) ∙ sym (passed g y l m h.0)

pub found_insert : {A : Type 0} (up : A → A → Bool) (g p : A → Bool) (x : A) (t : Treap A) → g x ≡ false → Each (λ z. g z ≡ false) (way p t) → found g (insert up p x t) ≡ found g t
found_insert up g p x Empty i h = passed g x Empty Empty i
found_insert up g p x (Over y l m) i h =
    cond_both (up x y) (Over x (low p (Over y l m)) (high p (Over y l m))) (cond (p y) (Over y l (insert up p x m)) (Over y (insert up p x l) m)) (λ t. found g t ≡ found g (Over y l m))
    (λ _. passed g x (low p (Over y l m)) (high p (Over y l m)) i ∙ found_split g p (Over y l m) h)
    (λ _. by (λ k. found_insert up g p x m i k) (λ k. found_insert up g p x l i k) (p y) h.1)
  where
    by : (Off g (way p m) → found g (insert up p x m) ≡ found g m) → (Off g (way p l) → found g (insert up p x l) ≡ found g l) → (b : Bool) → Off g (cond b (way p m) (way p l)) → found g (cond b (Over y l (insert up p x m)) (Over y (insert up p x l) m)) ≡ found g (Over y l m)
    by rm rl true k = passed g y l (insert up p x m) h.0 ∙ ap (either (found g l)) (rm k) ∙ sym (passed g y l m h.0)
    by rm rl false k = passed g y (insert up p x l) m h.0 ∙ ap (λ a. either a (found g m)) (rl k) ∙ sym (passed g y l m h.0)

found_onto : {A : Type 0} (up : A → A → Bool) (g : A → Bool) (x : A) (l m : Treap A) (f : Treap A → Treap A) (b : Treap A) → g x ≡ false → ((c : Treap A) → Off g (way (λ _. false) c) → found g (f c) ≡ either (found g m) (found g c)) → Off g (way (λ _. false) b) → found g (onto up x l m f b) ≡ either (found g (Over x l m)) (found g b)
found_onto up g x l m f Empty i j h = sym (either_none (found g (Over x l m)))
found_onto up g x l m f (Over y l2 m2) i j h =
    cond_both (up x y) (Over x l (f (Over y l2 m2))) (Over y (onto up x l m f l2) m2) (λ t. found g t ≡ either (found g (Over x l m)) (found g (Over y l2 m2)))
    (λ _. passed g x l (f (Over y l2 m2)) i ∙ ap (either (found g l)) (j (Over y l2 m2) h) ∙ sym (either_both (found g l) (found g m) (found g (Over y l2 m2))) ∙ ap (λ a. either a (found g (Over y l2 m2))) (sym (passed g x l m i)))
    (λ _. passed g y (onto up x l m f l2) m2 h.0 ∙ ap (λ a. either a (found g m2)) (found_onto up g x l m f l2 i j h.1) ∙ either_both (found g (Over x l m)) (found g l2) (found g m2) ∙ ap (either (found g (Over x l m))) (sym (passed g y l2 m2 h.0)))

pub found_merge : {A : Type 0} (up : A → A → Bool) (g : A → Bool) (a b : Treap A) → Each (λ z. g z ≡ false) (way (λ _. true) a) → Each (λ z. g z ≡ false) (way (λ _. false) b) → found g (merge up a b) ≡ either (found g a) (found g b)
found_merge up g Empty b h k = refl
found_merge up g (Over x l m) b h k = found_onto up g x l m (merge up m) b h.0 (λ c i. found_merge up g m c h.1 i) k

each_left : {A : Type 0} (P : A → Type 0) (a b : List A) → Each P (a ++ b) → Each P a
each_left P [] b h = tt
each_left P (x ∷ a) b h = (h.0, each_left P a b h.1)

each_right : {A : Type 0} (P : A → Type 0) (a b : List A) → Each P (a ++ b) → Each P b
each_right P [] b h = h
each_right P (x ∷ a) b h = each_right P a b h.1

pub found_remove : {A : Type 0} (up : A → A → Bool) (g p e : A → Bool) (t : Treap A) → Each (λ z. g z ≡ false) (near p e t) → found g (remove up p e t) ≡ found g t
found_remove up g p e Empty h = refl
found_remove up g p e (Over y l m) h = at (λ k. found_remove up g p e m k) (λ k. found_remove up g p e l k) (e y) h.1
  where
    by : (Off g (near p e m) → found g (remove up p e m) ≡ found g m) → (Off g (near p e l) → found g (remove up p e l) ≡ found g l) → (b : Bool) → Off g (cond b (near p e m) (near p e l)) → found g (cond b (Over y l (remove up p e m)) (Over y (remove up p e l) m)) ≡ found g (Over y l m)
    by rm rl true k = passed g y l (remove up p e m) h.0 ∙ ap (either (found g l)) (rm k) ∙ sym (passed g y l m h.0)
    by rm rl false k = passed g y (remove up p e l) m h.0 ∙ ap (λ a. either a (found g m)) (rl k) ∙ sym (passed g y l m h.0)

    at : (Off g (near p e m) → found g (remove up p e m) ≡ found g m) → (Off g (near p e l) → found g (remove up p e l) ≡ found g l) → (c : Bool) → Off g (cond c (way (λ _. true) l ++ way (λ _. false) m) (cond (p y) (near p e m) (near p e l))) → found g (cond c (merge up l m) (cond (p y) (Over y l (remove up p e m)) (Over y (remove up p e l) m))) ≡ found g (Over y l m)
    at rm rl true k = found_merge up g l m (each_left (λ z. g z ≡ false) (way (λ _. true) l) (way (λ _. false) m) k) (each_right (λ z. g z ≡ false) (way (λ _. true) l) (way (λ _. false) m) k) ∙ sym (passed g y l m h.0)
    at rm rl false k = by rm rl (p y) k
