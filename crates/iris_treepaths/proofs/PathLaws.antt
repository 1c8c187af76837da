-- Laws of paths: their ends, what is put in or taken out under them, the rows met, counts, and names that stand once.
use Rattle.std.proofs.Common.{◌≡◌, ◌≢◌, ◌++◌, ◌≤◌, inr, ℕ, Bool, true, false, cond, List, [], ◌∷◌, refl, ap, sym, ◌∙◌, subst, arith}
use Rattle.std.proofs.lemmas.Bool.{cond-true, cond-false}
use Rattle.iris_name.specs.declared.name.Name.{Name}
use Rattle.iris_node.specs.Unfolded.{blocks}
use Rattle.iris_shape.specs.Treap.{Treap, Empty, Over, Every, Each, rows, low, high, insert, merge, remove, way}
use Rattle.iris_shape.proofs.Treaps.{every_map}
use Rattle.iris_treepaths.specs.Paths.{Frame, framed, plug, entry_name, above, PassesBy, IsAmong, Outside, Once, met_along, met_near}
use Rattle.iris_treepaths.specs.Rows.{Row, unfolded_rows}
use Rattle.iris_treepaths.specs.Ways.{is_row_before, has_name}
use Rattle.iris_treepaths.proofs.Downs.{any_left, any_right}
use Rattle.iris_treepaths.proofs.RowNodes.{less_over}

-- ---- the end of a path

pub plug_more : (fs : List Frame) (f : Frame) (w : Treap Row) → plug (fs ++ f ∷ []) w ≡ plug fs (framed f w)
plug_more [] f w = refl
plug_more (g ∷ fs) f w = ap (framed g) (plug_more fs f w)

pub above_end : (p : Name) (fs : List Frame) (f : Frame) → above p (fs ++ f ∷ []) ≡ entry_name f.row
above_end p [] f = refl
above_end p (g ∷ fs) f = above_end (entry_name g.row) fs f

pub each_more : {A : Type 0} (P : A → Type 0) (xs : List A) (x : A) → Each P xs → P x → Each P (xs ++ x ∷ [])
each_more P [] x h k = (k, tt)
each_more P (y ∷ xs) x h k = (h.0, each_more P xs x h.1 k)

pub each_front : {A : Type 0} (P : A → Type 0) (xs : List A) (x : A) → Each P (xs ++ x ∷ []) → Each P xs × P x
each_front P [] x h = (tt, h.0)
each_front P (y ∷ xs) x h = let r = each_front P xs x h.1 in ((h.0, r.0), r.1)

-- the frame of a row over two treaps
abbrev pub frame_of : Row → Treap Row → Treap Row → Bool → Frame
frame_of y l m b = record { row = y; other = cond b l m; right = b }

pub frame_is : (y : Row) (l m : Treap Row) (b : Bool) → framed (frame_of y l m b) (cond b m l) ≡ Over y l m
frame_is y l m true = refl
frame_is y l m false = refl

-- ---- what is done to a treap is done under a path

insert_framed : (up : Row → Row → Bool) (p : Row → Bool) (x : Row) (f : Frame) (t : Treap Row) → up x f.row ≡ false → f.right ≡ p f.row → insert up p x (framed f t) ≡ framed f (insert up p x t)
insert_framed up p x f t u b = by f.right b
  where
    by : (r : Bool) → r ≡ p f.row → insert up p x (cond r (Over f.row f.other t) (Over f.row t f.other)) ≡ cond r (Over f.row f.other (insert up p x t)) (Over f.row (insert up p x t) f.other)
    by true q =
        cond-false (up x f.row) (Over x (low p (Over f.row f.other t)) (high p (Over f.row f.other t))) (cond (p f.row) (Over f.row f.other (insert up p x t)) (Over f.row (insert up p x f.other) t)) u
        ∙ cond-true (p f.row) (Over f.row f.other (insert up p x t)) (Over f.row (insert up p x f.other) t) (sym q)
    by false q =
        cond-false (up x f.row) (Over x (low p (Over f.row t f.other)) (high p (Over f.row t f.other))) (cond (p f.row) (Over f.row t (insert up p x f.other)) (Over f.row (insert up p x t) f.other)) u
        ∙ cond-false (p f.row) (Over f.row t (insert up p x f.other)) (Over f.row (insert up p x t) f.other) (sym q)

-- a row that stands above none of a path is put in under it
pub insert_plug : (up : Row → Row → Bool) (p : Row → Bool) (x : Row) (fs : List Frame) (t : Treap Row) → Each (λ f. up x f.row ≡ false) fs → Each (λ f. f.right ≡ p f.row) fs → insert up p x (plug fs t) ≡ plug fs (insert up p x t)
insert_plug up p x [] t h k = refl
insert_plug up p x (f ∷ fs) t h k = insert_framed up p x f (plug fs t) h.0 k.0 ∙ ap (framed f) (insert_plug up p x fs t h.1 k.1)

remove_framed : (up : Row → Row → Bool) (p e : Row → Bool) (f : Frame) (t : Treap Row) → e f.row ≡ false → f.right ≡ p f.row → remove up p e (framed f t) ≡ framed f (remove up p e t)
remove_framed up p e f t u b = by f.right b
  where
    by : (r : Bool) → r ≡ p f.row → remove up p e (cond r (Over f.row f.other t) (Over f.row t f.other)) ≡ cond r (Over f.row f.other (remove up p e t)) (Over f.row (remove up p e t) f.other)
    by true q =
        cond-false (e f.row) (merge up f.other t) (cond (p f.row) (Over f.row f.other (remove up p e t)) (Over f.row (remove up p e f.other) t)) u
        ∙ cond-true (p f.row) (Over f.row f.other (remove up p e t)) (Over f.row (remove up p e f.other) t) (sym q)
    by false q =
        cond-false (e f.row) (merge up t f.other) (cond (p f.row) (Over f.row t (remove up p e f.other)) (Over f.row (remove up p e t) f.other)) u
        ∙ cond-false (p f.row) (Over f.row t (remove up p e f.other)) (Over f.row (remove up p e t) f.other) (sym q)

-- a row that none of a path is, is taken out under it
pub remove_plug : (up : Row → Row → Bool) (p e : Row → Bool) (fs : List Frame) (t : Treap Row) → Each (λ f. (f.right ≡ p f.row) × (e f.row ≡ false)) fs → remove up p e (plug fs t) ≡ plug fs (remove up p e t)
remove_plug up p e [] t h = refl
remove_plug up p e (f ∷ fs) t h = remove_framed up p e f (plug fs t) h.0.1 h.0.0 ∙ ap (framed f) (remove_plug up p e fs t h.1)

-- the halves of a treap that a name splits, by its topmost row
pub low_framed : (p : Row → Bool) (y : Row) (l m : Treap Row) (b : Bool) → p y ≡ b → low p (Over y l m) ≡ cond b (Over y l (low p m)) (low p l)
low_framed p y l m true e = cond-true (p y) (Over y l (low p m)) (low p l) e
low_framed p y l m false e = cond-false (p y) (Over y l (low p m)) (low p l) e

pub high_framed : (p : Row → Bool) (y : Row) (l m : Treap Row) (b : Bool) → p y ≡ b → high p (Over y l m) ≡ cond b (high p m) (Over y (high p l) m)
high_framed p y l m true e = cond-true (p y) (high p m) (Over y (high p l) m) e
high_framed p y l m false e = cond-false (p y) (high p m) (Over y (high p l) m) e

-- ---- the rows met

pub along_over : (n : List ℕ) (y r : Row) (l m : Treap Row) (b : Bool) → has_name n y ≡ false → is_row_before n y ≡ b → IsAmong r (met_along n (cond b m l)) → IsAmong r (met_along n (Over y l m))
along_over n y r l m b e f h =
    let P : List Row → Type 0 = IsAmong r in
    inr (subst P (sym (cond-false (has_name n y) [] (cond (is_row_before n y) (met_along n m) (met_along n l)) e)) (by b f h))
  where
    by : (b : Bool) → is_row_before n y ≡ b → IsAmong r (met_along n (cond b m l)) → IsAmong r (cond (is_row_before n y) (met_along n m) (met_along n l))
    by true f h = let P : List Row → Type 0 = IsAmong r in subst P (sym (cond-true (is_row_before n y) (met_along n m) (met_along n l) f)) h
    by false f h = let P : List Row → Type 0 = IsAmong r in subst P (sym (cond-false (is_row_before n y) (met_along n m) (met_along n l) f)) h

pub near_over : (n : List ℕ) (y r : Row) (l m : Treap Row) (b : Bool) → has_name n y ≡ false → is_row_before n y ≡ b → IsAmong r (met_near n (cond b m l)) → IsAmong r (met_near n (Over y l m))
near_over n y r l m b e f h =
    let P : List Row → Type 0 = IsAmong r in
    inr (subst P (sym (cond-false (has_name n y) (way (λ _. true) l ++ way (λ _. false) m) (cond (is_row_before n y) (met_near n m) (met_near n l)) e)) (by b f h))
  where
    by : (b : Bool) → is_row_before n y ≡ b → IsAmong r (met_near n (cond b m l)) → IsAmong r (cond (is_row_before n y) (met_near n m) (met_near n l))
    by true f h = let P : List Row → Type 0 = IsAmong r in subst P (sym (cond-true (is_row_before n y) (met_near n m) (met_near n l) f)) h
    by false f h = let P : List Row → Type 0 = IsAmong r in subst P (sym (cond-false (is_row_before n y) (met_near n m) (met_near n l) f)) h

-- rows that are met below a step are met, so they are under a path
module _ (n : List ℕ) (meets : Treap Row → List Row) (step : (y r : Row) (l m : Treap Row) (b : Bool) → has_name n y ≡ false → is_row_before n y ≡ b → IsAmong r (meets (cond b m l)) → IsAmong r (meets (Over y l m))) where
  met_framed : (r : Row) (f : Frame) (t : Treap Row) → PassesBy n f → IsAmong r (meets t) → IsAmong r (meets (framed f t))
  met_framed r f t passes h = by f.right passes.0
    where
      by : (b : Bool) → b ≡ is_row_before n f.row → IsAmong r (meets (cond b (Over f.row f.other t) (Over f.row t f.other)))
      by true q = step f.row r f.other t true passes.1 (sym q) h
      by false q = step f.row r t f.other false passes.1 (sym q) h

  pub met_plug : (r : Row) (fs : List Frame) (t : Treap Row) → Each (PassesBy n) fs → IsAmong r (meets t) → IsAmong r (meets (plug fs t))
  met_plug r [] t passed h = h
  met_plug r (f ∷ fs) t passed h = met_framed r f (plug fs t) passed.0 (met_plug r fs t passed.1 h)

-- the rows under a path are rows of the whole
pub rows_plug : (r : Row) (fs : List Frame) (t : Treap Row) → IsAmong r (rows t) → IsAmong r (rows (plug fs t))
rows_plug r [] t h = h
rows_plug r (f ∷ fs) t h = by f.right (rows_plug r fs t h)
  where
    by : (b : Bool) → IsAmong r (rows (plug fs t)) → IsAmong r (rows (cond b (Over f.row f.other (plug fs t)) (Over f.row (plug fs t) f.other)))
    by true h = any_right (λ z. z ≡ r) (rows f.other) (f.row ∷ rows (plug fs t)) (inr h)
    by false h = any_left (λ z. z ≡ r) (rows (plug fs t)) (f.row ∷ rows f.other) h

-- ---- counts under a path

framed_blocks : (f : Frame) (w : Treap Row) → blocks (unfolded_rows w) ≤ blocks (unfolded_rows (framed f w))
framed_blocks f w = by f.right
  where
    by : (r : Bool) → blocks (unfolded_rows w) ≤ blocks (unfolded_rows (cond r (Over f.row f.other w) (Over f.row w f.other)))
    by true = (less_over f.row.id f.row.name f.row.content (unfolded_rows f.other) (unfolded_rows w)).1
    by false = (less_over f.row.id f.row.name f.row.content (unfolded_rows w) (unfolded_rows f.other)).0

pub plug_blocks : (fs : List Frame) (w : Treap Row) → blocks (unfolded_rows w) ≤ blocks (unfolded_rows (plug fs w))
plug_blocks [] w = omega arith
plug_blocks (f ∷ fs) w = let a = plug_blocks fs w in let b = framed_blocks f (plug fs w) in omega arith

-- ---- names apart

pub apart_swap : (a b : Treap Row) → Every (λ z. Outside (entry_name z) b) a → Every (λ z. Outside (entry_name z) a) b
apart_swap a Empty h = tt
apart_swap a (Over y l m) h = (
  every_map (λ z. Outside (entry_name z) (Over y l m)) (λ z. entry_name y ≢ entry_name z) a (λ z o e. o.0 (sym e)) h,
  apart_swap a l (every_map (λ z. Outside (entry_name z) (Over y l m)) (λ z. Outside (entry_name z) l) a (λ z o. o.1) h),
  apart_swap a m (every_map (λ z. Outside (entry_name z) (Over y l m)) (λ z. Outside (entry_name z) m) a (λ z o. o.2) h),
)

-- what is apart at a frame
pub record Apart (f : Frame) (w : Treap Row) : Type 0 where
  pub row : Outside (entry_name f.row) w
  pub row_other : Outside (entry_name f.row) f.other
  pub other : Every (λ z. Outside (entry_name z) w) f.other
  pub below : Once w

pub once_framed : (f : Frame) (w : Treap Row) → Once (framed f w) → Apart f w
once_framed f w h = by f.right h
  where
    by : (r : Bool) → Once (cond r (Over f.row f.other w) (Over f.row w f.other)) → Apart f w
    by true g = record { row = g.1; row_other = g.0; other = g.2; below = g.4 }
    by false g = record { row = g.0; row_other = g.1; other = apart_swap w f.other g.2; below = g.3 }

pub once_plug : (fs : List Frame) (w : Treap Row) → Once (plug fs w) → Once w
once_plug [] w h = h
once_plug (f ∷ fs) w h = once_plug fs w (once_framed f (plug fs w) h).below

pub every_framed : (P : Row → Type 0) (f : Frame) (w : Treap Row) → Every P (framed f w) → P f.row × Every P f.other × Every P w
every_framed P f w h = by f.right h
  where
    by : (r : Bool) → Every P (cond r (Over f.row f.other w) (Over f.row w f.other)) → P f.row × Every P f.other × Every P w
    by true g = (g.0, g.1, g.2)
    by false g = (g.0, g.2, g.1)
