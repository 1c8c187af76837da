-- Lists of rows from a name on, in a treap, and the ways to the rows of a page.
use Rattle.std.proofs.Common.{◌≡◌, ◌&&◌, ◌<◌, not, ◌++◌, inl, inr, ◌⊎◌, ℕ, zero, suc, List, [], ◌∷◌, Bool, true, false, cond, refl, ap, sym, ◌∙◌, subst, take, length, arith}
use Rattle.std.proofs.lemmas.Bool.{cond-true, cond-false, not-false}
use Rattle.iris_shape.specs.Treap.{Treap, Empty, Over, rows, high, skip, way, Each, Every, Falls}
use Rattle.iris_shape.specs.Order.{less_name, Rising}
use Rattle.iris_shape.proofs.Orders.{less_through}
use Rattle.iris_shape.proofs.Treaps.{each_map, each_of, every_of, every_high}
use Rattle.iris_treepaths.specs.Rows.{Row, row_name}
use Rattle.iris_treepaths.specs.Ways.{Any, along, is_row_before, has_name, up_to, along_name, along_each}
use Rattle.iris_dirtree.specs.Piles.{Sub, whole, left, right}
use Rattle.iris_treepaths.proofs.Downs.{any_left, any_right, rising_left, rising_right, rising_before, less_back, less_same}

-- ---- skipping

pub falls_up_to : (n : List ℕ) (xs : List Row) → Rising row_name xs → Falls (up_to n) xs
falls_up_to n [] h = tt
falls_up_to n (x ∷ xs) h =
    ((λ f. each_map (λ (z : Row). less_name x.name z.name ≡ true) (λ z. up_to n z ≡ false) xs (λ z k. ap (λ b. not b) (less_through n x.name z.name (not-false (less_name n x.name) f) k)) h.0), falls_up_to n xs h.1)

pub skip_false : {A : Type 0} (p : A → Bool) (xs : List A) → Falls p xs → Each (λ z. p z ≡ false) (skip p xs)
skip_false p [] f = tt
skip_false p (x ∷ xs) f = by (p x) refl (skip_false p xs f.1)
  where
    by : (t : Bool) → p x ≡ t → Each (λ z. p z ≡ false) (skip p xs) → Each (λ z. p z ≡ false) (cond (p x) (skip p xs) (x ∷ xs))
    by true e ih = subst (Each (λ z. p z ≡ false)) (sym (cond-true (p x) (skip p xs) (x ∷ xs) e)) ih
    by false e ih = subst (Each (λ z. p z ≡ false)) (sym (cond-false (p x) (skip p xs) (x ∷ xs) e)) (e, f.0 e)

-- where no row stands before the name, all are from it on
pub high_all : {A : Type 0} (p : A → Bool) (t : Treap A) → Every (λ z. p z ≡ false) t → high p t ≡ t
high_all p Empty h = refl
high_all p (Over y l m) h = cond-false (p y) (high p m) (Over y (high p l) m) h.0 ∙ ap (λ l. Over y l m) (high_all p l h.1)

pub each_high : {A : Type 0} (P : A → Type 0) (p : A → Bool) (t : Treap A) → Each P (rows t) → Each P (rows (high p t))
each_high P p t h = each_of P (high p t) (every_high P p t (every_of P t h))

pub any_each : {A : Type 0} (f : A) (Q : A → Type 0) (xs : List A) → Any (λ r. r ≡ f) xs → Each Q xs → Q f
any_each f Q [] a h = absurd a
any_each f Q (x ∷ xs) (inl e) h = subst Q e h.0
any_each f Q (x ∷ xs) (inr a) h = any_each f Q xs a h.1

-- ---- one step towards a row

-- towards a lesser name
step_left_by : (P : Row → Type 0) (n : List ℕ) (y : Row) (l m : Treap Row) → less_name n y.name ≡ true → Any P (along (is_row_before n) (has_name n) l) → Any P (along (is_row_before n) (has_name n) (Over y l m))
step_left_by P n y l m lt h =
    let p = is_row_before n in
    let e = has_name n in
    let a : p y ≡ false = less_back n y.name lt in
    let b : e y ≡ false = ap (λ t. not t && not (less_name n y.name)) a ∙ ap (λ t. not t) lt in
    inr (subst (Any P) (sym (cond-false (e y) [] (cond (p y) (along p e m) (along p e l)) b ∙ cond-false (p y) (along p e m) (along p e l) a)) h)

-- towards a greater name
step_right_by : (P : Row → Type 0) (n : List ℕ) (y : Row) (l m : Treap Row) → less_name y.name n ≡ true → Any P (along (is_row_before n) (has_name n) m) → Any P (along (is_row_before n) (has_name n) (Over y l m))
step_right_by P n y l m lt h =
    let p = is_row_before n in
    let e = has_name n in
    let b : e y ≡ false = ap (λ t. not t && not (less_name n y.name)) lt in
    inr (subst (Any P) (sym (cond-false (e y) [] (cond (p y) (along p e m) (along p e l)) b ∙ cond-true (p y) (along p e m) (along p e l) lt)) h)

step_left : (P : Row → Type 0) (f y : Row) (l m : Treap Row) → less_name f.name y.name ≡ true → Any P (along (is_row_before f.name) (has_name f.name) l) → Any P (along (is_row_before f.name) (has_name f.name) (Over y l m))
step_left P f y l m lt h = step_left_by P f.name y l m lt h

step_right : (P : Row → Type 0) (f y : Row) (l m : Treap Row) → less_name y.name f.name ≡ true → Any P (along (is_row_before f.name) (has_name f.name) m) → Any P (along (is_row_before f.name) (has_name f.name) (Over y l m))
step_right P f y l m lt h = step_right_by P f.name y l m lt h

-- ---- parts of a treap

pub sub_rows : {A : Type 0} (P : A → Type 0) (t w : Treap A) → Sub t w → Any P (rows w) → Any P (rows t)
sub_rows P t w whole h = h
sub_rows P t w (left y l m s) h = sub_rows P t (Over y l m) s (any_left P (rows l) (y ∷ rows m) h)
sub_rows P t w (right y l m s) h = sub_rows P t (Over y l m) s (any_right P (rows l) (y ∷ rows m) (inr h))

pub sub_rising : (t w : Treap Row) → Sub t w → Rising row_name (rows t) → Rising row_name (rows w)
sub_rising t w whole h = h
sub_rising t w (left y l m s) h = rising_left row_name (rows l) (y ∷ rows m) (sub_rising t (Over y l m) s h)
sub_rising t w (right y l m s) h = (rising_right row_name (rows l) (y ∷ rows m) (sub_rising t (Over y l m) s h)).1

-- on the way to a row of a part the part is met, and what is met from there on
pub sub_along : (P : Row → Type 0) (f : Row) (t w : Treap Row) → Sub t w → Rising row_name (rows t) → Any (λ r. r ≡ f) (rows w) → Any P (along (is_row_before f.name) (has_name f.name) w) → Any P (along (is_row_before f.name) (has_name f.name) t)
sub_along P f t w whole rise at h = h
sub_along P f t w (left y l m s) rise at h =
    let R = sub_rising t (Over y l m) s rise in
    let lt = any_each f (λ z. less_name z.name y.name ≡ true) (rows l) at (rising_before row_name (rows l) y (rows m) R) in
    sub_along P f t (Over y l m) s rise (any_left (λ r. r ≡ f) (rows l) (y ∷ rows m) at) (step_left P f y l m lt h)
sub_along P f t w (right y l m s) rise at h =
    let R = rising_right row_name (rows l) (y ∷ rows m) (sub_rising t (Over y l m) s rise) in
    let lt = any_each f (λ z. less_name y.name z.name ≡ true) (rows m) at R.0 in
    sub_along P f t (Over y l m) s rise (any_right (λ r. r ≡ f) (rows l) (y ∷ rows m) (inr at)) (step_right P f y l m lt h)

-- ---- the first row of a part

-- the first row of a list, and what is met on the way to it in a treap
pub record Next (P : Row → Type 0) (t : Treap Row) (xs : List Row) : Type 0 where
  pub row : Row
  pub rest : List Row
  pub is : xs ≡ row ∷ rest
  pub met : Any P (along (is_row_before row.name) (has_name row.name) t)

pub next_each : (P Q : Row → Type 0) (t : Treap Row) (xs : List Row) (n : Next P t xs) → Each Q xs → Q n.row
next_each P Q t xs n h = (subst (Each Q) n.is h).0

-- the way along the lesser sides is the way to the first row
pub spine : (P : Row → Type 0) (p : Row → Bool) (t : Treap Row) → Rising row_name (rows t) → Every (λ z. p z ≡ false) t → Any P (way p t) → Next P t (rows t)
spine P p Empty rise h a = absurd a
spine P p (Over y Empty m) rise h (inl a) = record { row = y; rest = rows m; is = refl; met = inl a }
spine P p (Over y Empty m) rise h (inr a) = absurd (subst (Any P) (cond-false (p y) (way p m) [] h.0) a)
spine P p (Over y (Over x k n) m) rise h (inl a) = let f = least y (Over x k n) m in record { row = f.0; rest = f.1; is = f.2; met = inl a }
  where
    least : (y : Row) (l m : Treap Row) → (f : Row) × (fs : List Row) × (rows l ++ y ∷ rows m ≡ f ∷ fs)
    least y Empty m = (y, rows m, refl)
    least y (Over x k n) m = let f = least x k n in (f.0, f.1 ++ y ∷ rows m, ap (λ l. l ++ y ∷ rows m) f.2)
spine P p (Over y (Over x k n) m) rise h (inr a) =
    let l = Over x k n in
    let s = spine P p (Over x k n) (rising_left row_name (rows l) (y ∷ rows m) rise) h.1 (subst (Any P) (cond-false (p y) (way p m) (way p l) h.0) a) in
    let lt = next_each P (λ z. less_name z.name y.name ≡ true) l (rows l) s (rising_before row_name (rows l) y (rows m) rise) in
    record { row = s.row; rest = s.rest ++ y ∷ rows m; is = ap (λ l. l ++ y ∷ rows m) s.is; met = step_left P s.row y l m lt s.met }

-- ---- the way to the first row after a name

abbrev pub NextAfter : (Row → Type 0) → List ℕ → Treap Row → Type 0
NextAfter P n t = Next P t (rows (high (up_to n) t))

next_more : (P : Row → Type 0) (n : List ℕ) (y : Row) (l m : Treap Row) → Each (λ (z : Row). less_name y.name z.name ≡ true) (rows m) → less_name n y.name ≡ false → NextAfter P n m → NextAfter P n (Over y l m)
next_more P n y l m gt f s =
    let p = up_to n in
    let e : p y ≡ true = ap (λ t. not t) f in
    let lt = next_each P (λ z. less_name y.name z.name ≡ true) m (rows (high p m)) s (each_high (λ z. less_name y.name z.name ≡ true) p m gt) in
    record { row = s.row; rest = s.rest; is = ap rows (cond-true (p y) (high p m) (Over y (high p l) m) e) ∙ s.is; met = step_right P s.row y l m lt s.met }

next_less : (P : Row → Type 0) (n : List ℕ) (y : Row) (l m : Treap Row) → Each (λ (z : Row). less_name z.name y.name ≡ true) (rows l) → less_name n y.name ≡ true → NextAfter P n l → NextAfter P n (Over y l m)
next_less P n y l m lts f s =
    let p = up_to n in
    let e : p y ≡ false = ap (λ t. not t) f in
    let lt = next_each P (λ z. less_name z.name y.name ≡ true) l (rows (high p l)) s (each_high (λ z. less_name z.name y.name ≡ true) p l lts) in
    record {
      row = s.row;
      rest = s.rest ++ y ∷ rows m;
      is = ap rows (cond-false (p y) (high p m) (Over y (high p l) m) e) ∙ ap (λ a. a ++ y ∷ rows m) s.is;
      met = step_left P s.row y l m lt s.met;
    }

abbrev GoesOn : (Row → Type 0) → List ℕ → Treap Row → Type 0
GoesOn P n t = Any P (way (up_to n) t) → Any P (along (is_row_before n) (has_name n) t) ⊎ NextAfter P n t

-- going down to the gap after a name meets only what is met on the way to the name, or to the first row after it
pub way_next : (P : Row → Type 0) (n : List ℕ) (t : Treap Row) → Rising row_name (rows t) → Any P (way (up_to n) t) → Any P (along (is_row_before n) (has_name n) t) ⊎ NextAfter P n t
way_next P n Empty rise a = absurd a
way_next P n (Over y l m) rise (inl a) = inl (inl a)
way_next P n (Over y l m) rise (inr a) = by (less_name n y.name) refl (way_next P n l (rising_left row_name (rows l) (y ∷ rows m) rise)) (way_next P n m R.1)
  where
    R : Each (λ (z : Row). less_name y.name z.name ≡ true) (rows m) × Rising row_name (rows m)
    R = rising_right row_name (rows l) (y ∷ rows m) rise

    later : (t : Bool) → less_name y.name n ≡ t → less_name n y.name ≡ false → GoesOn P n m → Any P (way (up_to n) m) → Any P (along (is_row_before n) (has_name n) (Over y l m)) ⊎ NextAfter P n (Over y l m)
    later true e f im b =
        elim (im b) [
          | inl c ↦ inl (step_right_by P n y l m e c)
          | inr c ↦ inr (next_more P n y l m R.0 f c)
        ]
    later false e f im b =
        let same = less_same n y.name f e in
        let all : Every (λ z. up_to n z ≡ false) m = every_of (λ z. up_to n z ≡ false) m (each_map (λ (z : Row). less_name y.name z.name ≡ true) (λ z. up_to n z ≡ false) (rows m) (λ z k. ap (λ b. not b) (ap (λ a. less_name a z.name) same ∙ k)) R.0) in
        let s = spine P (up_to n) m R.1 all b in
        inr (next_more P n y l m R.0 f (record { row = s.row; rest = s.rest; is = ap rows (high_all (up_to n) m all) ∙ s.is; met = s.met }))

    by : (t : Bool) → less_name n y.name ≡ t → GoesOn P n l → GoesOn P n m → Any P (along (is_row_before n) (has_name n) (Over y l m)) ⊎ NextAfter P n (Over y l m)
    by true e il im =
        elim (il (subst (Any P) (cond-false (up_to n y) (way (up_to n) m) (way (up_to n) l) (ap (λ t. not t) e)) a)) [
          | inl c ↦ inl (step_left_by P n y l m e c)
          | inr c ↦ inr (next_less P n y l m (rising_before row_name (rows l) y (rows m) rise) e c)
        ]
    by false e il im = later (less_name y.name n) refl e im (subst (Any P) (cond-true (up_to n y) (way (up_to n) m) (way (up_to n) l) (ap (λ t. not t) e)) a)

-- ---- pages

-- the way to a row of a page is one of the ways to its rows
pub page_has : (P : Row → Type 0) (key : List ℕ) (all done : List Row) (f : Row) (fs : List Row) (most : ℕ) → length done < most → Any P (along_name f.name key all) → Any P (along_each key all (take most (done ++ f ∷ fs)))
page_has P key all [] f fs zero lt h = absurd (omega arith)
page_has P key all [] f fs (suc k) lt h = any_left P (along_name f.name key all) (along_each key all (take k fs)) h
page_has P key all (x ∷ done) f fs zero lt h = absurd (omega arith)
page_has P key all (x ∷ done) f fs (suc k) lt h = any_right P (along_name x.name key all) (along_each key all (take k (done ++ f ∷ fs))) (page_has P key all done f fs k (omega arith) h)
