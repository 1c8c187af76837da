-- Paths compared name by name.
use Rattle.std.proofs.Common.{suc, length-append, ◌≡◌, ℕ, ◌+◌, ◌<◌, ◌≤◌, List, [], ◌∷◌, ◌++◌, length, get_or, drop, Bool, true, false, ◌&&◌, refl, sym, ◌∙◌, ap, arith}
use Rattle.std.proofs.lemmas.List.{drop_more, drop_all}
use Rattle.std.specs.Str.{bytes_eq}
use Rattle.std.specs.Cmp.Lexicographic.{bytes_decides}
use Rattle.iris_plain.specs.Routes.{is_path, is_at_or_under, is_front, rest}

abbrev pub Path : Type 0
Path = List (List ℕ)

-- a shorter path doesn't lie below
pub short : (a b : Path) → length b < length a → is_at_or_under a b ≡ false
short [] b h = absurd (omega arith)
short (n ∷ a) [] h = refl
short (n ∷ a) (m ∷ b) h = by (bytes_eq m n) (short a b (omega arith)) where
  by : (x : Bool) → is_at_or_under a b ≡ false → x && is_at_or_under a b ≡ false
  by true e = e
  by false e = refl

-- one more name
pub under_step : (i : ℕ) (a b : Path) (x y : List ℕ) → x ≡ get_or a i x → y ≡ get_or b i y → i < length a → i < length b
    → is_at_or_under (drop i a) (drop i b) ≡ (bytes_eq y x && is_at_or_under (drop (i + 1) a) (drop (i + 1) b))
under_step i a b x y p q h k =
    let e : drop i a ≡ x ∷ drop (i + 1) a = drop_more a i x h ∙ ap (λ z. z ∷ drop (i + 1) a) (sym p) in
    let f : drop i b ≡ y ∷ drop (i + 1) b = drop_more b i y k ∙ ap (λ z. z ∷ drop (i + 1) b) (sym q) in
    rw (e, f) refl

-- of one length, a path lies below where it is the same
pub same_under : (a b : Path) → length a ≡ length b → is_at_or_under a b ≡ is_path a b
same_under [] [] h = refl
same_under [] (m ∷ b) h = absurd (omega arith)
same_under (n ∷ a) [] h = refl
same_under (n ∷ a) (m ∷ b) h = ap (λ x. bytes_eq m n && x) (same_under a b (omega arith))

pub differ_under : (a b : Path) → (length a ≡ length b → ⊥) → is_path a b ≡ false
differ_under [] [] h = absurd (h refl)
differ_under [] (m ∷ b) h = refl
differ_under (n ∷ a) [] h = refl
differ_under (n ∷ a) (m ∷ b) h = by (bytes_eq m n) (differ_under a b (λ e. h (omega arith))) where
  by : (x : Bool) → is_path a b ≡ false → x && is_path a b ≡ false
  by true e = e
  by false e = refl

pub front_under : (a b : Path) → length a < length b → is_at_or_under a b ≡ is_front a b
front_under [] [] h = absurd (omega arith)
front_under [] (m ∷ b) h = refl
front_under (n ∷ a) [] h = refl
front_under (n ∷ a) (m ∷ b) h = ap (λ x. bytes_eq m n && x) (front_under a b (omega arith))

pub no_front : (a b : Path) → length b ≤ length a → is_front a b ≡ false
no_front [] [] h = refl
no_front [] (m ∷ b) h = absurd (omega arith)
no_front (n ∷ a) [] h = refl
no_front (n ∷ a) (m ∷ b) h = by (bytes_eq m n) (no_front a b (omega arith)) where
  by : (x : Bool) → is_front a b ≡ false → x && is_front a b ≡ false
  by true e = e
  by false e = refl

-- paths that are one are equal
pub is_tells : (a b : Path) → is_path a b ≡ true → a ≡ b
is_tells [] [] e = refl
is_tells [] (m ∷ b) e = absurd (cc)
is_tells (n ∷ a) [] e = absurd (cc)
is_tells (n ∷ a) (m ∷ b) e = by (bytes_eq m n) (bytes_decides m n) e (is_tells a b) where
  by : (x : Bool) → (x ≡ true → m ≡ n) × (m ≡ n → x ≡ true) → x && is_path a b ≡ true → (is_path a b ≡ true → a ≡ b) → n ∷ a ≡ m ∷ b
  by true d e f = let g = sym (d.0 refl) in let k = f e in λ i. g i ∷ k i
  by false d e f = absurd (cc)

pub same_name : (n : List ℕ) → bytes_eq n n ≡ true
same_name n = (bytes_decides n n).1 refl

pub own : (k : Path) → is_path k k ≡ true
own [] = refl
own (n ∷ ns) = rw (same_name n) (own ns)

pub under_join : (p r : Path) → is_at_or_under p (p ++ r) ≡ true
under_join [] r = refl
under_join (n ∷ p) r = rw (same_name n) (under_join p r)

pub rest_join : (p r : Path) → rest p (p ++ r) ≡ r
rest_join [] r = refl
rest_join (n ∷ p) r = rest_join p r

pub under_split : (p q : Path) → is_at_or_under p q ≡ true → q ≡ p ++ rest p q
under_split [] q u = refl
under_split (n ∷ p) [] u = absurd (cc)
under_split (n ∷ p) (m ∷ q) u = by (bytes_eq m n) (bytes_decides m n) u (under_split p q) where
  by : (x : Bool) → (x ≡ true → m ≡ n) × (m ≡ n → x ≡ true) → x && is_at_or_under p q ≡ true → (is_at_or_under p q ≡ true → q ≡ p ++ rest p q) → m ∷ q ≡ n ∷ (p ++ rest p q)
  by true d u f = let a = d.0 refl in let b = f u in λ i. a i ∷ b i
  by false d u f = absurd (cc)

-- a path below is at least as long
pub long : (a b : Path) → is_at_or_under a b ≡ true → length a ≤ length b
long [] b u = omega arith
long (n ∷ a) [] u = absurd (cc)
long (n ∷ a) (m ∷ b) u = by (bytes_eq m n) u (long a b) where
  by : (x : Bool) → x && is_at_or_under a b ≡ true → (is_at_or_under a b ≡ true → length a ≤ length b) → suc (length a) ≤ suc (length b)
  by true u f = let h = f u in omega arith
  by false u f = absurd (cc)

pub rest_drop : (p q : Path) → is_at_or_under p q ≡ true → rest p q ≡ drop (length p) q
rest_drop [] q u = refl
rest_drop (n ∷ p) [] u = absurd (cc)
rest_drop (n ∷ p) (m ∷ q) u = by (bytes_eq m n) u (rest_drop p q) where
  by : (x : Bool) → x && is_at_or_under p q ≡ true → (is_at_or_under p q ≡ true → rest p q ≡ drop (length p) q) → rest p q ≡ drop (length p) q
  by true u f = f u
  by false u f = absurd (cc)

-- a path one longer, below the first, is the first and a name
pub child : (p q : Path) (x : List ℕ) → is_at_or_under p q ≡ true → length q ≡ length p + 1 → x ≡ get_or q (length p) x → q ≡ p ++ x ∷ []
child p q x u h e =
    let cut : drop (length p) q ≡ x ∷ drop (length p + 1) q = drop_more q (length p) x (omega arith) ∙ ap (λ z. z ∷ drop (length p + 1) q) (sym e) in
    under_split p q u ∙ ap (λ r. p ++ r) (rest_drop p q u ∙ cut ∙ ap (λ r. x ∷ r) (drop_all (length p + 1) q (omega arith)))

pub no_child : (p q : Path) (n : List ℕ) → (length q ≡ length p + 1 → ⊥) → is_path q (p ++ n ∷ []) ≡ false
no_child p q n h = differ_under q (p ++ n ∷ []) (λ e. h (e ∙ length-append p (n ∷ [])))

pub path_tail : (p : Path) (n m : List ℕ) → is_path (p ++ n ∷ []) (p ++ m ∷ []) ≡ bytes_eq m n
path_tail [] n m = by (bytes_eq m n) where
  by : (b : Bool) → b && true ≡ b
  by true = refl
  by false = refl
path_tail (k ∷ p) n m = rw (same_name k) (path_tail p n m)
