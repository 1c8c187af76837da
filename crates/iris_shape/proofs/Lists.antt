-- The fold of a list, and of its halves.
use Rattle.std.proofs.Common.{◌≡◌, ◌+◌, ◌*◌, ◌/◌, ◌<◌, ◌^◌, inl, inr, ℕ, zero, suc, List, length, take, drop, refl, ap, sym, ◌∙◌, arith}
use Rattle.std.specs.Prelude.{slice_index}
use Rattle.std.proofs.lemmas.List.{get_or-drop, get_or-take}
use Rattle.std.proofs.lemmas.Nat.{pow_pos}
use Rattle.std.proofs.Math.Nat.{pow-succ'}
use Rattle.std.proofs.lemmas.List.{length-take, length-drop}
use Rattle.iris_shape.specs.declared.folding.Folded.{Folded}
use Rattle.iris_shape.specs.declared.folding.Folded as made
use Rattle.iris_shape.specs.Folds.{One, Two, join, folded, IsEven, IsPower}
use Rattle.iris_shape.specs.FoldLaws.{IsUnder}
use Rattle.iris_shape.specs.Made.{made_fold}
use Rattle.iris_shape.proofs.FoldProofs.{folded-suc, folded-zero, folded_same, folded_even, folded_at, folded_halves}

abbrev pub at : List ℕ → ℕ → ℕ
at xs p = slice_index xs p

within : (l p : ℕ) → IsUnder l 0 p → p < 2 ^ l
within l p u = omega (arith, u.to)

-- a list of one version folds to it
pub even_fold : (xs : List ℕ) (l : ℕ) → length xs ≡ 2 ^ l → IsEven xs → folded (at xs) l 0 ≡ One (at xs 0)
even_fold xs l e h = folded_even (at xs) l 0 (at xs 0) (λ p u. let lt = within l p u in h p (omega (arith, e, lt)))

-- versions from a place on that is a multiple of the part's size
pub shifted : (v : ℕ → ℕ) (d l i : ℕ) → folded (λ p. v (d * 2 ^ l + p)) l i ≡ folded v l (d + i)
shifted v d zero i = folded-zero (λ p. v (d * 2 ^ 0 + p)) i ∙ ap (λ n. One (v n)) (one d i) ∙ sym (folded-zero v (d + i))
  where
    one : (d i : ℕ) → d * 2 ^ 0 + i ≡ d + i
    one d i = let e : d * 1 + i ≡ d + i = omega arith in e
shifted v d (suc l) i =
    let k = 2 ^ l in
    let e = pow-succ' 2 l in
    let same = folded_same (λ p. v (d * 2 ^ suc l + p)) (λ p. v ((2 * d) * 2 ^ l + p)) in
    let one : (p : ℕ) → v (d * 2 ^ suc l + p) ≡ v ((2 * d) * 2 ^ l + p) = λ p. ap v (twice d p (2 ^ l) (2 ^ suc l) e) in
    folded-suc (λ p. v (d * 2 ^ suc l + p)) l i
    ∙ ap (λ s. join s (folded (λ p. v (d * 2 ^ suc l + p)) l (2 * i + 1))) (same l (2 * i) (λ p u. one p) ∙ shifted v (2 * d) l (2 * i))
    ∙ ap (λ s. join (folded v l (2 * d + 2 * i)) s) (same l (2 * i + 1) (λ p u. one p) ∙ shifted v (2 * d) l (2 * i + 1))
    ∙ ap (λ n. join (folded v l n) (folded v l (2 * d + (2 * i + 1)))) (low d i)
    ∙ ap (λ n. join (folded v l (2 * (d + i))) (folded v l n)) (high d i)
    ∙ sym (folded-suc v l (d + i))
  where
    twice : (d p k m : ℕ) → m ≡ 2 * k → d * m + p ≡ (2 * d) * k + p
    twice d p k m e = rw e (omega arith)

    low : (d i : ℕ) → 2 * d + 2 * i ≡ 2 * (d + i)
    low d i = omega arith

    high : (d i : ℕ) → 2 * d + (2 * i + 1) ≡ 2 * (d + i) + 1
    high d i = omega arith

half_size : (n k m : ℕ) → n ≡ m → m ≡ 2 * k → n / 2 ≡ k
half_size n k m e f = omega arith

pub low_half : (xs : List ℕ) (l : ℕ) → length xs ≡ 2 ^ suc l → folded (at (take (length xs / 2) xs)) l 0 ≡ folded (at xs) l 0
low_half xs l e =
    let n : length xs / 2 ≡ 2 ^ l = half_size (length xs) (2 ^ l) (2 ^ suc l) e (pow-succ' 2 l) in
    folded_same (at (take (length xs / 2) xs)) (at xs) l 0 (λ p u. let lt = within l p u in get_or-take (length xs / 2) xs p 0 (omega (arith, n, lt)))

pub high_half : (xs : List ℕ) (l : ℕ) → length xs ≡ 2 ^ suc l → folded (at (drop (length xs / 2) xs)) l 0 ≡ folded (at xs) l 1
high_half xs l e =
    let n : length xs / 2 ≡ 2 ^ l = half_size (length xs) (2 ^ l) (2 ^ suc l) e (pow-succ' 2 l) in
    folded_same (at (drop (length xs / 2) xs)) (λ p. at xs (1 * 2 ^ l + p)) l 0 (λ p u. rw get_or-drop (ap (at xs) (omega (arith, n))))
    ∙ shifted (at xs) 1 l 0

first : (xs : List ℕ) → length xs ≡ 1 → IsEven xs
first xs e p lt = ap (at xs) (omega (arith, e))

pub above_places : (xs : List ℕ) (level : ℕ) → length xs ≡ 2 ^ level → (IsEven xs → ⊥) → (l : ℕ) × (level ≡ suc l)
above_places xs zero e n = absurd (n (first xs e))
above_places xs (suc l) e n = (l, refl)

-- a list of several versions folds to the folds of its halves
pub uneven_fold : (xs : List ℕ) (l : ℕ) → length xs ≡ 2 ^ suc l → (IsEven xs → ⊥) → folded (at xs) (suc l) 0 ≡ Two (folded (at (take (length xs / 2) xs)) l 0) (folded (at (drop (length xs / 2) xs)) l 0)
uneven_fold xs l e n =
    elim (folded_halves (at xs) l 0) [
      | inl d ↦ d.1 ∙ ap (λ s. Two s (folded (at xs) l 1)) (sym (low_half xs l e)) ∙ ap (λ s. Two (folded (at (take (length xs / 2) xs)) l 0) s) (sym (high_half xs l e))
      | inr w ↦ absurd (n (λ p lt. all w.0 w.3 p lt ∙ sym (all w.0 w.3 0 (omega arith))))
    ]
  where
    all : (w : ℕ) → folded (at xs) (suc l) 0 ≡ One w → (p : ℕ) → p < length xs → at xs p ≡ w
    all w h p lt = folded_at (at xs) (suc l) 0 w p h (record { from = omega arith; to = omega (arith, e, lt) })

pub halves : (xs : List ℕ) → IsPower (length xs) → (IsEven xs → ⊥) → (length xs / 2 < length xs) × ((l : ℕ) × (length xs / 2 ≡ 2 ^ l) × (length xs ≡ 2 * 2 ^ l))
halves xs power n =
    let a = above_places xs power.0 power.1 n in
    let e : length xs ≡ 2 ^ suc a.0 = power.1 ∙ ap (λ l. 2 ^ l) a.1 in
    let h : length xs / 2 ≡ 2 ^ a.0 = half_size (length xs) (2 ^ a.0) (2 ^ suc a.0) e (pow-succ' 2 a.0) in
    let t : length xs ≡ 2 * 2 ^ a.0 = e ∙ pow-succ' 2 a.0 in
    let some : 0 < 2 ^ a.0 = pow_pos a.0 in
    (omega (arith, h, t, some), (a.0, h, t))

-- what is made of the folds of the two halves
pub built : (xs low high : List ℕ) (level : ℕ) (f g a b : Folded) → length xs ≡ 2 ^ level → (IsEven xs → ⊥) → low ≡ take (length xs / 2) xs → high ≡ drop (length xs / 2) xs
    → ((l : ℕ) → length low ≡ 2 ^ l → f ≡ made_fold (folded (at low) l 0)) → ((l : ℕ) → length high ≡ 2 ^ l → g ≡ made_fold (folded (at high) l 0))
    → a ≡ f → b ≡ g → made.Two a b ≡ made_fold (folded (at xs) level 0)
built xs low high level f g a b e n el eh hl hh ea eb =
    let s = above_places xs level e n in
    let l = s.0 in
    let k : length xs ≡ 2 ^ suc l = e ∙ ap (λ m. 2 ^ m) s.1 in
    let m : length xs / 2 ≡ 2 ^ l = half_size (length xs) (2 ^ l) (2 ^ suc l) k (pow-succ' 2 l) in
    let t : length xs ≡ 2 * 2 ^ l = k ∙ pow-succ' 2 l in
    let ll : length low ≡ 2 ^ l = ap length el ∙ (let q : length (take (length xs / 2) xs) ≡ 2 ^ l = omega (arith, length-take (length xs / 2) xs, m, t) in q) in
    let lh : length high ≡ 2 ^ l = ap length eh ∙ (let q : length (drop (length xs / 2) xs) ≡ 2 ^ l = omega (arith, length-drop (length xs / 2) xs, m, t) in q) in
    let x : a ≡ made_fold (folded (at (take (length xs / 2) xs)) l 0) = ea ∙ hl l ll ∙ ap (λ w. made_fold (folded (at w) l 0)) el in
    let y : b ≡ made_fold (folded (at (drop (length xs / 2) xs)) l 0) = eb ∙ hh l lh ∙ ap (λ w. made_fold (folded (at w) l 0)) eh in
    ap (λ w. made.Two w b) x ∙ ap (λ w. made.Two (made_fold (folded (at (take (length xs / 2) xs)) l 0)) w) y
    ∙ ap made_fold (sym (uneven_fold xs l k n)) ∙ ap (λ m. made_fold (folded (at xs) m 0)) (sym s.1)
