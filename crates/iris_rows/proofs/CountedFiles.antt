-- Each change of a file keeps its versions at most its counter, and the counter at most the age.
use Rattle.std.proofs.Common.{◌≡◌, ℕ, zero, suc, ◌+◌, ◌-◌, ◌/◌, ◌%◌, ◌≤◌, ◌<◌, List, ◌∷◌, ◌++◌, length, take, replicate, get_or, Some, Bool, true, false, ◌&&◌, cond, refl, ◌∙◌, ap, arith}
use Rattle.std.specs.Prelude.{not, nat_le, nat_lt, ◌==◌}
use Rattle.std.proofs.lemmas.Bool.Decides.{nat_tests}
use Rattle.iris_plain.specs.Checks.{blocks_of}
use Rattle.iris_rows.specs.Rows.{File, zeros, empty_file}
use Rattle.iris_rows.specs.FileChanges.{merged, is_touched, file_written, is_split, cut, count_written, freed}
use Rattle.iris_rows.specs.Sound.{IsCounted, IsGood}
use Rattle.iris_rows.proofs.ResizedContent.{length-zeros, zeros_at}

pub counted_more : (age : ℕ) (f : File) → IsCounted age f → IsCounted (age + 1) f
counted_more age f c = record { version = c.version; counter = (let h = c.counter in omega arith); past = c.past; hole = c.hole }

pub counted_empty : (age : ℕ) → IsCounted age empty_file
counted_empty age = record { version = λ p. omega arith; counter = omega arith; past = λ p h. refl; hole = λ p h. refl }

either_version : (b : Bool) (x y : ℕ) → (P : ℕ → Type 0) → P x → P y → P (cond b x y)
either_version true x y P h k = h
either_version false x y P h k = k

touches_within : (offset n p : ℕ) → 0 < n → is_touched offset n p ≡ true → p < (offset + n + 4095) / 4096
touches_within offset n p h e = let k : p ≤ (offset + n - 1) / 4096 = within (nat_le (offset / 4096) p) (nat_le p ((offset + n - 1) / 4096)) refl e in omega arith where
  within : (a b : Bool) → nat_le p ((offset + n - 1) / 4096) ≡ b → a && b ≡ true → p ≤ (offset + n - 1) / 4096
  within true true x e = grind (arith, nat_tests)
  within true false x e = absurd (cc)
  within false b x e = absurd (cc)

pub counted_written : (age offset : ℕ) (bytes : List ℕ) (f : File) → 0 < length bytes → IsCounted age f → IsCounted (age + 1) (file_written offset bytes f)
counted_written age offset bytes f l c = record {
  version = λ p. either_version (is_touched offset (length bytes) p) _ _ (λ v. v ≤ f.counter + 1) (omega arith) (let h = c.version p in omega (arith, h));
  counter = (let h = c.counter in omega (arith, h));
  past = λ p h. by_past p h (is_touched offset (length bytes) p) refl;
  hole = λ p h. by_hole p (is_touched offset (length bytes) p) h;
} where
  by_past : (p : ℕ) → blocks_of (cond (nat_lt f.size (offset + length bytes)) (offset + length bytes) f.size) ≤ p → (b : Bool) → is_touched offset (length bytes) p ≡ b → cond b (f.counter + 1) (f.version p) ≡ 0
  by_past p h true e = absurd (let k = touches_within offset (length bytes) p l e in sized (nat_lt f.size (offset + length bytes)) refl h k) where
    sized : (b : Bool) → nat_lt f.size (offset + length bytes) ≡ b → blocks_of (cond b (offset + length bytes) f.size) ≤ p → p < (offset + length bytes + 4095) / 4096 → ⊥
    sized true t h k = omega arith
    sized false t h k = let g : offset + length bytes ≤ f.size = grind (arith, nat_tests) in omega arith
  by_past p h false e = c.past p (sized (nat_lt f.size (offset + length bytes)) refl h) where
    sized : (b : Bool) → nat_lt f.size (offset + length bytes) ≡ b → blocks_of (cond b (offset + length bytes) f.size) ≤ p → blocks_of f.size ≤ p
    sized true t h = let g : f.size < offset + length bytes = grind (arith, nat_tests) in omega arith
    sized false t h = h

  by_hole : (p : ℕ) (b : Bool) → cond b (f.counter + 1) (f.version p) ≡ 0 → cond b (merged offset bytes p (f.block p)) (f.block p) ≡ zeros
  by_hole p true h = absurd (omega arith)
  by_hole p false h = c.hole p h

take_zeros : (m n : ℕ) → m ≤ n → take {A = ℕ} m (replicate n 0) ++ replicate (n - m) 0 ≡ replicate n 0
take_zeros zero n h = let e : n - 0 ≡ n = omega arith in ap (λ k. replicate {A = ℕ} k 0) e
take_zeros (suc m) zero h = absurd (omega arith)
take_zeros (suc m) (suc n) h = let e : suc n - suc m ≡ n - m = omega arith in ap (λ k. 0 ∷ (take {A = ℕ} m (replicate n 0) ++ replicate k 0)) e ∙ ap (λ z. 0 ∷ z) (take_zeros m n (omega arith))

cut_zeros : (m : ℕ) → m ≤ 4096 → take m zeros ++ replicate (4096 - m) 0 ≡ zeros
unfolding zeros
cut_zeros m h = take_zeros m 4096 h

pub counted_cut : (age size : ℕ) (f : File) → IsCounted age f → IsCounted (age + 1) (cut size f)
counted_cut age size f c = record {
  version = λ p. either_version (nat_le (blocks_of size) p) _ _ (λ v. v ≤ f.counter + 1) (omega arith)
      (either_version (is_split size f.size p && not (f.version p == 0)) _ _ (λ v. v ≤ f.counter + 1) (omega arith) (let h = c.version p in omega (arith, h)));
  counter = (let h = c.counter in omega (arith, h));
  past = λ p h. by_past p (nat_le (blocks_of size) p) refl h;
  hole = λ p h. by_hole p (nat_le (blocks_of size) p) (is_split size f.size p) (f.version p == 0) refl h;
} where
  by_past : (p : ℕ) (b : Bool) → nat_le (blocks_of size) p ≡ b → blocks_of size ≤ p → cond b 0 (cond (is_split size f.size p && not (f.version p == 0)) (f.counter + 1) (f.version p)) ≡ 0
  by_past p true e h = refl
  by_past p false e h = absurd (let k : p < blocks_of size = grind (arith, nat_tests) in omega arith)

  by_hole : (p : ℕ) (a b z : Bool) → (f.version p == 0) ≡ z → cond a 0 (cond (b && not z) (f.counter + 1) (f.version p)) ≡ 0
      → cond a zeros (cond b (take (size % 4096) (f.block p) ++ replicate (4096 - size % 4096) 0) (f.block p)) ≡ zeros
  by_hole p true b z e h = refl
  by_hole p false true true e h = ap (λ x. take (size % 4096) x ++ replicate (4096 - size % 4096) 0) (c.hole p h) ∙ cut_zeros (size % 4096) (omega arith)
  by_hole p false true false e h = absurd (omega arith)
  by_hole p false false z e h = c.hole p h

pub counted_freed : (age : ℕ) (f : File) → IsCounted age f → IsCounted age (freed f)
counted_freed age f c = record {
  version = λ p. either_version (nat_lt (count_written f.version p) 16) _ _ (λ v. v ≤ f.counter) (omega arith) (c.version p);
  counter = c.counter;
  past = λ p h. either_version (nat_lt (count_written f.version p) 16) _ _ (λ v. v ≡ 0) refl (c.past p h);
  hole = λ p h. by_hole p (nat_lt (count_written f.version p) 16) h;
} where
  by_hole : (p : ℕ) (b : Bool) → cond b 0 (f.version p) ≡ 0 → cond b zeros (f.block p) ≡ zeros
  by_hole p true h = refl
  by_hole p false h = c.hole p h

pub good_freed : (f : File) → IsGood (Some f) → IsGood (Some (freed f))
good_freed f g = (λ p. pages p (nat_lt (count_written f.version p) 16), λ i h. tail i h (nat_lt (count_written f.version (i / 4096)) 16)) where
  pages : (p : ℕ) (b : Bool) → length (cond b zeros (f.block p)) ≡ 4096
  pages p true = length-zeros
  pages p false = g.0 p

  tail : (i : ℕ) → f.size ≤ i → (b : Bool) → get_or (cond b zeros (f.block (i / 4096))) (i % 4096) 0 ≡ 0
  tail i h true = zeros_at (i % 4096)
  tail i h false = g.1 i h

pub good_empty : IsGood (Some empty_file)
good_empty = (λ p. length-zeros, λ i h. zeros_at (i % 4096))
