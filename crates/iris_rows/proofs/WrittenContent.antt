use Rattle.std.proofs.Common.{◌≡◌, ◌⊎◌, inl, inr, ℕ, zero, suc, ◌+◌, ◌-◌, ◌*◌, ◌/◌, ◌%◌, ◌<◌, ◌≤◌, List, ◌++◌, length, get_or, take, drop, Bool, true, false, cond, Some, refl, sym, ◌∙◌, ap, arith, length-append, length-drop, length-take}
use Rattle.std.proofs.lemmas.List.{get_or-take, get_or-drop, get_or_append_left, get_or-replicate, length-replicate, get_or-append_right, ext_get_or, get_or_past}
use Rattle.std.proofs.lemmas.Bool.Decides.{nat_tests}
use Rattle.std.specs.Prelude.{nat_lt, replicate, min}
use Rattle.iris_plain.specs.Files.{wrote}
use Rattle.iris_rows.specs.Sound.{ArePages, content_byte, IsGood}
use Rattle.iris_plain.specs.Checks.{blocks_of}
use Rattle.iris_rows.specs.Rows.{File}
use Rattle.iris_rows.specs.FileChanges.{merged, is_touched, file_written}
use Rattle.iris_rows.specs.View.{joined, content}

div_next : (i : ℕ) → 4096 ≤ i → 1 + (i - 4096) / 4096 ≡ i / 4096
div_next i h = omega arith

mod_next : (i : ℕ) → 4096 ≤ i → (i - 4096) % 4096 ≡ i % 4096
mod_next i h = omega arith

div_first : (i : ℕ) → i < 4096 → i / 4096 ≡ 0
div_first i h = omega arith

mod_first : (i : ℕ) → i < 4096 → i % 4096 ≡ i
mod_first i h = omega arith

pub length-joined : (block : ℕ → List ℕ) (from n : ℕ) → ArePages block → length (joined block from n) ≡ 4096 * n
length-joined block from zero h = refl
length-joined block from (suc n) h = omega (arith, length-append (block from) (joined block (from + 1) n), length-joined block (from + 1) n h, h from)

pub less_or : (a b : ℕ) → (a < b) ⊎ (b ≤ a)
less_or a b = grind arith

pub get_or-joined : (block : ℕ → List ℕ) (from n i d : ℕ) → ArePages block → i < 4096 * n → get_or (joined block from n) i d ≡ get_or (block (from + i / 4096)) (i % 4096) d
get_or-joined block from zero i d h l = absurd (omega arith)
get_or-joined block from (suc n) i d h l = by (less_or i 4096) (get_or-joined block (from + 1) n (i - 4096) d h) where
  by : (i < 4096) ⊎ (4096 ≤ i) → (i - 4096 < 4096 * n → get_or (joined block (from + 1) n) (i - 4096) d ≡ get_or (block (from + 1 + (i - 4096) / 4096)) ((i - 4096) % 4096) d)
      → get_or (block from ++ joined block (from + 1) n) i d ≡ get_or (block (from + i / 4096)) (i % 4096) d
  by (inl s) f = let k : from + i / 4096 ≡ from = omega arith in let m : i % 4096 ≡ i = omega arith in
      rw (k, m) (get_or_append_left (block from) _ d i (omega (arith, h from)))
  by (inr s) f = let k : from + 1 + (i - 4096) / 4096 ≡ from + i / 4096 = omega arith in let m = mod_next i s in
      get_or-append_right (block from) _ 4096 i d (h from) s ∙ f (omega arith) ∙ ap (λ a. get_or (block a) ((i - 4096) % 4096) d) k ∙ ap (λ a. get_or (block (from + i / 4096)) a d) m

pub length-content : (f : File) → ArePages f.block → length (content f) ≡ f.size
length-content f h = omega (arith, length-take f.size (joined f.block 0 (blocks_of f.size)), length-joined f.block 0 (blocks_of f.size) h)

pub get_or-content : (f : File) (i : ℕ) → ArePages f.block → i < f.size → get_or (content f) i 0 ≡ content_byte f.block i
get_or-content f i h l = get_or-take f.size _ i 0 l ∙ get_or-joined f.block 0 (blocks_of f.size) i 0 h (omega arith)
    ∙ ap (λ a. get_or (f.block a) (i % 4096) 0) (zero_add (i / 4096))
  where
    zero_add : (a : ℕ) → 0 + a ≡ a
    zero_add a = omega arith

-- the bytes of a file, whatever its size: zeros past its end
pub get_or-content_all : (f : File) (i : ℕ) → ArePages f.block → ((i : ℕ) → f.size ≤ i → content_byte f.block i ≡ 0) → get_or (content f) i 0 ≡ content_byte f.block i
get_or-content_all f i h t = by (less_or i f.size) where
  by : (i < f.size) ⊎ (f.size ≤ i) → get_or (content f) i 0 ≡ content_byte f.block i
  by (inl l) = get_or-content f i h l
  by (inr g) = get_or_past (content f) i 0 (omega (arith, length-content f h)) ∙ sym (t i g)

module _ (offset : ℕ) (bytes b : List ℕ) where
  front : List ℕ
  front = take offset (b ++ replicate (offset - length b) 0)

  length-front : length (take offset (b ++ replicate (offset - length b) 0)) ≡ offset
  length-front = omega (arith, length-take offset (b ++ replicate (offset - length b) 0), length-append b (replicate (offset - length b) 0), length-replicate {A = ℕ} (offset - length b) 0)

  pub length-wrote : length (wrote offset bytes b) ≡ cond (nat_lt (length b) (offset + length bytes)) (offset + length bytes) (length b)
  length-wrote = let e : length (wrote offset bytes b) ≡ offset + (length bytes + (length b - (offset + length bytes))) = omega (arith, length-append (take offset (b ++ replicate (offset - length b) 0)) (bytes ++ drop (offset + length bytes) b), length-append bytes (drop (offset + length bytes) b), length-drop (offset + length bytes) b, length-front) in
      grind (arith, nat_tests, e)

  padded : (i : ℕ) → get_or (b ++ replicate (offset - length b) 0) i 0 ≡ get_or b i 0
  padded i = by (less_or i (length b)) (less_or (i - length b) (offset - length b)) where
    by : (i < length b) ⊎ (length b ≤ i) → (i - length b < offset - length b) ⊎ (offset - length b ≤ i - length b) → get_or (b ++ replicate (offset - length b) 0) i 0 ≡ get_or b i 0
    by (inl l) s = get_or_append_left b _ 0 i l
    by (inr g) (inl s) = get_or-append_right b _ (length b) i 0 refl g ∙ get_or-replicate (offset - length b) (i - length b) 0 0 s ∙ sym (get_or_past b i 0 g)
    by (inr g) (inr s) = get_or-append_right b _ (length b) i 0 refl g ∙ get_or_past _ (i - length b) 0 (omega (arith, length-replicate {A = ℕ} (offset - length b) 0)) ∙ sym (get_or_past b i 0 g)

  pub wrote_before : (i : ℕ) → i < offset → get_or (wrote offset bytes b) i 0 ≡ get_or b i 0
  wrote_before i l = get_or_append_left (take offset (b ++ replicate (offset - length b) 0)) _ 0 i (omega (arith, length-front)) ∙ get_or-take offset _ i 0 l ∙ padded i

  pub wrote_in : (i : ℕ) → offset ≤ i → i < offset + length bytes → get_or (wrote offset bytes b) i 0 ≡ get_or bytes (i - offset) 0
  wrote_in i g l = get_or-append_right _ _ offset i 0 length-front g ∙ get_or_append_left bytes _ 0 (i - offset) (omega arith)

  pub wrote_after : (i : ℕ) → offset + length bytes ≤ i → get_or (wrote offset bytes b) i 0 ≡ get_or b i 0
  wrote_after i g = get_or-append_right _ _ offset i 0 length-front (omega arith) ∙ get_or-append_right bytes _ (length bytes) (i - offset) 0 refl (omega arith)
      ∙ get_or-drop (offset + length bytes) b (i - offset - length bytes) 0 ∙ ap (λ a. get_or b a 0) (sum_back i g)
    where
      sum_back : (i : ℕ) → offset + length bytes ≤ i → offset + length bytes + (i - offset - length bytes) ≡ i
      sum_back i g = omega arith

-- a block with bytes over it
module _ (offset : ℕ) (bytes : List ℕ) (p : ℕ) (old : List ℕ) (whole : length old ≡ 4096) where
  over : List ℕ
  over = drop (p * 4096 - offset) bytes

  first_long : length (take (offset - p * 4096) old) ≤ offset - p * 4096
  first_long = omega (arith, length-take (offset - p * 4096) old)

  length-first : offset < p * 4096 + 4096 → length (take (offset - p * 4096) old) ≡ offset - p * 4096
  length-first h = omega (arith, length-take (offset - p * 4096) old, whole)

  length-second : length (take (4096 - (offset - p * 4096)) (drop (p * 4096 - offset) bytes)) ≡ min (4096 - (offset - p * 4096)) (length bytes - (p * 4096 - offset))
  length-second = length-take (4096 - (offset - p * 4096)) (drop (p * 4096 - offset) bytes) ∙ ap (λ a. min (4096 - (offset - p * 4096)) a) (length-drop (p * 4096 - offset) bytes)

  pub merged_before : (j : ℕ) → j < 4096 → p * 4096 + j < offset → get_or (merged offset bytes p old) j 0 ≡ get_or old j 0
  merged_before j l h = get_or_append_left (take (offset - p * 4096) old) _ 0 j (omega (arith, length-take (offset - p * 4096) old, whole)) ∙ get_or-take (offset - p * 4096) old j 0 (omega arith)

  pub merged_in : (j : ℕ) → j < 4096 → offset ≤ p * 4096 + j → p * 4096 + j < offset + length bytes → get_or (merged offset bytes p old) j 0 ≡ get_or bytes (p * 4096 + j - offset) 0
  merged_in j l g h = get_or-append_right (take (offset - p * 4096) old) _ (offset - p * 4096) j 0 (length-first (omega arith)) (omega arith)
      ∙ get_or_append_left (take (4096 - (offset - p * 4096)) (drop (p * 4096 - offset) bytes)) _ 0 (j - (offset - p * 4096)) (omega (arith, length-second))
      ∙ get_or-take (4096 - (offset - p * 4096)) (drop (p * 4096 - offset) bytes) (j - (offset - p * 4096)) 0 (omega arith)
      ∙ get_or-drop (p * 4096 - offset) bytes (j - (offset - p * 4096)) 0 ∙ ap (λ a. get_or bytes a 0) (place j g)
    where
      place : (j : ℕ) → offset ≤ p * 4096 + j → p * 4096 - offset + (j - (offset - p * 4096)) ≡ p * 4096 + j - offset
      place j g = omega arith

  pub merged_after : (j : ℕ) → j < 4096 → offset < p * 4096 + 4096 → p * 4096 < offset + length bytes → offset + length bytes ≤ p * 4096 + j → get_or (merged offset bytes p old) j 0 ≡ get_or old j 0
  merged_after j l a b g = get_or-append_right (take (offset - p * 4096) old) _ (offset - p * 4096) j 0 (length-first a) (omega arith)
      ∙ get_or-append_right (take (4096 - (offset - p * 4096)) (drop (p * 4096 - offset) bytes)) _ (length bytes - (p * 4096 - offset)) (j - (offset - p * 4096)) 0 (omega (arith, length-second)) (omega arith)
      ∙ get_or-drop (offset + length bytes - p * 4096) old (j - (offset - p * 4096) - (length bytes - (p * 4096 - offset))) 0 ∙ ap (λ k. get_or old k 0) (place j a b g)
    where
      place : (j : ℕ) → offset < p * 4096 + 4096 → p * 4096 < offset + length bytes → offset + length bytes ≤ p * 4096 + j
          → offset + length bytes - p * 4096 + (j - (offset - p * 4096) - (length bytes - (p * 4096 - offset))) ≡ j
      place j a b g = omega arith

  pub length-merged : offset < p * 4096 + 4096 → p * 4096 < offset + length bytes → length (merged offset bytes p old) ≡ 4096
  length-merged a b = omega (
    arith,
    length-append (take (offset - p * 4096) old) (take (4096 - (offset - p * 4096)) (drop (p * 4096 - offset) bytes) ++ drop (offset + length bytes - p * 4096) old),
    length-append (take (4096 - (offset - p * 4096)) (drop (p * 4096 - offset) bytes)) (drop (offset + length bytes - p * 4096) old),
    length-first a,
    length-second,
    length-drop (offset + length bytes - p * 4096) old,
    whole,
  )

touched : (offset n p : ℕ) → 0 < n → is_touched offset n p ≡ true → (offset < p * 4096 + 4096) × (p * 4096 < offset + n)
touched offset n p z e = let k : (offset / 4096 ≤ p) × (p ≤ (offset + n - 1) / 4096) = (grind (arith, nat_tests), grind (arith, nat_tests)) in (omega arith, omega arith)

untouched : (offset n p : ℕ) → 0 < n → is_touched offset n p ≡ false → (p * 4096 + 4096 ≤ offset) ⊎ (offset + n ≤ p * 4096)
untouched offset n p z e = let k : (p < offset / 4096) ⊎ ((offset + n - 1) / 4096 < p) = grind (arith, nat_tests) in elim k [ inl a ↦ inl (omega arith) | inr b ↦ inr (omega arith) ]

written_byte : (offset : ℕ) (bytes : List ℕ) (f : File) (i : ℕ) → 0 < length bytes → ArePages f.block → ((i : ℕ) → f.size ≤ i → content_byte f.block i ≡ 0)
    → content_byte (file_written offset bytes f).block i ≡ get_or (wrote offset bytes (content f)) i 0
written_byte offset bytes f i z h t = by (is_touched offset (length bytes) (i / 4096)) refl (less_or i offset) (less_or i (offset + length bytes)) where
  at : i / 4096 * 4096 + i % 4096 ≡ i
  at = omega arith

  same : get_or (content f) i 0 ≡ content_byte f.block i
  same = get_or-content_all f i h t

  by : (b : Bool) → is_touched offset (length bytes) (i / 4096) ≡ b → (i < offset) ⊎ (offset ≤ i) → (i < offset + length bytes) ⊎ (offset + length bytes ≤ i)
      → get_or (cond b (merged offset bytes (i / 4096) (f.block (i / 4096))) (f.block (i / 4096))) (i % 4096) 0 ≡ get_or (wrote offset bytes (content f)) i 0
  by true e (inl l) r = merged_before offset bytes (i / 4096) (f.block (i / 4096)) (h (i / 4096)) (i % 4096) (omega arith) (omega (arith, at)) ∙ sym same ∙ sym (wrote_before offset bytes (content f) i l)
  by true e (inr g) (inl l) = merged_in offset bytes (i / 4096) (f.block (i / 4096)) (h (i / 4096)) (i % 4096) (omega arith) (omega (arith, at)) (omega (arith, at))
      ∙ ap (λ k. get_or bytes (k - offset) 0) at ∙ sym (wrote_in offset bytes (content f) i g l)
  by true e (inr g) (inr r) = let k = touched offset (length bytes) (i / 4096) z e in
      merged_after offset bytes (i / 4096) (f.block (i / 4096)) (h (i / 4096)) (i % 4096) (omega arith) k.0 k.1 (omega (arith, at)) ∙ sym same ∙ sym (wrote_after offset bytes (content f) i r)
  by false e (inl l) r = sym same ∙ sym (wrote_before offset bytes (content f) i l)
  by false e (inr g) (inl l) = elim (untouched offset (length bytes) (i / 4096) z e) [ inl a ↦ absurd (omega (arith, at)) | inr b ↦ absurd (omega (arith, at)) ]
  by false e (inr g) (inr r) = sym same ∙ sym (wrote_after offset bytes (content f) i r)

pub written_pages : (offset : ℕ) (bytes : List ℕ) (f : File) → 0 < length bytes → ArePages f.block → ArePages (file_written offset bytes f).block
written_pages offset bytes f z h p = by (is_touched offset (length bytes) p) refl where
  by : (b : Bool) → is_touched offset (length bytes) p ≡ b → length (cond b (merged offset bytes p (f.block p)) (f.block p)) ≡ 4096
  by true e = let k = touched offset (length bytes) p z e in length-merged offset bytes p (f.block p) (h p) k.0 k.1
  by false e = h p

pub content-written : (offset : ℕ) (bytes : List ℕ) (f : File) → 0 < length bytes → IsGood (Some f) → content (file_written offset bytes f) ≡ wrote offset bytes (content f)
content-written offset bytes f z g = ext_get_or 0 _ _ long (λ i l. get_or-content (file_written offset bytes f) i pages (omega (arith, length-content (file_written offset bytes f) pages)) ∙ written_byte offset bytes f i z g.0 g.1) where
  pages : ArePages (file_written offset bytes f).block
  pages = written_pages offset bytes f z g.0

  long : length (content (file_written offset bytes f)) ≡ length (wrote offset bytes (content f))
  long = length-content (file_written offset bytes f) pages ∙ ap (λ n. cond (nat_lt n (offset + length bytes)) (offset + length bytes) n) (sym (length-content f g.0)) ∙ sym (length-wrote offset bytes (content f))

-- and what is written stays good
pub good-written : (offset : ℕ) (bytes : List ℕ) (f : File) → 0 < length bytes → IsGood (Some f) → IsGood (Some (file_written offset bytes f))
good-written offset bytes f z g = (written_pages offset bytes f z g.0, λ i l. written_byte offset bytes f i z g.0 g.1 ∙ get_or_past (wrote offset bytes (content f)) i 0 (omega (arith, long, l))) where
  long : length (wrote offset bytes (content f)) ≡ cond (nat_lt f.size (offset + length bytes)) (offset + length bytes) f.size
  long = length-wrote offset bytes (content f) ∙ ap (λ n. cond (nat_lt n (offset + length bytes)) (offset + length bytes) n) (length-content f g.0)
