-- A file's bytes after a change of its length to one above 0.
use Rattle.std.proofs.Common.{◌≡◌, ◌≢◌, ◌⊎◌, inl, inr, ℕ, ◌+◌, ◌-◌, ◌*◌, ◌/◌, ◌%◌, ◌<◌, ◌≤◌, ◌==◌, List, ◌++◌, length, get_or, take, Bool, true, false, ◌&&◌, Some, refl, sym, ◌∙◌, arith, length-append, length-take}
use Rattle.std.proofs.lemmas.List.{get_or-take, get_or_append_left, get_or-replicate, length-replicate, get_or-append_right, ext_get_or, get_or_past}
use Rattle.std.proofs.lemmas.Bool.Decides.{nat_tests}
use Rattle.std.specs.Prelude.{nat_lt, nat_le, replicate}
use Rattle.iris_plain.specs.Checks.{blocks_of}
use Rattle.iris_plain.specs.Files.{resized_bytes}
use Rattle.iris_rows.specs.Sound.{ArePages, content_byte, IsGood}
use Rattle.iris_rows.specs.Rows.{File, zeros}
use Rattle.iris_rows.specs.FileChanges.{cut}
use Rattle.iris_rows.specs.View.{content}
use Rattle.iris_rows.proofs.WrittenContent.{get_or-content_all, get_or-content, length-content, less_or}

get_or-zeros_all : (n i : ℕ) → get_or {A = ℕ} (replicate n 0) i 0 ≡ 0
get_or-zeros_all n i = by (less_or i n) where
  by : (i < n) ⊎ (n ≤ i) → get_or {A = ℕ} (replicate n 0) i 0 ≡ 0
  by (inl l) = get_or-replicate n i 0 0 l
  by (inr g) = get_or_past _ i 0 (omega (arith, length-replicate {A = ℕ} n 0))

pub length-zeros : length zeros ≡ 4096
unfolding zeros
length-zeros = length-replicate {A = ℕ} 4096 0

pub zeros_at : (i : ℕ) → get_or zeros i 0 ≡ 0
unfolding zeros
zeros_at i = get_or-zeros_all 4096 i

pub length-resized : (len : ℕ) (b : List ℕ) → length (resized_bytes len b) ≡ len
length-resized len b = omega (arith, length-take len (b ++ replicate (len - length b) 0), length-append b (replicate (len - length b) 0), length-replicate {A = ℕ} (len - length b) 0)

pub resized_at : (len : ℕ) (b : List ℕ) (i : ℕ) → i < len → get_or (resized_bytes len b) i 0 ≡ get_or b i 0
resized_at len b i h = get_or-take len (b ++ replicate (len - length b) 0) i 0 h ∙ by (less_or i (length b)) where
  by : (i < length b) ⊎ (length b ≤ i) → get_or (b ++ replicate (len - length b) 0) i 0 ≡ get_or b i 0
  by (inl l) = get_or_append_left b _ 0 i l
  by (inr g) = get_or-append_right b _ (length b) i 0 refl g ∙ get_or-zeros_all (len - length b) (i - length b) ∙ sym (get_or_past b i 0 g)

-- the last kept block, cut
cut_page : (m : ℕ) (old : List ℕ) → m ≤ 4096 → length old ≡ 4096 → length (take m old ++ replicate (4096 - m) 0) ≡ 4096
cut_page m old h e = omega (arith, length-append (take m old) (replicate (4096 - m) 0), length-take m old, length-replicate {A = ℕ} (4096 - m) 0)

cut_before : (m : ℕ) (old : List ℕ) (j : ℕ) → j < m → m ≤ 4096 → length old ≡ 4096 → get_or (take m old ++ replicate (4096 - m) 0) j 0 ≡ get_or old j 0
cut_before m old j l h e = get_or_append_left (take m old) _ 0 j (omega (arith, length-take m old)) ∙ get_or-take m old j 0 l

cut_after : (m : ℕ) (old : List ℕ) (j : ℕ) → m ≤ j → m ≤ 4096 → length old ≡ 4096 → get_or (take m old ++ replicate (4096 - m) 0) j 0 ≡ 0
cut_after m old j l h e = get_or-append_right (take m old) _ m j 0 (omega (arith, length-take m old)) l ∙ get_or-zeros_all (4096 - m) (j - m)

-- of a place p: past the end, the cut one, or kept
cut_tests : (len size p : ℕ) → ((nat_le (blocks_of len) p ≡ true) × (len ≤ p * 4096))
    ⊎ (((nat_le (blocks_of len) p ≡ false) × (nat_lt len size && (p == len / 4096) ≡ true) × (p ≡ len / 4096) × (len < size))
    ⊎ ((nat_le (blocks_of len) p ≡ false) × (nat_lt len size && (p == len / 4096) ≡ false) × ((size ≤ len) ⊎ (p * 4096 + 4096 ≤ len))))
cut_tests len size p = by (nat_le (blocks_of len) p) (nat_lt len size) (p == len / 4096) refl refl refl where
  by : (a b c : Bool) → nat_le (blocks_of len) p ≡ a → nat_lt len size ≡ b → (p == len / 4096) ≡ c
      → ((a ≡ true) × (len ≤ p * 4096)) ⊎ (((a ≡ false) × (b && c ≡ true) × (p ≡ len / 4096) × (len < size)) ⊎ ((a ≡ false) × (b && c ≡ false) × ((size ≤ len) ⊎ (p * 4096 + 4096 ≤ len))))
  by true b c x y z = let k : blocks_of len ≤ p = grind (arith, nat_tests) in inl (refl, omega arith)
  by false true true x y z = inr (inl (refl, refl, grind (arith, nat_tests), grind (arith, nat_tests)))
  by false true false x y z = let k : p < blocks_of len = grind (arith, nat_tests) in let e : p ≢ len / 4096 = grind (arith, nat_tests) in inr (inr (refl, refl, inr (omega arith)))
  by false false c x y z = inr (inr (refl, refl, inl (grind (arith, nat_tests))))

pub cut_pages : (len : ℕ) (f : File) → ArePages f.block → ArePages (cut len f).block
cut_pages len f h p = elim (cut_tests len f.size p) [
  | inl a ↦ rw a.0 length-zeros
  | inr r ↦ elim r [ inl b ↦ rw (b.0, b.1) (cut_page (len % 4096) (f.block p) (omega arith) (h p)) | inr d ↦ rw (d.0, d.1) (h p) ]
]

pub cut_kept : (len : ℕ) (f : File) (i : ℕ) → ArePages f.block → i < len → content_byte (cut len f).block i ≡ content_byte f.block i
cut_kept len f i h l = elim (cut_tests len f.size (i / 4096)) [
  | inl a ↦ absurd (omega (arith, a.1))
  | inr r ↦ elim r [ inl b ↦ rw (b.0, b.1) (cut_before (len % 4096) (f.block (i / 4096)) (i % 4096) (omega (arith, b.2)) (omega arith) (h (i / 4096))) | inr d ↦ rw (d.0, d.1) refl ]
]

pub cut_gone : (len : ℕ) (f : File) (i : ℕ) → IsGood (Some f) → len ≤ i → content_byte (cut len f).block i ≡ 0
cut_gone len f i g l = elim (cut_tests len f.size (i / 4096)) [
  | inl a ↦ rw a.0 (zeros_at (i % 4096))
  | inr r ↦ elim r [
    | inl b ↦ rw (b.0, b.1) (cut_after (len % 4096) (f.block (i / 4096)) (i % 4096) (omega (arith, b.2)) (omega arith) (g.0 (i / 4096)))
    | inr d ↦ rw (d.0, d.1) (elim d.2 [ inl s ↦ g.1 i (omega arith) | inr s ↦ absurd (omega arith) ])
  ]
]

pub good-cut : (len : ℕ) (f : File) → IsGood (Some f) → IsGood (Some (cut len f))
good-cut len f g = (cut_pages len f g.0, λ i l. cut_gone len f i g l)

pub content-cut : (len : ℕ) (f : File) → IsGood (Some f) → content (cut len f) ≡ resized_bytes len (content f)
content-cut len f g = ext_get_or 0 _ _ (length-content (cut len f) pages ∙ sym (length-resized len (content f)))
    (λ i l. get_or-content (cut len f) i pages (omega (arith, length-content (cut len f) pages)) ∙ cut_kept len f i g.0 (omega (arith, length-content (cut len f) pages))
    ∙ sym (get_or-content_all f i g.0 g.1) ∙ sym (resized_at len (content f) i (omega (arith, length-content (cut len f) pages)))) where
      pages : ArePages (cut len f).block
      pages = cut_pages len f g.0
