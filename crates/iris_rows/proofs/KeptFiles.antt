-- The file that is kept after a write, a change of its length, and a reading.
use Rattle.std.proofs.Common.{◌≡◌, ◌≢◌, ◌⊎◌, inl, inr, ℕ, ◌+◌, ◌-◌, ◌/◌, ◌%◌, ◌<◌, ◌≤◌, ◌==◌, ◌&&◌, List, ◌++◌, length, get_or, set, take, drop, Bool, true, false, cond, Some, refl, sym, ◌∙◌, ap, subst, arith, length-append, length-take, length-drop, length-set}
use Rattle.std.proofs.lemmas.List.{length-replicate, get_or-take, get_or-drop, ext_get_or, get_or-append_right, get_or_append_left, get_or-replicate, drop-replicate}
use Rattle.std.proofs.lemmas.Option.{slice_get_past, slice_get-get_or}
use Rattle.std.proofs.lemmas.Bool.Decides.{nat_tests}
use Rattle.std.specs.Prelude.{nat_lt, nat_le, not, min, replicate, slice_get}
use Rattle.iris_plain.specs.Checks.{blocks_of}
use Rattle.iris_rows.specs.declared.places.Place.{Place}
use Rattle.iris_rows.specs.Rows.{File, zeros}
use Rattle.iris_rows.specs.Sound.{ArePages}
use Rattle.iris_rows.specs.View.{joined, content}
use Rattle.iris_rows.specs.FileChanges.{merged, is_touched, file_written, cut, count_written, freed}
use Rattle.iris_rows.specs.Places.{ArePlacesKept, IsPlace, place_version, block_of, version_at, block_at, file_of, hole, paged, put_pages, cut_page, split_places}
use Rattle.iris_rows.proofs.ResizedContent.{length-zeros}
use Rattle.iris_rows.proofs.WrittenContent.{written_pages, less_or, length-joined, get_or-joined, length-content, get_or-content}
use Rattle.iris_rows.proofs.KeptPlaces.{slice_get-set_same, slice_get-set_other, slice_get-take, version-holes, block-holes, places-holes, version_past, block_past, pages_of, hole_block}

-- two files with equal numbers and places
same_file : (f g : File) → f.size ≡ g.size → f.counter ≡ g.counter → ((p : ℕ) → f.version p ≡ g.version p) → ((p : ℕ) → f.block p ≡ g.block p) → f ≡ g
same_file f g s c v b = λ i. record { size = s i; counter = c i; version = λ p. v p i; block = λ p. b p i }

-- longer, by holes
module _ (old size counter : ℕ) (places : List Place) (up : old ≤ size) (kept : ArePlacesKept (record { size = old; counter = counter; places = places })) where
  more : ℕ
  more = blocks_of size - length places

  up_version : (p : ℕ) (a b : Bool) → nat_le (blocks_of size) p ≡ a → nat_lt size old ≡ b
      → version_at places p ≡ cond a 0 (cond (b && (p == size / 4096) && not (version_at places p == 0)) (counter + 1) (version_at places p))
  up_version p true b ea eb = let k : blocks_of size ≤ p = grind (arith, nat_tests) in version_past places p (omega (arith, kept.places))
  up_version p false true ea eb = absurd (let k : size < old = grind (arith, nat_tests) in omega arith)
  up_version p false false ea eb = refl

  up_block : (p : ℕ) (a b : Bool) → nat_le (blocks_of size) p ≡ a → nat_lt size old ≡ b
      → block_at places p ≡ cond a zeros (cond (b && (p == size / 4096)) (take (size % 4096) (block_at places p) ++ replicate (4096 - size % 4096) 0) (block_at places p))
  up_block p true b ea eb = let k : blocks_of size ≤ p = grind (arith, nat_tests) in block_past places p (omega (arith, kept.places))
  up_block p false true ea eb = absurd (let k : size < old = grind (arith, nat_tests) in omega arith)
  up_block p false false ea eb = refl

  pub fit_up : file_of (record { size = size; counter = counter + 1; places = places ++ replicate (blocks_of size - length places) hole }) ≡ cut size (file_of (record { size = old; counter = counter; places = places }))
  fit_up = same_file _ _ refl refl (λ p. version-holes places (blocks_of size - length places) p ∙ up_version p (nat_le (blocks_of size) p) (nat_lt size old) refl refl)
      (λ p. block-holes places (blocks_of size - length places) p ∙ up_block p (nat_le (blocks_of size) p) (nat_lt size old) refl refl)

  pub kept_up : size ≤ 268435456 → ArePlacesKept (record { size = size; counter = counter + 1; places = places ++ replicate (blocks_of size - length places) hole })
  kept_up h = record {
    places = omega (arith, length-append places (replicate (blocks_of size - length places) hole), length-replicate {A = Place} (blocks_of size - length places) hole, kept.places);
    size = h;
    holes = places-holes places (blocks_of size - length places) kept.holes;
  }

length-cut_page : (m : ℕ) (b : List ℕ) → m ≤ 4096 → length b ≡ 4096 → length (cut_page m b) ≡ 4096
length-cut_page m b h l = omega (arith, length-append (take m b) (replicate (4096 - m) 0), length-take m b, length-replicate {A = ℕ} (4096 - m) 0, l)

cut-zeros : (m : ℕ) → m ≤ 4096 → cut_page m zeros ≡ zeros
unfolding zeros
cut-zeros m h = ext_get_or 0 _ _ (omega (arith, length-cut_page m zeros h length-zeros, length-zeros)) (λ i l. by i (less_or i m) (omega (arith, length-cut_page m zeros h length-zeros, l))) where
  all : (n i : ℕ) → i < n → get_or {A = ℕ} (replicate n 0) i 0 ≡ 0
  all n i l = get_or-replicate n i 0 0 l

  long : length (take m (replicate {A = ℕ} 4096 0)) ≡ m
  long = omega (arith, length-take m (replicate {A = ℕ} 4096 0), length-replicate {A = ℕ} 4096 0)

  by : (i : ℕ) → (i < m) ⊎ (m ≤ i) → i < 4096 → get_or (cut_page m (replicate 4096 0)) i 0 ≡ get_or {A = ℕ} (replicate 4096 0) i 0
  by i (inl a) l = get_or_append_left (take m (replicate 4096 0)) _ 0 i (omega (arith, long)) ∙ get_or-take m _ i 0 a
  by i (inr b) l = get_or-append_right (take m (replicate 4096 0)) _ m i 0 long b ∙ all (4096 - m) (i - m) (omega arith) ∙ sym (all 4096 i l)

-- shorter, with the place that the end splits
module _ (old size counter : ℕ) (places : List Place) (down : size < old) (kept : ArePlacesKept (record { size = old; counter = counter; places = places })) where
  q : ℕ
  q = size / 4096

  within : size / 4096 < length places
  within = omega (arith, kept.places)

  new : Place
  new = record { version = counter + 1; page = Some (cut_page (size % 4096) (block_at places (size / 4096))) }

  -- what stands at a place of the new list
  down_other : (p : ℕ) → p ≢ size / 4096 → slice_get (split_places size (counter + 1) places) p ≡ slice_get places p
  down_other p ne = by (version_at places (size / 4096) == 0) where
    by : (b : Bool) → slice_get (cond b places (set places (size / 4096) (record { version = counter + 1; page = Some (cut_page (size % 4096) (block_at places (size / 4096))) }))) p ≡ slice_get places p
    by true = refl
    by false = slice_get-set_other places (size / 4096) p _ ne

  down_same : (b : Bool) → (version_at places (size / 4096) == 0) ≡ b → slice_get (split_places size (counter + 1) places) (size / 4096)
      ≡ cond b (slice_get places (size / 4096)) (Some (record { version = counter + 1; page = Some (cut_page (size % 4096) (block_at places (size / 4096))) }))
  down_same true e = ap (λ b. slice_get (cond b places (set places (size / 4096) (record { version = counter + 1; page = Some (cut_page (size % 4096) (block_at places (size / 4096))) }))) (size / 4096)) e
  down_same false e = ap (λ b. slice_get (cond b places (set places (size / 4096) (record { version = counter + 1; page = Some (cut_page (size % 4096) (block_at places (size / 4096))) }))) (size / 4096)) e
      ∙ slice_get-set_same places (size / 4096) _ within

  length-split : length (split_places size (counter + 1) places) ≡ length places
  length-split = by (version_at places (size / 4096) == 0) where
    by : (b : Bool) → length (cond b places (set places (size / 4096) (record { version = counter + 1; page = Some (cut_page (size % 4096) (block_at places (size / 4096))) }))) ≡ length places
    by true = refl
    by false = length-set places (size / 4096) _

  long : length (take (blocks_of size) (split_places size (counter + 1) places)) ≡ blocks_of size
  long = omega (arith, length-take (blocks_of size) (split_places size (counter + 1) places), length-split, kept.places)

  is_down : nat_lt size old ≡ true
  is_down = grind (arith, nat_tests)

  down_version : (p : ℕ) (a b c : Bool) → nat_le (blocks_of size) p ≡ a → (p == size / 4096) ≡ b → (version_at places (size / 4096) == 0) ≡ c
      → version_at (take (blocks_of size) (split_places size (counter + 1) places)) p
      ≡ cond a 0 (cond (nat_lt size old && (p == size / 4096) && not (version_at places p == 0)) (counter + 1) (version_at places p))
  down_version p true b c ea eb ec = let k : blocks_of size ≤ p = grind (arith, nat_tests) in version_past _ p (omega (arith, long))
  down_version p false false c ea eb ec = let k : p < blocks_of size = grind (arith, nat_tests) in let ne : p ≢ size / 4096 = grind (arith, nat_tests) in
      ap place_version (slice_get-take (blocks_of size) _ p k ∙ down_other p ne) ∙ rw (is_down, eb) refl
  down_version p false true true ea eb ec = let k : p < blocks_of size = grind (arith, nat_tests) in let e : p ≡ size / 4096 = grind (arith, nat_tests) in
      let z : (version_at places p == 0) ≡ true = ap (λ m. version_at places m == 0) e ∙ ec in
      ap place_version (slice_get-take (blocks_of size) _ p k ∙ ap (slice_get (split_places size (counter + 1) places)) e ∙ down_same true ec) ∙ ap (version_at places) (sym e) ∙ rw (is_down, eb, z) refl
  down_version p false true false ea eb ec = let k : p < blocks_of size = grind (arith, nat_tests) in let e : p ≡ size / 4096 = grind (arith, nat_tests) in
      let z : (version_at places p == 0) ≡ false = ap (λ m. version_at places m == 0) e ∙ ec in
      ap place_version (slice_get-take (blocks_of size) _ p k ∙ ap (slice_get (split_places size (counter + 1) places)) e ∙ down_same false ec) ∙ rw (is_down, eb, z) refl

  down_block : (p : ℕ) (a b c : Bool) → nat_le (blocks_of size) p ≡ a → (p == size / 4096) ≡ b → (version_at places (size / 4096) == 0) ≡ c
      → block_at (take (blocks_of size) (split_places size (counter + 1) places)) p
      ≡ cond a zeros (cond (nat_lt size old && (p == size / 4096)) (take (size % 4096) (block_at places p) ++ replicate (4096 - size % 4096) 0) (block_at places p))
  down_block p true b c ea eb ec = let k : blocks_of size ≤ p = grind (arith, nat_tests) in block_past _ p (omega (arith, long))
  down_block p false false c ea eb ec = let k : p < blocks_of size = grind (arith, nat_tests) in let ne : p ≢ size / 4096 = grind (arith, nat_tests) in
      ap block_of (slice_get-take (blocks_of size) _ p k ∙ down_other p ne) ∙ rw (is_down, eb) refl
  down_block p false true true ea eb ec = let k : p < blocks_of size = grind (arith, nat_tests) in let e : p ≡ size / 4096 = grind (arith, nat_tests) in
      let z : version_at places p ≡ 0 = (let y : (version_at places p == 0) ≡ true = ap (λ m. version_at places m == 0) e ∙ ec in grind (arith, nat_tests)) in
      let h : block_at places p ≡ zeros = hole_block places p kept.holes z in
      ap block_of (slice_get-take (blocks_of size) _ p k ∙ ap (slice_get (split_places size (counter + 1) places)) e ∙ down_same true ec) ∙ ap (block_at places) (sym e) ∙ h
      ∙ sym (rw (is_down, eb) (ap (cut_page (size % 4096)) h ∙ cut-zeros (size % 4096) (omega arith)))
  down_block p false true false ea eb ec = let k : p < blocks_of size = grind (arith, nat_tests) in let e : p ≡ size / 4096 = grind (arith, nat_tests) in
      ap block_of (slice_get-take (blocks_of size) _ p k ∙ ap (slice_get (split_places size (counter + 1) places)) e ∙ down_same false ec) ∙ ap (λ m. cut_page (size % 4096) (block_at places m)) (sym e) ∙ sym (rw (is_down, eb) refl)

  pub fit_down : file_of (record { size = size; counter = counter + 1; places = take (blocks_of size) (split_places size (counter + 1) places) }) ≡ cut size (file_of (record { size = old; counter = counter; places = places }))
  fit_down = same_file _ _ refl refl (λ p. down_version p (nat_le (blocks_of size) p) (p == size / 4096) (version_at places (size / 4096) == 0) refl refl refl)
      (λ p. down_block p (nat_le (blocks_of size) p) (p == size / 4096) (version_at places (size / 4096) == 0) refl refl refl)

  down_place : (p : ℕ) (a b c : Bool) → nat_le (blocks_of size) p ≡ a → (p == size / 4096) ≡ b → (version_at places (size / 4096) == 0) ≡ c → IsPlace (slice_get (take (blocks_of size) (split_places size (counter + 1) places)) p)
  down_place p true b c ea eb ec = let k : blocks_of size ≤ p = grind (arith, nat_tests) in subst IsPlace (sym (slice_get_past _ p (omega (arith, long)))) tt
  down_place p false false c ea eb ec = let k : p < blocks_of size = grind (arith, nat_tests) in let ne : p ≢ size / 4096 = grind (arith, nat_tests) in
      subst IsPlace (sym (slice_get-take (blocks_of size) _ p k ∙ down_other p ne)) (kept.holes p)
  down_place p false true true ea eb ec = let k : p < blocks_of size = grind (arith, nat_tests) in let e : p ≡ size / 4096 = grind (arith, nat_tests) in
      subst IsPlace (sym (slice_get-take (blocks_of size) _ p k ∙ ap (slice_get (split_places size (counter + 1) places)) e ∙ down_same true ec)) (kept.holes (size / 4096))
  down_place p false true false ea eb ec = let k : p < blocks_of size = grind (arith, nat_tests) in let e : p ≡ size / 4096 = grind (arith, nat_tests) in
      subst IsPlace (sym (slice_get-take (blocks_of size) _ p k ∙ ap (slice_get (split_places size (counter + 1) places)) e ∙ down_same false ec))
      (omega arith, length-cut_page (size % 4096) (block_at places (size / 4096)) (omega arith) (pages_of places kept.holes (size / 4096)))

  pub kept_down : ArePlacesKept (record { size = size; counter = counter + 1; places = take (blocks_of size) (split_places size (counter + 1) places) })
  kept_down = record {
    places = long;
    size = omega (arith, kept.size, down);
    holes = λ p. down_place p (nat_le (blocks_of size) p) (p == size / 4096) (version_at places (size / 4096) == 0) refl refl refl;
  }

-- the same of places that are these by an equation
pub fits_up : (old size counter : ℕ) (places now : List Place) (blocks : ℕ) → blocks ≡ blocks_of size → old ≤ size → ArePlacesKept (record { size = old; counter = counter; places = places })
    → now ≡ places ++ replicate (blocks - length places) hole → file_of (record { size = size; counter = counter + 1; places = now }) ≡ cut size (file_of (record { size = old; counter = counter; places = places }))
fits_up old size counter places now blocks e up kept h =
    ap (λ (ps : List Place). file_of (record { size = size; counter = counter + 1; places = ps })) (h ∙ ap (λ n. places ++ replicate (n - length places) hole) e) ∙ fit_up old size counter places up kept

pub keeps_up : (old size counter : ℕ) (places now : List Place) (blocks : ℕ) → blocks ≡ blocks_of size → old ≤ size → ArePlacesKept (record { size = old; counter = counter; places = places })
    → size ≤ 268435456 → now ≡ places ++ replicate (blocks - length places) hole → ArePlacesKept (record { size = size; counter = counter + 1; places = now })
keeps_up old size counter places now blocks e up kept room h = let P : List Place → Type 0 = λ ps. ArePlacesKept (record { size = size; counter = counter + 1; places = ps }) in
    subst P (sym (h ∙ ap (λ n. places ++ replicate (n - length places) hole) e)) (kept_up old size counter places up kept room)

-- after a write
module _ (size counter offset : ℕ) (bytes : List ℕ) (old mid new : List Place) (pages : List (List ℕ))
    (kept : ArePlacesKept (record { size = size; counter = counter; places = old }))
    (some : 0 < length bytes)
    (mid_is : mid ≡ old ++ replicate (blocks_of (offset + length bytes) - length old) hole)
    (long : length pages ≡ (offset + length bytes - 1) / 4096 + 1 - offset / 4096)
    (paged_is : (k : ℕ) → k < length pages → slice_get pages k ≡ Some (merged offset bytes (offset / 4096 + k) (block_at old (offset / 4096 + k))))
    (put_is : (p : ℕ) → slice_get new p ≡ put_pages (offset / 4096) (counter + 1) pages mid p)
    (length_is : length new ≡ length mid) where
  test_is : (p : ℕ) → nat_le (offset / 4096) p && nat_lt p (offset / 4096 + length pages) ≡ is_touched offset (length bytes) p
  test_is p = ap (λ b. nat_le (offset / 4096) p && b) (same (offset / 4096 + length pages) ((offset + length bytes - 1) / 4096) p (omega (arith, long))) where
    same : (a b p : ℕ) → a ≡ b + 1 → nat_lt p a ≡ nat_le p b
    same a b p e = grind (arith, nat_tests)

  -- the page of a place that is touched
  at_touched : (p : ℕ) → is_touched offset (length bytes) p ≡ true → slice_get new p ≡ Some (record { version = counter + 1; page = Some (merged offset bytes p (block_at old p)) })
  at_touched p t = let u = test_is p ∙ t in let ge : offset / 4096 ≤ p = grind (arith, nat_tests) in let lt : p < offset / 4096 + length pages = grind (arith, nat_tests) in
      let e : offset / 4096 + (p - offset / 4096) ≡ p = omega arith in
      put_is p ∙ ap (λ b. cond b (paged (counter + 1) (slice_get pages (p - offset / 4096))) (slice_get mid p)) u
      ∙ ap (paged (counter + 1)) (paged_is (p - offset / 4096) (omega arith) ∙ ap (λ q. Some (merged offset bytes q (block_at old q))) e)

  at_other : (p : ℕ) → is_touched offset (length bytes) p ≡ false → slice_get new p ≡ slice_get (old ++ replicate (blocks_of (offset + length bytes) - length old) hole) p
  at_other p t = put_is p ∙ ap (λ b. cond b (paged (counter + 1) (slice_get pages (p - offset / 4096))) (slice_get mid p)) (test_is p ∙ t) ∙ ap (λ ps. slice_get ps p) mid_is

  wrote_version : (p : ℕ) (b : Bool) → is_touched offset (length bytes) p ≡ b → version_at new p ≡ cond b (counter + 1) (version_at old p)
  wrote_version p true t = ap place_version (at_touched p t)
  wrote_version p false t = ap place_version (at_other p t) ∙ version-holes old (blocks_of (offset + length bytes) - length old) p

  wrote_block : (p : ℕ) (b : Bool) → is_touched offset (length bytes) p ≡ b → block_at new p ≡ cond b (merged offset bytes p (block_at old p)) (block_at old p)
  wrote_block p true t = ap block_of (at_touched p t)
  wrote_block p false t = ap block_of (at_other p t) ∙ block-holes old (blocks_of (offset + length bytes) - length old) p

  pub fit_write : file_of (record { size = cond (nat_lt size (offset + length bytes)) (offset + length bytes) size; counter = counter + 1; places = new }) ≡ file_written offset bytes (file_of (record { size = size; counter = counter; places = old }))
  fit_write = same_file _ _ refl refl (λ p. wrote_version p (is_touched offset (length bytes) p) refl) (λ p. wrote_block p (is_touched offset (length bytes) p) refl)

  wrote_place : (p : ℕ) (b : Bool) → is_touched offset (length bytes) p ≡ b → IsPlace (slice_get new p)
  wrote_place p true t = let m = written_pages offset bytes (file_of (record { size = size; counter = counter; places = old })) some (pages_of old kept.holes) p in
      subst IsPlace (sym (at_touched p t)) (omega arith, sym (ap (λ b. length (cond b (merged offset bytes p (block_at old p)) (block_at old p))) t) ∙ m)
  wrote_place p false t = subst IsPlace (sym (at_other p t)) (places-holes old (blocks_of (offset + length bytes) - length old) kept.holes p)

  pub kept_write : offset + length bytes ≤ 268435456 → ArePlacesKept (record { size = cond (nat_lt size (offset + length bytes)) (offset + length bytes) size; counter = counter + 1; places = new })
  kept_write room = record {
    places = counted (nat_lt size (offset + length bytes)) refl;
    size = bounded (nat_lt size (offset + length bytes));
    holes = λ p. wrote_place p (is_touched offset (length bytes) p) refl;
  } where
    all : length new ≡ length old + (blocks_of (offset + length bytes) - length old)
    all = length_is ∙ ap length mid_is ∙ length-append old (replicate (blocks_of (offset + length bytes) - length old) hole) ∙ ap (λ n. length old + n) (length-replicate {A = Place} (blocks_of (offset + length bytes) - length old) hole)

    counted : (b : Bool) → nat_lt size (offset + length bytes) ≡ b → length new ≡ blocks_of (cond b (offset + length bytes) size)
    counted true e = let k : size < offset + length bytes = grind (arith, nat_tests) in omega (arith, all, kept.places)
    counted false e = let k : offset + length bytes ≤ size = grind (arith, nat_tests) in omega (arith, all, kept.places)

    bounded : (b : Bool) → cond b (offset + length bytes) size ≤ 268435456
    bounded true = room
    bounded false = kept.size

-- bytes over the front of a page of zeros
pub cut_copied : (m : ℕ) (piece z old : List ℕ) → z ≡ replicate 4096 0 → piece ≡ take m old → m ≤ length old → take 0 z ++ (piece ++ drop (0 + length piece) z) ≡ cut_page m old
cut_copied m piece z old e f h = let k : 0 + length (take m old) ≡ m = omega (arith, length-take m old) in
    (λ i. take 0 z ++ (f i ++ drop (0 + length (f i)) (e i))) ∙ ap (λ n. take m old ++ drop n (replicate 4096 0)) k ∙ ap (λ r. take m old ++ r) (drop-replicate m 4096 0)

-- after freeing
pub fit_free : (size counter : ℕ) (places now : List Place) → ((p : ℕ) → version_at now p ≡ cond (nat_lt (count_written (version_at places) p) 16) 0 (version_at places p))
    → ((p : ℕ) → block_at now p ≡ cond (nat_lt (count_written (version_at places) p) 16) zeros (block_at places p))
    → file_of (record { size = size; counter = counter; places = now }) ≡ freed (file_of (record { size = size; counter = counter; places = places }))
fit_free size counter places now v b = same_file _ _ refl refl v b

-- bytes from the blocks that they lie in
pub fit_read : (f : File) (offset count least n : ℕ) → ArePages f.block → offset < f.size → least ≡ min count (f.size - offset) → n ≡ blocks_of (offset % 4096 + least)
    → take least (drop (offset % 4096) (joined f.block (offset / 4096) n)) ≡ take count (drop offset (content f))
fit_read f offset count least n pages inside e blocks = ext_get_or 0 _ _ (left ∙ sym right) (λ i l. at i (omega (arith, left, l))) where
  left : length (take least (drop (offset % 4096) (joined f.block (offset / 4096) n))) ≡ least
  left = omega (arith, length-take least (drop (offset % 4096) (joined f.block (offset / 4096) n)), length-drop (offset % 4096) (joined f.block (offset / 4096) n), length-joined f.block (offset / 4096) n pages, blocks)

  right : length (take count (drop offset (content f))) ≡ least
  right = omega (arith, length-take count (drop offset (content f)), length-drop offset (content f), length-content f pages, e)

  at : (i : ℕ) → i < least → get_or (take least (drop (offset % 4096) (joined f.block (offset / 4096) n))) i 0 ≡ get_or (take count (drop offset (content f))) i 0
  at i l = get_or-take least _ i 0 l ∙ get_or-drop (offset % 4096) _ i 0 ∙ get_or-joined f.block (offset / 4096) n (offset % 4096 + i) 0 pages (omega (arith, blocks, l))
      ∙ (λ j. get_or (f.block (place i j)) (rest i j) 0)
      ∙ sym (get_or-take count _ i 0 (omega (arith, e, l)) ∙ get_or-drop offset _ i 0 ∙ get_or-content f (offset + i) pages (omega (arith, e, l)))
    where
      place : (i : ℕ) → offset / 4096 + (offset % 4096 + i) / 4096 ≡ (offset + i) / 4096
      place i = omega arith

      rest : (i : ℕ) → (offset % 4096 + i) % 4096 ≡ (offset + i) % 4096
      rest i = omega arith

-- the place that is split, by what the code reads of it
pub fit_split : (size version : ℕ) (places : List Place) (x : Place) (page : List ℕ) → size / 4096 < length places → ((get_or places (size / 4096) x).version ≡ 0 → ⊥)
    → page ≡ cut_page (size % 4096) (block_at places (size / 4096)) → set places (size / 4096) (record { version = version; page = Some page }) ≡ split_places size version places
fit_split size version places x page within some e = let v : version_at places (size / 4096) ≡ (get_or places (size / 4096) x).version = ap place_version (slice_get-get_or places (size / 4096) x within) in
    let ne : version_at places (size / 4096) ≢ 0 = (λ z. some (sym v ∙ z)) in
    let f : (version_at places (size / 4096) == 0) ≡ false = grind (arith, nat_tests) in
    ap (λ p. set places (size / 4096) (record { version = version; page = Some p })) e
    ∙ sym (ap (λ b. cond b places (set places (size / 4096) (record { version = version; page = Some (cut_page (size % 4096) (block_at places (size / 4096))) }))) f)

pub fit_hole : (size version : ℕ) (places : List Place) (x : Place) → size / 4096 < length places → (get_or places (size / 4096) x).version ≡ 0 → places ≡ split_places size version places
fit_hole size version places x within z = let v : version_at places (size / 4096) ≡ 0 = ap place_version (slice_get-get_or places (size / 4096) x within) ∙ z in
    let f : (version_at places (size / 4096) == 0) ≡ true = grind (arith, nat_tests) in
    sym (ap (λ b. cond b places (set places (size / 4096) (record { version = version; page = Some (cut_page (size % 4096) (block_at places (size / 4096))) }))) f)
