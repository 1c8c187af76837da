-- Which blocks a request changes.
use Rattle.std.proofs.Common.{◌≡◌, ◌≢◌, ◌⊎◌, inl, inr, ℕ, ◌+◌, ◌-◌, ◌/◌, ◌<◌, ◌≤◌, List, length, take, replicate, ◌%◌, ◌++◌, Bool, true, false, ◌&&◌, ◌||◌, cond, Option, Some, None, refl, sym, ◌∙◌, ap, subst, arith}
use Rattle.std.specs.Prelude.{◌==◌, not, nat_le, nat_lt}
use Rattle.std.proofs.lemmas.Bool.{and_parts, or_cases, not-true, leb-true, ltb-true, eqb-true, cases_eq}
use Rattle.std.proofs.lemmas.Bool.Decides.{nat_tests}
use Rattle.iris_name.specs.declared.request.Request.TheVariants.{Write, Resize}
use Rattle.iris_node.specs.Trees.{Shown}
use Rattle.iris_node.specs.Unfolded.{Unfolded, Stored, id_of}
use Rattle.iris_name.specs.declared.name.FileId.{FileId}
use Rattle.iris_name.specs.declared.name.Name.TheVariants.{Block}
use Rattle.iris_plain.specs.Checks.{blocks_of}
use Rattle.iris_rows.specs.Changes.{filed, stepped}
use Rattle.iris_rows.specs.FileChanges.{merged, is_touched, file_written, is_split, cut}
use Rattle.iris_rows.specs.Rows.{File, Rows, Table, Here, met, zeros}
use Rattle.iris_records.specs.Shown.{block_of_place, shown}
use Rattle.iris_rows.specs.Sound.{IsSound, IsCounted}
use Rattle.iris_rows.proofs.SoundStep.{sound_kept}
use Rattle.iris_forest.proofs.VersionsOfFile.{blocks_stand, file_counted}
use Rattle.iris_plan_laws.specs.Blocks.{ChangesBlocks, AreAmong, is_cut_at, WritesChangeBlocks, ResizesChangeBlocks}
use Rattle.iris_plan_laws.proofs.AcceptedRequests.{written_step, written_limit, resized_step, resized_limit, same_step}
use Rattle.iris_plan_laws.proofs.FileById.{by_file_id, re, re_keeps, re_shown}
use Rattle.iris_plan_laws.proofs.MappedShown.{same_block}

-- a change of the file at a path
filed_changes : (order : List ℕ) (t : Table) (change : File → File) (names : List (List ℕ)) (i : ℕ) (f : File) (inside : Rows) (picks : ℕ → Bool) → IsSound t → IsSound (filed change names t)
    → met t names ≡ Here (record { id = i; file = Some f; inside = inside }) → ((p : ℕ) → picks p ≡ false → block_of_place p (change f) ≡ block_of_place p f)
    → ((p : ℕ) → picks p ≡ true → block_of_place p (change f) ≡ block_of_place p f → ⊥) → ChangesBlocks (shown order t) (shown order (filed change names t)) (id_of i) picks
filed_changes order t change names i f inside picks s v e same differs =
    let b = by_file_id t change names i f inside s e in
    let u = filed change names t in
    record {
      others = λ g p n. same_block (re order i (change f)) (re_keeps order i (change f)) order t u g p (re_shown order i (change f) t u (Block g p) b.visible b.trash b.hand n);
      kept = λ p q. blocks_stand order u i p (change f) v b.is ∙ same p q ∙ sym (blocks_stand order t i p f s b.was);
      changed = λ p q r. differs p q (sym (blocks_stand order u i p (change f) v b.is) ∙ r ∙ blocks_stand order t i p f s b.was);
    }

-- a block of a version above another's differs from it
abbrev pub block_in : ℕ → List ℕ → Option Unfolded
block_in v x = cond (v == 0) None (Some (Stored v x))

later_differs : (v w c : ℕ) (x y : List ℕ) → v ≡ c + 1 → w ≤ c → block_in v x ≡ block_in w y → ⊥
later_differs v w c x y e l h = by (v == 0) refl (w == 0) refl h where
  by : (a : Bool) → (v == 0) ≡ a → (b : Bool) → (w == 0) ≡ b → cond a None (Some (Stored v x)) ≡ cond b None (Some (Stored w y)) → ⊥
  by true p b q h = let z : v ≡ 0 = grind (arith, nat_tests) in absurd (omega (arith, z, e))
  by false p true q h = absurd (cc)
  by false p false q h = let z : v ≡ w = cc in absurd (omega (arith, z, e, l))

-- ---- a write

written_same : (offset : ℕ) (bytes : List ℕ) (f : File) (p : ℕ) → is_touched offset (length bytes) p ≡ false → block_of_place p (file_written offset bytes f) ≡ block_of_place p f
written_same offset bytes f p e = ap (λ (b : Bool). block_in (cond b (f.counter + 1) (f.version p)) (cond b (merged offset bytes p (f.block p)) (f.block p))) e

written_differs : (age offset : ℕ) (bytes : List ℕ) (f : File) (p : ℕ) → IsCounted age f → is_touched offset (length bytes) p ≡ true → block_of_place p (file_written offset bytes f) ≡ block_of_place p f → ⊥
written_differs age offset bytes f p c e h =
    later_differs (f.counter + 1) (f.version p) f.counter (merged offset bytes p (f.block p)) (f.block p) refl (c.version p)
    (sym (ap (λ (b : Bool). block_in (cond b (f.counter + 1) (f.version p)) (cond b (merged offset bytes p (f.block p)) (f.block p))) e) ∙ h)

touched_among : (offset count : ℕ) → 0 < count → count ≤ 262144 → AreAmong 65 (is_touched offset count)
touched_among offset count some few = (
  offset / 4096,
  λ p e. (let b = and_parts (nat_le (offset / 4096) p) (nat_le p ((offset + count - 1) / 4096)) e in
      let l = leb-true (offset / 4096) p b.0 in let h = leb-true p ((offset + count - 1) / 4096) b.1 in (l, omega (arith, h, some, few))),
)

pub writes_change_blocks : WritesChangeBlocks
writes_change_blocks order t path offset bytes i f s v a some =
    let e = written_step t path i f a offset bytes v some in
    let sound = subst IsSound e (sound_kept t (Write path offset bytes) s) in
    let b = by_file_id t (file_written offset bytes) a.names i f a.inside s a.leads in (
      subst (λ u. ChangesBlocks (shown order t) (shown order u) (id_of i) (is_touched offset (length bytes))) (sym e)
          (filed_changes order t (file_written offset bytes) a.names i f a.inside (is_touched offset (length bytes)) s sound a.leads
          (written_same offset bytes f) (λ p. written_differs t.age offset bytes f p (file_counted t i f s b.was))),
      touched_among offset (length bytes) some (written_limit t path i f a offset bytes v),
    )

-- ---- another length

-- the block of a place by the tests of a cut: it was a hole, it is lost, it is split
abbrev pub block_cut : Bool → Bool → Bool → ℕ → ℕ → List ℕ → List ℕ → Option Unfolded
block_cut z lost split v k x y = block_in (cond lost 0 (cond (split && not z) k v)) (cond lost zeros (cond split x y))

cut_same : (z lost split : Bool) (v k : ℕ) (x y : List ℕ) → (v == 0) ≡ z → not z && (lost || split) ≡ false → block_cut z lost split v k x y ≡ block_in v y
cut_same true true split v k x y e h = sym (ap (λ b. cond b None (Some (Stored v y))) e)
cut_same true false true v k x y e h = ap (λ b. cond b None (Some (Stored v x))) e ∙ sym (ap (λ b. cond b None (Some (Stored v y))) e)
cut_same true false false v k x y e h = refl
cut_same false true split v k x y e h = absurd (cc)
cut_same false false true v k x y e h = absurd (cc)
cut_same false false false v k x y e h = refl

cut_differs : (z lost split : Bool) (v c : ℕ) (x y : List ℕ) → (v == 0) ≡ z → v ≤ c → not z && (lost || split) ≡ true → block_cut z lost split v (c + 1) x y ≡ block_in v y → ⊥
cut_differs true lost split v c x y e l h g = absurd (cc)
cut_differs false true split v c x y e l h g = let q : None ≡ Some (Stored v y) = g ∙ ap (λ b. cond b None (Some (Stored v y))) e in absurd (cc)
cut_differs false false true v c x y e l h g = later_differs (c + 1) v c x y refl l g
cut_differs false false false v c x y e l h g = absurd (cc)

module _ (size : ℕ) (f : File) where
  file_same : (p : ℕ) → is_cut_at size f p ≡ false → block_of_place p (cut size f) ≡ block_of_place p f
  file_same p h =
      cut_same (f.version p == 0) (nat_le (blocks_of size) p) (is_split size f.size p) (f.version p) (f.counter + 1) (take (size % 4096) (f.block p) ++ replicate (4096 - size % 4096) 0) (f.block p) refl h

  file_differs : (age p : ℕ) → IsCounted age f → is_cut_at size f p ≡ true → block_of_place p (cut size f) ≡ block_of_place p f → ⊥
  file_differs age p c h =
      cut_differs (f.version p == 0) (nat_le (blocks_of size) p) (is_split size f.size p) (f.version p) f.counter (take (size % 4096) (f.block p) ++ replicate (4096 - size % 4096) 0) (f.block p) refl (c.version p) h

  -- the two ways to be cut
  pub cut_ways : (p : ℕ) → is_cut_at size f p ≡ true → (f.version p ≢ 0) × ((blocks_of size ≤ p) ⊎ ((size < f.size) × (p ≡ size / 4096)))
  cut_ways p e =
      let b = and_parts (not (f.version p == 0)) (nat_le (blocks_of size) p || is_split size f.size p) e in
      let z = not-true (f.version p == 0) b.0 in (
        (λ h. (let k : (f.version p == 0) ≡ true = grind (arith, nat_tests) in let q = sym k ∙ z in cc)),
        elim (or_cases (nat_le (blocks_of size) p) (is_split size f.size p) b.1) [
          | inl l ↦ inl (leb-true (blocks_of size) p l)
          | inr s ↦ (let w = and_parts (nat_lt size f.size) (p == size / 4096) s in inr (ltb-true size f.size w.0, (eqb-true p (size / 4096) w.1)))
        ],
      )

  -- what is cut was no hole, so it stands before the old end
  pub stood : (age p : ℕ) → IsCounted age f → f.version p ≢ 0 → p < blocks_of f.size
  stood age p c n = by (nat_le (blocks_of f.size) p) refl where
    by : (b : Bool) → nat_le (blocks_of f.size) p ≡ b → p < blocks_of f.size
    by true e = absurd (n (c.past p (leb-true (blocks_of f.size) p e)))
    by false e = grind (arith, nat_tests)

  cut_among : (age : ℕ) → IsCounted age f → blocks_of f.size ≤ blocks_of size + 64 → AreAmong 65 (is_cut_at size f)
  cut_among age c few = (
    size / 4096,
    λ p e. (let w = cut_ways p e in elim w.1 [
      | inl l ↦ (let h = stood age p c w.0 in (omega (arith, l), omega (arith, h, few)))
      | inr s ↦ (let q = s.1 in (omega (arith, q), omega (arith, q)))
    ]),
  )

  -- a file that keeps its length isn't cut
  uncut : (age p : ℕ) → IsCounted age f → f.size ≡ size → is_cut_at size f p ≡ true → ⊥
  uncut age p c same e = let w = cut_ways p e in elim w.1 [
    | inl l ↦ (let h = stood age p c w.0 in let k = ap blocks_of same in absurd (omega (arith, l, h, k)))
    | inr s ↦ (let h = s.0 in absurd (omega (arith, h, same)))
  ]

-- nothing differs from itself
kept_all : (t : Shown) (file : FileId) (picks : ℕ → Bool) → ((p : ℕ) → picks p ≡ true → ⊥) → ChangesBlocks t t file picks
kept_all t file picks none = record { others = λ g p n. refl; kept = λ p e. refl; changed = λ p e h. none p e }

pub resizes_change_blocks : ResizesChangeBlocks
resizes_change_blocks order t path size i f s v a some =
    let b = by_file_id t (cut size) a.names i f a.inside s a.leads in
    let c = file_counted t i f s b.was in
    (by (cases_eq f.size size) c, cut_among size f t.age c (resized_limit t path i f a size v some)) where
      by : (f.size ≡ size) ⊎ (f.size ≢ size) → IsCounted t.age f → ChangesBlocks (shown order t) (shown order (stepped t (Resize path size))) (id_of i) (is_cut_at size f)
      by (inl same) c =
          subst (λ u. ChangesBlocks (shown order t) (shown order u) (id_of i) (is_cut_at size f)) (sym (same_step t path i f a size v same))
          (kept_all (shown order t) (id_of i) (is_cut_at size f) (λ p. uncut size f t.age p c same))
      by (inr other) c =
          let e = resized_step t path i f a size v some other in
          subst (λ u. ChangesBlocks (shown order t) (shown order u) (id_of i) (is_cut_at size f)) (sym e)
          (filed_changes order t (cut size) a.names i f a.inside (is_cut_at size f) s (subst IsSound e (sound_kept t (Resize path size) s)) a.leads (file_same size f) (λ p. file_differs size f t.age p c))
