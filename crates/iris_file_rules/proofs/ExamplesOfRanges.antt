-- What requests on the bytes of a file reach, and what near by they don't.
use Rattle.std.proofs.Common.{◌≡◌, ◌⊎◌, inl, inr, ◌+◌, ◌/◌, ◌-◌, ◌<◌, ℕ, List, [], ◌∷◌, length, min, Bool, true, false, None, is_some, IsSome, refl, sym, ap, subst, arith}
use Rattle.std.specs.Prelude.{codes}
use Rattle.iris_name.specs.declared.name.Name.{Name}
use Rattle.iris_name.specs.declared.request.Request.TheVariants.{Write, Read, Resize}
use Rattle.iris_node.specs.Trees.{Shown}
use Rattle.iris_node.specs.Unfolded.{id_of}
use Rattle.iris_plain.specs.Checks.{blocks_of, resize_checks}
use Rattle.iris_plain.specs.declared.checks.Seen.TheVariants.{AFile}
use Rattle.iris_version_tree.specs.Needs.{Covers}
use Rattle.iris_file_rules.specs.Reach.{InFile, IsCutBlock, IsResized, IsTakenAway, Reaches}
use Rattle.iris_file_rules.proofs.ExampleShown.{label, shows, entry, part, block, top, at_a, by_names, of_names, rows_of_trash, size_is, leads_to_a, file_at_a, block_in_range, part_in_range, no_file_on_trail, met_entry, differ, reaches}

-- a request that reaches a block, or a part, of the file `a` reaches it in its range of bytes
module _ (key : List ℕ) where
  abbrev t : Shown
  t = shows 9000 []

  abbrev a : List ℕ
  a = codes "/a"

  in_file : (from to : ℕ → ℕ) → from 9000 < to 9000 → (n : Name) → IsSome (t n) → (Rattle.iris_version_tree.specs.Needs.IsPartOver (id_of 2) (from 9000 / 4096) ((to 9000 + 4095) / 4096) n ⊎ Rattle.iris_file_rules.specs.Reach.IsBlockOver (id_of 2) (from 9000 / 4096) ((to 9000 + 4095) / 4096) n) → InFile t key (label 97 ∷ []) from to n
  in_file from to some n live over = record { id = id_of 2; size = 9000; at = file_at_a key 9000 []; some = some; over = (live, over) }

  -- of a read the block of a place in its range, and not that of another place, of a hole, or of a place past the end
  read_block : reaches key t (Read a 0 1) (block 2 0)
  read_block = by_names _ _ _ at_a (omega arith, inr (in_file (λ size. 0) (λ size. min (0 + 1) size) (omega arith) (block 2 0) refl (inr (refl, omega arith, omega arith))))

  read_another_place : reaches key t (Read a 0 1) (block 2 2) → ⊥
  read_another_place h = elim (of_names _ _ _ at_a h).1 [
    | inl e ↦ no_file_on_trail t key _ (block 2 2) refl e
    | inr e ↦ (let r = block_in_range key 9000 [] _ _ _ 2 e in absurd (omega (arith, r.2)))
  ]

  read_whole : reaches key t (Read a 0 9000) (block 2 2)
  read_whole = by_names _ _ _ at_a (omega arith, inr (in_file (λ size. 0) (λ size. min (0 + 9000) size) (omega arith) (block 2 2) refl (inr (refl, omega arith, omega arith))))

  read_hole : reaches key t (Read a 0 9000) (block 2 1) → ⊥
  read_hole h = elim (of_names _ _ _ at_a h).1 [ inl e ↦ no_file_on_trail t key _ (block 2 1) refl e | inr e ↦ differ (sym e.over.0) ]

  read_last : reaches key t (Read a 8999 100) (block 2 2)
  read_last = by_names _ _ _ at_a (omega arith, inr (in_file (λ size. 8999) (λ size. min (8999 + 100) size) (omega arith) (block 2 2) refl (inr (refl, omega arith, omega arith))))

  read_at_end : reaches key t (Read a 9000 100) (block 2 2) → ⊥
  read_at_end h = elim (of_names _ _ _ at_a h).1 [
    | inl e ↦ no_file_on_trail t key _ (block 2 2) refl e
    | inr e ↦ (let r = block_in_range key 9000 [] _ _ _ 2 e in absurd (omega (arith, r.0)))
  ]

  read_no_bytes : reaches key t (Read a 0 0) (block 2 0) → ⊥
  read_no_bytes h = elim (of_names _ _ _ at_a h).1 [
    | inl e ↦ no_file_on_trail t key _ (block 2 0) refl e
    | inr e ↦ (let r = block_in_range key 9000 [] _ _ _ 0 e in absurd (omega (arith, r.0)))
  ]

  -- nothing at all of too many bytes
  read_most : reaches key t (Read a 0 262144) (block 2 0)
  read_most = by_names _ _ _ at_a (omega arith, inr (in_file (λ size. 0) (λ size. min (0 + 262144) size) (omega arith) (block 2 0) refl (inr (refl, omega arith, omega arith))))

  read_too_much : (n : Name) → reaches key t (Read a 0 262145) n → ⊥
  read_too_much n h = let le = (of_names _ _ _ at_a h).0 in absurd (omega (arith, le))

  -- a part that covers a place of the range, and no other
  read_part : reaches key t (Read a 0 1) (part 2 0)
  read_part = by_names _ _ _ at_a (
    omega arith,
    inr (in_file (λ size. 0) (λ size. min (0 + 1) size) (omega arith) (part 2 0) refl
        (inl (refl, record { place = 0; from = omega arith; to = omega arith; under = record { from = omega arith; to = omega arith } }))),
  )

  read_another_part : reaches key t (Read a 0 1) (part 1 1) → ⊥
  read_another_part h = elim (of_names _ _ _ at_a h).1 [
    | inl e ↦ no_file_on_trail t key _ (part 1 1) refl e
    | inr e ↦ (let c = part_in_range key 9000 [] _ _ _ 1 1 e in let to = c.to in let under = c.under.from in absurd (omega (arith, to, under)))
  ]

  read_both_parts : reaches key t (Read a 8192 1) (part 1 1)
  read_both_parts = by_names _ _ _ at_a (
    omega arith,
    inr (in_file (λ size. 8192) (λ size. min (8192 + 1) size) (omega arith) (part 1 1) refl
        (inl (refl, record { place = 2; from = omega arith; to = omega arith; under = record { from = omega arith; to = omega arith } }))),
  )

  -- of a write the block of a place that it touches, also where it writes the whole block; none of a write past it, or of no
  -- bytes; and nothing at all of too many
  write_block : reaches key t (Write a 1 (7 ∷ [])) (block 2 0)
  write_block = by_names _ _ _ at_a (omega arith, inr (in_file (λ size. 1) (λ size. 1 + 1) (omega arith) (block 2 0) refl (inr (refl, omega arith, omega arith))))

  write_another_place : reaches key t (Write a 4096 (7 ∷ [])) (block 2 0) → ⊥
  write_another_place h = elim (of_names _ _ _ at_a h).1 [
    | inl e ↦ no_file_on_trail t key _ (block 2 0) refl e
    | inr e ↦ (let r = block_in_range key 9000 [] _ _ _ 0 e in absurd (omega (arith, r.1)))
  ]

  write_no_bytes : reaches key t (Write a 0 []) (block 2 0) → ⊥
  write_no_bytes h = elim (of_names _ _ _ at_a h).1 [
    | inl e ↦ no_file_on_trail t key _ (block 2 0) refl e
    | inr e ↦ (let r = block_in_range key 9000 [] _ _ _ 0 e in absurd (omega (arith, r.0)))
  ]

  write_too_much : (bytes : List ℕ) → length bytes ≡ 262145 → (n : Name) → reaches key t (Write a 0 bytes) n → ⊥
  write_too_much bytes e n h = let le = (of_names _ _ _ at_a h).0 in absurd (omega (arith, e, le))

-- ---- resizing

-- a block that a shorter length reaches is cut, and no check stands against the length
record Cut (full : Bool) (old size p : ℕ) : Type 0 where
  shorter : size < old
  some : 0 < size
  taken : resize_checks (AFile old) size full ≡ None
  cut : IsCutBlock (id_of 2) old size (block 2 p)

cut_of : (key : List ℕ) (full : Bool) (old size p : ℕ) (names : List (List ℕ)) → IsResized (shows old []) key full names size (block 2 p) → Cut full old size p
cut_of key full old size p names h = elim h.met [
  | inl m ↦ elim m.1.1 [ inl over ↦ absurd over | inr b ↦ by (own b.1) m.0 b.0 b.1 ]
  | inr m ↦ absurd (elim m.1.met [
    | inl b ↦ differ (sym (met_entry b.dir _ (block 2 p) b.met))
    | inr b ↦ differ (sym (met_entry (id_of 1) _ (block 2 p) b.met))
  ])
] where
  own : IsCutBlock h.id h.old size (block 2 p) → id_of 2 ≡ h.id
  own (inl b) = b.0
  own (inr b) = b.1.0

  by : id_of 2 ≡ h.id → 0 < size → resize_checks (AFile h.old) size full ≡ None → IsCutBlock h.id h.old size (block 2 p) → Cut full old size p
  by i some taken cut =
      let e = size_is key old [] h.id h.old i h.at.file in
      subst (λ s. Cut full s size p) (sym e) (record { shorter = h.shorter; some = some; taken = taken; cut = subst (λ z. IsCutBlock z h.old size (block 2 p)) (sym i) cut })

module _ (key : List ℕ) where
  cut_to : (full : Bool) (old size : ℕ) → size < old → 0 < size → (n : Name) → IsSome (shows old [] n)
      → (Rattle.iris_version_tree.specs.Needs.IsPartOver (id_of 2) (blocks_of size - 1) (blocks_of old) n ⊎ ((resize_checks (AFile old) size full ≡ None) × IsCutBlock (id_of 2) old size n))
      → IsResized (shows old []) key full (label 97 ∷ []) size n
  cut_to full old size shorter some n live met = record { id = id_of 2; old = old; at = file_at_a key old []; shorter = shorter; met = inl (some, (live, met)) }

  -- a block past the new end, and the last one kept where the file ends inside it; not where it ends with it
  resize_lost : reaches key (shows 9000 []) (Resize (codes "/a") 4000) (block 2 2)
  resize_lost = by_names _ _ _ at_a (inr (cut_to false 9000 4000 (omega arith) (omega arith) (block 2 2) refl (inr (refl, inl (refl, omega arith, omega arith)))))

  resize_inside : reaches key (shows 9000 []) (Resize (codes "/a") 4000) (block 2 0)
  resize_inside = by_names _ _ _ at_a (inr (cut_to false 9000 4000 (omega arith) (omega arith) (block 2 0) refl (inr (refl, inr (omega arith, (refl, omega arith, omega arith))))))

  resize_at_end : reaches key (shows 9000 []) (Resize (codes "/a") 4096) (block 2 0) → ⊥
  resize_at_end h = elim (of_names _ _ _ at_a h) [
    | inl e ↦ no_file_on_trail _ key _ (block 2 0) refl e
    | inr e ↦ absurd (elim (cut_of key false 9000 4096 0 _ e).cut [ inl b ↦ (let z = b.1 in omega (arith, z)) | inr b ↦ (let z = b.0 in omega (arith, z)) ])
  ]

  -- none of a longer file
  resize_up : reaches key (shows 9000 []) (Resize (codes "/a") 10000) (block 2 2) → ⊥
  resize_up h = elim (of_names _ _ _ at_a h) [
    | inl e ↦ no_file_on_trail _ key _ (block 2 2) refl e
    | inr e ↦ (let z = (cut_of key false 9000 10000 2 _ e).shorter in absurd (omega (arith, z)))
  ]

  -- 64 blocks may go, and with 65 none changes; nor where no change is taken; but the parts are reached
  resize_most : reaches key (shows 266240 []) (Resize (codes "/a") 4096) (block 2 2)
  resize_most = by_names _ _ _ at_a (inr (cut_to false 266240 4096 (omega arith) (omega arith) (block 2 2) refl (inr (refl, inl (refl, omega arith, omega arith)))))

  resize_too_much : reaches key (shows 266241 []) (Resize (codes "/a") 4096) (block 2 2) → ⊥
  resize_too_much h = elim (of_names _ _ _ at_a h) [
    | inl e ↦ no_file_on_trail _ key _ (block 2 2) refl e
    | inr e ↦ differ (ap (λ o. is_some o) (cut_of key false 266241 4096 2 _ e).taken)
  ]

  resize_full : Reaches key (shows 9000 []) true (λ f p. ⊥) (λ at. None) (Resize (codes "/a") 4000) (block 2 2) → ⊥
  resize_full h = elim (of_names _ _ _ at_a h) [
    | inl e ↦ no_file_on_trail _ key _ (block 2 2) refl e
    | inr e ↦ differ (ap (λ o. is_some o) (cut_of key true 9000 4000 2 _ e).taken)
  ]

  resize_part : reaches key (shows 266241 []) (Resize (codes "/a") 4096) (part 2 0)
  resize_part = by_names _ _ _ at_a (inr (cut_to false 266241 4096 (omega arith) (omega arith) (part 2 0) refl
      (inl (refl, record { place = 0; from = omega arith; to = omega arith; under = record { from = omega arith; to = omega arith } }))))

  -- to nothing: the trash, and no block; the root's entry at `/`, which is no file
  resize_to_nothing : reaches key (shows 9000 []) (Resize (codes "/a") 0) (entry 1)
  resize_to_nothing = by_names _ _ _ at_a (inr (record { id = id_of 2; old = 9000; at = file_at_a key 9000 []; shorter = omega arith; met = inr (refl, record { id = id_of 2; dir = id_of 0; leads = leads_to_a key 9000 []; met = inr (record { rows = []; has = rows_of_trash key 9000; met = inl refl }) }) }))

  resize_to_nothing_no_block : reaches key (shows 9000 []) (Resize (codes "/a") 0) (block 2 0) → ⊥
  resize_to_nothing_no_block h = elim (of_names _ _ _ at_a h) [
    | inl e ↦ no_file_on_trail _ key _ (block 2 0) refl e
    | inr e ↦ (let z = (cut_of key false 9000 0 0 _ e).some in absurd (omega (arith, z)))
  ]

  resize_top : reaches key (shows 9000 []) (Resize (codes "/") 0) (entry 0)
  resize_top = by_names _ _ _ top (inl (inl refl))
