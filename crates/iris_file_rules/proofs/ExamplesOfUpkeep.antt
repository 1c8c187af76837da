-- What a step of reclaiming and a challenge reach, and what near by they don't.
use Rattle.std.proofs.Common.{◌≡◌, ◌⊎◌, inl, inr, ℕ, List, [], ◌∷◌, true, false, Option, Some, None, refl, sym, ◌∙◌, ap, arith}
use Rattle.iris_name.specs.declared.name.FileId.{FileId}
use Rattle.iris_name.specs.declared.name.Name.{Name}
use Rattle.iris_name.specs.declared.request.Request.TheVariants.{Reclaim, Probe}
use Rattle.iris_node.specs.Trees.{Shown}
use Rattle.iris_node.specs.Unfolded.{id_of}
use Rattle.iris_node.specs.Walk.{BlockAt}
use Rattle.iris_treepaths.specs.Rows.{Row}
use Rattle.iris_file_rules.specs.Reach.{IsDownTo, here, above, Reaches}
use Rattle.iris_file_rules.proofs.ExampleShown.{row_a, row_c, thrown_file, thrown_directory, shows, entry, part, block, rows_of_root, thrown_file_there, thrown_directory_there, child_there, is_entry, met_entry, differ}

module _ (key : List ℕ) where
  -- reclaiming, where place 0 of file 3 is to be dropped, and place 1 isn't
  abbrev drops : FileId → ℕ → Type 0
  drops f p = (f ≡ id_of 3) × (p ≡ 0)

  abbrev reclaims : List Row → Name → Type 0
  reclaims trash n = Reaches key (shows 9000 trash) false drops (λ at. None) Reclaim n

  -- the trash's entry, also where it is empty; and its first row
  trash_entry : reclaims [] (entry 1)
  trash_entry = inl refl

  first_row : reclaims (thrown_file ∷ []) (entry 3)
  first_row = inr (record { first = thrown_file; rest = []; has = thrown_file_there key 9000; met = inl (record { rows = thrown_file ∷ []; has = thrown_file_there key 9000; met = inr (inl refl) }) })

  -- of a file the block of a place that is dropped, and not of another; nor of another file
  dropped : reclaims (thrown_file ∷ []) (block 3 0)
  dropped = inr (record { first = thrown_file; rest = []; has = thrown_file_there key 9000; met = inr (inl (0, (refl, refl), (refl, inr (refl, omega arith, omega arith)))) })

  number : FileId → ℕ
  number f = f.0

  not_dropped : (f p : ℕ) → (f ≡ 3 → p ≡ 0 → ⊥) → (trash : List Row) → reclaims trash (block f p) → ⊥
  unfolding number
  not_dropped f p ne trash (inl e) = differ (sym (ap is_entry e))
  not_dropped f p ne trash (inr h) = elim h.met [
    | inl b ↦ differ (sym (met_entry (id_of 1) _ (block f p) b.met))
    | inr b ↦ elim b [
      | inl d ↦ elim d.2.1 [
        | inl over ↦ over
        | inr over ↦ (let i : f ≡ 3 = ap number (over.0 ∙ d.1.0) in let z = d.1.1 in let lt = over.2 in ne i (omega (arith, z, lt)))
      ]
      | inr d ↦ elim d.3 [
        | inl c ↦ differ (sym (met_entry (id_of h.first.id) _ (block f p) c.met))
        | inr c ↦ differ (sym (met_entry (id_of 1) _ (block f p) c.met))
      ]
    ]
  ]

  another_place : reclaims (thrown_file ∷ []) (block 3 1) → ⊥
  another_place = not_dropped 3 1 (λ i e. absurd (omega (arith, e))) (thrown_file ∷ [])

  another_file : reclaims (thrown_file ∷ []) (block 2 0) → ⊥
  another_file = not_dropped 2 0 (λ i e. absurd (omega (arith, i))) (thrown_file ∷ [])

  -- of a directory its first child
  first_child : reclaims (thrown_directory ∷ []) (entry 5)
  first_child = inr (record {
    first = thrown_directory;
    rest = [];
    has = thrown_directory_there key 9000;
    met = inr (inr (row_c, [], child_there key 9000 (thrown_directory ∷ []), inl (record { rows = row_c ∷ []; has = child_there key 9000 (thrown_directory ∷ []); met = inr (inl refl) })));
  })

  -- a challenge of the block of a place of the file `a`, or of none
  abbrev probes : Option BlockAt → Name → Type 0
  probes b n = Reaches key (shows 9000 []) false drops (λ at. b) (Probe 0) n

  abbrev at_place : ℕ → Option BlockAt
  at_place p = Some (record { file = 2; place = p })

  -- both roots' entries, also where there is no such block
  visible_root : probes None (entry 0)
  visible_root = inl refl

  trash_root : probes None (entry 1)
  trash_root = inr (inl refl)

  nothing_else : (n : Name) → probes None n → (n ≡ entry 0) ⊎ (n ≡ entry 1)
  nothing_else n (inl e) = inl e
  nothing_else n (inr (inl e)) = inr e
  nothing_else n (inr (inr h)) = absurd h

  -- the row of its file, its block, and a part over its place
  file_row_met : probes (at_place 2) (entry 2)
  file_row_met = inr (inr (inl (here (id_of 0) (row_a 9000) (row_a 9000 ∷ []) (entry 2) (rows_of_root key 9000 []) (inl refl) (inr (inl refl)))))

  its_block : probes (at_place 2) (block 2 2)
  its_block = inr (inr (inr (refl, inr (refl, omega arith, omega arith))))

  its_part : probes (at_place 2) (part 1 1)
  its_part = inr (inr (inr (refl, inl (refl, record { place = 2; from = omega arith; to = omega arith; under = record { from = omega arith; to = omega arith } }))))

  -- not its neighbour, nor a part over that alone; and of a hole no block
  down_entry : (t : Shown) (id : FileId) (n : Name) → IsDownTo t key id n → is_entry n ≡ true
  down_entry t id n (here dir r rows m has among met) = met_entry dir _ n met
  down_entry t id n (above dir r rows m has among rest) = down_entry t dir n rest

  not_the_block : (p q : ℕ) → (p ≡ q → ⊥) → probes (at_place p) (block 2 q) → ⊥
  not_the_block p q ne (inl e) = differ (sym (ap is_entry e))
  not_the_block p q ne (inr (inl e)) = differ (sym (ap is_entry e))
  not_the_block p q ne (inr (inr (inl h))) = differ (sym (down_entry (shows 9000 []) (id_of 2) (block 2 q) h))
  not_the_block p q ne (inr (inr (inr (live, inl over)))) = over
  not_the_block p q ne (inr (inr (inr (live, inr over)))) = let le = over.1 in let lt = over.2 in ne (omega (arith, le, lt))

  its_neighbour : probes (at_place 2) (block 2 0) → ⊥
  its_neighbour = not_the_block 2 0 (λ e. absurd (omega (arith, e)))

  part_of_another : probes (at_place 0) (part 1 1) → ⊥
  part_of_another (inl e) = differ (sym (ap is_entry e))
  part_of_another (inr (inl e)) = differ (sym (ap is_entry e))
  part_of_another (inr (inr (inl h))) = differ (sym (down_entry (shows 9000 []) (id_of 2) (part 1 1) h))
  part_of_another (inr (inr (inr (live, inl over)))) = let to = over.1.to in let from = over.1.under.from in absurd (omega (arith, to, from))
  part_of_another (inr (inr (inr (live, inr over)))) = over

  hole : probes (at_place 1) (block 2 1) → ⊥
  hole (inl e) = differ (sym (ap is_entry e))
  hole (inr (inl e)) = differ (sym (ap is_entry e))
  hole (inr (inr (inl h))) = differ (sym (down_entry (shows 9000 []) (id_of 2) (block 2 1) h))
  hole (inr (inr (inr (live, over)))) = differ (sym live)
