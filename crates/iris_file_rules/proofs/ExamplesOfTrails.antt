-- What requests on paths reach, and what near by they don't.
use Rattle.std.proofs.Common.{inl, inr, ℕ, List, [], ◌∷◌, refl, sym}
use Rattle.std.specs.Prelude.{codes}
use Rattle.iris_name.specs.declared.name.Name.{Name}
use Rattle.iris_name.specs.declared.request.Request.TheVariants.{Mkdir, Create, Stat, List as ListNames, Rename, Remove, Sync, Root}
use Rattle.iris_node.specs.Trees.{Shown}
use Rattle.iris_node.specs.Unfolded.{id_of}
use Rattle.iris_paths.specs.Pictured.{nearby}
use Rattle.iris_paths.specs.Resolving.{root_id}
use Rattle.iris_file_rules.proofs.ExampleShown.{label, row_a, shows, entry, part, block, top, at_a, at_b, no_path, by_names, of_names, off_names, rows_of_root, leads_to_a, rows_of_trash, no_file_on_trail, no_trash_on_trail, met_entry, some_names, differ, reaches}

module _ (key : List ℕ) where
  abbrev t : Shown
  t = shows 9000 []

  -- a new name: the root's entry, and the row that is met on the way to it
  mkdir_root : reaches key t (Mkdir (codes "/b")) (entry 0)
  mkdir_root = by_names _ _ _ at_b (some_names _ _, inl refl)

  mkdir_row : reaches key t (Mkdir (codes "/b")) (entry 2)
  mkdir_row = by_names _ _ _ at_b (some_names _ _, inr (nearby root_id (label 98) [] (row_a 9000 ∷ []) (entry 2) (rows_of_root key 9000 []) (inr (inl refl))))

  create_row : reaches key t (Create (codes "/b")) (entry 2)
  create_row = by_names _ _ _ at_b (some_names _ _, inr (nearby root_id (label 98) [] (row_a 9000 ∷ []) (entry 2) (rows_of_root key 9000 []) (inr (inl refl))))

  -- none of its blocks, and not the trash
  mkdir_no_block : reaches key t (Mkdir (codes "/b")) (block 2 0) → ⊥
  mkdir_no_block h = no_file_on_trail t key _ (block 2 0) refl (of_names _ _ _ at_b h).1

  create_no_trash : reaches key t (Create (codes "/b")) (entry 1) → ⊥
  create_no_trash h = no_trash_on_trail t key _ (of_names _ _ _ at_b h).1

  -- nothing at `/`, nor where the text is no path
  mkdir_top : (n : Name) → reaches key t (Mkdir (codes "/")) n → ⊥
  mkdir_top n h = (of_names _ _ _ top h).0 refl

  create_top : (n : Name) → reaches key t (Create (codes "/")) n → ⊥
  create_top n h = (of_names _ _ _ top h).0 refl

  remove_top : (n : Name) → reaches key t (Remove (codes "/")) n → ⊥
  remove_top n h = (of_names _ _ _ top h).0 refl

  rename_top : (n : Name) → reaches key t (Rename (codes "/") (codes "/b")) n → ⊥
  rename_top n h = (of_names _ _ _ at_b (of_names _ _ _ top h)).0 refl

  stat_no_path : (n : Name) → reaches key t (Stat (codes "a")) n → ⊥
  stat_no_path n h = off_names _ _ no_path h

  rename_to_no_path : (n : Name) → reaches key t (Rename (codes "/a") (codes "a")) n → ⊥
  rename_to_no_path n h = off_names _ _ no_path (of_names _ _ _ at_a h)

  -- but a look at `/`, and a move to it, reach the root's entry
  stat_top : reaches key t (Stat (codes "/")) (entry 0)
  stat_top = by_names _ _ _ top (inl refl)

  rename_to_top : reaches key t (Rename (codes "/a") (codes "/")) (entry 0)
  rename_to_top = by_names _ _ _ at_a (by_names _ _ _ top (some_names _ _, inl (inl refl)))

  -- a look at a file reaches no block of it and no part
  stat_row : reaches key t (Stat (codes "/a")) (entry 2)
  stat_row = by_names _ _ _ at_a (inr (nearby root_id (label 97) [] (row_a 9000 ∷ []) (entry 2) (rows_of_root key 9000 []) (inr (inl refl))))

  stat_no_part : reaches key t (Stat (codes "/a")) (part 2 0) → ⊥
  stat_no_part h = no_file_on_trail t key _ (part 2 0) refl (of_names _ _ _ at_a h)

  -- a page reaches each row that it lists, and no block
  list_row : reaches key t (ListNames (codes "/") []) (entry 2)
  list_row = by_names _ _ _ top (inr (record { dir = root_id; above = root_id; rows = row_a 9000 ∷ []; leads = Rattle.iris_paths.specs.Resolving.here root_id root_id; has = rows_of_root key 9000 []; met = inr (inl refl) }))

  list_no_block : reaches key t (ListNames (codes "/") []) (block 2 0) → ⊥
  list_no_block h = elim (of_names _ _ _ top h) [
    | inl a ↦ no_file_on_trail t key _ (block 2 0) refl a
    | inr a ↦ differ (sym (met_entry a.dir _ (block 2 0) a.met))
  ]

  -- a move reaches the row that goes, and no block of it; a removal reaches the trash too, and no block either
  rename_row : reaches key t (Rename (codes "/a") (codes "/b")) (entry 2)
  rename_row = by_names _ _ _ at_a (by_names _ _ _ at_b (some_names _ _, inr (inr (record { id = id_of 2; dir = id_of 0; rows = row_a 9000 ∷ []; leads = leads_to_a key 9000 []; has = rows_of_root key 9000 []; met = inr (inl refl) }))))

  rename_no_block : reaches key t (Rename (codes "/a") (codes "/b")) (block 2 0) → ⊥
  rename_no_block h = elim (of_names _ _ _ at_b (of_names _ _ _ at_a h)).1 [
    | inl a ↦ no_file_on_trail t key _ (block 2 0) refl a
    | inr a ↦ elim a [ inl b ↦ no_file_on_trail t key _ (block 2 0) refl b | inr b ↦ differ (sym (met_entry b.dir _ (block 2 0) b.met)) ]
  ]

  remove_trash : reaches key t (Remove (codes "/a")) (entry 1)
  remove_trash = by_names _ _ _ at_a (some_names _ _, inr (record { id = id_of 2; dir = id_of 0; leads = leads_to_a key 9000 []; met = inr (record { rows = []; has = rows_of_trash key 9000; met = inl refl }) }))

  remove_no_block : reaches key t (Remove (codes "/a")) (block 2 0) → ⊥
  remove_no_block h = elim (of_names _ _ _ at_a h).1 [
    | inl a ↦ no_file_on_trail t key _ (block 2 0) refl a
    | inr a ↦ elim a.met [
      | inl b ↦ differ (sym (met_entry b.dir _ (block 2 0) b.met))
      | inr b ↦ differ (sym (met_entry (id_of 1) _ (block 2 0) b.met))
    ]
  ]

  -- a sync and a root hash reach nothing
  sync_nothing : (n : Name) → reaches key t Sync n → ⊥
  sync_nothing n h = h

  root_nothing : (n : Name) → reaches key t Root n → ⊥
  root_nothing n h = h
