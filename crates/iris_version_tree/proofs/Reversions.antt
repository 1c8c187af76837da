-- A table in which the versions of one file are others.
use Rattle.std.proofs.Common.{◌≡◌, ◌⊎◌, ◌==◌, ◌+◌, inl, inr, ℕ, Bool, true, false, cond, Option, Some, None, refl, ap, sym, ◌∙◌, subst}
use Rattle.std.specs.Prelude.{IsSome}
use Rattle.std.proofs.lemmas.Bool.{eqb-true}
use Rattle.iris_name.specs.declared.name.FileId.{FileId}
use Rattle.iris_name.specs.declared.name.Name.{Name}
use Rattle.iris_name.specs.declared.name.Name.TheVariants as name
use Rattle.iris_node.specs.declared.node.Node.{Node}
use Rattle.iris_node.specs.Unfolded.{Unfolded, Absent, Folder, Leaf, Even, Split, Stored, id_of, blocks}
use Rattle.iris_node.specs.Local.{local, led}
use Rattle.iris_cache.specs.Resident.{Resident}
use Rattle.iris_cache.specs.Drafted.{Drafted, seen, known, there_by}
use Rattle.iris_node.specs.Trees.{Shown, node_name, IsTree, IsParent, IsAbove, IsNodeName}
use Rattle.iris_cache.specs.Pictures.{Drafts}
use Rattle.iris_cache.proofs.Lacking.{not_known}
use Rattle.iris_version_tree.specs.Versions.{reversioned}

module _ (f : ℕ) (s : Unfolded) where
  blocks_kept : (u : Unfolded) → blocks (reversioned f s u) ≡ blocks u
  blocks_kept (Folder id label less more inside) =
      ap (λ n. n + (blocks (reversioned f s inside) + blocks (reversioned f s more))) (blocks_kept less)
      ∙ ap (λ n. blocks less + (n + blocks (reversioned f s more))) (blocks_kept inside) ∙ ap (λ n. blocks less + (blocks inside + n)) (blocks_kept more)
  blocks_kept (Leaf id label less more size counter kept) = let a = blocks_kept less in let b = blocks_kept more in cc
  blocks_kept Absent = refl
  blocks_kept (Even v) = refl
  blocks_kept (Split g l i a b) = refl
  blocks_kept (Stored v bytes) = refl

  pub led_kept : (u : Unfolded) → led (reversioned f s u) ≡ led u
  led_kept (Folder id label less more inside) = ap (λ n. Some (record { id = id; blocks = n })) (blocks_kept (Folder id label less more inside))
  led_kept (Leaf id label less more size counter kept) = ap (λ n. Some (record { id = id; blocks = n })) (blocks_kept (Leaf id label less more size counter kept))
  led_kept Absent = refl
  led_kept (Even v) = refl
  led_kept (Split g l i a b) = refl
  led_kept (Stored v bytes) = refl

  pub name_kept : (u : Unfolded) → node_name (reversioned f s u) ≡ node_name u
  name_kept (Folder id label less more inside) = refl
  name_kept (Leaf id label less more size counter kept) = refl
  name_kept Absent = refl
  name_kept (Even v) = refl
  name_kept (Split g l i a b) = refl
  name_kept (Stored v bytes) = refl

  kept_by : (id : ℕ) (kept : Unfolded) (b : Bool) → (id == f) ≡ b → (name.Entry (id_of id) ≡ name.Entry (id_of f) → ⊥) → cond b s kept ≡ kept
  kept_by id kept true e out = absurd (out (ap (λ n. name.Entry (id_of n)) (eqb-true id f e)))
  kept_by id kept false e out = refl

  -- another node says the same by itself
  pub local_kept : (u : Unfolded) → (node_name u ≡ Some (name.Entry (id_of f)) → ⊥) → local (reversioned f s u) ≡ local u
  local_kept (Folder id label less more inside) out =
      let a = led_kept less in
      let b = led_kept more in
      let c = led_kept inside in
      cc
  local_kept (Leaf id label less more size counter kept) out =
      let a = led_kept less in
      let b = led_kept more in
      let c = kept_by id kept (id == f) refl (λ e. out (ap Some e)) in
      cc
  local_kept Absent out = refl
  local_kept (Even v) out = refl
  local_kept (Split g l i a b) out = refl
  local_kept (Stored v bytes) out = refl

  -- the side of all versions, in an entry
  abbrev pub IsTopSide : Unfolded → Unfolded → Type 0
  IsTopSide (Leaf id label less more size counter kept) w = (id ≡ f) × (w ≡ kept)
  IsTopSide (Folder id label less more inside) w = ⊥
  IsTopSide Absent w = ⊥
  IsTopSide (Even v) w = ⊥
  IsTopSide (Split g l i a b) w = ⊥
  IsTopSide (Stored v bytes) w = ⊥

  -- a child goes on under its name, but for the side of the file
  leaf_forth : (id : ℕ) (kept w : Unfolded) (b : Bool) → (id == f) ≡ b → w ≡ kept → ((id ≡ f) × (w ≡ kept)) ⊎ (w ≡ cond b s kept)
  leaf_forth id kept w true e h = inl (eqb-true id f e, h)
  leaf_forth id kept w false e h = inr h

  pub above_forth : (u w : Unfolded) → IsAbove u w → IsTopSide u w ⊎ ((x : Unfolded) × IsAbove (reversioned f s u) x × (node_name x ≡ node_name w))
  above_forth (Folder id label less more inside) w (inl h) = inr (reversioned f s less, inl refl, name_kept less ∙ ap node_name (sym h))
  above_forth (Folder id label less more inside) w (inr (inl h)) = inr (reversioned f s more, inr (inl refl), name_kept more ∙ ap node_name (sym h))
  above_forth (Folder id label less more inside) w (inr (inr h)) = inr (reversioned f s inside, inr (inr refl), name_kept inside ∙ ap node_name (sym h))
  above_forth (Leaf id label less more size counter kept) w (inl h) = inr (reversioned f s less, inl refl, name_kept less ∙ ap node_name (sym h))
  above_forth (Leaf id label less more size counter kept) w (inr (inl h)) = inr (reversioned f s more, inr (inl refl), name_kept more ∙ ap node_name (sym h))
  above_forth (Leaf id label less more size counter kept) w (inr (inr h)) = elim (leaf_forth id kept w (id == f) refl h) [
    | inl e ↦ inl e
    | inr e ↦ inr (w, inr (inr e), refl)
  ]
  above_forth (Split g l i a b) w h = inr (w, h, refl)
  above_forth Absent w h = absurd h
  above_forth (Even v) w h = absurd h
  above_forth (Stored v bytes) w h = absurd h

  leaf_back : (id : ℕ) (kept w : Unfolded) (b : Bool) → (id == f) ≡ b → w ≡ cond b s kept → (w ≡ s) ⊎ (w ≡ kept)
  leaf_back id kept w true e h = inl h
  leaf_back id kept w false e h = inr h

  pub above_back : (u w : Unfolded) → IsAbove (reversioned f s u) w → (w ≡ s) ⊎ ((x : Unfolded) × IsAbove u x × (node_name x ≡ node_name w))
  above_back (Folder id label less more inside) w (inl h) = inr (less, inl refl, sym (ap node_name h ∙ name_kept less))
  above_back (Folder id label less more inside) w (inr (inl h)) = inr (more, inr (inl refl), sym (ap node_name h ∙ name_kept more))
  above_back (Folder id label less more inside) w (inr (inr h)) = inr (inside, inr (inr refl), sym (ap node_name h ∙ name_kept inside))
  above_back (Leaf id label less more size counter kept) w (inl h) = inr (less, inl refl, sym (ap node_name h ∙ name_kept less))
  above_back (Leaf id label less more size counter kept) w (inr (inl h)) = inr (more, inr (inl refl), sym (ap node_name h ∙ name_kept more))
  above_back (Leaf id label less more size counter kept) w (inr (inr h)) = elim (leaf_back id kept w (id == f) refl h) [
    | inl e ↦ inl e
    | inr e ↦ inr (w, inr (inr e), refl)
  ]
  above_back (Split g l i a b) w h = inr (w, h, refl)
  above_back Absent w h = absurd h
  above_back (Even v) w h = absurd h
  above_back (Stored v bytes) w h = absurd h

-- ---- where nothing is known, nothing changed

missing_child : (old new : Shown) (d : Drafted) (c : Resident) (n m : Name) (u w : Unfolded) (x : Option (Option Node)) → known d c m ≡ x → Drafts old new d c → IsTree new → new n ≡ Some u → known d c n ≡ None → IsAbove u w → node_name w ≡ Some m
    → (new m ≡ Some w) × (known d c m ≡ None)
missing_child old new d c n m u w None ke pic tree at none above named = (tree.below n m u w at above named, ke)
missing_child old new d c n m u w (Some None) ke pic tree at none above named =
    let live = tree.below n m u w at above named in
    let gone = pic.gone m (node_kind w m named) ke in cc
  where
    node_kind : (w : Unfolded) (m : Name) → node_name w ≡ Some m → IsNodeName m
    node_kind (Folder id label less more inside) m e = let q : name.Entry (id_of id) ≡ m = cc in subst IsNodeName q tt
    node_kind (Leaf id label less more size counter kept) m e = let q : name.Entry (id_of id) ≡ m = cc in subst IsNodeName q tt
    node_kind (Split f l i a b) m e = let q : name.Part (id_of f) l i ≡ m = cc in subst IsNodeName q tt
    node_kind Absent m e = cc
    node_kind (Even v) m e = cc
    node_kind (Stored v bytes) m e = cc
missing_child old new d c n m u w (Some (Some k)) ke pic tree at none above named =
    let parent : IsParent new n m = record { parent = u; child = w; live = at; above = above; named = named } in
    let p = pic.parents m n k (ap there_by ke) parent in
    absurd (not_known d c n none p.1)

module _ (old new : Shown) (d : Drafted) (c : Resident) (file : FileId) (s : Unfolded) (pic : Drafts old new d c) (tree : IsTree new) (there : IsSome (seen d c (name.Entry file))) where
  pub unchanged : (u : Unfolded) → ((m : Name) → node_name u ≡ Some m → (new m ≡ Some u) × (known d c m ≡ None)) → reversioned file.0 s u ≡ u
  unchanged (Folder id label less more inside) at =
      let h = at (name.Entry (id_of id)) refl in
      let child = λ (w : Unfolded) (a : IsAbove (Folder id label less more inside) w) (m : Name) (e : node_name w ≡ Some m).
      missing_child old new d c (name.Entry (id_of id)) m (Folder id label less more inside) w (known d c m) refl pic tree h.0 h.1 a e in
      let a = unchanged less (child less (inl refl)) in
      let b = unchanged more (child more (inr (inl refl))) in
      let i = unchanged inside (child inside (inr (inr refl))) in
      cc
  unchanged (Leaf id label less more size counter kept) at =
      let h = at (name.Entry (id_of id)) refl in
      let child = λ (w : Unfolded) (a : IsAbove (Leaf id label less more size counter kept) w) (m : Name) (e : node_name w ≡ Some m).
      missing_child old new d c (name.Entry (id_of id)) m (Leaf id label less more size counter kept) w (known d c m) refl pic tree h.0 h.1 a e in
      let a = unchanged less (child less (inl refl)) in
      let b = unchanged more (child more (inr (inl refl))) in
      let K : Name → Type 0 = λ n. known d c n ≡ None in
      let i = kept_by file.0 s id kept (id == file.0) refl (λ e. not_known d c (name.Entry file) (subst K e h.1) there) in
      cc
  unchanged Absent at = refl
  unchanged (Even v) at = refl
  unchanged (Split g l i a b) at = refl
  unchanged (Stored v bytes) at = refl
