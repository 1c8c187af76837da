-- From what a plan makes of a directory's rows to a draft whose counts above the directory lag.
use Rattle.std.proofs.Common.{◌≡◌, ◌≢◌, ◌⊎◌, ◌==◌, inl, inr, ℕ, Bool, true, false, if◌then◌else◌, List, Option, Some, None, refl, ap, sym, ◌∙◌, subst, true≢false, is_some, eq-eqb}
use Rattle.std.specs.Prelude.{IsSome}
use Rattle.std.specs.Option.{option_map}
use Rattle.std.proofs.lemmas.Bool.{eqb-true}
use Rattle.iris_name.specs.Names.{same_name}
use Rattle.iris_name.specs.NameLaws.{same_name-true, same_name-refl}
use Rattle.iris_name.specs.declared.name.FileId.{FileId}
use Rattle.iris_name.specs.declared.name.Hash32.{Hash32}
use Rattle.iris_name.specs.declared.name.Name.{Name}
use Rattle.iris_name.specs.declared.name.Name.TheVariants as name
use Rattle.iris_node.specs.declared.node.Node.{Node}
use Rattle.iris_node.specs.declared.node.Node.TheVariants as node
use Rattle.iris_node.specs.Fields.{EntryFields}
use Rattle.iris_node.specs.Local.{local, led, led_by, entry_local}
use Rattle.iris_node.specs.declared.node.Link.{Link}
use Rattle.iris_node.specs.declared.node.Body.{Body}
use Rattle.iris_node.specs.declared.node.Body.TheVariants.{Dir, File as FileBody}
use Rattle.iris_node.specs.Trees.{Shown, IsTree, IsParent, IsAbove, IsNodeName, node_name, said}
use Rattle.iris_node.specs.Unfolded.{Unfolded, Absent, Folder, Leaf, Even, Split, Stored, id_of}
use Rattle.iris_shape.specs.Order.{Rising, Distinct}
use Rattle.iris_shape.specs.Treap.{Treap, Over, Each, rows, treap, rows_with, rows_without}
use Rattle.iris_shape.proofs.Treaps.{rows_treap}
use Rattle.iris_cache.specs.Resident.{Resident, held_node}
use Rattle.iris_cache.specs.Drafted.{Drafted, drafted, known, seen, known_by, there_by, taken_away, set_to}
use Rattle.iris_cache.specs.Pictures.{IsLike, WasHash, Holds, parent_after, parent_by}
use Rattle.iris_treepaths.specs.Counts.{count_of, with_blocks}
use Rattle.iris_treepaths.specs.Hands.{Holding, IsBelowHand, IsOut}
use Rattle.iris_treepaths.specs.Lags.{Lags, IsUpFrom}
use Rattle.iris_treepaths.specs.Planted.{Planted, IsOver, IsRowName, IsSubtreap, next, far, topped, with_top}
use Rattle.iris_treepaths.specs.Rows.{Row, HasRows, IsFolderOf, Rearranges, IsElsewhere, has_id, row_id, row_name, row_entry, unfolded_rows, below_row, refilled, treap_of_rows, up}
use Rattle.iris_treepaths.specs.Ways.{Any, has_name}
use Rattle.iris_treepaths.proofs.Likes.{Placed, Roof, roof, placed_rows}
use Rattle.iris_treepaths.proofs.Recounts.{like_said, said_like}
use Rattle.iris_treepaths.proofs.Refills.{lies, untouched, refilled_name, lies_named, lies_up, lies_over, refilled_counts}
use Rattle.iris_treepaths.proofs.Rowed.{IsIn, any_row, row_any, has_in, in_has, within_rows, Within, rows_within, less_within, more_within, entries_topped, placed_at, likes_at, stays_at, Stands, stands, over_at, Hung, hung_at, above_row, above_content}
use Rattle.iris_treepaths.proofs.Moved.{each_in, distinct_same, in_put, put_in, put_here, in_without, without_in, named_self, named_same}
use Rattle.iris_treepaths.proofs.Sizes.{never_over, none_over, over_through}
use Rattle.iris_treepaths.proofs.There.{got, is_there, one_of}

-- From a list of rows to another, where a row that comes was in hand and one that goes gets into hand.
pub record Moves (before after : List Row) (from to : Option Row) : Type 0 where
  -- a row of both lists is the same in both
  pub same : (x y : Row) → Any (λ r. r ≡ x) before → Any (λ r. r ≡ y) after → x.id ≡ y.id → x ≡ y
  pub comes : (y : Row) → Any (λ r. r ≡ y) after → has_id y.id before ≡ false → from ≡ Some y
  pub came : (x : Row) → from ≡ Some x → Any (λ r. r ≡ x) after
  pub goes : (x : Row) → Any (λ r. r ≡ x) before → has_id x.id after ≡ false → to ≡ Some x
  pub went : (x : Row) → to ≡ Some x → Any (λ r. r ≡ x) before × (has_id x.id after ≡ false)

-- a row is put in
pub moves_in : (p : Row → Bool) (x : Row) (rows : List Row) → Distinct row_id (rows_with p x rows) → Moves rows (rows_with p x rows) (Some x) None
moves_in p x rows distinct = record {
  same = λ a b h k e. distinct_same (rows_with p x rows) a b distinct (put_in p x rows a h) k e;
  comes = λ y h none. elim (in_put p x rows y h) [ inl e ↦ ap Some e | inr k ↦ absurd (true≢false (sym (has_in rows y k) ∙ none)) ];
  came = λ y e. subst (λ z. IsIn z (rows_with p x rows)) (one_of x y e) (put_here p x rows);
  goes = λ y h none. absurd (true≢false (sym (has_in (rows_with p x rows) y (put_in p x rows y h)) ∙ none));
  went = λ y e. absurd (true≢false (sym (ap is_some e)));
}

-- a row is taken out
pub moves_out : (x : Row) (rows : List Row) → Rising row_name rows → Distinct row_id rows → Any (λ r. r ≡ x) rows → Moves rows (rows_without (has_name x.name) rows) None (Some x)
moves_out x rows rising distinct in_rows = record {
  same = λ a b h k e. distinct_same rows a b distinct h (in_without (has_name x.name) rows b k).0 e;
  comes = λ y h none. absurd (true≢false (sym (has_in rows y (in_without (has_name x.name) rows y h).0) ∙ none));
  came = λ y e. absurd (true≢false (sym (ap is_some e)));
  goes = λ y h none. ap Some (named_same rows x y rising in_rows h (named y h none (has_name x.name y) refl));
  went = λ y e. (let f = one_of x y e in (subst (λ z. IsIn z rows) f in_rows, ap (λ z. has_id z.id (rows_without (has_name x.name) rows)) (sym f) ∙ away (has_id x.id (rows_without (has_name x.name) rows)) refl));
}
  where
    named : (y : Row) → IsIn y rows → has_id y.id (rows_without (has_name x.name) rows) ≡ false → (b : Bool) → has_name x.name y ≡ b → has_name x.name y ≡ true
    named y h none true e = e
    named y h none false e = absurd (true≢false (sym (has_in (rows_without (has_name x.name) rows) y (without_in (has_name x.name) rows y h e)) ∙ none))

    away : (b : Bool) → has_id x.id (rows_without (has_name x.name) rows) ≡ b → has_id x.id (rows_without (has_name x.name) rows) ≡ false
    away true e =
        let r = in_has (rows_without (has_name x.name) rows) x.id e in
        let k = in_without (has_name x.name) rows r.0 r.1 in
        absurd (true≢false (sym (named_self x) ∙ ap (has_name x.name) (sym (distinct_same rows r.0 x distinct k.0 in_rows r.2)) ∙ k.1))
    away false e = e

-- ---- names of a table

-- a block is no node
block-none : (t : Shown) → IsTree t → (f : FileId) (k : ℕ) (u : Unfolded) (n : Name) → t (name.Block f k) ≡ Some u → node_name u ≡ Some n → ⊥
block-none t tree f k (Folder id label less more kept) n live named = by (tree.own (name.Block f k) (name.Entry (id_of id)) (Folder id label less more kept) live refl)
  where
    by : name.Entry (id_of id) ≡ name.Block f k → ⊥
    by e = cc
block-none t tree f k (Leaf id label less more length counter versions) n live named = by (tree.own (name.Block f k) (name.Entry (id_of id)) (Leaf id label less more length counter versions) live refl)
  where
    by : name.Entry (id_of id) ≡ name.Block f k → ⊥
    by e = cc
block-none t tree f k (Split g level index low high) n live named = by (tree.own (name.Block f k) (name.Part (id_of g) level index) (Split g level index low high) live refl)
  where
    by : name.Part (id_of g) level index ≡ name.Block f k → ⊥
    by e = cc
block-none t tree f k Absent n live named = absurd (true≢false (sym (ap is_some named)))
block-none t tree f k (Even version) n live named = absurd (true≢false (sym (ap is_some named)))
block-none t tree f k (Stored version bytes) n live named = absurd (true≢false (sym (ap is_some named)))

above-named : (u w : Unfolded) → IsAbove u w → (n : Name) × (node_name u ≡ Some n)
above-named (Folder id label less more kept) w h = (name.Entry (id_of id), refl)
above-named (Leaf id label less more length counter versions) w h = (name.Entry (id_of id), refl)
above-named (Split g level index low high) w h = (name.Part (id_of g) level index, refl)
above-named Absent w h = absurd h
above-named (Even version) w h = absurd h
above-named (Stored version bytes) w h = absurd h

local-named : (u : Unfolded) → IsSome (local u) → (n : Name) × (node_name u ≡ Some n)
local-named (Folder id label less more kept) h = (name.Entry (id_of id), refl)
local-named (Leaf id label less more length counter versions) h = (name.Entry (id_of id), refl)
local-named (Split g level index low high) h = (name.Part (id_of g) level index, refl)
local-named Absent h = absurd (true≢false (sym h))
local-named (Even version) h = absurd (true≢false (sym h))
local-named (Stored version bytes) h = absurd (true≢false (sym h))

block-parent : (t : Shown) → IsTree t → (f : FileId) (k : ℕ) (n : Name) → IsParent t (name.Block f k) n → ⊥
block-parent t tree f k n h = let x = above-named h.parent h.child h.above in block-none t tree f k h.parent x.0 h.live x.1

block-like : (t : Shown) → IsTree t → (f : FileId) (k : ℕ) (g : Node) → IsLike (t (name.Block f k)) g → ⊥
block-like t tree f k g like = by (t (name.Block f k)) refl like
  where
    by : (o : Option Unfolded) → t (name.Block f k) ≡ o → IsLike o g → ⊥
    by None e h = h
    by (Some u) e h = let x = local-named u (is_there (local u) _ h) in block-none t tree f k u x.0 e x.1

over-live : (t : Shown) (n m : Name) → IsOver t n m → (k : Name) × IsParent t n k
over-live t _ _ (next n m h) = (m, h)
over-live t _ _ (far n q m h o) = over-live t n q o

-- ---- a name and the rows

-- where a name stands: it is the directory's, a row's, or neither
pub data Place (dir : FileId) (before after : List Row) (n : Name) : Type 0 where
  AtDir : (is : n ≡ name.Entry dir) → Place dir before after n
  AtRow : (y : Row) (in_after : IsIn y after) (is : n ≡ name.Entry (id_of y.id)) → Place dir before after n
  AtGone : (y : Row) (in_before : IsIn y before) (is : n ≡ name.Entry (id_of y.id)) (not_after : has_id y.id after ≡ false) → Place dir before after n
  AtElse : (off : same_name (name.Entry dir) n ≡ false) (is : IsElsewhere before after n) → Place dir before after n
  AtBlock : (f : FileId) (k : ℕ) (is : n ≡ name.Block f k) → Place dir before after n

place-id : (dir : FileId) (before after : List Row) (i : FileId) (a b c : Bool) → same_name (name.Entry dir) (name.Entry i) ≡ a → has_id i.0 after ≡ b → has_id i.0 before ≡ c → Place dir before after (name.Entry i)
place-id dir before after i true b c e f g = AtDir (sym (same_name-true (name.Entry dir) (name.Entry i) e))
place-id dir before after i false true c e f g = let r = in_has after i.0 f in AtRow r.0 r.1 (ap (λ k. name.Entry (id_of k)) (sym r.2))
place-id dir before after i false false true e f g = let r = in_has before i.0 g in AtGone r.0 r.1 (ap (λ k. name.Entry (id_of k)) (sym r.2)) (ap (λ k. has_id k after) r.2 ∙ f)
place-id dir before after i false false false e f g = AtElse e (g, f)

pub place : (dir : FileId) (before after : List Row) (n : Name) → Place dir before after n
place dir before after (name.Entry i) = place-id dir before after i (same_name (name.Entry dir) (name.Entry i)) (has_id i.0 after) (has_id i.0 before) refl refl refl
place dir before after (name.Part f level index) = AtElse refl tt
place dir before after (name.Block f k) = AtBlock f k refl

module _ (old new made : Shown) (from to : Option Row) (key : List ℕ) (dir : FileId) (before after : List Row) (d e : Drafted) (c : Resident)
    (holding : Holding old new from d c) (is : IsTree new) (made_is : IsTree made) (has : HasRows new key dir before) (rearranges : Rearranges new made key dir before after)
    (moves : Moves before after from to) (there : IsSome (seen d c (name.Entry dir))) (planted : Planted old dir (treap (up key) before) (treap (up key) after) d e c) where
  abbrev t : Treap Row
  t = treap (up key) before

  abbrev u : Treap Row
  u = treap (up key) after

  abbrev top : Name
  top = name.Entry dir

  abbrev inside : Unfolded
  inside = treap_of_rows key after

  was : Roof new dir (unfolded_rows t)
  was = roof new key dir before has

  now : Roof made dir (unfolded_rows u)
  now = roof made key dir after rearranges.rows

  was-placed : Placed new t
  was-placed = placed_rows new key dir before is has

  now-placed : Placed made u
  now-placed = placed_rows made key dir after made_is rearranges.rows

  was-stands : Stands new top t
  was-stands = stands new t top was.entry was.live was.above was-placed

  now-stands : Stands made top u
  now-stands = stands made u top now.entry now.live now.above now-placed

  -- the rows of the lists in their places
  was-row : (y : Row) → IsIn y before → Within t y
  was-row y h = rows_within t y (subst (IsIn y) (sym (rows_treap (up key) before)) h)

  now-row : (y : Row) → IsIn y after → Within u y
  now-row y h = rows_within u y (subst (IsIn y) (sym (rows_treap (up key) after)) h)

  row-was : (y : Row) (l m : Treap Row) → IsSubtreap (Over y l m) t → IsIn y before
  row-was y l m h = subst (IsIn y) (rows_treap (up key) before) (within_rows t y l m h)

  row-now : (y : Row) (l m : Treap Row) → IsSubtreap (Over y l m) u → IsIn y after
  row-now y l m h = subst (IsIn y) (rows_treap (up key) after) (within_rows u y l m h)

  was-live : (y : Row) (w : Within t y) → new (name.Entry (id_of y.id)) ≡ Some (row_entry y (unfolded_rows w.less) (unfolded_rows w.more))
  was-live y w = placed_at new t (Over y w.less w.more) was-placed w.within

  now-live : (y : Row) (w : Within u y) → made (name.Entry (id_of y.id)) ≡ Some (row_entry y (unfolded_rows w.less) (unfolded_rows w.more))
  now-live y w = placed_at made u (Over y w.less w.more) now-placed w.within

  -- the directory stands above its rows
  over-was : (y : Row) → IsIn y before → IsOver new top (name.Entry (id_of y.id))
  over-was y h = let w = was-row y h in over_at new top t (Over y w.less w.more) was-stands w.within

  over-now : (y : Row) → IsIn y after → IsOver made top (name.Entry (id_of y.id))
  over-now y h = let w = now-row y h in over_at made top u (Over y w.less w.more) now-stands w.within

  -- so it is no row of its own
  dir-else : IsElsewhere before after top
  dir-else = (by-was (has_id dir.0 before) refl, by-now (has_id dir.0 after) refl)
    where
      by-was : (b : Bool) → has_id dir.0 before ≡ b → has_id dir.0 before ≡ false
      by-was true h = let r = in_has before dir.0 h in absurd (never_over new is top (name.Entry (id_of r.0.id)) (over-was r.0 r.1) (ap (λ k. name.Entry (id_of k)) (sym r.2)))
      by-was false h = h

      by-now : (b : Bool) → has_id dir.0 after ≡ b → has_id dir.0 after ≡ false
      by-now true h = let r = in_has after dir.0 h in absurd (never_over made made_is top (name.Entry (id_of r.0.id)) (over-now r.0 r.1) (ap (λ k. name.Entry (id_of k)) (sym r.2)))
      by-now false h = h

  made-else : (n : Name) → IsElsewhere before after n → made n ≡ option_map (refilled dir.0 inside) (new n)
  made-else n h = rearranges.others n h

  -- a row is not elsewhere
  row-else : (y : Row) → IsIn y after → IsElsewhere before after (name.Entry (id_of y.id)) → ⊥
  row-else y h s = true≢false (sym (has_in after y h) ∙ s.1)

  row-else-was : (y : Row) → IsIn y before → IsElsewhere before after (name.Entry (id_of y.id)) → ⊥
  row-else-was y h s = true≢false (sym (has_in before y h) ∙ s.0)

  gone-none : (y : Row) → IsIn y before → has_id y.id after ≡ false → made (name.Entry (id_of y.id)) ≡ None
  gone-none y h g = rearranges.gone (id_of y.id) (has_in before y h) g

  -- a row of the list after was in hand, or is the same row as before
  row-before : (y : Row) → IsIn y after → IsIn y before ⊎ (from ≡ Some y)
  row-before y h = by (has_id y.id before) refl
    where
      by : (b : Bool) → has_id y.id before ≡ b → IsIn y before ⊎ (from ≡ Some y)
      by true e = let r = in_has before y.id e in inl (subst (λ x. IsIn x before) (moves.same r.0 y r.1 h r.2) r.1)
      by false e = inr (moves.comes y h e)

  hand-none : (y : Row) → from ≡ Some y → new (name.Entry (id_of y.id)) ≡ None
  hand-none y e = subst (λ h. IsOut h new) e holding.out

  -- what stands above the directory is elsewhere
  over-else : (n : Name) → IsOver made n top → (same_name top n ≡ false) × IsElsewhere before after n
  over-else n o = by (place dir before after n)
    where
      by : Place dir before after n → (same_name top n ≡ false) × IsElsewhere before after n
      by (AtDir x) = absurd (never_over made made_is n top o x)
      by (AtRow y h x) = absurd (never_over made made_is n n (over_through made n top n o (subst (IsOver made top) (sym x) (over-now y h))) refl)
      by (AtGone y h x g) = absurd (none_over made made_is n top (ap made x ∙ gone-none y h g) o)
      by (AtElse off x) = (off, x)
      by (AtBlock f k x) = let p = over-live made n top o in absurd (block-parent made made_is f k p.0 (subst (λ m. IsParent made m p.0) x p.1))

  -- ---- parents in both tables

  unfill : (v w : Unfolded) → IsAbove (refilled dir.0 inside v) w → ((x : Unfolded) × IsAbove v x × (node_name x ≡ node_name w)) ⊎ (w ≡ inside)
  unfill (Folder id label less more kept) w (inl f) = inl (less, inl refl, sym (refilled_name dir.0 inside less) ∙ ap node_name (sym f))
  unfill (Folder id label less more kept) w (inr (inl f)) = inl (more, inr (inl refl), sym (refilled_name dir.0 inside more) ∙ ap node_name (sym f))
  unfill (Folder id label less more kept) w (inr (inr f)) = by (id == dir.0) f
    where
      by : (b : Bool) → w ≡ (if b then inside else refilled dir.0 inside kept) → ((x : Unfolded) × IsAbove (Folder id label less more kept) x × (node_name x ≡ node_name w)) ⊎ (w ≡ inside)
      by true g = inr g
      by false g = inl (kept, inr (inr refl), sym (refilled_name dir.0 inside kept) ∙ ap node_name (sym g))
  unfill (Leaf id label less more length counter versions) w (inl f) = inl (less, inl refl, sym (refilled_name dir.0 inside less) ∙ ap node_name (sym f))
  unfill (Leaf id label less more length counter versions) w (inr (inl f)) = inl (more, inr (inl refl), sym (refilled_name dir.0 inside more) ∙ ap node_name (sym f))
  unfill (Leaf id label less more length counter versions) w (inr (inr f)) = inl (versions, inr (inr refl), ap node_name (sym f))
  unfill (Split g level index low high) w f = inl (w, f, refl)
  unfill Absent w f = absurd f
  unfill (Even version) w f = absurd f
  unfill (Stored version bytes) w f = absurd f

  fill : (v w : Unfolded) → IsAbove v w → ((x : Unfolded) × IsAbove (refilled dir.0 inside v) x × (node_name x ≡ node_name w)) ⊎ ((node_name v ≡ Some top) × ((k : Unfolded) → IsFolderOf dir.0 k (Some v) → w ≡ k))
  fill (Folder id label less more kept) w (inl f) = inl (refilled dir.0 inside less, inl refl, refilled_name dir.0 inside less ∙ ap node_name (sym f))
  fill (Folder id label less more kept) w (inr (inl f)) = inl (refilled dir.0 inside more, inr (inl refl), refilled_name dir.0 inside more ∙ ap node_name (sym f))
  fill (Folder id label less more kept) w (inr (inr f)) = by (id == dir.0) refl
    where
      by : (b : Bool) → (id == dir.0) ≡ b
          → ((x : Unfolded) × IsAbove (refilled dir.0 inside (Folder id label less more kept)) x × (node_name x ≡ node_name w)) ⊎ ((node_name (Folder id label less more kept) ≡ Some top) × ((k : Unfolded) → IsFolderOf dir.0 k (Some (Folder id label less more kept)) → w ≡ k))
      by true g = inr (ap (λ k. Some (name.Entry (id_of k))) (eqb-true id dir.0 g), λ k h. f ∙ h.1)
      by false g = inl (refilled dir.0 inside kept, inr (inr (ap (λ z. if z then inside else refilled dir.0 inside kept) (sym g))), refilled_name dir.0 inside kept ∙ ap node_name (sym f))
  fill (Leaf id label less more length counter versions) w (inl f) = inl (refilled dir.0 inside less, inl refl, refilled_name dir.0 inside less ∙ ap node_name (sym f))
  fill (Leaf id label less more length counter versions) w (inr (inl f)) = inl (refilled dir.0 inside more, inr (inl refl), refilled_name dir.0 inside more ∙ ap node_name (sym f))
  fill (Leaf id label less more length counter versions) w (inr (inr f)) = inl (versions, inr (inr refl), ap node_name (sym f))
  fill (Split g level index low high) w f = inl (w, f, refl)
  fill Absent w f = absurd f
  fill (Even version) w f = absurd f
  fill (Stored version bytes) w f = absurd f

  -- a name of one of these rows
  abbrev IsRow : List Row → Name → Type 0
  IsRow xs n = (y : Row) × IsIn y xs × (n ≡ name.Entry (id_of y.id))

  inside-row : (n : Name) → node_name inside ≡ Some n → IsRow after n
  unfolding treap_of_rows
  inside-row n h = let r = entries_topped u n h in (r.row, row-now r.row r.less r.more (subst (IsSubtreap (Over r.row r.less r.more)) (sym r.is) (inl refl)), r.named)

  was-inside-row : (n : Name) → node_name (treap_of_rows key before) ≡ Some n → IsRow before n
  unfolding treap_of_rows
  was-inside-row n h = let r = entries_topped t n h in (r.row, row-was r.row r.less r.more (subst (IsSubtreap (Over r.row r.less r.more)) (sym r.is) (inl refl)), r.named)

  from-made : (o : Option Unfolded) (x : Unfolded) → option_map (refilled dir.0 inside) o ≡ Some x → (v : Unfolded) × (o ≡ Some v) × (refilled dir.0 inside v ≡ x)
  from-made None x h = absurd (true≢false (sym (ap is_some h)))
  from-made (Some v) x h = (v, refl, one_of (refilled dir.0 inside v) x h)

  parent-was : (p n : Name) → IsElsewhere before after p → IsParent made p n → IsParent new p n ⊎ IsRow after n
  parent-was p n h parent =
      let v = from-made (new p) parent.parent (sym (made-else p h) ∙ parent.live) in
      elim (unfill v.0 parent.child (subst (λ x. IsAbove x parent.child) (sym v.2) parent.above)) [
        | inl x ↦ inl (record { parent = v.0; child = x.0; live = v.1; above = x.1; named = x.2 ∙ parent.named })
        | inr x ↦ inr (inside-row n (ap node_name (sym x) ∙ parent.named))
      ]

  parent-now : (p n : Name) → IsElsewhere before after p → IsParent new p n → IsParent made p n ⊎ IsRow before n
  parent-now p n h parent = elim (fill parent.parent parent.child parent.above) [
    | inl x ↦ inl (record { parent = refilled dir.0 inside parent.parent; child = x.0; live = made-else p h ∙ ap (option_map (refilled dir.0 inside)) parent.live; above = x.1; named = x.2 ∙ parent.named })
    | inr x ↦ inr (
        let at : top ≡ p = is.own p top parent.parent parent.live x.0 in
        let folder : IsFolderOf dir.0 (treap_of_rows key before) (Some parent.parent) = subst (IsFolderOf dir.0 (treap_of_rows key before)) (ap new at ∙ parent.live) has.entry in
        was-inside-row n (ap node_name (sym (x.1 (treap_of_rows key before) folder)) ∙ parent.named))
  ]

  -- what stands below a row: another row, or what is below it by itself
  row-child : (s : Shown) (x : Treap Row) (y : Row) (w : Within x y) (n : Name) → s (name.Entry (id_of y.id)) ≡ Some (row_entry y (unfolded_rows w.less) (unfolded_rows w.more)) → IsParent s (name.Entry (id_of y.id)) n
      → ((z : Row) × Within x z × (n ≡ name.Entry (id_of z.id))) ⊎ (node_name (below_row y.content) ≡ Some n)
  row-child s x y w n live parent =
      let at : row_entry y (unfolded_rows w.less) (unfolded_rows w.more) ≡ parent.parent = one_of _ _ (sym live ∙ parent.live) in
      elim (above_row y.id y.name y.content (unfolded_rows w.less) (unfolded_rows w.more) parent.child (subst (λ v. IsAbove v parent.child) (sym at) parent.above)) [
        | inl f ↦ inl (let r = entries_topped w.less n (ap node_name (sym f) ∙ parent.named) in (r.row, record { less = r.less; more = r.more; within = less_within y w.less w.more x r.row r.less r.more r.is w.within }, r.named))
        | inr g ↦ elim g [
          | inl f ↦ inl (let r = entries_topped w.more n (ap node_name (sym f) ∙ parent.named) in (r.row, record { less = r.less; more = r.more; within = more_within y w.less w.more x r.row r.less r.more r.is w.within }, r.named))
          | inr f ↦ inr (ap node_name (sym f) ∙ parent.named)
        ]
      ]

  content-parent : (s : Shown) (y : Row) (a b : Unfolded) (n : Name) → s (name.Entry (id_of y.id)) ≡ Some (row_entry y a b) → node_name (below_row y.content) ≡ Some n → IsParent s (name.Entry (id_of y.id)) n
  content-parent s y a b n live named = record { parent = row_entry y a b; child = below_row y.content; live = live; above = above_content y.id y.name y.content a b; named = named }

  no-row : (n : Name) → IsElsewhere before after n → IsRow after n → ⊥
  no-row n h r = row-else r.0 r.1 (subst (IsElsewhere before after) r.2 h)

  no-row-was : (n : Name) → IsElsewhere before after n → IsRow before n → ⊥
  no-row-was n h r = row-else-was r.0 r.1 (subst (IsElsewhere before after) r.2 h)

  below-hand : (y : Row) (hand : Option Row) (p n : Name) → hand ≡ Some y → p ≡ name.Entry (id_of y.id) → node_name (below_row y.content) ≡ Some n → IsBelowHand hand p n
  below-hand y hand p n h f g = subst (λ x. IsBelowHand x p n) (sym h) (f, g)

  hand-row : (hand : Option Row) (p n : Name) → IsBelowHand hand p n → (y : Row) × (hand ≡ Some y) × (p ≡ name.Entry (id_of y.id)) × (node_name (below_row y.content) ≡ Some n)
  hand-row None p n h = absurd h
  hand-row (Some y) p n h = (y, refl, h.0, h.1)

  -- the parent of what is no row was its parent before, or the row that was in hand
  parent-before : (p n : Name) → IsElsewhere before after n → IsParent made p n → IsParent new p n ⊎ IsBelowHand from p n
  parent-before p n h parent = by (place dir before after p)
    where
      was-so : IsElsewhere before after p → IsParent new p n ⊎ IsBelowHand from p n
      was-so k = elim (parent-was p n k parent) [ inl x ↦ inl x | inr r ↦ absurd (no-row n h r) ]

      by : Place dir before after p → IsParent new p n ⊎ IsBelowHand from p n
      by (AtDir x) = was-so (subst (IsElsewhere before after) (sym x) dir-else)
      by (AtRow y k x) =
          let w = now-row y k in
          elim (row-child made u y w n (now-live y w) (subst (λ m. IsParent made m n) x parent)) [
            | inl r ↦ absurd (no-row n h (r.0, row-now r.0 r.1.less r.1.more r.1.within, r.2))
            | inr g ↦ elim (row-before y k) [
              | inl b ↦ inl (let v = was-row y b in subst (λ m. IsParent new m n) (sym x) (content-parent new y (unfolded_rows v.less) (unfolded_rows v.more) n (was-live y v) g))
              | inr b ↦ inr (below-hand y from p n b x g)
            ]
          ]
      by (AtGone y k x g) = absurd (true≢false (sym (ap is_some (sym (ap made x ∙ gone-none y k g) ∙ parent.live))))
      by (AtElse off x) = was-so x
      by (AtBlock f k x) = absurd (block-parent made made_is f k n (subst (λ m. IsParent made m n) x parent))

  -- the parent before of what is no row is its parent, or the row that gets into hand
  parent-after-all : (p n : Name) → IsElsewhere before after n → IsParent new p n → IsParent made p n ⊎ IsBelowHand to p n
  parent-after-all p n h parent = by (place dir before after p)
    where
      so : IsElsewhere before after p → IsParent made p n ⊎ IsBelowHand to p n
      so k = elim (parent-now p n k parent) [ inl x ↦ inl x | inr r ↦ absurd (no-row-was n h r) ]

      content : (y : Row) → IsIn y before → p ≡ name.Entry (id_of y.id) → node_name (below_row y.content) ≡ Some n
      content y b x =
          let v = was-row y b in
          elim (row-child new t y v n (was-live y v) (subst (λ m. IsParent new m n) x parent)) [
            | inl r ↦ absurd (no-row-was n h (r.0, row-was r.0 r.1.less r.1.more r.1.within, r.2))
            | inr g ↦ g
          ]

      by : Place dir before after p → IsParent made p n ⊎ IsBelowHand to p n
      by (AtDir x) = so (subst (IsElsewhere before after) (sym x) dir-else)
      by (AtRow y k x) = elim (row-before y k) [
        | inl b ↦ inl (let w = now-row y k in subst (λ m. IsParent made m n) (sym x) (content-parent made y (unfolded_rows w.less) (unfolded_rows w.more) n (now-live y w) (content y b x)))
        | inr b ↦ absurd (true≢false (sym (ap is_some (sym (ap new x ∙ hand-none y b) ∙ parent.live))))
      ]
      by (AtGone y k x g) = inr (below-hand y to p n (moves.goes y k g) x (content y k x))
      by (AtElse off x) = so x
      by (AtBlock f k x) = absurd (block-parent new is f k n (subst (λ m. IsParent new m n) x parent))

  -- what is below the row that was in hand is below it in its place
  hand-parent : (p n : Name) → IsBelowHand from p n → IsParent made p n
  hand-parent p n h =
      let r = hand-row from p n h in
      let w = now-row r.0 (moves.came r.0 r.1) in
      subst (λ m. IsParent made m n) (sym r.2) (content-parent made r.0 (unfolded_rows w.less) (unfolded_rows w.more) n (now-live r.0 w) r.3)

  -- ---- what the draft says of each name

  row-in-was : (n : Name) → IsRowName (rows t) n → IsRow before n
  row-in-was n h = let r = any_row (λ x. n ≡ name.Entry (id_of x.id)) (rows t) h in (r.0, subst (IsIn r.0) (rows_treap (up key) before) r.1, r.2)

  row-in-now : (n : Name) → IsRowName (rows u) n → IsRow after n
  row-in-now n h = let r = any_row (λ x. n ≡ name.Entry (id_of x.id)) (rows u) h in (r.0, subst (IsIn r.0) (rows_treap (up key) after) r.1, r.2)

  was-named : (y : Row) (n : Name) → IsIn y before → n ≡ name.Entry (id_of y.id) → IsRowName (rows t) n
  was-named y n h x = row_any (λ r. n ≡ name.Entry (id_of r.id)) (rows t) y (subst (IsIn y) (sym (rows_treap (up key) before)) h) x

  now-named : (y : Row) (n : Name) → IsIn y after → n ≡ name.Entry (id_of y.id) → IsRowName (rows u) n
  now-named y n h x = row_any (λ r. n ≡ name.Entry (id_of r.id)) (rows u) y (subst (IsIn y) (sym (rows_treap (up key) after)) h) x

  drafted-else : (n : Name) → same_name top n ≡ false → IsElsewhere before after n → drafted e n ≡ drafted d n
  drafted-else n off h = planted.others n (λ r. no-row-was n h (row-in-was n r)) (λ r. no-row n h (row-in-now n r)) (λ x. true≢false (sym (ap (same_name top) x ∙ same_name-refl top) ∙ off))

  seen-same : (n : Name) → drafted e n ≡ drafted d n → seen e c n ≡ seen d c n
  seen-same n x = ap (λ o. there_by (known_by o (held_node c n))) x

  known-same : (n : Name) → drafted e n ≡ drafted d n → known e c n ≡ known d c n
  known-same n x = ap (λ o. known_by o (held_node c n)) x

  parent-same : (n : Name) → drafted e n ≡ drafted d n → parent_after e c n ≡ parent_after d c n
  parent-same n x = ap (λ o. parent_by o (held_node c n)) x

  drafted-block : (f : FileId) (k : ℕ) → drafted e (name.Block f k) ≡ drafted d (name.Block f k)
  drafted-block f k = planted.others (name.Block f k) (λ r. none-was (row-in-was (name.Block f k) r).2) (λ r. none-was (row-in-now (name.Block f k) r).2) (none-was)
    where
      none-was : {i : FileId} → name.Block f k ≡ name.Entry i → ⊥
      none-was x = cc

  block-seen : (f : FileId) (k : ℕ) (g : Node) → seen e c (name.Block f k) ≡ Some g → ⊥
  block-seen f k g s = block-like new is f k g (holding.nodes (name.Block f k) g (sym (seen-same (name.Block f k) (drafted-block f k)) ∙ s))

  gone-seen : (y : Row) (n : Name) → IsIn y before → n ≡ name.Entry (id_of y.id) → has_id y.id after ≡ false → drafted e n ≡ Some taken_away
  gone-seen y n h x g = planted.went n (was-named y n h x) (λ r. (let z = row-in-now n r in true≢false (sym (has_in after z.0 z.1) ∙ ap (λ k. has_id k after) (sym (ids (sym x ∙ z.2))) ∙ g)))
    where
      id-in : Name → ℕ
      id-in (name.Entry i) = i.0
      id-in (name.Part f l i) = 0
      id-in (name.Block f k) = 0

      ids : {a b : ℕ} → name.Entry (id_of a) ≡ name.Entry (id_of b) → a ≡ b
      ids q = ap id-in q

  -- ---- the directory's entry

  entry-of : (o : Option Unfolded) (g : Node) → IsFolderOf dir.0 (treap_of_rows key before) o → IsLike o g → (x : EntryFields) × (g ≡ node.Entry x)
  entry-of o (node.Entry x) f like = (x, refl)
  entry-of None (node.Part x) f like = absurd f
  entry-of (Some (Folder id label less more kept)) (node.Part x) f like = cc
  entry-of (Some (Leaf id label less more length counter versions)) (node.Part x) f like = absurd f
  entry-of (Some Absent) (node.Part x) f like = absurd f
  entry-of (Some (Even version)) (node.Part x) f like = absurd f
  entry-of (Some (Split g level index low high)) (node.Part x) f like = absurd f
  entry-of (Some (Stored version bytes)) (node.Part x) f like = absurd f

  top-was : (x : EntryFields) × (seen d c top ≡ Some (node.Entry x))
  top-was = let g = got (seen d c top) there in let x = entry-of (new top) g.0 has.entry (holding.nodes top g.0 g.1) in (x.0, g.1 ∙ ap Some x.1)

  abbrev top-node : Node
  top-node = node.Entry (with_top planted.top top-was.0)

  top-drafted : drafted e top ≡ Some (set_to (parent_after d c top) top-node)
  top-drafted = planted.entry top-was.0 top-was.1

  top-seen : seen e c top ≡ Some top-node
  top-seen = ap (λ o. there_by (known_by o (held_node c top))) top-drafted

  top-parent : parent_after e c top ≡ parent_after d c top
  top-parent = ap (λ o. parent_by o (held_node c top)) top-drafted

  -- ---- what is seen stays so

  sees-else : (n : Name) → same_name top n ≡ false → IsElsewhere before after n → IsSome (seen d c n) → IsSome (seen e c n)
  sees-else n off h s = subst IsSome (sym (seen-same n (drafted-else n off h))) s

  sees-hand : (y : Row) (n : Name) → from ≡ Some y → n ≡ name.Entry (id_of y.id) → IsSome (seen e c n)
  sees-hand y n h x = planted.came n (now-named y n (moves.came y h) x) (λ r. (let z = row-in-was n r in let w = was-row z.0 z.1 in
      true≢false (sym (ap is_some (sym (ap new x ∙ hand-none y h) ∙ ap new z.2 ∙ was-live z.0 w)))))

  -- a parent that is seen stays so
  sees-parent : (p n : Name) → IsParent made p n → IsSome (seen d c p) → IsSome (seen e c p)
  sees-parent p n parent s = by (place dir before after p)
    where
      by : Place dir before after p → IsSome (seen e c p)
      by (AtDir x) = subst (λ m. IsSome (seen e c m)) (sym x) (is_there (seen e c top) top-node top-seen)
      by (AtRow y k x) = elim (row-before y k) [ inl b ↦ planted.kept p (was-named y p b x) (now-named y p k x) s | inr h ↦ sees-hand y p h x ]
      by (AtGone y k x g) = absurd (true≢false (sym (ap is_some (sym (ap made x ∙ gone-none y k g) ∙ parent.live))))
      by (AtElse off x) = sees-else p off x s
      by (AtBlock f k x) = absurd (block-parent made made_is f k n (subst (λ m. IsParent made m n) x parent))

  -- ---- what is like what

  dir-like : (id : ℕ) (label : List ℕ) (less more k l : Unfolded) (x : EntryFields) (b : Body) (link : Option Link) → local (Folder id label less more k) ≡ Some (entry_local x b) → led_by link ≡ led l
      → local (Folder id label less more l) ≡ Some (entry_local (with_top link x) (topped link b))
  dir-like id label less more k l x (Dir was) link h f = cc
  dir-like id label less more k l x (FileBody size counter versions) link h f = cc

  same-entry : dir.0 == dir.0 ≡ true
  same-entry = eq-eqb dir.0 dir.0 refl

  beside-same : (w : Unfolded) → IsAbove (refilled dir.0 inside (Folder dir.0 was.label was.less was.more (unfolded_rows t))) (refilled dir.0 inside w) → refilled dir.0 inside w ≡ w
  beside-same w h = by (lies dir.0 w) refl
    where
      by : (b : Bool) → lies dir.0 w ≡ b → refilled dir.0 inside w ≡ w
      by false f = untouched dir.0 inside w f
      by true f = absurd (never_over made made_is top top (lies_over made made_is dir.0 inside w top (refilled dir.0 inside (Folder dir.0 was.label was.less was.more (unfolded_rows t))) f
          (made-else top dir-else ∙ ap (option_map (refilled dir.0 inside)) (was.live ∙ ap Some was.is)) h) refl)

  top-is : made top ≡ Some (Folder dir.0 was.label was.less was.more (unfolded_rows u))
  unfolding treap_of_rows
  top-is =
      let a = beside-same was.less (inl refl) in
      let b = beside-same was.more (inr (inl refl)) in
      let k : (if dir.0 == dir.0 then inside else refilled dir.0 inside (unfolded_rows t)) ≡ unfolded_rows u = ap (λ z. if z then inside else refilled dir.0 inside (unfolded_rows t)) same-entry in
      made-else top dir-else ∙ ap (option_map (refilled dir.0 inside)) (was.live ∙ ap Some was.is) ∙ (λ z. Some (Folder dir.0 was.label (a z) (b z) (k z)))

  top-like : IsLike (made top) top-node
  top-like =
      let old-like = like_said (new top) (node.Entry top-was.0) (holding.nodes top (node.Entry top-was.0) top-was.1) in
      let old-local = sym (ap said (was.live ∙ ap Some was.is)) ∙ old-like in
      said_like (made top) top-node (ap said top-is ∙ dir-like dir.0 was.label was.less was.more (unfolded_rows t) (unfolded_rows u) top-was.0 top-was.0.body planted.top old-local planted.leads)

  -- what is neither at nor above the directory, nor a row, is the same in both tables
  else-same : (n : Name) → same_name top n ≡ false → IsElsewhere before after n → (IsOver made n top → ⊥) → made n ≡ new n
  else-same n off h free = by (new n) refl
    where
      lying : (v : Unfolded) (b : Bool) → new n ≡ Some v → lies dir.0 v ≡ b → refilled dir.0 inside v ≡ v
      lying v false live f = untouched dir.0 inside v f
      lying v true live f =
          let m = lies_named dir.0 v f in
          let own : node_name v ≡ Some n = m.1 ∙ ap Some (is.own n m.0 v live m.1) in
          elim (lies_up made made_is dir.0 inside v n f own (made-else n h ∙ ap (option_map (refilled dir.0 inside)) live)) [
            | inl x ↦ absurd (true≢false (sym (ap (same_name top) x ∙ same_name-refl top) ∙ off))
            | inr o ↦ absurd (free o)
          ]

      by : (o : Option Unfolded) → new n ≡ o → made n ≡ new n
      by None live = made-else n h ∙ ap (option_map (refilled dir.0 inside)) live ∙ sym live
      by (Some v) live = made-else n h ∙ ap (option_map (refilled dir.0 inside)) live ∙ ap Some (lying v (lies dir.0 v) live refl) ∙ sym live

  unseen-gone : (n : Name) → drafted e n ≡ Some taken_away → seen e c n ≡ None
  unseen-gone n x = ap (λ o. there_by (known_by o (held_node c n))) x

  nodes-all : (n : Name) (g : Node) → seen e c n ≡ Some g → (IsOver made n top → ⊥) → IsLike (made n) g
  nodes-all n g s free = by (place dir before after n)
    where
      by : Place dir before after n → IsLike (made n) g
      by (AtDir x) = subst (λ m. IsLike (made m) g) (sym x) (subst (IsLike (made top)) (one_of top-node g (sym top-seen ∙ ap (seen e c) (sym x) ∙ s)) top-like)
      by (AtRow y k x) =
          let w = now-row y k in
          subst (λ o. IsLike o g) (sym (ap made x ∙ now-live y w)) (likes_at (seen e c) u (Over y w.less w.more) planted.likes w.within g (ap (seen e c) (sym x) ∙ s))
      by (AtGone y k x f) = absurd (true≢false (sym (ap is_some (sym (unseen-gone n (gone-seen y n k x f)) ∙ s))))
      by (AtElse off h) = subst (λ o. IsLike o g) (sym (else-same n off h free)) (holding.nodes n g (sym (seen-same n (drafted-else n off h)) ∙ s))
      by (AtBlock f k x) = absurd (block-seen f k g (ap (seen e c) (sym x) ∙ s))

  above-all : (n : Name) (g : Node) → seen e c n ≡ Some g → IsOver made n top → IsLike (new n) g
  above-all n g s o = let h = over-else n o in holding.nodes n g (sym (seen-same n (drafted-else n h.0 h.1)) ∙ s)

  counts-all : (p q : Name) → IsParent made p q → IsUpFrom made top q → said (made p) ≡ option_map (with_blocks q (count_of (made q))) (said (new p))
  counts-all p q parent way =
      let over : IsOver made p top = elim way [ inl x ↦ subst (IsOver made p) x (next p q parent) | inr o ↦ over_through made p q top (next p q parent) o ] in
      let h = over-else p over in
      let v = from-made (new p) parent.parent (sym (made-else p h.1) ∙ parent.live) in
      let live : made p ≡ Some (refilled dir.0 inside v.0) = parent.live ∙ ap Some (sym v.2) in
      let named = above-named parent.parent parent.child parent.above in
      let own : node_name v.0 ≡ Some p = sym (refilled_name dir.0 inside v.0) ∙ ap node_name v.2 ∙ named.1 ∙ ap Some (made_is.own p named.0 parent.parent parent.live named.1) in
      ap said live ∙ refilled_counts made made_is dir.0 inside v.0 p q live own (never_over made made_is p top over) parent way ∙ ap (λ o. option_map (with_blocks q (count_of (made q))) (said o)) (sym v.1)

  hashes-all : (n m : Name) (g : Node) (h : Hash32) → seen e c n ≡ Some g → Holds g m h → WasHash old c m h
  hashes-all n m g h s holds = by (place dir before after n)
    where
      by : Place dir before after n → WasHash old c m h
      by (AtDir x) = planted.hashes n m g h (inr x) s holds
      by (AtRow y k x) = planted.hashes n m g h (inl (now-named y n k x)) s holds
      by (AtGone y k x f) = absurd (true≢false (sym (ap is_some (sym (unseen-gone n (gone-seen y n k x f)) ∙ s))))
      by (AtElse off k) = holding.hashes n m g h (sym (seen-same n (drafted-else n off k)) ∙ s) holds
      by (AtBlock f k x) = absurd (block-seen f k g (ap (seen e c) (sym x) ∙ s))

  -- ---- parents

  pub record Kept (n : Name) : Type 0 where
    pub elsewhere : IsElsewhere before after n
    pub node : Node
    pub at_it : seen d c n ≡ Some node
    pub parent_is : parent_after e c n ≡ parent_after d c n

  -- what is seen is a row, or was seen and hangs as before
  seen-place : (n : Name) (g : Node) → seen e c n ≡ Some g → IsRow after n ⊎ Kept n
  seen-place n g s = by (place dir before after n)
    where
      by : Place dir before after n → IsRow after n ⊎ Kept n
      by (AtDir x) = inr (record {
        elsewhere = subst (IsElsewhere before after) (sym x) dir-else;
        node = node.Entry top-was.0;
        at_it = ap (seen d c) x ∙ top-was.1;
        parent_is = ap (parent_after e c) x ∙ top-parent ∙ ap (parent_after d c) (sym x);
      })
      by (AtRow y k x) = inl (y, k, x)
      by (AtGone y k x f) = absurd (true≢false (sym (ap is_some (sym (unseen-gone n (gone-seen y n k x f)) ∙ s))))
      by (AtElse off h) = inr (record { elsewhere = h; node = g; at_it = sym (seen-same n (drafted-else n off h)) ∙ s; parent_is = parent-same n (drafted-else n off h) })
      by (AtBlock f k x) = absurd (block-seen f k g (ap (seen e c) (sym x) ∙ s))

  row-hung : (n : Name) (g : Node) → seen e c n ≡ Some g → IsRow after n → Hung (seen e c) (parent_after e c) made n
  row-hung n g s r =
      let w = now-row r.0 r.1 in
      subst (Hung (seen e c) (parent_after e c) made) (sym r.2) (hung_at (seen e c) (parent_after e c) made top u (Over r.0 w.less w.more) planted.hang now-stands w.within g (ap (seen e c) (sym r.2) ∙ s))

  parents-all : (n p : Name) (g : Node) → seen e c n ≡ Some g → IsParent made p n → (parent_after e c n ≡ Some p) × IsSome (seen e c p)
  parents-all n p g s parent = elim (seen-place n g s) [
    | inl r ↦ (
        let h = row-hung n g s r in
        let same : h.from ≡ p = made_is.once n h.from p h.parent parent in
        (h.over_is ∙ ap Some same, subst (λ m. IsSome (seen e c m)) same h.sees))
    | inr k ↦ elim (parent-before p n k.elsewhere parent) [
      | inl q ↦ (let x = holding.parents n p k.node k.at_it q in (k.parent_is ∙ x.0, sees-parent p n parent x.1))
      | inr q ↦ (let y = hand-row from p n q in (k.parent_is ∙ holding.hangs n p k.node k.at_it q, sees-hand y.0 p y.1 y.2))
    ]
  ]

  tied-all : (n p : Name) (g : Node) → seen e c n ≡ Some g → parent_after e c n ≡ Some p → IsParent made p n ⊎ IsBelowHand to p n
  tied-all n p g s up = elim (seen-place n g s) [
    | inl r ↦ (let h = row-hung n g s r in inl (subst (λ m. IsParent made m n) (one_of h.from p (sym h.over_is ∙ up)) h.parent))
    | inr k ↦ elim (holding.tied n p k.node k.at_it (sym k.parent_is ∙ up)) [
      | inl q ↦ parent-after-all p n k.elsewhere q
      | inr q ↦ inl (hand-parent p n q)
    ]
  ]

  hangs-all : (n p : Name) (g : Node) → seen e c n ≡ Some g → IsBelowHand to p n → parent_after e c n ≡ Some p
  hangs-all n p g s below =
      let y = hand-row to p n below in
      let y-in = (moves.went y.0 y.1).0 in
      let w = was-row y.0 y-in in
      let parent : IsParent new p n = subst (λ m. IsParent new m n) (sym y.2) (content-parent new y.0 (unfolded_rows w.less) (unfolded_rows w.more) n (was-live y.0 w) y.3) in
      elim (seen-place n g s) [
        | inl r ↦ elim (row-before r.0 r.1) [
          | inl b ↦ absurd (each_in (λ z. node_name (below_row y.0.content) ≢ Some (name.Entry (id_of z.id))) before r.0 b
              (each_in (λ x. Each (λ z. node_name (below_row x.content) ≢ Some (name.Entry (id_of z.id))) before) before y.0 y-in has.apart) (y.3 ∙ ap Some r.2))
          | inr h ↦ absurd (true≢false (sym (ap is_some (sym (ap new r.2 ∙ hand-none r.0 h) ∙ is.below p n parent.parent parent.child parent.live parent.above parent.named))))
        ]
        | inr k ↦ k.parent_is ∙ (holding.parents n p k.node k.at_it parent).0
      ]

  -- what stands above the directory is seen
  sees-over : (n m : Name) → IsOver made n m → IsSome (seen e c m) → IsSome (seen e c n)
  sees-over _ _ (next n m h) s = let g = got (seen e c m) s in (parents-all m n g.0 g.1 h).1
  sees-over _ _ (far n q m h o) s = let g = got (seen e c m) s in sees-over n q o (parents-all m q g.0 g.1 h).1

  -- ---- what isn't seen

  known-none : (n : Name) → known e c n ≡ Some None → IsSome (seen e c n) → ⊥
  known-none n k s = true≢false (sym s ∙ ap (λ o. is_some (there_by o)) k)

  known-not : (n : Name) → known e c n ≡ None → IsSome (seen e c n) → ⊥
  known-not n k s = true≢false (sym s ∙ ap (λ o. is_some (there_by o)) k)

  -- a row of both lists that isn't seen is drafted as before
  missing-so : (y : Row) (n : Name) → IsIn y before → IsIn y after → n ≡ name.Entry (id_of y.id) → (IsSome (seen e c n) → ⊥) → drafted e n ≡ drafted d n
  missing-so y n b a x free = by (seen d c n) refl
    where
      by : (o : Option Node) → seen d c n ≡ o → drafted e n ≡ drafted d n
      by None s = planted.missing n (was-named y n b x) (now-named y n a x) s
      by (Some g) s = absurd (free (planted.kept n (was-named y n b x) (now-named y n a x) (is_there (seen d c n) g s)))

  gone-all : (n : Name) → IsNodeName n → known e c n ≡ Some None → made n ≡ None
  gone-all n node-name k = by (place dir before after n)
    where
      by : Place dir before after n → made n ≡ None
      by (AtDir x) = absurd (known-none n k (subst (λ m. IsSome (seen e c m)) (sym x) (is_there (seen e c top) top-node top-seen)))
      by (AtRow y a x) = elim (row-before y a) [
        | inl b ↦ absurd (
            let same = missing-so y n b a x (known-none n k) in
            let none = holding.gone n node-name (sym (known-same n same) ∙ k) in
            true≢false (sym (ap is_some (sym none ∙ ap new x ∙ was-live y (was-row y b)))))
        | inr h ↦ absurd (known-none n k (sees-hand y n h x))
      ]
      by (AtGone y b x f) = ap made x ∙ gone-none y b f
      by (AtElse off h) = made-else n h ∙ ap (option_map (refilled dir.0 inside)) (holding.gone n node-name (sym (known-same n (drafted-else n off h)) ∙ k))
      by (AtBlock f b x) = absurd (subst IsNodeName x node-name)

  away-all : (n : Name) → IsNodeName n → known e c n ≡ None → made n ≡ old n
  away-all n node-name k = by (place dir before after n)
    where
      by : Place dir before after n → made n ≡ old n
      by (AtDir x) = absurd (known-not n k (subst (λ m. IsSome (seen e c m)) (sym x) (is_there (seen e c top) top-node top-seen)))
      by (AtRow y a x) = elim (row-before y a) [
        | inl b ↦ (
            let same = missing-so y n b a x (known-not n k) in
            let w = now-row y a in
            let part = stays_at (seen e c) t u (Over y w.less w.more) planted.stays w.within (ap (seen e c) (sym x) ∙ ap there_by k) in
            let live = placed_at new t (Over y w.less w.more) was-placed part in
            ap made x ∙ now-live y w ∙ sym live ∙ ap new (sym x) ∙ holding.away n node-name (sym (known-same n same) ∙ k))
        | inr h ↦ absurd (known-not n k (sees-hand y n h x))
      ]
      by (AtGone y b x f) = absurd (true≢false (sym (ap is_some (sym k ∙ ap (λ o. known_by o (held_node c n)) (gone-seen y n b x f)))))
      by (AtElse off h) = else-same n off h (λ o. known-not n k (sees-over n top o (is_there (seen e c top) top-node top-seen))) ∙ holding.away n node-name (sym (known-same n (drafted-else n off h)) ∙ k)
      by (AtBlock f b x) = absurd (subst IsNodeName x node-name)

  out-by : (h : Option Row) → to ≡ h → IsOut h made
  out-by None x = tt
  out-by (Some y) x = let w = moves.went y x in gone-none y w.0 w.1

  all : Lags old new made to top e c
  all = record {
    before = holding.before;
    there = is_there (seen e c top) top-node top-seen;
    above = above-all;
    nodes = nodes-all;
    counts = counts-all;
    hashes = hashes-all;
    parents = parents-all;
    tied = tied-all;
    hangs = hangs-all;
    gone = gone-all;
    away = away-all;
    resident = planted.resident;
    out = out-by to refl;
  }

pub assembled : (old new made : Shown) (from to : Option Row) (key : List ℕ) (dir : FileId) (before after : List Row) (d e : Drafted) (c : Resident)
    → Holding old new from d c → IsTree new → IsTree made → HasRows new key dir before → Rearranges new made key dir before after → Moves before after from to
    → IsSome (seen d c (name.Entry dir)) → Planted old dir (treap (up key) before) (treap (up key) after) d e c → Lags old new made to (name.Entry dir) e c
assembled old new made from to key dir before after d e c holding is made_is has rearranges moves there planted = all old new made from to key dir before after d e c holding is made_is has rearranges moves there planted
