-- A run taken out of items, for another name and another depth.
use Rattle.std.proofs.Common.{◌≡◌, ℕ, suc, ◌+◌, ◌-◌, ◌^◌, ◌<◌, ◌≤◌, List, [], ◌∷◌, ◌++◌, length, get_or, take, drop, map, refl, sym, ◌∙◌, ap, subst, arith, length-drop, length-take}
use Rattle.std.proofs.lemmas.List.{drop_more, drop-drop, take_at}
use Rattle.iris_rows.specs.declared.item.Item.{Item}
use Rattle.iris_rows.specs.Items.{grown, kept_file, IsForest, IsForestTo, most_depth}
use Rattle.iris_table.specs.Stops.{deeper, relabelled, first_renamed, AreWithin, IsRun, run_row, run_length, after_run}
use Rattle.iris_table.proofs.ForestDepths.{most_at, forest_from, forest_joined, forest_front, forest_after, forest_relabelled, forest_within, most_bound, relabelled_deeper, most_most}
use Rattle.iris_table.proofs.RunsAmongItems.{run_rows, run_deeper, relabelled_rows}

-- a list that was written in place
pub written_back : (n : ℕ) (new old : List Item) → n ≡ length new → take n (new ++ drop (length new) old) ≡ new
written_back n new old e = take_at new (drop (length new) old) n (sym e)

pub renamed_length : (name : List ℕ) (items : List Item) → length (first_renamed name items) ≡ length items
renamed_length name [] = refl
renamed_length name (i ∷ items) = omega arith

module _ (items : List Item) (place to count : ℕ) (i : Item) (within : place < length items) (is : i ≡ get_or items place i)
    (count_is : count ≡ run_length (drop place items)) (forest : IsForest items) (fits : to + length items < 2 ^ 64) where
  abbrev rest : List Item
  rest = drop (place + 1) items

  abbrev inside : List Item
  inside = take (deeper i.depth rest) rest

  pub here : drop place items ≡ i ∷ rest
  here = drop_more items place i within ∙ ap (λ x. x ∷ rest) (sym is)

  count_of : count ≡ suc (deeper i.depth rest)
  count_of = count_is ∙ ap run_length here

  pub run_is : take count (drop place items) ≡ i ∷ inside
  run_is = let e : count ≡ suc (deeper i.depth rest) = count_of in ap (λ k. take k (drop place items)) e ∙ ap (take (suc (deeper i.depth rest))) here

  from_here : IsForestTo (most_at 0 place items) (i ∷ rest)
  from_here = let Q : List Item → Type 0 = λ z. IsForestTo (most_at 0 place items) z in subst Q here (forest_from 0 place items forest)

  inside_forest : IsForestTo (most_depth i i.file) inside
  inside_forest = forest_front (most_depth i i.file) (deeper i.depth rest) rest from_here.1

  within_run : AreWithin i.depth to (i ∷ inside)
  within_run =
      let a = most_bound 0 place items forest in
      let b = most_most i i.file in
      let l = length-take (deeper i.depth rest) rest in
      let r = length-drop (place + 1) items in
      let h : i.depth ≤ most_at 0 place items = from_here.0 in
      (omega arith, omega arith, forest_within i.depth to (most_depth i i.file) inside (run_deeper i.depth rest) inside_forest (omega arith))

  pub depths_fit : AreWithin i.depth to (take count (drop place items))
  depths_fit = let Q : List Item → Type 0 = λ z. AreWithin i.depth to z in subst Q (sym run_is) within_run

  pub is_run : (name : List ℕ) → IsRun to name (first_renamed name (map (relabelled i.depth to) (take count (drop place items))))
  is_run name =
      let Q : List Item → Type 0 = λ z. IsRun to name (first_renamed name (map (relabelled i.depth to) z)) in
      let P : ℕ → Type 0 = λ k. IsForestTo k (map (relabelled i.depth to) (i ∷ inside)) in
      let e : i.depth - i.depth + to ≡ to = omega arith in
      let f = subst P e (forest_relabelled i.depth to i.depth (i ∷ inside) within_run (omega arith) (omega arith, inside_forest)) in
      subst Q (sym run_is) (e, refl, relabelled_deeper i.depth to inside (run_deeper i.depth rest), (f.0, f.1))

  pub same_row : (name : List ℕ) → run_row (first_renamed name (map (relabelled i.depth to) (take count (drop place items)))) ≡ run_row (drop place items)
  same_row name =
      let e : i.depth - i.depth + to + 1 ≡ to + 1 = omega arith in
      let inner : grown (i.depth - i.depth + to + 1) (map (relabelled i.depth to) inside) ≡ grown (i.depth + 1) rest =
      ap (λ k. grown k (map (relabelled i.depth to) inside)) e ∙ relabelled_rows i.depth to inside (run_deeper i.depth rest) 1 (omega arith) ∙ run_rows i.depth (i.depth + 1) rest (omega arith) in
      ap (λ z. run_row (first_renamed name (map (relabelled i.depth to) z))) run_is ∙ ap (λ z. record { id = i.id.0; file = kept_file i.file; inside = z }) inner ∙ ap run_row (sym here)

  pub left_is : take place items ++ drop (place + count) items ≡ take place items ++ after_run (drop place items)
  left_is =
      let e : place + count ≡ deeper i.depth rest + (place + 1) = omega (arith, count_of) in
      ap (λ z. take place items ++ z) (ap (λ k. drop k items) e ∙ sym (drop-drop (deeper i.depth rest) (place + 1) items ∙ ap (λ k. drop k items) (omega arith)) ∙ ap after_run (sym here))

  pub left_forest : IsForest (take place items ++ drop (place + count) items)
  left_forest =
      let Q : List Item → Type 0 = λ z. IsForest z in
      let P : List Item → Type 0 = λ z. IsForestTo (most_at 0 place items) (after_run z) in
      subst Q (sym left_is) (forest_joined 0 place items _ forest (subst P (sym here) (forest_after (most_depth i i.file) i.depth (most_at 0 place items) rest from_here.0 from_here.1)))

-- how many items a run has
pub counted : (items : List Item) (place r : ℕ) (i : Item) → place < length items → i ≡ get_or items place i → r ≡ deeper i.depth (drop (place + 1) items) → 1 + r ≡ run_length (drop place items)
counted items place r i h e f = (let x : 1 + r ≡ suc (deeper i.depth (drop (place + 1) items)) = omega arith in x) ∙ ap run_length (sym (drop_more items place i h ∙ ap (λ x. x ∷ drop (place + 1) items) (sym e)))
