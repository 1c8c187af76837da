-- A directory that is there, its rows among items, and what lies at a path of one more name.
use Rattle.std.proofs.Common.{◌≡◌, ℕ, zero, suc, ◌+◌, ◌-◌, ◌<◌, List, [], ◌∷◌, ◌++◌, length, get_or, take, drop, true, false, Option, Some, None, refl, sym, ◌∙◌, ap, subst, arith, append_assoc}
use Rattle.std.proofs.lemmas.List.{drop-drop, take_all, length-drop}
use Rattle.iris_plain.specs.Checks.{is_directory_seen}
use Rattle.iris_plain.specs.Routes.{parent, last}
use Rattle.iris_plain.specs.Pages.{NoneLater, IsPage}
use Rattle.iris_plain.specs.declared.checks.Seen.{Seen}
use Rattle.iris_plain.specs.declared.checks.Seen.TheVariants.{ADirectory, AFile, Nothing, AFileBefore}
use Rattle.iris_plain.specs.Steps.{has_entry_named}
use Rattle.iris_rows.specs.declared.item.Item.{Item}
use Rattle.iris_table.specs.declared.rows.Stop.{Stop}
use Rattle.iris_table.specs.declared.rows.Stop.TheVariants.{Standing, Absent, Barred}
use Rattle.iris_rows.specs.Changes.{seen_row, seen_file}
use Rattle.iris_rows.specs.Places.{StoredPlaces}
use Rattle.iris_rows.specs.Items.{grown, kept_file, IsForest, IsForestTo, most_depth}
use Rattle.iris_rows.specs.Rows.{Rows, Taken, Found, Here, Missing, Through, find, with_row, at}
use Rattle.iris_rows.specs.View.{kind_below}
use Rattle.iris_table.specs.Stops.{stop, met_in, root_of, run_row, first_inside, is_name_of, room, IsRun, first_name}
use Rattle.iris_table.proofs.ForestChange.{IsChange}
use Rattle.iris_table.proofs.ChangeAtPath.{is_standing, reaches_into}
use Rattle.iris_table.proofs.MetRow.{found, met_stop}
use Rattle.iris_table.proofs.ForestDepths.{most_at, forest_from, forest_joined, forest_put}
use Rattle.iris_table.proofs.PageOfNames.{page_names, no_names, page_alike}
use Rattle.iris_table.proofs.RunsAmongItems.{put_in}

-- the rows of a directory begin here
pub record IsOpened (items : List Item) (names : List (List ℕ)) (from : ℕ) : Type 0 where
  pub id : ℕ
  pub inside : met_in items names ≡ Here (record { id = id; file = None; inside = grown (length names) (drop from items) })
  pub changes : (F : Rows → Rows) (new : List Item) → IsChange (length names) F (drop from items) new → IsChange 0 (at names F) items (take from items ++ new)
  pub most : most_at 0 from items ≡ length names

most_after : (m k : ℕ) (items : List Item) (i : Item) (others : List Item) → drop k items ≡ i ∷ others → most_at m (suc k) items ≡ most_depth i i.file
most_after m zero [] i others e = absurd (cc)
most_after m zero (x ∷ xs) i others e = let y : x ≡ i = cc in ap (λ z. most_depth z z.file) y
most_after m (suc k) [] i others e = absurd (cc)
most_after m (suc k) (x ∷ xs) i others e = most_after (most_depth x x.file) k xs i others e

after_first : (k : ℕ) (items : List Item) (i : Item) (others : List Item) → drop k items ≡ i ∷ others → drop (suc k) items ≡ others
after_first zero [] i others e = absurd (cc)
after_first zero (x ∷ xs) i others e = let y : xs ≡ others = cc in y
after_first (suc k) [] i others e = absurd (cc)
after_first (suc k) (x ∷ xs) i others e = after_first k xs i others e

front_more : (k : ℕ) (items : List Item) (i : Item) (others new : List Item) → drop k items ≡ i ∷ others → take k items ++ (i ∷ new) ≡ take (suc k) items ++ new
front_more zero [] i others new e = absurd (cc)
front_more zero (x ∷ xs) i others new e = let y : x ≡ i = cc in ap (λ z. z ∷ new) (sym y)
front_more (suc k) [] i others new e = absurd (cc)
front_more (suc k) (x ∷ xs) i others new e = ap (λ z. x ∷ z) (front_more k xs i others new e)

module _ (items : List Item) (n : List ℕ) (ns : List (List ℕ)) where
  standing : (k : ℕ) (i : Item) (others : List Item) (file : Option StoredPlaces) → stop 0 (n ∷ ns) items ≡ Standing k → drop k items ≡ i ∷ others → i.depth ≡ 0 + length ns → i.file ≡ file
      → is_directory_seen (seen_file (kept_file file)) ≡ true → IsOpened items (n ∷ ns) (suc k)
  standing k i others None s e d f h =
      let rest : drop (suc k) items ≡ others = after_first k items i others e in
      let deep : i.depth + 1 ≡ length (n ∷ ns) = omega arith in
      record {
        id = i.id.0;
        inside = met_stop items (n ∷ ns) (omega arith) ∙ ap (found items) s ∙ ap (λ z. Here (run_row z)) e ∙ ap (λ z. Here (record { id = i.id.0; file = kept_file z; inside = grown (i.depth + 1) others })) f
            ∙ ap (λ z. Here (record { id = i.id.0; file = None; inside = grown z others })) deep ∙ ap (λ z. Here (record { id = i.id.0; file = None; inside = grown (length (n ∷ ns)) z })) (sym rest);
        changes = λ F new c.
            let Q : ℕ → Type 0 = λ z. IsChange z F others new in
            let P : List Item → Type 0 = λ z. IsChange (length (n ∷ ns)) F z new in
            let R : List Item → Type 0 = λ z. IsChange 0 (at (n ∷ ns) F) items z in
            let c' : IsChange (length (n ∷ ns)) F others new = subst P rest c in
            let l : length (n ∷ ns) ≡ 0 + length ns + 1 = omega arith in
            subst R (front_more k items i others new e) (reaches_into 0 n ns F items new k i others s e (subst Q l c'));
        most = most_after 0 k items i others e ∙ ap (λ z. most_depth i z) f ∙ deep;
      }
  standing k i others (Some file) s e d f h = absurd (cc)

  by_stop : (s : Stop) → stop 0 (n ∷ ns) items ≡ s → is_directory_seen (seen_row (found items s)) ≡ true → IsOpened items (n ∷ ns) (first_inside (n ∷ ns) s)
  by_stop (Standing k) e h =
      let x = is_standing 0 n ns items k e in
      standing k x.item x.others x.item.file e x.is x.depth refl (let y : seen_row (found items (Standing k)) ≡ seen_file (kept_file x.item.file) = ap (λ z. seen_row (Here (run_row z))) x.is in sym (ap is_directory_seen y) ∙ h)
  by_stop Absent e h = absurd (cc)
  by_stop Barred e h = absurd (cc)

pub opened : (items : List Item) (names : List (List ℕ)) → is_directory_seen (seen_row (met_in items names)) ≡ true → IsOpened items names (first_inside names (stop 0 names items))
opened items [] h = record { id = 0; inside = refl; changes = λ F new c. c; most = refl }
opened items (n ∷ ns) h = by_stop items n ns (stop 0 (n ∷ ns) items) refl (ap (λ z. is_directory_seen (seen_row z)) (sym (met_stop items (n ∷ ns) (omega arith))) ∙ h)

-- what stands below what resolving met
abbrev beyond : Found → List ℕ → Option Taken
beyond (Here row) n = find n row.inside
beyond Missing n = None
beyond Through n = None

-- the directory above a path, and its last name
pub parent_is : (names : List (List ℕ)) → take (length names - 1) names ≡ parent names
parent_is [] = refl
parent_is (n ∷ []) = refl
parent_is (n ∷ m ∷ ns) = let e : length (n ∷ m ∷ ns) - 1 ≡ suc (length (m ∷ ns) - 1) = omega arith in ap (λ k. take k (n ∷ m ∷ ns)) e ∙ ap (λ z. n ∷ z) (parent_is (m ∷ ns))

pub last_is : (names : List (List ℕ)) (d : List ℕ) → 0 < length names → get_or names (length names - 1) d ≡ last names
last_is [] d h = absurd (omega arith)
last_is (n ∷ []) d h = refl
last_is (n ∷ m ∷ ns) d h = let e : length (n ∷ m ∷ ns) - 1 ≡ suc (length (m ∷ ns) - 1) = omega arith in ap (λ k. get_or (n ∷ m ∷ ns) k d) e ∙ last_is (m ∷ ns) d (omega arith)

pub parent_length : (names : List (List ℕ)) → length (parent names) ≡ length names - 1
parent_length [] = refl
parent_length (n ∷ []) = refl
parent_length (n ∷ m ∷ ns) = let e = parent_length (m ∷ ns) in omega (arith, e)

none_left : (b : ℕ) (xs : List Item) → length xs ≡ 0 → take b xs ≡ []
none_left zero [] h = refl
none_left (suc b) [] h = refl
none_left b (x ∷ xs) h = absurd (omega arith)

take_sum : (a b : ℕ) (xs : List Item) → take (a + b) xs ≡ take a xs ++ take b (drop a xs)
take_sum zero b xs = let e : zero + b ≡ b = omega arith in ap (λ k. take k xs) e
take_sum (suc a) b [] = none_left (suc a + b) [] refl ∙ sym (none_left b [] refl)
take_sum (suc a) b (x ∷ xs) = let e : suc a + b ≡ suc (a + b) = omega arith in ap (λ k. take k (x ∷ xs)) e ∙ ap (λ z. x ∷ z) (take_sum a b xs)

-- a run put into a directory
pub with_run : (d : ℕ) (n : List ℕ) (run xs : List Item) → IsRun d n run → IsChange d (with_row n (run_row run)) xs (take (room d n xs) xs ++ (run ++ drop (room d n xs) xs))
with_run d n [] xs r = absurd r
with_run d n (i ∷ rest) xs r = let Q : List ℕ → Type 0 = λ m. IsChange d (with_row m (run_row (i ∷ rest))) xs (take (room d m xs) xs ++ ((i ∷ rest) ++ drop (room d m xs) xs)) in subst Q r.1 (put_in d i rest r.0 r.2 xs)

pub forest_with_run : (d : ℕ) (n : List ℕ) (run xs : List Item) → IsRun d n run → IsForestTo d xs → IsForestTo d (take (room d n xs) xs ++ (run ++ drop (room d n xs) xs))
forest_with_run d n [] xs r f = absurd r
forest_with_run d n (i ∷ rest) xs r f = let Q : List ℕ → Type 0 = λ m. IsForestTo d (take (room d m xs) xs ++ ((i ∷ rest) ++ drop (room d m xs) xs)) in subst Q r.1 (forest_put d i rest r.0 r.2 r.3 d xs (omega arith) f)

-- a run put in at a path
module _ (items : List Item) (names : List (List ℕ)) (from at_place : ℕ) (run : List Item) (named : 0 < length names) (o : IsOpened items (parent names) from)
    (r : IsRun (length names - 1) (last names) run) (place : at_place ≡ from + room (length names - 1) (last names) (drop from items)) where
  split : take at_place items ++ (run ++ drop at_place items) ≡ take from items ++ (take (room (length names - 1) (last names) (drop from items)) (drop from items) ++ (run ++ drop (room (length names - 1) (last names) (drop from items)) (drop from items)))
  split = ap (λ k. take k items ++ (run ++ drop k items)) place ∙ ap (λ z. z ++ (run ++ drop (from + room (length names - 1) (last names) (drop from items)) items)) (take_sum from _ items)
      ∙ append_assoc (take from items) (take (room (length names - 1) (last names) (drop from items)) (drop from items)) (run ++ drop (from + room (length names - 1) (last names) (drop from items)) items)
      ∙ ap (λ z. take from items ++ (take (room (length names - 1) (last names) (drop from items)) (drop from items) ++ (run ++ z))) (ap (λ k. drop k items) (omega arith) ∙ sym (drop-drop (room (length names - 1) (last names) (drop from items)) from items))

  pub put_rows : grown 0 (take at_place items ++ (run ++ drop at_place items)) ≡ at (parent names) (with_row (last names) (run_row run)) (grown 0 items)
  put_rows =
      let c = with_run (length names - 1) (last names) run (drop from items) r in
      let Q : ℕ → Type 0 = λ d. IsChange d (with_row (last names) (run_row run)) (drop from items) (take (room (length names - 1) (last names) (drop from items)) (drop from items) ++ (run ++ drop (room (length names - 1) (last names) (drop from items)) (drop from items))) in
      ap (grown 0) split ∙ (o.changes (with_row (last names) (run_row run)) _ (subst Q (sym (parent_length names)) c)).rows

  pub put_forest : IsForest items → IsForest (take at_place items ++ (run ++ drop at_place items))
  put_forest f =
      let Q : List Item → Type 0 = λ z. IsForestTo 0 z in
      let P : ℕ → Type 0 = λ d. IsForestTo d (drop from items) in
      let R : ℕ → Type 0 = λ d. IsForestTo d (take (room (length names - 1) (last names) (drop from items)) (drop from items) ++ (run ++ drop (room (length names - 1) (last names) (drop from items)) (drop from items))) in
      let e : most_at 0 from items ≡ length names - 1 = o.most ∙ parent_length names in
      subst Q (sym split) (forest_joined 0 from items _ f (subst R (sym e) (forest_with_run (length names - 1) (last names) run (drop from items) r (subst P e (forest_from 0 from items f)))))

pub opened_at : (items : List Item) (names : List (List ℕ)) (from : ℕ) → is_directory_seen (seen_row (met_in items (parent names))) ≡ true → from ≡ first_inside (take (length names - 1) names) (stop 0 (take (length names - 1) names) items) → IsOpened items (parent names) from
opened_at items names from h e = let Q : ℕ → Type 0 = λ k. IsOpened items (parent names) k in subst Q (sym (e ∙ ap (λ z. first_inside z (stop 0 z items)) (parent_is names))) (opened items (parent names) h)

pub place_at : (items : List Item) (names : List (List ℕ)) (from r : ℕ) (n : List ℕ) → 0 < length names → n ≡ get_or names (length names - 1) n → r ≡ room (length names - 1) n (drop from items) → from + r ≡ from + room (length names - 1) (last names) (drop from items)
place_at items names from r n h e f = ap (λ z. from + z) (f ∙ ap (λ m. room (length names - 1) m (drop from items)) (e ∙ last_is names n h))

-- the place in the trash of a run
pub trash_place : (run trash : List Item) (i : Item) (r : ℕ) → IsRun 0 (first_name run) run → i ≡ get_or run 0 i → r ≡ room 0 i.name trash → r ≡ room 0 (first_name run) trash
trash_place [] trash i r h e f = absurd h
trash_place (x ∷ xs) trash i r h e f = f ∙ ap (λ z. room 0 z.name trash) e

-- a row by itself
pub leaf_run : (names : List (List ℕ)) (items : List Item) (i : Item) (n : List ℕ) → 0 < length names → items ≡ i ∷ [] → i.depth ≡ length names - 1 → i.name ≡ n → n ≡ get_or names (length names - 1) n → IsRun (length names - 1) (last names) items
leaf_run names items i n h e d f g = let Q : List Item → Type 0 = λ z. IsRun (length names - 1) (last names) z in subst Q (sym e) (d, f ∙ g ∙ last_is names n h, tt, (omega arith, tt))

-- a page of the directory at a path
pub page_is : (items : List Item) (names : List (List ℕ)) (after : List ℕ) (page : List (List ℕ)) (from : ℕ) → ADirectory ≡ seen_row (met_in items names) → from ≡ first_inside names (stop 0 names items)
    → IsPage (is_name_of (grown (length names) (drop from items))) 64 after page → IsPage (has_entry_named (λ q. kind_below q (root_of items)) names) 64 after page
page_is items names after page from h e p =
    let Q : ℕ → Type 0 = λ k. IsOpened items names k in
    let o : IsOpened items names from = subst Q (sym e) (opened items names (ap is_directory_seen (sym h))) in
    page_alike _ _ 64 after page (page_names names (root_of items) (record { id = o.id; file = None; inside = grown (length names) (drop from items) }) o.inside refl) p

pub page_rest : (items : List Item) (names : List (List ℕ)) (after : List ℕ) (page : List (List ℕ)) (from : ℕ) → ADirectory ≡ seen_row (met_in items names) → from ≡ first_inside names (stop 0 names items)
    → IsPage (is_name_of (grown (length names) (take (length items - from) (drop from items)))) 64 after page → IsPage (has_entry_named (λ q. kind_below q (root_of items)) names) 64 after page
page_rest items names after page from h e p = let Q : List Item → Type 0 = λ z. IsPage (is_name_of (grown (length names) z)) 64 after page in
    page_is items names after page from h e (subst Q (take_all (length items - from) (drop from items) (omega (arith, length-drop from items))) p)

no_dir : (s : Seen) → (s ≡ ADirectory → ⊥) → is_directory_seen s ≡ false
no_dir ADirectory h = absurd (h refl)
no_dir (AFile size) h = refl
no_dir Nothing h = refl
no_dir AFileBefore h = refl

pub page_none : (items : List Item) (names : List (List ℕ)) (after : List ℕ) (s : Seen) → s ≡ seen_row (met_in items names) → (s ≡ ADirectory → ⊥) → NoneLater (has_entry_named (λ q. kind_below q (root_of items)) names) after
page_none items names after s e h = no_names names (root_of items) after (ap is_directory_seen (sym e) ∙ no_dir s h)
