-- Where resolving ends, item by item.
use Rattle.std.proofs.Common.{◌≡◌, ℕ, ◌+◌, ◌<◌, ◌≤◌, List, [], ◌∷◌, length, get_or, drop, true, false, cond, Option, Some, None, refl, sym, ◌∙◌, ap, arith}
use Rattle.std.proofs.lemmas.List.{drop_more, drop_all}
use Rattle.std.specs.Prelude.{nat_lt, is_some}
use Rattle.std.specs.Str.{bytes_eq}
use Rattle.iris_rows.specs.declared.item.Item.{Item}
use Rattle.iris_table.specs.declared.rows.Stop.{Stop}
use Rattle.iris_table.specs.declared.rows.Stop.TheVariants.{Standing, Absent, Barred}
use Rattle.iris_rows.specs.Places.{StoredPlaces}
use Rattle.iris_table.specs.Stops.{stop, later, passed}
use Rattle.iris_rows.proofs.GrownRows.{lt_true, lt_false}

-- so many places further on
abbrev pub moved_on : ℕ → Stop → Stop
moved_on k (Standing j) = Standing (k + j)
moved_on k Absent = Absent
moved_on k Barred = Barred

pub moved_none : (s : Stop) → moved_on 0 s ≡ s
moved_none (Standing j) = ap Standing (omega arith)
moved_none Absent = refl
moved_none Barred = refl

pub moved_later : (k : ℕ) (s : Stop) → moved_on k (later s) ≡ moved_on (k + 1) s
moved_later k (Standing j) = ap Standing (omega arith)
moved_later k Absent = refl
moved_later k Barred = refl

at_file : (n : List ℕ) (ns : List (List ℕ)) (file : Option StoredPlaces) (s : Stop) → is_some file ≡ true → passed (n ∷ ns) file s ≡ Barred
at_file n ns None s e = absurd (cc)
at_file n ns (Some f) s e = refl

at_directory : (n : List ℕ) (ns : List (List ℕ)) (file : Option StoredPlaces) (s : Stop) → is_some file ≡ false → passed (n ∷ ns) file s ≡ s
at_directory n ns None s e = refl
at_directory n ns (Some f) s e = absurd (cc)

module _ (l k : ℕ) (names : List (List ℕ)) (items : List Item) (i : Item) (n : List ℕ)
    (at : i ≡ get_or items k i) (k_in : k < length items) (l_in : l < length names) where
  here : drop k items ≡ i ∷ drop (k + 1) items
  here = drop_more items k i k_in ∙ ap (λ x. x ∷ drop (k + 1) items) (sym at)

  step : (m : List ℕ) (ms : List (List ℕ)) → drop l names ≡ m ∷ ms → stop l (drop l names) (drop k items)
      ≡ cond (nat_lt i.depth l) Absent (cond (nat_lt l i.depth) (later (stop l (drop l names) (drop (k + 1) items))) (cond (bytes_eq m i.name) (passed ms i.file (later (stop (l + 1) ms (drop (k + 1) items)))) (later (stop l (drop l names) (drop (k + 1) items)))))
  unfolding stop
  step m ms e = rw (e, here) refl

  pub ends_higher : i.depth < l → moved_on k (stop l (drop l names) (drop k items)) ≡ Absent
  ends_higher h = let e : stop l (drop l names) (drop k items) ≡ Absent = step _ _ (drop_more names l n l_in) ∙ rw (lt_true i.depth l h) refl in ap (moved_on k) e

  pub passes : l < i.depth → moved_on k (stop l (drop l names) (drop k items)) ≡ moved_on (k + 1) (stop l (drop l names) (drop (k + 1) items))
  passes h = let e : stop l (drop l names) (drop k items) ≡ later (stop l (drop l names) (drop (k + 1) items)) = step _ _ (drop_more names l n l_in) ∙ rw (lt_false i.depth l (omega arith), lt_true l i.depth h) refl in ap (moved_on k) e ∙ moved_later k _

  head : n ≡ get_or names l n → drop l names ≡ n ∷ drop (l + 1) names
  head e = drop_more names l n l_in ∙ ap (λ x. x ∷ drop (l + 1) names) (sym e)

  pub differs : n ≡ get_or names l n → i.depth ≡ l → bytes_eq n i.name ≡ false → moved_on k (stop l (drop l names) (drop k items)) ≡ moved_on (k + 1) (stop l (drop l names) (drop (k + 1) items))
  differs e h f = let g : stop l (drop l names) (drop k items) ≡ later (stop l (drop l names) (drop (k + 1) items)) = step _ _ (head e) ∙ rw (lt_false i.depth l (omega arith), lt_false l i.depth (omega arith), f) refl in ap (moved_on k) g ∙ moved_later k _

  abbrev onward : Stop
  onward = later (stop (l + 1) (drop (l + 1) names) (drop (k + 1) items))

  enters : n ≡ get_or names l n → i.depth ≡ l → bytes_eq n i.name ≡ true → stop l (drop l names) (drop k items) ≡ passed (drop (l + 1) names) i.file onward
  enters e h f = step _ _ (head e) ∙ rw (lt_false i.depth l (omega arith), lt_false l i.depth (omega arith), f) refl

  pub arrives : n ≡ get_or names l n → i.depth ≡ l → bytes_eq n i.name ≡ true → length names ≤ l + 1 → moved_on k (stop l (drop l names) (drop k items)) ≡ Standing k
  arrives e h f x = ap (moved_on k) (enters e h f ∙ ap (λ ns. passed ns i.file onward) (drop_all (l + 1) names x)) ∙ ap Standing (omega arith)

  pub barred : n ≡ get_or names l n → i.depth ≡ l → bytes_eq n i.name ≡ true → l + 1 < length names → is_some i.file ≡ true → moved_on k (stop l (drop l names) (drop k items)) ≡ Barred
  barred e h f x g = ap (moved_on k) (enters e h f ∙ ap (λ ns. passed ns i.file onward) (drop_more names (l + 1) [] x) ∙ at_file (get_or names (l + 1) []) (drop (l + 1 + 1) names) i.file onward g)

  pub goes_in : n ≡ get_or names l n → i.depth ≡ l → bytes_eq n i.name ≡ true → l + 1 < length names → is_some i.file ≡ false → moved_on k (stop l (drop l names) (drop k items)) ≡ moved_on (k + 1) (stop (l + 1) (drop (l + 1) names) (drop (k + 1) items))
  goes_in e h f x g = ap (moved_on k) (enters e h f ∙ ap (λ ns. passed ns i.file onward) (drop_more names (l + 1) [] x) ∙ at_directory (get_or names (l + 1) []) (drop (l + 1 + 1) names) i.file onward g) ∙ moved_later k _

pub ends : (l k : ℕ) (names : List (List ℕ)) (items : List Item) → length items ≤ k → moved_on k (stop l names (drop k items)) ≡ Absent
unfolding stop
ends l k names items h = ap (λ x. moved_on k (stop l names x)) (drop_all k items h)
