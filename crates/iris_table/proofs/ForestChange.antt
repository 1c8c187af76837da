-- What a change among items in preorder does to the forest that they make.
use Rattle.std.proofs.Common.{◌≡◌, ◌≢◌, inl, inr, ℕ, suc, ◌+◌, ◌<◌, List, [], ◌∷◌, Bool, true, false, cond, Option, Some, None, refl, sym, ◌∙◌, ap, subst, arith}
use Rattle.std.specs.Str.{bytes_eq}
use Rattle.iris_rows.specs.declared.item.Item.{Item}
use Rattle.iris_table.specs.declared.rows.Stop.{Stop}
use Rattle.iris_table.specs.declared.rows.Stop.TheVariants.{Standing, Absent, Barred}
use Rattle.iris_rows.specs.Places.{StoredPlaces}
use Rattle.iris_rows.specs.Items.{grown}
use Rattle.iris_rows.specs.Rows.{File, Rows, without_row, at, file_at}
use Rattle.iris_table.specs.Stops.{stop, later, passed}
use Rattle.iris_rows.proofs.GrownRows.{lt_true, lt_false, compared, row_of, grown_higher, grown_deeper, grown_here}

-- the rows at one depth are changed, and those at no other
pub record IsChange (d : ℕ) (change : Rows → Rows) (old new : List Item) : Type 0 where
  pub rows : grown d new ≡ change (grown d old)
  pub others : (e : ℕ) → e ≢ d → grown e new ≡ grown e old

-- after a deeper item
pub change_deeper : (d : ℕ) (change : Rows → Rows) (i : Item) (old new : List Item) → d < i.depth → IsChange d change old new → IsChange d change (i ∷ old) (i ∷ new)
change_deeper d change i old new h c = record {
  rows = grown_deeper d i new h ∙ c.rows ∙ ap change (sym (grown_deeper d i old h));
  others = λ e ne. elim (compared i.depth e) [
    | inl l ↦ grown_higher e i new l ∙ sym (grown_higher e i old l)
    | inr r ↦ elim r [
      | inl l ↦ grown_deeper e i new l ∙ c.others e ne ∙ sym (grown_deeper e i old l)
      | inr s ↦ grown_here e i new s ∙ ap (λ x. row_of i x (grown e new)) (c.others (e + 1) (omega arith)) ∙ ap (row_of i (grown (e + 1) old)) (c.others e ne) ∙ sym (grown_here e i old s)
    ]
  ];
}

-- other depths don't see what follows an item at this depth, but for lesser ones
others_here : (d e : ℕ) (i : Item) (old new : List Item) → i.depth ≡ d → e ≢ d → (e < d → grown e new ≡ grown e old) → grown e (i ∷ new) ≡ grown e (i ∷ old)
others_here d e i old new h ne f = elim (compared i.depth e) [
  | inl l ↦ grown_higher e i new l ∙ sym (grown_higher e i old l)
  | inr r ↦ elim r [
    | inl l ↦ grown_deeper e i new l ∙ f (omega arith) ∙ sym (grown_deeper e i old l)
    | inr s ↦ absurd (ne (omega arith))
  ]
]

-- after an item at the depth, which the change passes over
pub change_beside : (d : ℕ) (change : Rows → Rows) (i : Item) (old new : List Item) → i.depth ≡ d
    → change (row_of i (grown (d + 1) old) (grown d old)) ≡ row_of i (grown (d + 1) old) (change (grown d old))
    → IsChange d change old new → IsChange d change (i ∷ old) (i ∷ new)
change_beside d change i old new h p c = record {
  rows = grown_here d i new h ∙ ap (λ x. row_of i x (grown d new)) (c.others (d + 1) (omega arith)) ∙ ap (row_of i (grown (d + 1) old)) c.rows ∙ sym p ∙ ap change (sym (grown_here d i old h));
  others = λ e ne. others_here d e i old new h ne (λ l. c.others e ne);
}

-- inside an item
pub change_inside : (d : ℕ) (change deep : Rows → Rows) (i : Item) (old new : List Item) → i.depth ≡ d
    → change (row_of i (grown (d + 1) old) (grown d old)) ≡ row_of i (deep (grown (d + 1) old)) (grown d old)
    → IsChange (d + 1) deep old new → IsChange d change (i ∷ old) (i ∷ new)
change_inside d change deep i old new h p c = record {
  rows = grown_here d i new h ∙ ap (λ x. row_of i x (grown d new)) c.rows ∙ ap (row_of i (deep (grown (d + 1) old))) (c.others d (omega arith)) ∙ sym p ∙ ap change (sym (grown_here d i old h));
  others = λ e ne. others_here d e i old new h ne (λ l. c.others e (omega arith));
}

-- a change of the row of a name, which passes over rows of other names
pub record IsByName (change : List ℕ → Rows → Rows) : Type 0 where
  pub passes : (n : List ℕ) (i : Item) (inside next : Rows) → bytes_eq n i.name ≡ false → change n (row_of i inside next) ≡ row_of i inside (change n next)

pub by_without : IsByName without_row
unfolding row_of
by_without = record { passes = λ n i inside next e. rw e refl }

pub by_file_at : (f : File → File) → IsByName (λ n. file_at n f)
unfolding row_of
by_file_at f = record { passes = λ n i inside next e. rw e refl }

pub by_at : (f : Rows → Rows) → IsByName (λ n. at (n ∷ []) f)
unfolding row_of
by_at f = record { passes = λ n i inside next e. rw e refl }

pub at_passes : (n : List ℕ) (ns : List (List ℕ)) (f : Rows → Rows) (i : Item) (inside next : Rows) → bytes_eq n i.name ≡ false → at (n ∷ ns) f (row_of i inside next) ≡ row_of i inside (at (n ∷ ns) f next)
unfolding row_of
at_passes n ns f i inside next e = rw e refl

pub at_enters : (n : List ℕ) (ns : List (List ℕ)) (f : Rows → Rows) (i : Item) (inside next : Rows) → bytes_eq n i.name ≡ true → at (n ∷ ns) f (row_of i inside next) ≡ row_of i (at ns f inside) next
unfolding row_of
at_enters n ns f i inside next e = rw e refl

-- what holds of the first of items holds where resolving ends at a row, if it is kept item by item
module _ (P : ℕ → List ℕ → List (List ℕ) → List Item → ℕ → Type 0)
    (on_deeper : (d : ℕ) (n : List ℕ) (ns : List (List ℕ)) (i : Item) (items : List Item) (k : ℕ) → d < i.depth → P d n ns items k → P d n ns (i ∷ items) (suc k))
    (on_beside : (d : ℕ) (n : List ℕ) (ns : List (List ℕ)) (i : Item) (items : List Item) (k : ℕ) → i.depth ≡ d → bytes_eq n i.name ≡ false → P d n ns items k → P d n ns (i ∷ items) (suc k))
    (on_arrival : (d : ℕ) (n : List ℕ) (i : Item) (items : List Item) → i.depth ≡ d → bytes_eq n i.name ≡ true → P d n [] (i ∷ items) 0)
    (on_inside : (d : ℕ) (n m : List ℕ) (ms : List (List ℕ)) (i : Item) (items : List Item) (k : ℕ) → i.depth ≡ d → bytes_eq n i.name ≡ true → i.file ≡ None → P (d + 1) m ms items k → P d n (m ∷ ms) (i ∷ items) (suc k)) where
  by_later : (d : ℕ) (n : List ℕ) (ns : List (List ℕ)) (i : Item) (items : List Item) (k : ℕ) (s : Stop) → later s ≡ Standing k → ((j : ℕ) → s ≡ Standing j → P d n ns (i ∷ items) (suc j)) → P d n ns (i ∷ items) k
  by_later d n ns i items k (Standing j) e f = let Q : ℕ → Type 0 = λ x. P d n ns (i ∷ items) x in let h : suc j ≡ k = cc in subst Q h (f j refl)
  by_later d n ns i items k Absent e f = absurd (cc)
  by_later d n ns i items k Barred e f = absurd (cc)

  by_passed : (d : ℕ) (n : List ℕ) (ns : List (List ℕ)) (i : Item) (items : List Item) (k : ℕ) (file : Option StoredPlaces) → i.file ≡ file → i.depth ≡ d → bytes_eq n i.name ≡ true
      → ((m : List ℕ) (ms : List (List ℕ)) (j : ℕ) → stop (d + 1) (m ∷ ms) items ≡ Standing j → P (d + 1) m ms items j)
      → passed ns file (later (stop (d + 1) ns items)) ≡ Standing k → P d n ns (i ∷ items) k
  by_passed d n [] i items k file f h e go x = let Q : ℕ → Type 0 = λ y. P d n [] (i ∷ items) y in let z : 0 ≡ k = cc in subst Q z (on_arrival d n i items h e)
  by_passed d n (m ∷ ms) i items k None f h e go x = by_later d n (m ∷ ms) i items k _ x (λ j y. on_inside d n m ms i items j h e f (go m ms j y))
  by_passed d n (m ∷ ms) i items k (Some g) f h e go x = absurd (cc)

  by_name : (d : ℕ) (n : List ℕ) (ns : List (List ℕ)) (i : Item) (items : List Item) (k : ℕ) (b : Bool) → bytes_eq n i.name ≡ b → i.depth ≡ d
      → ((m : List ℕ) (ms : List (List ℕ)) (j : ℕ) → stop (d + 1) (m ∷ ms) items ≡ Standing j → P (d + 1) m ms items j)
      → ((j : ℕ) → stop d (n ∷ ns) items ≡ Standing j → P d n ns items j)
      → cond b (passed ns i.file (later (stop (d + 1) ns items))) (later (stop d (n ∷ ns) items)) ≡ Standing k → P d n ns (i ∷ items) k
  by_name d n ns i items k true e h inside on x = by_passed d n ns i items k i.file refl h e inside x
  by_name d n ns i items k false e h inside on x = by_later d n ns i items k _ x (λ j y. on_beside d n ns i items j h e (on j y))

  pub at_standing : (d : ℕ) (n : List ℕ) (ns : List (List ℕ)) (items : List Item) (k : ℕ) → stop d (n ∷ ns) items ≡ Standing k → P d n ns items k
  unfolding stop
  at_standing d n ns [] k e = absurd (cc)
  at_standing d n ns (i ∷ items) k e = elim (compared i.depth d) [
    | inl l ↦ absurd (let x : stop d (n ∷ ns) (i ∷ items) ≡ Absent = rw (lt_true i.depth d l) refl in cc)
    | inr r ↦ elim r [
      | inl l ↦ by_later d n ns i items k _ (let x : stop d (n ∷ ns) (i ∷ items) ≡ later (stop d (n ∷ ns) items) = rw (lt_false i.depth d (omega arith), lt_true d i.depth l) refl in sym x ∙ e) (λ j y. on_deeper d n ns i items j l (at_standing d n ns items j y))
      | inr s ↦ by_name d n ns i items k (bytes_eq n i.name) refl s (λ m ms j y. at_standing (d + 1) m ms items j y) (λ j y. at_standing d n ns items j y)
          (let x : stop d (n ∷ ns) (i ∷ items) ≡ cond (bytes_eq n i.name) (passed ns i.file (later (stop (d + 1) ns items))) (later (stop d (n ∷ ns) items)) = rw (lt_false i.depth d (omega arith), lt_false d i.depth (omega arith)) refl in sym x ∙ e)
    ]
  ]
