-- What resolving meets, by where it ends among items.
use Rattle.std.proofs.Common.{◌≡◌, inl, inr, ℕ, ◌+◌, ◌<◌, List, [], ◌∷◌, length, get_or, drop, MatchOption, Bor, Bool, true, false, cond, Option, Some, None, refl, sym, ◌∙◌, ap, arith}
use Rattle.std.proofs.lemmas.List.{drop_more}
use Rattle.std.specs.Prelude.{option_copied, ◌==◌}
use Rattle.std.specs.Str.{bytes_eq}
use Rattle.iris_rows.specs.declared.item.Item.{Item}
use Rattle.iris_table.specs.declared.rows.Stop.{Stop}
use Rattle.iris_table.specs.declared.rows.Stop.TheVariants.{Standing, Absent, Barred}
use Rattle.iris_rows.specs.Places.{StoredPlaces, file_of}
use Rattle.iris_rows.specs.Items.{grown, kept_file}
use Rattle.iris_rows.specs.Rows.{File, Rows, Found, Here, Missing, Through, find, resolved, followed, entered}
use Rattle.iris_table.specs.Stops.{stop, later, passed, run_row, met_in, file_met}
use Rattle.iris_rows.proofs.GrownRows.{lt_true, lt_false, compared, row_of, grown_higher, grown_deeper, grown_here}

-- what stands where resolving ends
abbrev pub found : List Item → Stop → Found
found items (Standing k) = Here (run_row (drop k items))
found items Absent = Missing
found items Barred = Through

found_later : (i : Item) (items : List Item) (s : Stop) → found (i ∷ items) (later s) ≡ found items s
found_later i items (Standing k) = refl
found_later i items Absent = refl
found_later i items Barred = refl

abbrev Meets : ℕ → List ℕ → List (List ℕ) → List Item → Type 0
Meets d n ns items = found items (stop d (n ∷ ns) items) ≡ followed (find n (grown d items)) (λ below. resolved ns below)

find_here : (n : List ℕ) (i : Item) (inside next : Rows) → find n (row_of i inside next) ≡ cond (bytes_eq n i.name) (Some (record { id = i.id.0; file = kept_file i.file; inside = inside })) (find n next)
unfolding row_of
find_here n i inside next = refl

onward : (n : List ℕ) (d : ℕ) (ns : List (List ℕ)) (i : Item) (items : List Item) (file : Option StoredPlaces) → ((m : List ℕ) (ms : List (List ℕ)) → Meets (d + 1) m ms items)
    → i.depth ≡ d → i.file ≡ file → found (i ∷ items) (passed ns file (later (stop (d + 1) ns items))) ≡ resolved ns (record { id = i.id.0; file = kept_file i.file; inside = grown (d + 1) items })
onward n d [] i items file go h e = ap (λ x. Here (record { id = i.id.0; file = kept_file i.file; inside = grown (x + 1) items })) h
onward n d (m ∷ ms) i items None go h e = found_later i items (stop (d + 1) (m ∷ ms) items) ∙ go m ms ∙ ap (λ f. entered (kept_file f) (followed (find m (grown (d + 1) items)) (λ below. resolved ms below))) (sym e)
onward n d (m ∷ ms) i items (Some f) go h e = ap (λ f. entered (kept_file f) (followed (find m (grown (d + 1) items)) (λ below. resolved ms below))) (sym e)

pub meets : (d : ℕ) (n : List ℕ) (ns : List (List ℕ)) (items : List Item) → Meets d n ns items
unfolding stop
meets d n ns [] = refl
meets d n ns (i ∷ items) = elim (compared i.depth d) [
  | inl l ↦ let x : stop d (n ∷ ns) (i ∷ items) ≡ Absent = rw (lt_true i.depth d l) refl in ap (found (i ∷ items)) x ∙ ap (λ z. followed (find n z) (λ below. resolved ns below)) (sym (grown_higher d i items l))
  | inr r ↦ elim r [
    | inl l ↦ let x : stop d (n ∷ ns) (i ∷ items) ≡ later (stop d (n ∷ ns) items) = rw (lt_false i.depth d (omega arith), lt_true d i.depth l) refl in
        ap (found (i ∷ items)) x ∙ found_later i items (stop d (n ∷ ns) items) ∙ meets d n ns items ∙ ap (λ z. followed (find n z) (λ below. resolved ns below)) (sym (grown_deeper d i items l))
    | inr s ↦ let x : stop d (n ∷ ns) (i ∷ items) ≡ cond (bytes_eq n i.name) (passed ns i.file (later (stop (d + 1) ns items))) (later (stop d (n ∷ ns) items)) = rw (lt_false i.depth d (omega arith), lt_false d i.depth (omega arith)) refl in
        ap (found (i ∷ items)) x ∙ by s (bytes_eq n i.name) (meets d n ns items) (λ m ms. meets (d + 1) m ms items)
        ∙ ap (λ z. followed z (λ below. resolved ns below)) (sym (find_here n i (grown (d + 1) items) (grown d items))) ∙ ap (λ z. followed (find n z) (λ below. resolved ns below)) (sym (grown_here d i items s))
  ]
] where
  by : i.depth ≡ d → (b : Bool) → Meets d n ns items → ((m : List ℕ) (ms : List (List ℕ)) → Meets (d + 1) m ms items)
      → found (i ∷ items) (cond b (passed ns i.file (later (stop (d + 1) ns items))) (later (stop d (n ∷ ns) items)))
      ≡ followed (cond b (Some (record { id = i.id.0; file = kept_file i.file; inside = grown (d + 1) items })) (find n (grown d items))) (λ below. resolved ns below)
  by s true p q = onward n d ns i items i.file q s refl
  by s false p q = found_later i items (stop d (n ∷ ns) items) ∙ p

-- what resolving a path below the root meets
pub met_stop : (items : List Item) (names : List (List ℕ)) → 0 < length names → met_in items names ≡ found items (stop 0 names items)
met_stop items [] h = absurd (omega arith)
met_stop items (n ∷ ns) h = sym (meets 0 n ns items)

-- the row of an item
pub row_at : (items : List Item) (k : ℕ) (i : Item) → i ≡ get_or items k i → k < length items → run_row (drop k items) ≡ record { id = i.id.0; file = kept_file i.file; inside = grown (i.depth + 1) (drop (k + 1) items) }
row_at items k i e h = ap run_row (drop_more items k i h ∙ ap (λ x. x ∷ drop (k + 1) items) (sym e))

pub met_standing : (items : List Item) (names : List (List ℕ)) (k : ℕ) (i : Item) → 0 < length names → Standing k ≡ stop 0 names items → i ≡ get_or items k i → k < length items
    → met_in items names ≡ Here (record { id = i.id.0; file = kept_file i.file; inside = grown (i.depth + 1) (drop (k + 1) items) })
met_standing items names k i h s e l = met_stop items names h ∙ ap (found items) (sym s) ∙ ap Here (row_at items k i e l)

pub met_absent : (items : List Item) (names : List (List ℕ)) → 0 < length names → Absent ≡ stop 0 names items → met_in items names ≡ Missing
met_absent items names h s = met_stop items names h ∙ ap (found items) (sym s)

pub met_barred : (items : List Item) (names : List (List ℕ)) → 0 < length names → Barred ≡ stop 0 names items → met_in items names ≡ Through
met_barred items names h s = met_stop items names h ∙ ap (found items) (sym s)

-- a file met, as it is lent
pub file_lent : (o : Option (Bor StoredPlaces)) (f : Option StoredPlaces) (m : Option File) → option_copied o ≡ f → m ≡ kept_file f → MatchOption o (m ≡ None) (λ file. m ≡ Some (file_of file.now))
file_lent None f m e h = h ∙ ap kept_file (sym e)
file_lent (Some x) f m e h = h ∙ ap kept_file (sym e)

not_met : (items : List Item) (s : Stop) → ((k : ℕ) → s ≡ Standing k → ⊥) → file_met (found items s) ≡ None
not_met items (Standing k) h = absurd (h k refl)
not_met items Absent h = refl
not_met items Barred h = refl

pub no_file_met : (items : List Item) (names : List (List ℕ)) (s : Stop) → 0 < length names → s ≡ stop 0 names items → ((k : ℕ) → s ≡ Standing k → ⊥) → file_met (met_in items names) ≡ None
no_file_met items names s h e x = ap file_met (met_stop items names h ∙ ap (found items) (sym e)) ∙ not_met items s x

-- a path below the root
pub some_names : (names : List (List ℕ)) → (length names == 0) ≡ false → 0 < length names
some_names [] e = absurd (cc)
some_names (n ∷ ns) e = omega arith
