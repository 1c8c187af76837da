-- The walk over a table's blocks is that over its files in preorder.
use Rattle.std.proofs.Common.{◌≡◌, inl, inr, ℕ, zero, suc, ◌+◌, ◌<◌, ◌≤◌, List, [], ◌∷◌, ◌++◌, cond, Option, Some, None, Contains, refl, sym, ◌∙◌, ap, subst, arith, append_assoc}
use Rattle.std.specs.Prelude.{nat_lt}
use Rattle.std.proofs.lemmas.List.{append-nil}
use Rattle.std.proofs.lemmas.List.Elements.{Contains-append_cases}
use Rattle.iris_name.specs.Hmac.{priority}
use Rattle.iris_node.specs.Unfolded.{Unfolded}
use Rattle.iris_node.specs.Walk.{BlockAt, walk, file_blocks}
use Rattle.iris_shape.specs.Order.{beside}
use Rattle.iris_shape.specs.Treap.{Treap, Empty, Over, treap, rows}
use Rattle.iris_shape.proofs.Treaps.{rows_treap}
use Rattle.iris_rows.specs.Standing.{Has, StandsInTable}
use Rattle.iris_records.specs.Challenges.{table_walk}
use Rattle.iris_rows.specs.declared.item.Item.{Item}
use Rattle.iris_rows.specs.Items.{grown, kept_file, most_depth, IsForestTo, IsForest, table_over}
use Rattle.iris_rows.specs.Places.{StoredPlaces}
use Rattle.iris_rows.specs.Rows.{File, Rows, End, Row}
use Rattle.iris_records.specs.Shown.{Own, own_id, entry_above, unfolded_entries, treap_of_entries, owns, directory}
use Rattle.iris_records.specs.Strides.{own_file, files_of, blocks_of_all}
use Rattle.iris_rows.proofs.GrownRows.{lt_true, lt_false, compared, row_of, grown_higher, grown_deeper, grown_here}

-- the blocks of an entry by itself: its own, or those inside it
abbrev own_walk : ℕ → Option File → Unfolded → List BlockAt
own_walk id None inside = walk inside
own_walk id (Some f) inside = file_blocks id f.size

abbrev owns_walk : List Own → List BlockAt
owns_walk [] = []
owns_walk (own ∷ others) = own_walk own.id own.file own.inside ++ owns_walk others

owns_joined : (a b : List Own) → owns_walk (a ++ b) ≡ owns_walk a ++ owns_walk b
owns_joined [] b = refl
owns_joined (own ∷ a) b = ap (λ z. own_walk own.id own.file own.inside ++ z) (owns_joined a b) ∙ sym (append_assoc (own_walk own.id own.file own.inside) (owns_walk a) (owns_walk b))

entry_walk : (own : Own) (file : Option File) (less more : Unfolded) → walk (entry_above own file less more) ≡ walk less ++ (own_walk own.id file own.inside ++ walk more)
entry_walk own None less more = refl
entry_walk own (Some f) less more = refl

-- a treap is walked over in the order of its rows
entries_walk : (t : Treap Own) → walk (unfolded_entries t) ≡ owns_walk (rows t)
entries_walk Empty = refl
entries_walk (Over own less more) =
    entry_walk own own.file (unfolded_entries less) (unfolded_entries more)
    ∙ ap (λ z. z ++ (own_walk own.id own.file own.inside ++ walk (unfolded_entries more))) (entries_walk less)
    ∙ ap (λ z. owns_walk (rows less) ++ (own_walk own.id own.file own.inside ++ z)) (entries_walk more)
    ∙ sym (owns_joined (rows less) (own ∷ rows more))

arranged_walk : (order : List ℕ) (xs : List Own) → walk (treap_of_entries order xs) ≡ owns_walk xs
arranged_walk order xs = entries_walk (treap (beside (priority order) own_id) xs) ∙ ap owns_walk (rows_treap (beside (priority order) own_id) xs)

-- the files among rows in preorder
abbrev files_in : Rows → List (ℕ × File)
files_in End = []
files_in (Row id name None inside next) = files_in inside ++ files_in next
files_in (Row id name (Some f) inside next) = (id, f) ∷ files_in next

pub blocks_joined : (a b : List (ℕ × File)) → blocks_of_all (a ++ b) ≡ blocks_of_all a ++ blocks_of_all b
blocks_joined [] b = refl
blocks_joined (x ∷ a) b = ap (λ z. file_blocks x.0 x.1.size ++ z) (blocks_joined a b) ∙ sym (append_assoc (file_blocks x.0 x.1.size) (blocks_of_all a) (blocks_of_all b))

rows_walk : (order : List ℕ) (rs : Rows) → owns_walk (owns order rs) ≡ blocks_of_all (files_in rs)
rows_walk order End = refl
rows_walk order (Row id name None inside next) =
    ap (λ z. z ++ owns_walk (owns order next)) (arranged_walk order (owns order inside) ∙ rows_walk order inside)
    ∙ ap (λ z. blocks_of_all (files_in inside) ++ z) (rows_walk order next)
    ∙ sym (blocks_joined (files_in inside) (files_in next))
rows_walk order (Row id name (Some f) inside next) = ap (λ z. file_blocks id f.size ++ z) (rows_walk order next)

-- the files of items from the first on up to an item that lies higher
abbrev files_to : ℕ → List Item → List (ℕ × File)
files_to d [] = []
files_to d (item ∷ items) = cond (nat_lt item.depth d) [] (own_file item.id.0 (kept_file item.file) ++ files_to d items)

files_higher : (d : ℕ) (i : Item) (items : List Item) → i.depth < d → files_to d (i ∷ items) ≡ []
files_higher d i items h = rw (lt_true i.depth d h) refl

files_lower : (d : ℕ) (i : Item) (items : List Item) → d ≤ i.depth → files_to d (i ∷ items) ≡ own_file i.id.0 (kept_file i.file) ++ files_to d items
files_lower d i items h = rw (lt_false i.depth d h) refl

files_none : (d m : ℕ) (items : List Item) → m < d → IsForestTo m items → files_to d items ≡ []
files_none d m [] h f = refl
files_none d m (i ∷ items) h f = files_higher d i items (omega (arith, h, f.0))

-- what lies inside the first rows, and the files of the rows after them
files_grown : (d m : ℕ) (items : List Item) → IsForestTo m items → files_to (d + 1) items ++ files_in (grown d items) ≡ files_to d items
unfolding row_of
files_grown d m [] f = refl
files_grown d m (i ∷ items) f = elim (compared i.depth d) [
  | inl l ↦ ap (λ z. z ++ files_in (grown d (i ∷ items))) (files_higher (d + 1) i items (omega arith)) ∙ ap files_in (grown_higher d i items l) ∙ sym (files_higher d i items l)
  | inr r ↦ elim r [
    | inl l ↦ ap (λ z. z ++ files_in (grown d (i ∷ items))) (files_lower (d + 1) i items (omega arith))
        ∙ ap (λ z. (own_file i.id.0 (kept_file i.file) ++ files_to (d + 1) items) ++ files_in z) (grown_deeper d i items l)
        ∙ append_assoc (own_file i.id.0 (kept_file i.file)) (files_to (d + 1) items) (files_in (grown d items))
        ∙ ap (λ z. own_file i.id.0 (kept_file i.file) ++ z) (files_grown d (most_depth i i.file) items f.1)
        ∙ sym (files_lower d i items (omega arith))
    | inr e ↦ ap (λ z. z ++ files_in (grown d (i ∷ items))) (files_higher (d + 1) i items (omega arith))
        ∙ ap files_in (grown_here d i items e)
        ∙ here i.file e f.1 (files_grown (d + 1) (most_depth i i.file) items f.1) (files_grown d (most_depth i i.file) items f.1)
        ∙ sym (files_lower d i items (omega arith))
  ]
] where
  here : (k : Option StoredPlaces) → i.depth ≡ d → IsForestTo (most_depth i k) items → files_to (d + 1 + 1) items ++ files_in (grown (d + 1) items) ≡ files_to (d + 1) items
      → files_to (d + 1) items ++ files_in (grown d items) ≡ files_to d items
      → files_in (row_of (record { depth = i.depth; id = i.id; name = i.name; file = k }) (grown (d + 1) items) (grown d items)) ≡ own_file i.id.0 (kept_file k) ++ files_to d items
  here None e g one two =
      ap (λ z. z ++ files_in (grown d items)) (sym (ap (λ z. z ++ files_in (grown (d + 1) items)) (files_none (d + 1 + 1) (i.depth + 1) items (omega arith) g)) ∙ one) ∙ two
  here (Some k) e g one two = ap (λ z. own_file i.id.0 (kept_file (Some k)) ++ z) (sym (ap (λ z. z ++ files_in (grown d items)) (files_none (d + 1) i.depth items (omega arith) g)) ∙ two)

-- all files among items from the first at depth 0 on
files_all : (items : List Item) → files_to 0 items ≡ files_of items
files_all [] = refl
files_all (i ∷ items) = files_lower 0 i items (omega arith) ∙ ap (λ z. own_file i.id.0 (kept_file i.file) ++ z) (files_all items)

files_forest : (items : List Item) → IsForest items → files_in (grown 0 items) ≡ files_of items
files_forest items f = sym (ap (λ z. z ++ files_in (grown 0 items)) (files_none (0 + 1) 0 items (omega arith) f)) ∙ files_grown 0 0 items f ∙ files_all items

-- a file among rows stands there
has_file : (rs : Rows) (i : ℕ) (f : File) → Contains (files_in rs) (i, f) → Has i f rs
has_file End i f c = absurd (let h = c.1 in omega (arith, h))
has_file (Row id name None inside next) i f c = elim (Contains-append_cases (files_in inside) (files_in next) (i, f) c) [
  | inl h ↦ inr (inl (has_file inside i f h))
  | inr h ↦ inr (inr (has_file next i f h))
]
has_file (Row id name (Some g) inside next) i f (zero, within, is) = inl (sym (ap (λ z. z.0) is), ap (λ z. Some z.1) is)
has_file (Row id name (Some g) inside next) i f (suc k, within, is) = inr (inr (has_file next i f (k, omega (arith, within), is)))

-- the walk over a table of items
pub walk_is : (order : List ℕ) (visible trash : List Item) (next age : ℕ) → IsForest visible → IsForest trash
    → table_walk order (table_over visible trash next age) ≡ blocks_of_all (files_of visible ++ files_of trash)
unfolding table_walk directory
walk_is order visible trash next age f g = ap (λ z. z ++ ([] ++ (walk (directory order (grown 0 trash)) ++ []))) (one visible f) ∙ ap (λ z. blocks_of_all (files_of visible) ++ z) (one trash g) ∙ sym (blocks_joined (files_of visible) (files_of trash)) where
  one : (items : List Item) → IsForest items → [] ++ (walk (directory order (grown 0 items)) ++ []) ≡ blocks_of_all (files_of items)
  one items h = append-nil (walk (treap_of_entries order (owns order (grown 0 items)))) ∙ arranged_walk order (owns order (grown 0 items)) ∙ rows_walk order (grown 0 items) ∙ ap blocks_of_all (files_forest items h)

-- a file that is walked over stands in the table
pub file_stands : (visible trash : List Item) (next age : ℕ) (i : ℕ) (f : File) → IsForest visible → IsForest trash
    → Contains (files_of visible ++ files_of trash) (i, f) → StandsInTable i f (table_over visible trash next age)
file_stands visible trash next age i f a b c = elim (Contains-append_cases (files_of visible) (files_of trash) (i, f) c) [
  | inl h ↦ inl (has_file (grown 0 visible) i f (subst (λ z. Contains z (i, f)) (sym (files_forest visible a)) h))
  | inr h ↦ inr (has_file (grown 0 trash) i f (subst (λ z. Contains z (i, f)) (sym (files_forest trash b)) h))
]
