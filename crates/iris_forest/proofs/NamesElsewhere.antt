-- A name that is none of a directory's rows isn't found there.
use Rattle.std.proofs.Common.{◌≡◌, ℕ, List, false, cond, Option, Some, None, refl, ◌∙◌, ap}
use Rattle.std.specs.Prelude.{◌==◌}
use Rattle.std.proofs.lemmas.Bool.{or_parts}
use Rattle.iris_name.specs.Hmac.{priority}
use Rattle.iris_name.specs.declared.name.Name.{Name}
use Rattle.iris_name.specs.declared.name.Name.TheVariants.{Entry, Part, Block}
use Rattle.iris_node.specs.Unfolded.{Unfolded}
use Rattle.iris_shape.specs.Local.{either}
use Rattle.iris_shape.specs.Order.{beside}
use Rattle.iris_shape.specs.Treap.{Treap, Empty, Over, treap, Each, Every}
use Rattle.iris_shape.proofs.Treaps.{every_treap}
use Rattle.iris_treepaths.specs.Rows.{has_id, IsElsewhere}
use Rattle.iris_rows.specs.Rows.{File, Rows, End, Row}
use Rattle.iris_records.specs.Shown.{Own, own_id, entry_above, unfolded_entries, owns, directory, entry_in, in_directory}
use Rattle.iris_forest.specs.Places.{rows_of}
use Rattle.iris_forest.proofs.Ids.{turned}

none_over : (j : ℕ) (o : Own) (file : Option File) (l m : Unfolded) → (j == own_id o) ≡ false → entry_in j l ≡ None → entry_in j m ≡ None → entry_in j (entry_above o file l m) ≡ None
none_over j o None l m e a b = ap (λ z. cond z (Some (entry_above o None l m)) (either (entry_in j l) (entry_in j m))) e ∙ ap (λ z. either z (entry_in j m)) a ∙ b
none_over j o (Some f) l m e a b = ap (λ z. cond z (Some (entry_above o (Some f) l m)) (either (entry_in j l) (entry_in j m))) e ∙ ap (λ z. either z (entry_in j m)) a ∙ b

none_in : (j : ℕ) (t : Treap Own) → Every (λ o. (j == own_id o) ≡ false) t → entry_in j (unfolded_entries t) ≡ None
none_in j Empty e = refl
none_in j (Over o l m) e = none_over j o o.file (unfolded_entries l) (unfolded_entries m) e.0 (none_in j l e.1) (none_in j m e.2)

off_owns : (order : List ℕ) (j : ℕ) (rows : Rows) → has_id j (rows_of order rows) ≡ false → Each (λ o. (j == own_id o) ≡ false) (owns order rows)
off_owns order j End e = tt
off_owns order j (Row id name file inside next) e = let p = or_parts (id == j) (has_id j (rows_of order next)) e in (turned id j p.0, off_owns order j next p.1)

pub not_there : (order : List ℕ) (j : ℕ) (rows : Rows) → has_id j (rows_of order rows) ≡ false → entry_in j (directory order rows) ≡ None
unfolding directory
not_there order j rows e = none_in j (treap (beside (priority order) own_id) (owns order rows)) (every_treap (λ o. (j == own_id o) ≡ false) (beside (priority order) own_id) (owns order rows) (off_owns order j rows e))

pub elsewhere : (order : List ℕ) (n : Name) (rows others : Rows) → IsElsewhere (rows_of order rows) (rows_of order others) n → (in_directory n (directory order rows) ≡ None) × (in_directory n (directory order others) ≡ None)
elsewhere order (Entry j) rows others h = (not_there order j.0 rows h.0, not_there order j.0 others h.1)
elsewhere order (Part f l j) rows others h = (refl, refl)
elsewhere order (Block f p) rows others h = absurd h
