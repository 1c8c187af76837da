-- The fresh state saves the empty history of the file system: the two roots are dirty, and nothing else lives or lived.
use Rattle.std.proofs.Common.{◌≡◌, ℕ, ◌==◌, ◌||◌, List, [], Bool, true, false, cond, Option, Some, None, refl, sym, ◌∙◌, subst, IsSome, IsNone}
use Rattle.iris_mac.specs.declared.keys.Keys.{Keys}
use Rattle.iris_name.specs.declared.name.Name.{Name}
use Rattle.iris_name.specs.declared.name.Name.TheVariants.{Entry, Part, Block}
use Rattle.iris_history.specs.Kept.{shown_in}
use Rattle.iris_node.specs.Unfolded.{Unfolded, Absent}
use Rattle.iris_rows.specs.Rows.{End, empty_table}
use Rattle.iris_records.specs.Shown.{shown, directory, root_entry, trash_entry}
use Rattle.iris_file_rules.specs.FileTable.{files, is_root_name}
use Rattle.iris_invariant.specs.Saves as s
use Rattle.iris_invariant.specs.Saves.{Saved}
use Rattle.iris_history.proofs.Steady.{no_both}

empty_directory : (order : List ℕ) → directory order End ≡ Absent
unfolding directory
empty_directory order = refl

abbrev roots_in : List ℕ → Bool → Bool → Option Unfolded
roots_in order a b = cond a (Some (root_entry order empty_table)) (cond b (Some (trash_entry order empty_table)) None)

entry_shown : (order : List ℕ) (i : _) → shown order empty_table (Entry i) ≡ roots_in order (i.0 == 0) (i.0 == 1)
unfolding shown directory
entry_shown order i = by (i.0 == 0) (i.0 == 1) where
  by : (a b : Bool) → Rattle.iris_shape.specs.Local.either (cond a (Some (root_entry order empty_table)) None) (Rattle.iris_shape.specs.Local.either (cond b (Some (trash_entry order empty_table)) None) None) ≡ roots_in order a b
  by true b = refl
  by false true = refl
  by false false = refl

pub other_shown : (order : List ℕ) (n : Name) → is_root_name n ≡ false → shown order empty_table n ≡ None
unfolding shown directory
other_shown order (Part f l i) h = refl
other_shown order (Block f p) h = refl
other_shown order (Entry i) h = entry_shown order i ∙ by (i.0 == 0) (i.0 == 1) h where
  by : (a b : Bool) → (a || b) ≡ false → roots_in order a b ≡ None
  by true b h = absurd (cc)
  by false true h = absurd (cc)
  by false false h = refl

pub root_shown : (order : List ℕ) (n : Name) → is_root_name n ≡ true → IsSome (shown order empty_table n)
root_shown order (Part f l i) h = absurd (cc)
root_shown order (Block f p) h = absurd (cc)
root_shown order (Entry i) h = subst IsSome (sym (entry_shown order i)) (by (i.0 == 0) (i.0 == 1) h) where
  by : (a b : Bool) → (a || b) ≡ true → IsSome (roots_in order a b)
  by true b h = refl
  by false true h = refl
  by false false h = absurd (cc)

pub fresh_saved : (keys : Keys) (n : Name) → Saved (files keys) n [] (is_root_name n) false
fresh_saved keys n = by (is_root_name n) refl where
  by : (b : Bool) → is_root_name n ≡ b → Saved (files keys) n [] (is_root_name n) false
  by true e = s.Dirty e refl (root_shown keys.order n e) (λ c. c.stored)
  by false e = let g : IsNone (shown_in (files keys) [] n) = subst IsNone (sym (other_shown keys.order n e)) refl in s.Gone e refl g (λ d. no_both (files keys) n (shown_in (files keys) [] n) d.once g)
