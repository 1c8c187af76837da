-- What stands for nothing: a name whose number is given to none of the rows.
use Rattle.std.proofs.Common.{◌≡◌, ℕ, ◌+◌, ◌≤◌, ◌<◌, List, [], Bool, true, false, ◌&&◌, cond, Option, Some, None, refl, ◌∙◌, ap, arith}
use Rattle.std.specs.Prelude.{◌==◌, nat_le, nat_lt}
use Rattle.std.proofs.lemmas.Bool.Decides.{nat_tests}
use Rattle.iris_name.specs.declared.name.Name.{Name}
use Rattle.iris_name.specs.declared.name.Name.TheVariants.{Entry, Part, Block}
use Rattle.iris_node.specs.Unfolded.{Unfolded, Absent, Folder, id_of}
use Rattle.iris_shape.specs.Local.{either}
use Rattle.iris_rows.specs.Rows.{File, Rows, End, Row, Table}
use Rattle.iris_records.specs.Shown.{versions, block_of_place, part_in, directory, in_directory, in_file, inside_rows, root_entry, trash_entry, roots, shown}
use Rattle.iris_rows.specs.Sound.{times_given}
use Rattle.iris_table_laws.proofs.NamesByNumber.{number, many_rows}
use Rattle.iris_table_laws.proofs.NestedNodes.{nest, held_counts}
use Rattle.iris_table_laws.proofs.NodesInTrees.{directory_stands}
use Rattle.iris_forest.specs.Forest.{NextIsNew}
use Rattle.iris_forest.proofs.Ids.{other_id, either_first, either_both}

pub no_file : (n : Name) (id : ℕ) (f : File) → (number n == id) ≡ false → in_file n id f ≡ None
no_file (Entry i) id f e = refl
no_file (Part g l i) id f e = ap (λ z. either (cond z (part_in l i (versions id f)) None) None) e
no_file (Block g p) id f e = ap (λ z. either None (cond z (block_of_place p f) None)) e

pub no_entry : (order : List ℕ) (n : Name) (rows : Rows) → times_given (number n) rows ≤ 0 → in_directory n (directory order rows) ≡ None
no_entry order (Part f l i) rows z = refl
no_entry order (Block f p) rows z = refl
no_entry order (Entry j) rows z = by (in_directory (Entry j) (directory order rows)) refl where
  by : (o : Option Unfolded) → in_directory (Entry j) (directory order rows) ≡ o → o ≡ None
  by None e = refl
  by (Some w) e =
      let s = directory_stands (Entry j) (directory order rows) w e in
      let c = held_counts w (Entry j) s.0 (nest (directory order rows)) s.1 in
      let m = many_rows order (Entry j) rows in absurd (omega (arith, c, m, z))

pub inside_none : (order : List ℕ) (n : Name) (rows : Rows) → times_given (number n) rows ≤ 0 → inside_rows order n rows ≡ None
inside_none order n End z = refl
inside_none order n (Row id name None inside next) z =
    either_both (either (in_directory n (directory order inside)) (inside_rows order n inside)) (inside_rows order n next)
    (either_both (in_directory n (directory order inside)) (inside_rows order n inside) (no_entry order n inside (omega (arith, z))) (inside_none order n inside (omega (arith, z))))
    (inside_none order n next (omega (arith, z)))
inside_none order n (Row id name (Some f) inside next) z =
    either_both (in_file n id f) (inside_rows order n next) (no_file n id f (other_id (number n) id (omega (arith, z)))) (inside_none order n next (omega (arith, z)))

-- in a directory and inside its rows
pub below_none : (order : List ℕ) (n : Name) (rows : Rows) → times_given (number n) rows ≤ 0 → either (in_directory n (directory order rows)) (inside_rows order n rows) ≡ None
below_none order n rows z = either_both (in_directory n (directory order rows)) (inside_rows order n rows) (no_entry order n rows z) (inside_none order n rows z)

not_root : (n : Name) (id : ℕ) (inside : Unfolded) → id < 2 → 2 ≤ number n → in_directory n (Folder id [] Absent Absent inside) ≡ None
not_root (Entry j) id inside l h = ap (λ b. cond b (Some (Folder id [] Absent Absent inside)) None) (off j.0 id l h) where
  off : (a b : ℕ) → b < 2 → 2 ≤ a → (a == b) ≡ false
  off a b l h = grind (arith, nat_tests)
not_root (Part f l i) id inside a h = refl
not_root (Block f p) id inside a h = refl

-- a name that is none of a root's
pub shown_rows : (order : List ℕ) (t : Table) (n : Name) → 2 ≤ number n
    → shown order t n ≡ either (either (in_directory n (directory order t.visible)) (inside_rows order n t.visible)) (either (either (in_directory n (directory order t.trash)) (inside_rows order n t.trash)) (inside_rows order n t.hand))
unfolding shown
shown_rows order t n h =
    either_first (in_directory n (root_entry order t)) (either (in_directory n (trash_entry order t)) (inside_rows order n (roots t))) (not_root n 0 (directory order t.visible) (omega arith) h)
    ∙ either_first (in_directory n (trash_entry order t)) (inside_rows order n (roots t)) (not_root n 1 (directory order t.trash) (omega arith) h)

zero_next : (i a b : ℕ) → a + b ≤ cond (nat_le 2 i && nat_lt i i) 1 0 → a + b ≤ 0
zero_next i a b h = by (nat_le 2 i) (nat_lt i i) refl h where
  by : (x y : Bool) → nat_lt i i ≡ y → a + b ≤ cond (x && y) 1 0 → a + b ≤ 0
  by x true e h = absurd (let k : i < i = grind (arith, nat_tests) in omega (arith, k))
  by true false e h = h
  by false false e h = h

pub next_is_new : NextIsNew
next_is_new order t s =
    let z = zero_next t.next (times_given t.next t.visible) (times_given t.next t.trash) (s.once t.next) in
    let hand : times_given t.next t.hand ≡ 0 = ap (times_given t.next) s.hand in
    shown_rows order t (Entry (id_of t.next)) s.first
    ∙ either_both _ _ (below_none order (Entry (id_of t.next)) t.visible (omega (arith, z)))
    (either_both _ _ (below_none order (Entry (id_of t.next)) t.trash (omega (arith, z))) (inside_none order (Entry (id_of t.next)) t.hand (omega (arith, hand))))
