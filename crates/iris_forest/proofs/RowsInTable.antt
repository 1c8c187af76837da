-- Each row of a table stands as an entry in what the table shows.
use Rattle.std.proofs.Common.{◌≡◌, ◌⊎◌, inl, inr, ℕ, ◌≤◌, List, ◌∷◌, Option, Some, None, refl, sym, ◌∙◌, ap, subst, arith}
use Rattle.iris_name.specs.Hmac.{priority}
use Rattle.iris_name.specs.declared.name.Name.{Name}
use Rattle.iris_name.specs.declared.name.Name.TheVariants.{Entry}
use Rattle.iris_node.specs.Unfolded.{Unfolded, id_of}
use Rattle.iris_shape.specs.Order.{beside}
use Rattle.iris_shape.specs.Treap.{Treap, Empty, Over, treap}
use Rattle.iris_rows.specs.Rows.{File, Rows, End, Row, Table}
use Rattle.iris_records.specs.Shown.{Own, own_id, entry_above, unfolded_entries, treap_of_entries, owns, directory, shown}
use Rattle.iris_rows.specs.Sound.{IsSound, times_given}
use Rattle.iris_table_laws.proofs.NamesByNumber.{inside_own}
use Rattle.iris_table_laws.proofs.NestedNodes.{Nest, Holds, nest, inner}
use Rattle.iris_table_laws.proofs.TreapRows.{Some_row, Some_in, in_treap}
use Rattle.iris_table_laws.proofs.SameTables.{all_stand}
use Rattle.iris_forest.specs.Places.{DirectoryIn, FileIn}
use Rattle.iris_forest.proofs.Ids.{one_of}
use Rattle.iris_table_laws.proofs.NodesInTrees.{held_arranged}

-- a directory counts among rows
pub directory_times : (i : ℕ) (inner rows : Rows) → DirectoryIn i inner rows → 1 ≤ times_given i rows
directory_times i inner End h = absurd h
directory_times i inner (Row id name None inside next) h = elim h [
  | inl a ↦ (let o = one_of i id a.0 in omega (arith, o))
  | inr r ↦ elim r [
    | inl a ↦ (let o = directory_times i inner inside a in omega (arith, o))
    | inr a ↦ (let o = directory_times i inner next a in omega (arith, o))
  ]
]
directory_times i inner (Row id name (Some f) inside next) h = let o = directory_times i inner next h in omega (arith, o)

-- where an id stands once it is one directory's
pub one_directory : (i : ℕ) (a b rows : Rows) → times_given i rows ≤ 1 → DirectoryIn i a rows → DirectoryIn i b rows → a ≡ b
one_directory i a b End o h g = absurd h
one_directory i a b (Row id name None inside next) o h g = elim h [
  | inl x ↦ elim g [
    | inl y ↦ x.1 ∙ sym y.1
    | inr r ↦ (let p = one_of i id x.0 in elim r [
      | inl y ↦ (let q = directory_times i b inside y in absurd (omega (arith, o, p, q)))
      | inr y ↦ (let q = directory_times i b next y in absurd (omega (arith, o, p, q)))
    ])
  ]
  | inr r ↦ elim r [
    | inl x ↦ (let p = directory_times i a inside x in elim g [
      | inl y ↦ (let q = one_of i id y.0 in absurd (omega (arith, o, p, q)))
      | inr s ↦ elim s [ inl y ↦ one_directory i a b inside (omega (arith, o)) x y | inr y ↦ (let q = directory_times i b next y in absurd (omega (arith, o, p, q))) ]
    ])
    | inr x ↦ (let p = directory_times i a next x in elim g [
      | inl y ↦ (let q = one_of i id y.0 in absurd (omega (arith, o, p, q)))
      | inr s ↦ elim s [ inl y ↦ (let q = directory_times i b inside y in absurd (omega (arith, o, p, q))) | inr y ↦ one_directory i a b next (omega (arith, o)) x y ]
    ])
  ]
]
one_directory i a b (Row id name (Some f) inside next) o h g = one_directory i a b next (omega (arith, o)) h g

-- a row of a directory as an entry by itself
abbrev pub dir_own : List ℕ → ℕ → List ℕ → Rows → Own
dir_own order id name inside = record { id = id; name = name; file = None; inside = treap_of_entries order (owns order inside) }

abbrev pub file_own : List ℕ → ℕ → List ℕ → File → Rows → Own
file_own order id name f inside = record { id = id; name = name; file = Some f; inside = treap_of_entries order (owns order inside) }

-- an entry by itself stands among rows
abbrev pub OwnIn : List ℕ → Own → Rows → Type 0
OwnIn order o End = ⊥
OwnIn order o (Row id name None inside next) = (dir_own order id name inside ≡ o) ⊎ (OwnIn order o inside ⊎ OwnIn order o next)
OwnIn order o (Row id name (Some f) inside next) = (file_own order id name f inside ≡ o) ⊎ OwnIn order o next

pub folder_own : (order : List ℕ) (i : ℕ) (inner rows : Rows) → DirectoryIn i inner rows → (name : List ℕ) × OwnIn order (dir_own order i name inner) rows
folder_own order i inner End h = absurd h
folder_own order i inner (Row id name None inside next) h = elim h [
  | inl a ↦ (name, inl (ap (λ z. dir_own order z name inside) (sym a.0) ∙ ap (dir_own order i name) (sym a.1)))
  | inr r ↦ elim r [
    | inl a ↦ (let q = folder_own order i inner inside a in (q.0, inr (inl q.1)))
    | inr a ↦ (let q = folder_own order i inner next a in (q.0, inr (inr q.1)))
  ]
]
folder_own order i inner (Row id name (Some f) inside next) h = let q = folder_own order i inner next h in (q.0, inr q.1)

pub record FileOwn (order : List ℕ) (i : ℕ) (f : File) (rows : Rows) : Type 0 where
  pub name : List ℕ
  pub beside : Rows
  pub within : OwnIn order (file_own order i name f beside) rows

pub file_owned : (order : List ℕ) (i : ℕ) (f : File) (rows : Rows) → FileIn i f rows → FileOwn order i f rows
file_owned order i f End h = absurd h
file_owned order i f (Row id name None inside next) h = elim h [
  | inl a ↦ (let q = file_owned order i f inside a in record { name = q.name; beside = q.beside; within = inr (inl q.within) })
  | inr a ↦ (let q = file_owned order i f next a in record { name = q.name; beside = q.beside; within = inr (inr q.within) })
]
file_owned order i f (Row id name (Some g) inside next) h = elim h [
  | inl a ↦ record { name = name; beside = inside; within = inl (ap (λ z. file_own order z name g inside) (sym a.0) ∙ ap (λ z. file_own order i name z inside) (sym a.1)) }
  | inr a ↦ (let q = file_owned order i f next a in record { name = q.name; beside = q.beside; within = inr q.within })
]

-- an entry stands in a nest, above some others
pub record Seat (o : Own) (x : Nest) : Type 0 where
  pub less : Unfolded
  pub more : Unfolded
  pub kids : Nest
  pub held : Holds (entry_above o o.file less more) (Entry (id_of o.id)) kids x

top_held : (o : Own) (file : Option File) (a b : Unfolded) → Holds (entry_above o file a b) (Entry (id_of o.id)) (inner (entry_above o file a b)) (nest (entry_above o file a b))
top_held o None a b = inl (refl, refl, refl)
top_held o (Some f) a b = inl (refl, refl, refl)

into_less : (w : Unfolded) (n : Name) (k : Nest) (o : Own) (file : Option File) (a b : Unfolded) → Holds w n k (nest a) → Holds w n k (nest (entry_above o file a b))
into_less w n k o None a b h = inr (inl h)
into_less w n k o (Some f) a b h = inr (inl h)

into_more : (w : Unfolded) (n : Name) (k : Nest) (o : Own) (file : Option File) (a b : Unfolded) → Holds w n k (nest b) → Holds w n k (nest (entry_above o file a b))
into_more w n k o None a b h = inr (inr (inl h))
into_more w n k o (Some f) a b h = inr (inr (inl h))

in_entries : (o : Own) (t : Treap Own) → Some_in (λ q. q ≡ o) t → Seat o (nest (unfolded_entries t))
in_entries o Empty h = absurd h
in_entries o (Over q l m) h = elim h [
  | inl e ↦ subst (λ z. Seat o (nest (entry_above z z.file (unfolded_entries l) (unfolded_entries m)))) (sym e)
      (record { less = unfolded_entries l; more = unfolded_entries m; kids = inner (entry_above o o.file (unfolded_entries l) (unfolded_entries m)); held = top_held o o.file (unfolded_entries l) (unfolded_entries m) })
  | inr r ↦ elim r [
    | inl a ↦ (let s = in_entries o l a in record { less = s.less; more = s.more; kids = s.kids; held = into_less (entry_above o o.file s.less s.more) (Entry (id_of o.id)) s.kids q q.file (unfolded_entries l) (unfolded_entries m) s.held })
    | inr a ↦ (let s = in_entries o m a in record { less = s.less; more = s.more; kids = s.kids; held = into_more (entry_above o o.file s.less s.more) (Entry (id_of o.id)) s.kids q q.file (unfolded_entries l) (unfolded_entries m) s.held })
  ]
]

-- so it does inside one of some entries
record Inside (o : Own) (os : List Own) : Type 0 where
  pub less : Unfolded
  pub more : Unfolded
  pub kids : Nest
  pub held : Some_row (λ q. Holds (entry_above o o.file less more) (Entry (id_of o.id)) kids (inside_own q)) os

-- it is one of some entries, or stands inside one
abbrev Among : Own → List Own → Type 0
Among o os = Some_row (λ q. q ≡ o) os ⊎ Inside o os

seated : (order : List ℕ) (o : Own) (os : List Own) → Among o os → Seat o (nest (treap_of_entries order os))
seated order o os h = elim h [
  | inl a ↦ in_entries o (treap (beside (priority order) own_id) os) (in_treap (λ q. q ≡ o) (beside (priority order) own_id) os a)
  | inr a ↦ record { less = a.less; more = a.more; kids = a.kids; held = held_arranged order (entry_above o o.file a.less a.more) (Entry (id_of o.id)) a.kids os a.held }
]

later : (o p : Own) (os : List Own) → Among o os → Among o (p ∷ os)
later o p os h = elim h [ inl a ↦ inl (inr a) | inr a ↦ inr (record { less = a.less; more = a.more; kids = a.kids; held = inr a.held }) ]

among : (order : List ℕ) (o : Own) (rows : Rows) → OwnIn order o rows → Among o (owns order rows)
among order o End h = absurd h
among order o (Row id name None inside next) h = elim h [
  | inl a ↦ inl (inl a)
  | inr r ↦ elim r [
    | inl a ↦ (let s = seated order o (owns order inside) (among order o inside a) in inr (record { less = s.less; more = s.more; kids = s.kids; held = inl s.held }))
    | inr a ↦ later o (dir_own order id name inside) (owns order next) (among order o next a)
  ]
]
among order o (Row id name (Some f) inside next) h = elim h [
  | inl a ↦ inl (inl a)
  | inr a ↦ later o (file_own order id name f inside) (owns order next) (among order o next a)
]

pub own_seat : (order : List ℕ) (o : Own) (rows : Rows) → OwnIn order o rows → Seat o (nest (directory order rows))
unfolding directory
own_seat order o rows h = seated order o (owns order rows) (among order o rows h)

-- what the name of a row stands for in a sound table
pub record Standing (order : List ℕ) (t : Table) (o : Own) : Type 0 where
  pub less : Unfolded
  pub more : Unfolded
  pub shown_is : shown order t (Entry (id_of o.id)) ≡ Some (entry_above o o.file less more)

pub own_shown : (order : List ℕ) (t : Table) (o : Own) → IsSound t → OwnIn order o t.visible ⊎ OwnIn order o t.trash → Standing order t o
own_shown order t o s h = elim h [
  | inl a ↦ (let q = own_seat order o t.visible a in
      record { less = q.less; more = q.more; shown_is = all_stand order t s (entry_above o o.file q.less q.more) (Entry (id_of o.id)) q.kids (inl (inr (inr (inr q.held)))) })
  | inr a ↦ (let q = own_seat order o t.trash a in
      record { less = q.less; more = q.more; shown_is = all_stand order t s (entry_above o o.file q.less q.more) (Entry (id_of o.id)) q.kids (inr (inr (inr (inr q.held)))) })
]
