-- A change of the row at a path is a change of the first items.
use Rattle.std.proofs.Common.{◌≡◌, ℕ, suc, ◌+◌, ◌<◌, List, [], ◌∷◌, ◌++◌, length, take, drop, Bool, true, false, cond, refl, sym, ◌∙◌, ap, subst, arith}
use Rattle.std.specs.Str.{bytes_eq}
use Rattle.iris_plain.specs.Routes.{parent, last}
use Rattle.iris_rows.specs.declared.item.Item.{Item}
use Rattle.iris_table.specs.declared.rows.Stop.TheVariants.{Standing}
use Rattle.iris_rows.specs.Items.{grown}
use Rattle.iris_rows.specs.Rows.{Rows, End, Row, at}
use Rattle.iris_table.specs.Stops.{stop}
use Rattle.iris_rows.proofs.GrownRows.{row_of}
use Rattle.iris_table.proofs.ForestChange.{IsChange, change_deeper, change_beside, change_inside, IsByName, by_at, at_standing, at_enters, at_passes}

-- the row at which resolving ends
pub record IsStanding (d : ℕ) (n : List ℕ) (ns : List (List ℕ)) (items : List Item) (k : ℕ) : Type 0 where
  pub item : Item
  pub others : List Item
  pub is : drop k items ≡ item ∷ others
  pub depth : item.depth ≡ d + length ns
  pub name : bytes_eq (last (n ∷ ns)) item.name ≡ true
  pub within : k < length items

onward : (d : ℕ) (n m : List ℕ) (ns : List (List ℕ)) (e : ℕ) (ms : List (List ℕ)) (i : Item) (items : List Item) (k : ℕ) → e + length ms ≡ d + length ns → last (m ∷ ms) ≡ last (n ∷ ns) → IsStanding e m ms items k → IsStanding d n ns (i ∷ items) (suc k)
onward d n m ns e ms i items k h l s = record { item = s.item; others = s.others; is = s.is; depth = s.depth ∙ h; name = ap (λ x. bytes_eq x s.item.name) (sym l) ∙ s.name; within = omega (arith, s.within) }

pub is_standing : (d : ℕ) (n : List ℕ) (ns : List (List ℕ)) (items : List Item) (k : ℕ) → stop d (n ∷ ns) items ≡ Standing k → IsStanding d n ns items k
is_standing = at_standing IsStanding
    (λ d n ns i items k h s. onward d n n ns d ns i items k refl refl s)
    (λ d n ns i items k h e s. onward d n n ns d ns i items k refl refl s)
    (λ d n i items h e. record { item = i; others = items; is = refl; depth = omega arith; name = e; within = omega arith })
    (λ d n m ms i items k h e f s. onward d n m (m ∷ ms) (d + 1) ms i items k (omega arith) refl s)

-- a change by the last name of a path, in the directory above it
module _ (F : List ℕ → Rows → Rows) (by : IsByName F) where
  abbrev pub along : List ℕ → List (List ℕ) → Rows → Rows
  along n ns = at (parent (n ∷ ns)) (F (last (n ∷ ns)))

  abbrev Reaches : ℕ → List ℕ → List (List ℕ) → List Item → ℕ → Type 0
  Reaches d n ns items k = (e : ℕ) (new : List Item) → e ≡ d + length ns → IsChange e (F (last (n ∷ ns))) (drop k items) new → IsChange d (along n ns) items (take k items ++ new)

  along_beside : (n : List ℕ) (ns : List (List ℕ)) (i : Item) (inside next : Rows) → bytes_eq n i.name ≡ false → along n ns (row_of i inside next) ≡ row_of i inside (along n ns next)
  along_beside n [] i inside next h = by.passes n i inside next h
  along_beside n (m ∷ ms) i inside next h = at_passes n (parent (m ∷ ms)) (F (last (m ∷ ms))) i inside next h

  pub reaches : (d : ℕ) (n : List ℕ) (ns : List (List ℕ)) (items : List Item) (k : ℕ) → stop d (n ∷ ns) items ≡ Standing k → Reaches d n ns items k
  reaches = at_standing Reaches
      (λ d n ns i items k h go e new x c. change_deeper d (along n ns) i items (take k items ++ new) h (go e new x c))
      (λ d n ns i items k h b go e new x c. change_beside d (along n ns) i items (take k items ++ new) h (along_beside n ns i _ _ b) (go e new x c))
      (λ d n i items h b e new x c. let Q : ℕ → Type 0 = λ y. IsChange y (F n) (i ∷ items) new in let z : e ≡ d = omega arith in subst Q z c)
      (λ d n m ms i items k h b f go e new x c. change_inside d (along n (m ∷ ms)) (along m ms) i items (take k items ++ new) h (at_enters n (parent (m ∷ ms)) (F (last (m ∷ ms))) i _ _ b) (go e new (omega arith) c))

-- a change inside the directory at a path
at_last : (n : List ℕ) (ns : List (List ℕ)) (f : Rows → Rows) (rows : Rows) → at (parent (n ∷ ns)) (at (last (n ∷ ns) ∷ []) f) rows ≡ at (n ∷ ns) f rows
at_last n [] f rows = refl
at_last n (m ∷ ms) f rows = at_same n (parent (m ∷ ms)) (m ∷ ms) (at (last (m ∷ ms) ∷ []) f) f (at_last m ms f) rows where
  at_same : (n : List ℕ) (p q : List (List ℕ)) (f g : Rows → Rows) → ((rows : Rows) → at p f rows ≡ at q g rows) → (rows : Rows) → at (n ∷ p) f rows ≡ at (n ∷ q) g rows
  at_same n p q f g h End = refl
  at_same n p q f g h (Row id name file inside next) = two (bytes_eq n name) (h inside) (at_same n p q f g h next) where
    two : (b : Bool) → at p f inside ≡ at q g inside → at (n ∷ p) f next ≡ at (n ∷ q) g next → cond b (Row id name file (at p f inside) next) (Row id name file inside (at (n ∷ p) f next)) ≡ cond b (Row id name file (at q g inside) next) (Row id name file inside (at (n ∷ q) g next))
    two true x y = ap (λ z. Row id name file z next) x
    two false x y = ap (λ z. Row id name file inside z) y

-- the rows are changed alike
pub change_alike : (d : ℕ) (f g : Rows → Rows) (old new : List Item) → ((rows : Rows) → f rows ≡ g rows) → IsChange d f old new → IsChange d g old new
change_alike d f g old new h c = record { rows = c.rows ∙ h (grown d old); others = c.others }

pub reaches_into : (d : ℕ) (n : List ℕ) (ns : List (List ℕ)) (f : Rows → Rows) (items new : List Item) (k : ℕ) (i : Item) (others : List Item) → stop d (n ∷ ns) items ≡ Standing k
    → drop k items ≡ i ∷ others → IsChange (d + length ns + 1) f others new → IsChange d (at (n ∷ ns) f) items (take k items ++ i ∷ new)
reaches_into d n ns f items new k i others h e c =
    let s = is_standing d n ns items k h in
    let same : s.item ∷ s.others ≡ i ∷ others = sym s.is ∙ e in
    let one : s.item ≡ i = cc in
    let depth : i.depth ≡ d + length ns = ap (λ x. x.depth) (sym one) ∙ s.depth in
    let name : bytes_eq (last (n ∷ ns)) i.name ≡ true = ap (λ x. bytes_eq (last (n ∷ ns)) x.name) (sym one) ∙ s.name in
    let inner : IsChange (d + length ns) (at (last (n ∷ ns) ∷ []) f) (i ∷ others) (i ∷ new) = change_inside (d + length ns) (at (last (n ∷ ns) ∷ []) f) f i others new depth (at_enters (last (n ∷ ns)) [] f i _ _ name) c in
    let Q : List Item → Type 0 = λ x. IsChange (d + length ns) (at (last (n ∷ ns) ∷ []) f) x (i ∷ new) in
    change_alike d _ _ items _ (at_last n ns f) (reaches (λ m. at (m ∷ []) f) (by_at f) d n ns items k h (d + length ns) (i ∷ new) refl (subst Q (sym e) inner))
