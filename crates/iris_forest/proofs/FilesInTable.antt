-- What the parts and the blocks of a file stand for in a table.
use Rattle.std.proofs.Common.{◌≡◌, inl, inr, ℕ, ◌+◌, ◌≤◌, List, false, cond, Some, None, refl, sym, ◌∙◌, ap, subst, arith}
use Rattle.std.specs.Prelude.{◌==◌}
use Rattle.std.proofs.lemmas.Bool.{eq-eqb}
use Rattle.iris_name.specs.declared.name.Name.{Name}
use Rattle.iris_name.specs.declared.name.Name.TheVariants.{Entry, Part, Block}
use Rattle.iris_node.specs.Unfolded.{Unfolded, id_of}
use Rattle.iris_shape.specs.Local.{either}
use Rattle.iris_rows.specs.Rows.{File, Rows, End, Row, Table}
use Rattle.iris_records.specs.Shown.{part_in, versions, block_of_place, directory, in_directory, in_file, inside_rows, shown}
use Rattle.iris_rows.specs.Sound.{IsSound, times_given}
use Rattle.iris_table_laws.proofs.NamesByNumber.{number}
use Rattle.iris_forest.specs.Places.{FileIn, IsTableFile}
use Rattle.iris_forest.proofs.Ids.{one_of, other_id, at_most, either_both}
use Rattle.iris_forest.proofs.NamesNowhere.{no_file, inside_none}
use Rattle.iris_records.proofs.PartRecords.{either_none}

-- a name of a part or a block
abbrev pub IsBeyond : Name → Type 0
IsBeyond (Entry i) = ⊥
IsBeyond (Part f l i) = Unit {0}
IsBeyond (Block f p) = Unit {0}

no_directory : (n : Name) (u : Unfolded) → IsBeyond n → in_directory n u ≡ None
no_directory (Entry i) u b = absurd b
no_directory (Part f l i) u b = refl
no_directory (Block f p) u b = refl

-- a file counts among rows
pub file_times : (i : ℕ) (f : File) (rows : Rows) → FileIn i f rows → 1 ≤ times_given i rows
file_times i f End h = absurd h
file_times i f (Row id name None inside next) h = elim h [
  | inl a ↦ (let o = file_times i f inside a in omega (arith, o))
  | inr a ↦ (let o = file_times i f next a in omega (arith, o))
]
file_times i f (Row id name (Some g) inside next) h = elim h [
  | inl a ↦ (let o = one_of i id a.0 in omega (arith, o))
  | inr a ↦ (let o = file_times i f next a in omega (arith, o))
]

-- where a file's id stands once
inside_file : (order : List ℕ) (n : Name) (i : ℕ) (f : File) (rows : Rows) → IsBeyond n → number n ≡ i → FileIn i f rows → times_given i rows ≤ 1 → inside_rows order n rows ≡ in_file n i f
inside_file order n i f End b e h o = absurd h
inside_file order n i f (Row id name None inside next) b e h o = elim h [
  | inl a ↦ (let c = file_times i f inside a in
      let z : times_given (number n) next ≤ 0 = subst (λ m. times_given m next ≤ 0) (sym e) (omega (arith, o, c)) in
      ap (λ q. either q (inside_rows order n next)) (ap (λ q. either q (inside_rows order n inside)) (no_directory n (directory order inside) b) ∙ inside_file order n i f inside b e a (omega (arith, o)))
      ∙ ap (either (in_file n i f)) (inside_none order n next z) ∙ either_none (in_file n i f))
  | inr a ↦ (let c = file_times i f next a in
      let z : times_given (number n) inside ≤ 0 = subst (λ m. times_given m inside ≤ 0) (sym e) (omega (arith, o, c)) in
      ap (λ q. either q (inside_rows order n next)) (either_both (in_directory n (directory order inside)) (inside_rows order n inside) (no_directory n (directory order inside) b) (inside_none order n inside z))
      ∙ inside_file order n i f next b e a (omega (arith, o)))
]
inside_file order n i f (Row id name (Some g) inside next) b e h o = elim h [
  | inl a ↦ (let c = one_of i id a.0 in
      let z : times_given (number n) next ≤ 0 = subst (λ m. times_given m next ≤ 0) (sym e) (omega (arith, o, c)) in
      ap (either (in_file n id g)) (inside_none order n next z) ∙ either_none (in_file n id g) ∙ ap (λ q. in_file n q g) (sym a.0) ∙ ap (in_file n i) (sym a.1))
  | inr a ↦ (let c = file_times i f next a in
      let z : cond (i == id) 1 0 ≤ 0 = omega (arith, o, c) in
      let y : (number n == id) ≡ false = subst (λ m. (m == id) ≡ false) (sym e) (other_id i id z) in
      ap (λ q. either q (inside_rows order n next)) (no_file n id g y) ∙ inside_file order n i f next b e a (omega (arith, o)))
]

-- parts and blocks are found inside the rows
shown_beyond : (order : List ℕ) (t : Table) (n : Name) → t.hand ≡ End → IsBeyond n → shown order t n ≡ either (inside_rows order n t.visible) (inside_rows order n t.trash)
unfolding shown
shown_beyond order t (Entry i) e b = absurd b
shown_beyond order t (Part f l i) e b =
    ap (λ z. either (inside_rows order (Part f l i) t.visible) (either (inside_rows order (Part f l i) t.trash) (inside_rows order (Part f l i) z))) e
    ∙ ap (either (inside_rows order (Part f l i) t.visible)) (either_none (inside_rows order (Part f l i) t.trash))
shown_beyond order t (Block f p) e b =
    ap (λ z. either (inside_rows order (Block f p) t.visible) (either (inside_rows order (Block f p) t.trash) (inside_rows order (Block f p) z))) e
    ∙ ap (either (inside_rows order (Block f p) t.visible)) (either_none (inside_rows order (Block f p) t.trash))

-- an id stands once in a sound table
pub stands_once : (t : Table) (i : ℕ) → IsSound t → times_given i t.visible + times_given i t.trash ≤ 1
stands_once t i s = at_most (times_given i t.visible + times_given i t.trash) _ (s.once i)

pub file_shown : (order : List ℕ) (t : Table) (n : Name) (i : ℕ) (f : File) → IsSound t → IsBeyond n → number n ≡ i → IsTableFile t i f → shown order t n ≡ in_file n i f
file_shown order t n i f s b e h =
    let o = stands_once t i s in
    elim h [
      | inl a ↦ (let c = file_times i f t.visible a in
          let z : times_given (number n) t.trash ≤ 0 = subst (λ m. times_given m t.trash ≤ 0) (sym e) (omega (arith, o, c)) in
          shown_beyond order t n s.hand b ∙ ap (either (inside_rows order n t.visible)) (inside_none order n t.trash z) ∙ either_none (inside_rows order n t.visible)
          ∙ inside_file order n i f t.visible b e a (omega (arith, o)))
      | inr a ↦ (let c = file_times i f t.trash a in
          let z : times_given (number n) t.visible ≤ 0 = subst (λ m. times_given m t.visible ≤ 0) (sym e) (omega (arith, o, c)) in
          shown_beyond order t n s.hand b ∙ ap (λ q. either q (inside_rows order n t.trash)) (inside_none order n t.visible z)
          ∙ inside_file order n i f t.trash b e a (omega (arith, o)))
    ]

pub part_file : (i l j : ℕ) (f : File) → in_file (Part (id_of i) l j) i f ≡ part_in l j (versions i f)
part_file i l j f = ap (λ z. either (cond z (part_in l j (versions i f)) None) None) (eq-eqb i i refl) ∙ either_none (part_in l j (versions i f))

pub block_file : (i p : ℕ) (f : File) → in_file (Block (id_of i) p) i f ≡ block_of_place p f
block_file i p f = ap (λ z. either None (cond z (block_of_place p f) None)) (eq-eqb i i refl)
