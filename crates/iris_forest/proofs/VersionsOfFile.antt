-- The files of a table as it shows them: their entries, their versions and their blocks.
use Rattle.std.proofs.Common.{◌≡◌, inl, inr, ℕ, List, Some, None, refl, sym, ◌∙◌, subst, arith}
use Rattle.iris_name.specs.declared.name.Name.TheVariants.{Entry, Part, Block}
use Rattle.iris_node.specs.Unfolded.{Unfolded, Leaf, id_of}
use Rattle.iris_version_tree.specs.Versions.{IsFileOf, whole}
use Rattle.iris_files.specs.Refiles.{HasLength}
use Rattle.iris_rows.specs.Rows.{File, Rows, End, Row, Table}
use Rattle.iris_records.specs.Shown.{versions, shown}
use Rattle.iris_rows.specs.Sound.{IsSound, AllFiles, AreGood, IsCounted, ArePages}
use Rattle.iris_forest.specs.Places.{FileIn, IsTableFile, FilesHaveVersions, BlocksStand, FilesStand}
use Rattle.iris_forest.proofs.FilesInTable.{file_shown, part_file, block_file}
use Rattle.iris_forest.proofs.RowsInTable.{file_owned, own_shown}
use Rattle.iris_forest.proofs.PartsOfFile.{part_within, part_outside}

-- the entry of a file
pub record FileShown (order : List ℕ) (t : Table) (i : ℕ) (f : File) : Type 0 where
  pub name : List ℕ
  pub less : Unfolded
  pub more : Unfolded
  pub is : shown order t (Entry (id_of i)) ≡ Some (Leaf i name less more f.size f.counter (versions i f))

pub file_entry : (order : List ℕ) (t : Table) (i : ℕ) (f : File) → IsSound t → IsTableFile t i f → FileShown order t i f
file_entry order t i f s h = elim h [
  | inl a ↦ (let q = file_owned order i f t.visible a in let r = own_shown order t _ s (inl q.within) in record { name = q.name; less = r.less; more = r.more; is = r.shown_is })
  | inr a ↦ (let q = file_owned order i f t.trash a in let r = own_shown order t _ s (inr q.within) in record { name = q.name; less = r.less; more = r.more; is = r.shown_is })
]

pub have_versions : FilesHaveVersions
have_versions order t i f s h =
    let e = file_entry order t i f s h in
    record {
      entry = subst (IsFileOf i (whole i f.version)) (sym e.is) (refl, refl);
      parts = λ l j w. file_shown order t (Part (id_of i) l j) i f s tt refl h ∙ part_file i l j f ∙ part_within i f.version l j w;
      outside = λ l j w. file_shown order t (Part (id_of i) l j) i f s tt refl h ∙ part_file i l j f ∙ part_outside i f.version l j w;
    }

pub blocks_stand : BlocksStand
blocks_stand order t i p f s h = file_shown order t (Block (id_of i) p) i f s tt refl h ∙ block_file i p f

-- what holds of all files holds of each
file_all : (P : File → Type 0) (i : ℕ) (f : File) (rows : Rows) → FileIn i f rows → AllFiles P rows → P f
file_all P i f End h all = absurd h
file_all P i f (Row id name None inside next) h all = elim h [ inl a ↦ file_all P i f inside a all.1 | inr a ↦ file_all P i f next a all.2 ]
file_all P i f (Row id name (Some g) inside next) h all = elim h [ inl a ↦ subst P (sym a.1) all.0 | inr a ↦ file_all P i f next a all.2 ]

file_good : (i : ℕ) (f : File) (rows : Rows) → FileIn i f rows → AreGood rows → ArePages f.block
file_good i f End h all = absurd h
file_good i f (Row id name None inside next) h all = elim h [ inl a ↦ file_good i f inside a all.1 | inr a ↦ file_good i f next a all.2 ]
file_good i f (Row id name (Some g) inside next) h all = elim h [ inl a ↦ subst (λ (k : File). ArePages k.block) (sym a.1) all.0.0 | inr a ↦ file_good i f next a all.2 ]

pub file_counted : (t : Table) (i : ℕ) (f : File) → IsSound t → IsTableFile t i f → IsCounted t.age f
file_counted t i f s h = elim h [ inl a ↦ file_all (IsCounted t.age) i f t.visible a s.counted | inr a ↦ file_all (IsCounted t.age) i f t.trash a s.trash_counted ]

pub files_stand : FilesStand
files_stand order t i f s h =
    let e = file_entry order t i f s h in
    let pages : ArePages f.block = elim h [ inl a ↦ file_good i f t.visible a s.good | inr a ↦ file_good i f t.trash a s.trash_good ] in
    let counted = file_counted t i f s h in
    record {
      versions = have_versions order t i f s h;
      entry = subst (HasLength f.size f.counter) (sym e.is) (refl, refl);
      blocks = λ p. blocks_stand order t i p f s h;
      pages = pages;
      hole = counted.hole;
      past = counted.past;
      counted = let a = counted.counter in let b = s.age in omega (arith, a, b);
    }
