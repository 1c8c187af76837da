-- In a legal history of the file system true records pass their checks.
use Rattle.std.proofs.Common.{◌≡◌, ◌⊎◌, inl, inr, ℕ, ◌==◌, ◌&&◌, List, [], ◌∷◌, length, Bool, true, false, cond, Option, Some, None, refl, sym, ◌∙◌, ap, subst, arith, IsSome}
use Rattle.std.specs.Prelude.{IsSomeAnd, option_map}
use Rattle.std.proofs.lemmas.List.{length-append, take_at, drop_at}
use Rattle.sha2.specs.Sha256.{sha256}
use Rattle.iris_name.specs.declared.name.Hash32.{Hash32}
use Rattle.iris_name.specs.declared.note.Expect.TheVariants.{Hash}
use Rattle.iris_cache.specs.Pictures.{IsHashOf}
use Rattle.iris_invariant.specs.Agrees.{IsTrueOf}
use Rattle.sha2.proofs.Facts256.{length-sha256}
use Rattle.iris_mac.specs.declared.keys.Keys.{Keys}
use Rattle.iris_name.specs.declared.name.FileId.{FileId}
use Rattle.iris_name.specs.declared.name.Name.{Name}
use Rattle.iris_name.specs.declared.name.Name.TheVariants.{Entry, Part, Block}
use Rattle.iris_name.specs.declared.note.Note.{Note}
use Rattle.iris_name.specs.declared.note.Note.TheVariants.{Call, Got, Put, Dropped}
use Rattle.iris_name.specs.declared.request.Request.{Request}
use Rattle.iris_name.specs.declared.request.Request.TheVariants.{Mkdir, Create, Write, Read, Resize, Stat, List as ListNames, Rename, Remove, Sync, Root, Reclaim, Probe}
use Rattle.iris_name.specs.History.{Past, begun}
use Rattle.iris_name.specs.Hmac.{record_of, tag, hmac, Passes}
use Rattle.iris_history.specs.Kept.{is_block, takes_step, table_of, after_note, shown_in}
use Rattle.iris_history.specs.Legal.{Rules, IsLegal, IsLawful}
use Rattle.iris_history.specs.Values.{IsRequest}
use Rattle.iris_node.specs.Unfolded.{Unfolded, Absent, Folder, Leaf, Even, Split, Stored, hash, node_of, node_record}
use Rattle.iris_node.specs.declared.node.Node.{Node}
use Rattle.iris_rows.specs.Standing.{Has, StandsInTable}
use Rattle.iris_rows.specs.Changes.{stepped}
use Rattle.iris_records.specs.Records.{spelled}
use Rattle.iris_rows.specs.Rows.{File, Rows, End, Row, Table}
use Rattle.iris_records.specs.Shown.{shown, in_directory, in_file, entry_in, part_in, inside_rows, directory, roots, root_entry, trash_entry, versions}
use Rattle.iris_rows.specs.Sound.{IsSound, AreGood, ArePages}
use Rattle.iris_table_laws.specs.Texts.{HasTexts}
use Rattle.iris_table_laws.specs.TextsStay.{IsOfTexts}
use Rattle.iris_table_laws.proofs.Grammar as grammar
use Rattle.iris_table_laws.proofs.TextNames as texting
use Rattle.iris_file_rules.specs.FileTable.{files}
use Rattle.iris_node.specs.Spelling.{SpellsNode}
use Rattle.iris_invariant.specs.Readings.{Spells}
use Rattle.iris_file_rules.proofs.OneBlock.{shown_block, sound, either_some}

good : (i : ℕ) (f : File) (rows : Rows) → AreGood rows → Has i f rows → ArePages f.block
good i f End g h = absurd h
good i f (Row id name (Some e) inside next) g (inl h) = let z : e ≡ f = (let y = h.1 in cc) in subst (λ x. ArePages x.block) z g.0.0
good i f (Row id name None inside next) g (inl h) = absurd (let y = h.1 in cc)
good i f (Row id name file inside next) g (inr (inl h)) = good i f inside g.1 h
good i f (Row id name file inside next) g (inr (inr h)) = good i f next g.2 h

pages : (i : ℕ) (f : File) (t : Table) → IsSound t → StandsInTable i f t → ArePages f.block
pages i f t s (inl h) = good i f t.visible s.good h
pages i f t s (inr h) = good i f t.trash s.trash_good h

length_tag : (key : List ℕ) (file place version : ℕ) (block : List ℕ) → length (tag key file place version block) ≡ 32
unfolding tag hmac
length_tag key file place version block = length-sha256 _

pub true_passes : (key : List ℕ) (file place version : ℕ) (block : List ℕ) → length block ≡ 4096 → Passes key file place version (record_of key file place version block)
true_passes key file place version block len =
    let t = tag key file place version block in (
      length-append block t ∙ omega (arith, len, length_tag key file place version block),
      drop_at block t 4096 len ∙ ap (tag key file place version) (sym (take_at block t 4096 len)),
    )

-- what is a node: an entry or a part
abbrev IsLeafOrFolder : Unfolded → Type 0
IsLeafOrFolder (Folder id name less more inside) = Unit {0}
IsLeafOrFolder (Leaf id name less more size counter versions) = Unit {0}
IsLeafOrFolder (Split file level index low high) = Unit {0}
IsLeafOrFolder Absent = ⊥
IsLeafOrFolder (Even version) = ⊥
IsLeafOrFolder (Stored version bytes) = ⊥

choose : (b : Bool) (x : Unfolded) (y : Option Unfolded) (u : Unfolded) → cond b (Some x) y ≡ Some u → (x ≡ u) ⊎ (y ≡ Some u)
choose true x y u e = inl (cc)
choose false x y u e = inr e

entry_node : (i : ℕ) (t u : Unfolded) → entry_in i t ≡ Some u → IsLeafOrFolder u
entry_node i (Folder id name less more inside) u e = elim (choose (i == id) (Folder id name less more inside) _ u e) [ inl h ↦ subst IsLeafOrFolder h tt | inr h ↦ elim (either_some _ _ u h) [ inl a ↦ entry_node i less u a | inr a ↦ entry_node i more u a ] ]
entry_node i (Leaf id name less more size counter vs) u e = elim (choose (i == id) (Leaf id name less more size counter vs) _ u e) [ inl h ↦ subst IsLeafOrFolder h tt | inr h ↦ elim (either_some _ _ u h) [ inl a ↦ entry_node i less u a | inr a ↦ entry_node i more u a ] ]
entry_node i Absent u e = absurd (cc)
entry_node i (Even version) u e = absurd (cc)
entry_node i (Split file level index low high) u e = absurd (cc)
entry_node i (Stored version bytes) u e = absurd (cc)

part_node : (l i : ℕ) (t u : Unfolded) → part_in l i t ≡ Some u → IsLeafOrFolder u
part_node l i (Split file level index low high) u e = elim (choose ((l == level) && (i == index)) (Split file level index low high) _ u e) [ inl h ↦ subst IsLeafOrFolder h tt | inr h ↦ elim (either_some _ _ u h) [ inl a ↦ part_node l i low u a | inr a ↦ part_node l i high u a ] ]
part_node l i Absent u e = absurd (cc)
part_node l i (Even version) u e = absurd (cc)
part_node l i (Folder id name less more inside) u e = absurd (cc)
part_node l i (Leaf id name less more size counter versions) u e = absurd (cc)
part_node l i (Stored version bytes) u e = absurd (cc)

in_directory_node : (n : Name) (t u : Unfolded) → in_directory n t ≡ Some u → IsLeafOrFolder u
in_directory_node (Entry i) t u e = entry_node i.0 t u e
in_directory_node (Part f l i) t u e = absurd (cc)
in_directory_node (Block f p) t u e = absurd (cc)

held_by : (b : Bool) (x : Option Unfolded) (u : Unfolded) → cond b x None ≡ Some u → x ≡ Some u
held_by true x u e = e
held_by false x u e = absurd (cc)

in_file_node : (n : Name) (id : ℕ) (f : File) (u : Unfolded) → is_block n ≡ false → in_file n id f ≡ Some u → IsLeafOrFolder u
in_file_node (Entry i) id f u nb e = absurd (cc)
in_file_node (Part g l i) id f u nb e = elim (either_some _ _ u e) [ inl a ↦ part_node l i (versions id f) u (held_by (g.0 == id) _ u a) | inr a ↦ absurd (cc) ]
in_file_node (Block g p) id f u nb e = absurd (cc)

inside_node : (order : List ℕ) (n : Name) (rows : Rows) (u : Unfolded) → is_block n ≡ false → inside_rows order n rows ≡ Some u → IsLeafOrFolder u
inside_node order n End u nb e = absurd (cc)
inside_node order n (Row id name None inside next) u nb e = elim (either_some _ _ u e) [
  | inl a ↦ elim (either_some _ _ u a) [ inl b ↦ in_directory_node n (directory order inside) u b | inr b ↦ inside_node order n inside u nb b ]
  | inr a ↦ inside_node order n next u nb a
]
inside_node order n (Row id name (Some f) inside next) u nb e = elim (either_some _ _ u e) [ inl a ↦ in_file_node n id f u nb a | inr a ↦ inside_node order n next u nb a ]

shown_node : (order : List ℕ) (t : Table) (n : Name) (u : Unfolded) → is_block n ≡ false → shown order t n ≡ Some u → IsLeafOrFolder u
unfolding shown
shown_node order t n u nb e = elim (either_some _ _ u e) [
  | inl a ↦ in_directory_node n (root_entry order t) u a
  | inr a ↦ elim (either_some _ _ u a) [ inl b ↦ in_directory_node n (trash_entry order t) u b | inr b ↦ inside_node order n (roots t) u nb b ]
]

-- a node has a record of its own
has_node : (key : List ℕ) (n : Name) (u : Unfolded) → IsLeafOrFolder u → (node : Node) × (node_of u ≡ Some node) × (spelled key n u ≡ node_record u)
unfolding node_of
has_node key n (Folder id name less more inside) h = (_, refl, refl)
has_node key n (Leaf id name less more size counter versions) h = (_, refl, refl)
has_node key n (Split file level index low high) h = (_, refl, refl)
has_node key n Absent h = absurd h
has_node key n (Even version) h = absurd h
has_node key n (Stored version bytes) h = absurd h

of_texts : (q : Request) → IsRequest q → IsOfTexts q
of_texts (Mkdir path) h = h
of_texts (Create path) h = h
of_texts (Write path offset bytes) h = h.0
of_texts (Read path offset count) h = h
of_texts (Resize path size) h = h
of_texts (Stat path) h = h
of_texts (ListNames path after_note) h = h
of_texts (Rename from to) h = h
of_texts (Remove path) h = h
of_texts Sync h = tt
of_texts Root h = tt
of_texts Reclaim h = tt
of_texts (Probe at) h = tt

module _ (keys : Keys) (r : Rules) where
  -- the names of a legal history's table are texts
  pub texts : (past : Past) → IsLegal (files keys) r past → HasTexts (table_of (files keys) past)
  texts [] legal = texting.texts_begin
  texts (x ∷ past) legal = by x.note x.opened (begun past x) legal.0 (texts past legal.1) where
    by : (note : Note) (opened : ℕ) (at : Past) → IsLawful (files keys) r opened past at note → HasTexts (table_of (files keys) past) → HasTexts (after_note (files keys) (table_of (files keys) past) note)
    by (Call who request reply) opened at l h = elim (takes_step reply) as (λ b. HasTexts (cond b (stepped (table_of (files keys) past) request) (table_of (files keys) past))) [
      | true ↦ texting.texts_stay (table_of (files keys) past) request h (of_texts request l.1)
      | false ↦ h
    ]
    by (Got who since name answer) opened at l h = h
    by (Put who since name bytes ok) opened at l h = h
    by (Dropped who since name ok) opened at l h = h

  pub spells : Spells (files keys) r SpellsNode
  spells = record { node = node; block = block } where
    node : (past : Past) (n : Name) (u : Unfolded) → IsLegal (files keys) r past → is_block n ≡ false → shown_in (files keys) past n ≡ Some u → SpellsNode n (spelled keys.block n u)
    node past n u legal nb e =
        let h = has_node keys.block n u (shown_node keys.order (table_of (files keys) past) n u nb e) in
        let fit = grammar.nodes_fit keys.order (table_of (files keys) past) n u h.0 (sound keys past) (texts past legal) e h.1 in
        record { node = h.0; is = fit.0; named = fit.1; bytes_ = h.2 ∙ ap (λ z. Rattle.iris_node.specs.Unfolded.spelled_node z) h.1 }

    block : (past : Past) (f : FileId) (p : ℕ) (u : Unfolded) → IsLegal (files keys) r past → shown_in (files keys) past (Block f p) ≡ Some u → Passes keys.block f.0 p (Rattle.iris_file_rules.specs.FileTable.stored_version u) (spelled keys.block (Block f p) u)
    block past f p u legal e =
        let b = shown_block keys.order (table_of (files keys) past) f p u (sound keys past).hand e in
        subst (λ z. Passes keys.block f.0 p (Rattle.iris_file_rules.specs.FileTable.stored_version z) (spelled keys.block (Block f p) z)) (sym b.is)
        (true_passes keys.block f.0 p (b.file.version p) (b.file.block p) (pages f.0 b.file (table_of (files keys) past) (sound keys past) b.has p))

-- what the cache's plans say of a node's hash is the expectation that the marks speak of
pub hash_true : (keys : Keys) (t : Table) (n : Name) (x : Hash32) → is_block n ≡ false → IsSome (shown keys.order t n) → IsHashOf (shown keys.order t n) x
    → IsTrueOf (files keys) n (Hash x) (shown keys.order t n)
hash_true keys t n x nb s h = (nb, by (shown keys.order t n) refl) where
  true_of : (m : Node) (u : Unfolded) → node_of u ≡ Some m → option_map hash (node_of u) ≡ Some x → spelled keys.block n u ≡ node_record u → x.0 ≡ sha256 (spelled keys.block n u)
  true_of m u e g f = let z : hash m ≡ x = (let y : option_map hash (Some m) ≡ Some x = sym (ap (option_map hash) e) ∙ g in cc) in
      sym (ap (λ (w : Hash32). w.0) z) ∙ sym (ap sha256 (f ∙ ap (λ w. Rattle.iris_node.specs.Unfolded.spelled_node w) e))

  by : (o : Option Unfolded) → shown keys.order t n ≡ o → IsSomeAnd (shown keys.order t n) (λ v. x.0 ≡ sha256 (spelled keys.block n v))
  by None e = absurd (let z = sym s ∙ ap (λ w. Rattle.std.specs.Prelude.is_some w) e in cc)
  by (Some u) e = let m = has_node keys.block n u (shown_node keys.order t n u nb e) in subst (λ w. IsSomeAnd w (λ v. x.0 ≡ sha256 (spelled keys.block n v))) (sym e) (true_of m.0 u m.1 (h u e) m.2)
