-- What a plan leaves in its draft of pages makes the resident blocks show the table after the request.
use Rattle.std.proofs.Common.{◌≡◌, ◌≢◌, ◌⊎◌, inl, inr, ℕ, ◌+◌, ◌-◌, ◌*◌, ◌/◌, ◌%◌, ◌<◌, ◌≤◌, List, length, take, replicate, ◌++◌, Bool, true, false, ◌&&◌, ◌||◌, cond, Option, Some, None, refl, sym, ◌∙◌, ap, subst, arith}
use Rattle.std.specs.Prelude.{◌==◌, not, nat_le, nat_lt}
use Rattle.std.proofs.lemmas.Bool.{eqb-true, eq-eqb, ne_eqb, cases_eq}
use Rattle.std.proofs.lemmas.Bool.Decides.{nat_tests}
use Rattle.iris_name.specs.declared.name.FileId.{FileId}
use Rattle.iris_name.specs.declared.name.Name.{Name}
use Rattle.iris_name.specs.declared.name.Name.TheVariants.{Entry, Part, Block}
use Rattle.iris_name.specs.declared.request.Request.{Request}
use Rattle.iris_name.specs.declared.request.Request.TheVariants.{Write, Resize}
use Rattle.iris_node.specs.Trees.{Shown}
use Rattle.iris_node.specs.Unfolded.{Unfolded, Stored, id_of}
use Rattle.iris_blocks.specs.declared.draft.PageChange.{PageChange}
use Rattle.iris_blocks.specs.Changes.{PageDrafted, change_of, landed_page, from_to}
use Rattle.iris_blocks.specs.Laws.{ChangesTo, stored_block}
use Rattle.iris_blocks.specs.Paged.{Paged, IsBlock, Shows, held_page}
use Rattle.iris_blocks.proofs.Showing.{apply_shows}
use Rattle.iris_plain.specs.Checks.{blocks_of}
use Rattle.iris_rows.specs.Changes.{filed, stepped}
use Rattle.iris_rows.specs.FileChanges.{merged, is_touched, file_written, is_split, cut}
use Rattle.iris_rows.specs.Places.{cut_page}
use Rattle.iris_rows.specs.Rows.{File, Table}
use Rattle.iris_rows.specs.Sound.{IsSound, IsCounted}
use Rattle.iris_rows.proofs.SoundStep.{sound_kept}
use Rattle.iris_records.specs.Shown.{block_of_place, shown}
use Rattle.iris_files.specs.Cuts.{page_cut}
use Rattle.iris_files.specs.Pages.{is_block_in, page_in, page_written, place_of}
use Rattle.iris_forest.proofs.VersionsOfFile.{blocks_stand, file_counted}
use Rattle.iris_plan_laws.specs.Blocks.{SameBlocks, ChangesBlocks, is_cut_at}
use Rattle.iris_plan_laws.specs.PageChanges.{PagesBegin, PagesGoThrough, IsLanded, page_shown, WritesChangePages, ResizesChangePages, RowsKeepPages}
use Rattle.iris_plan_laws.proofs.AcceptedRequests.{written_step, resized_step}
use Rattle.iris_plan_laws.proofs.BlocksOfRows.{rows_keep_blocks}
use Rattle.iris_plan_laws.proofs.BlocksOfSteps.{writes_change_blocks, resizes_change_blocks, block_in, block_cut, cut_ways, stood}
use Rattle.iris_plan_laws.proofs.FileById.{by_file_id}
use Rattle.iris_plan_laws.proofs.Pictured.{pictured_file}

-- ---- a draft that began empty, over the blocks of one file

-- what becomes of a name, by what becomes of each place of a file
abbrev at_block : FileId → (ℕ → Option PageChange) → Name → Option PageChange
at_block file after (Entry id) = None
at_block file after (Part g level index) = None
at_block file after (Block g p) = cond (g.0 == file.0) (after p) None

module _ (i : ℕ) (after : ℕ → Option PageChange) (q : PageDrafted) (is : (n : Name) → change_of q n ≡ at_block (id_of i) after n) where
  -- what holds of each change at a place holds of each change
  at_names : (P : Name → PageChange → Type 0) → ((p : ℕ) (x : PageChange) → after p ≡ Some x → P (Block (id_of i) p) x) → (n : Name) (x : PageChange) → change_of q n ≡ Some x → P n x
  at_names P says (Entry id) x h = absurd (let e = is (Entry id) in cc)
  at_names P says (Part g l j) x h = absurd (let e = is (Part g l j) in cc)
  at_names P says (Block g p) x h = by (g.0 == i) refl (sym (is (Block g p)) ∙ h) where
    by : (b : Bool) → (g.0 == i) ≡ b → cond b (after p) None ≡ Some x → P (Block g p) x
    by true k e = subst (λ z. P (Block z p) x) (sym (ap id_of (eqb-true g.0 i k))) (says p x e)
    by false k e = absurd (cc)

  -- a name of which it says nothing stays, where it says something of each place that is picked
  at_others : (t u : Shown) (picks : ℕ → Bool) → ChangesBlocks t u (id_of i) picks → ((p : ℕ) → after p ≡ None → picks p ≡ false) → (n : Name) → IsBlock n → change_of q n ≡ None → u n ≡ t n
  at_others t u picks c rest (Entry id) k h = absurd k
  at_others t u picks c rest (Part g l j) k h = absurd k
  at_others t u picks c rest (Block g p) k h = by (g.0 == i) refl (sym (is (Block g p)) ∙ h) where
    by : (b : Bool) → (g.0 == i) ≡ b → cond b (after p) None ≡ None → u (Block g p) ≡ t (Block g p)
    by true k e = subst (λ z. u (Block z p) ≡ t (Block z p)) (sym (ap id_of (eqb-true g.0 i k))) (c.kept p (rest p e))
    by false k e = c.others g p (λ s. (let w = eq-eqb g.0 i (ap (λ (z : FileId). z.0) s) in absurd (cc)))

  -- The resident blocks go through with it: at each place its change says what the place becomes, what it was, and that it is picked.
  at_places : (order : List ℕ) (t : Table) (request : Request) (p : PageDrafted) (b : Paged) (f : File) (picks : ℕ → Bool) → PagesBegin order t p b → ChangesBlocks (shown order t) (shown order (stepped t request)) (id_of i) picks
      → ((k : ℕ) → shown order t (Block (id_of i) k) ≡ block_of_place k f) → ((k : ℕ) (x : PageChange) → after k ≡ Some x → shown order (stepped t request) (Block (id_of i) k) ≡ stored_block x.new)
      → ((k : ℕ) (x : PageChange) → after k ≡ Some x → x.old ≡ page_in k f) → ((k : ℕ) (x : PageChange) → after k ≡ Some x → picks k ≡ true) → ((k : ℕ) → after k ≡ None → picks k ≡ false) → PagesGoThrough order t request q b
  at_places order t request p b f picks begin c stands says old picked rest = let u = shown order (stepped t request) in
      let changes : ChangesTo (shown order t) u q = record { changed = at_names (λ n x. u n ≡ stored_block x.new) says; others = at_others (shown order t) u picks c rest } in
      record {
        changes = changes;
        blocks = at_names (λ n x. IsBlock n) (λ k x h. tt);
        differs = at_names (λ n x. u n ≢ shown order t n) (λ k x h. c.changed k (picked k x h));
        was = at_names (λ n x. x.old ≡ page_shown (shown order t n)) (λ k x h. old k x h ∙ page_same (f.version k == 0) (f.version k) (f.block k) ∙ ap page_shown (sym (stands k)));
        shows = λ e l. apply_shows (shown order t) u q b e begin.shows begin.kept changes l;
      }
    where
      page_same : (z : Bool) (v : ℕ) (page : List ℕ) → cond z None (Some page) ≡ page_shown (cond z None (Some (Stored v page)))
      page_same true v page = refl
      page_same false v page = refl

-- a place of a range
abbrev in_range : ℕ → ℕ → ℕ → Bool
in_range low high p = not (nat_lt p low) && nat_lt p high

-- a block of the version past a counter is none of a hole
numbered : (k : ℕ) (x : List ℕ) → block_in (k + 1) x ≡ Some (Stored (k + 1) x)
numbered k x = ap (λ b. cond b None (Some (Stored (k + 1) x))) (let e : (k + 1 == 0) ≡ false = grind (arith, nat_tests) in e)

-- ---- a write

in_touched : (low last p : ℕ) → in_range low (last + 1) p ≡ (nat_le low p && nat_le p last)
in_touched low last p = let a : not (nat_lt p low) ≡ nat_le low p = grind (arith, nat_tests) in let b : nat_lt p (last + 1) ≡ nat_le p last = grind (arith, nat_tests) in cc

-- what a write makes of each place
abbrev written_at : ℕ → List ℕ → File → ℕ → Option PageChange
written_at offset bytes f p = cond (in_range (offset / 4096) ((offset + length bytes - 1) / 4096 + 1) p) (Some (page_written offset bytes f p)) None

of_two : (a b : Bool) (x y : Option PageChange) → y ≡ None → cond (a && b) x y ≡ cond a (cond b x None) None
of_two true true x y e = refl
of_two true false x y e = e
of_two false b x y e = e

written_is : (file : FileId) (offset : ℕ) (bytes : List ℕ) (f : File) (p q : PageDrafted) → ((n : Name) → change_of p n ≡ None)
    → ((n : Name) → change_of q n ≡ cond (is_block_in file (offset / 4096) ((offset + length bytes - 1) / 4096 + 1) n) (Some (page_written offset bytes f (place_of n))) (change_of p n))
    → (n : Name) → change_of q n ≡ at_block file (written_at offset bytes f) n
written_is file offset bytes f p q empty e (Entry id) = e (Entry id) ∙ empty (Entry id)
written_is file offset bytes f p q empty e (Part g l j) = e (Part g l j) ∙ empty (Part g l j)
written_is file offset bytes f p q empty e (Block g k) =
    e (Block g k) ∙ of_two (g.0 == file.0) (in_range (offset / 4096) ((offset + length bytes - 1) / 4096 + 1) k) (Some (page_written offset bytes f k)) (change_of p (Block g k)) (empty (Block g k))

-- the block of a place that it touches
written_block : (offset : ℕ) (bytes : List ℕ) (f : File) (p : ℕ) → is_touched offset (length bytes) p ≡ true → block_of_place p (file_written offset bytes f) ≡ stored_block (page_written offset bytes f p).new
written_block offset bytes f p e =
    ap (λ (b : Bool). block_in (cond b (f.counter + 1) (f.version p)) (cond b (merged offset bytes p (f.block p)) (f.block p))) e ∙ numbered f.counter (merged offset bytes p (f.block p))

-- a change is of a place that it touches
written_of : (offset : ℕ) (bytes : List ℕ) (f : File) (p : ℕ) (x : PageChange) → written_at offset bytes f p ≡ Some x → (is_touched offset (length bytes) p ≡ true) × (page_written offset bytes f p ≡ x)
written_of offset bytes f p x e = by (in_range (offset / 4096) ((offset + length bytes - 1) / 4096 + 1) p) refl e where
  by : (b : Bool) → in_range (offset / 4096) ((offset + length bytes - 1) / 4096 + 1) p ≡ b → cond b (Some (page_written offset bytes f p)) None ≡ Some x → (is_touched offset (length bytes) p ≡ true) × (page_written offset bytes f p ≡ x)
  by true k h = (sym (in_touched (offset / 4096) ((offset + length bytes - 1) / 4096) p) ∙ k, cc)
  by false k h = absurd (cc)

written_rest : (offset : ℕ) (bytes : List ℕ) (f : File) (p : ℕ) → written_at offset bytes f p ≡ None → is_touched offset (length bytes) p ≡ false
written_rest offset bytes f p e = by (in_range (offset / 4096) ((offset + length bytes - 1) / 4096 + 1) p) refl e where
  by : (b : Bool) → in_range (offset / 4096) ((offset + length bytes - 1) / 4096 + 1) p ≡ b → cond b (Some (page_written offset bytes f p)) None ≡ None → is_touched offset (length bytes) p ≡ false
  by true k h = absurd (cc)
  by false k h = sym (in_touched (offset / 4096) ((offset + length bytes - 1) / 4096) p) ∙ k

pub writes_change_pages : WritesChangePages
writes_change_pages order t path offset bytes i f d c b p q begun begin a some says =
    let s = begun.pictured.sound in
    let e = written_step t path i f a offset bytes begun.accepted some in
    let sound = subst IsSound e (sound_kept t (Write path offset bytes) s) in
    let at = by_file_id t (file_written offset bytes) a.names i f a.inside s a.leads in
    let drawn = says (shown order t) (shown order t) f (pictured_file order t i f d c begun.pictured at.was) begin.shows in
    let w = writes_change_blocks order t path offset bytes i f s begun.accepted a some in
    let is = written_is (id_of i) offset bytes f p q begin.empty drawn in
    at_places i (written_at offset bytes f) q is order t (Write path offset bytes) p b f (is_touched offset (length bytes)) begin w.0 (λ k. blocks_stand order t i k f s at.was)
    (λ k x h. (let o = written_of offset bytes f k x h in
    ap (λ v. shown order v (Block (id_of i) k)) e ∙ blocks_stand order (filed (file_written offset bytes) a.names t) i k (file_written offset bytes f) sound at.is
    ∙ written_block offset bytes f k o.0 ∙ ap (λ (y : PageChange). stored_block y.new) o.1))
    (λ k x h. ap (λ (y : PageChange). y.old) (sym (written_of offset bytes f k x h).1)) (λ k x h. (written_of offset bytes f k x h).0) (λ k h. written_rest offset bytes f k h)

-- ---- another length

module _ (size : ℕ) (f : File) where
  -- what another length makes of each place
  abbrev cut_at : ℕ → Option PageChange
  cut_at p = cond (nat_lt size f.size && in_range (size / 4096) (blocks_of f.size) p) (page_cut size f p None) None

  of_three : (s a b : Bool) (x : Option PageChange → Option PageChange) (y : Option PageChange) → y ≡ None → cond (s && (a && b)) (x y) y ≡ cond a (cond (s && b) (x None) None) None
  of_three true true true x y e = ap x e
  of_three true true false x y e = e
  of_three true false b x y e = e
  of_three false true b x y e = e
  of_three false false b x y e = e

  cut_is : (file : FileId) (p q : PageDrafted) → ((n : Name) → change_of p n ≡ None)
      → ((n : Name) → change_of q n ≡ cond (nat_lt size f.size && is_block_in file (size / 4096) (blocks_of f.size) n) (page_cut size f (place_of n) (change_of p n)) (change_of p n))
      → (n : Name) → change_of q n ≡ at_block file cut_at n
  cut_is file p q empty e (Entry id) = e (Entry id) ∙ neither (nat_lt size f.size) _ _ (empty (Entry id)) where
    neither : (a : Bool) (x y : Option PageChange) → y ≡ None → cond (a && false) x y ≡ None
    neither true x y h = h
    neither false x y h = h
  cut_is file p q empty e (Part g l j) = e (Part g l j) ∙ neither (nat_lt size f.size) _ _ (empty (Part g l j)) where
    neither : (a : Bool) (x y : Option PageChange) → y ≡ None → cond (a && false) x y ≡ None
    neither true x y h = h
    neither false x y h = h
  cut_is file p q empty e (Block g k) =
      e (Block g k) ∙ of_three (nat_lt size f.size) (g.0 == file.0) (in_range (size / 4096) (blocks_of f.size) k) (page_cut size f k) (change_of p (Block g k)) (empty (Block g k))

  module _ (p : ℕ) where
    abbrev kept_page : List ℕ
    kept_page = take (size % 4096) (f.block p) ++ replicate (4096 - size % 4096) 0

    abbrev by_tests : Bool → Bool → Bool → Option Unfolded
    by_tests z lost split = block_cut z lost split (f.version p) (f.counter + 1) kept_page (f.block p)

    -- a place past the length is a hole
    lost_block : blocks_of size ≤ p → block_of_place p (cut size f) ≡ None
    lost_block l = ap (λ b. by_tests (f.version p == 0) b (is_split size f.size p)) (let e : nat_le (blocks_of size) p ≡ true = grind (arith, nat_tests) in e)

    -- the place that it splits has zeros at its end
    split_block : p * 4096 < size → size < f.size → p ≡ size / 4096 → (f.version p == 0) ≡ false → block_of_place p (cut size f) ≡ Some (Stored (f.counter + 1) (cut_page (size - p * 4096) (f.block p)))
    split_block inside less e z =
        let a : nat_le (blocks_of size) p ≡ false = (let h : p < blocks_of size = omega (arith, inside) in grind (arith, nat_tests)) in
        let b : nat_lt size f.size ≡ true = grind (arith, nat_tests) in
        let m : size % 4096 ≡ size - p * 4096 = omega (arith, e) in
        ap (λ x. by_tests (f.version p == 0) x (is_split size f.size p)) a ∙ ap (λ x. by_tests (f.version p == 0) false x) (ap (λ x. x && (p == size / 4096)) b ∙ eq-eqb p (size / 4096) e)
        ∙ ap (λ x. by_tests x false true) z ∙ numbered f.counter kept_page ∙ ap (λ x. Some (Stored (f.counter + 1) (cut_page x (f.block p)))) m

    -- the page that the plan drafts, by whether it was a hole and by whether it is lost
    abbrev drafted_page : Bool → Bool → Option PageChange
    drafted_page z lost = cond z None (Some (from_to (Some (f.block p)) (cond lost None (Some (f.counter + 1, cut_page (size - p * 4096) (f.block p))))))

    cut_new : (x : PageChange) → size < f.size → size / 4096 ≤ p → (f.version p == 0) ≡ false → (lost : Bool) → nat_le size (p * 4096) ≡ lost → drafted_page false lost ≡ Some x → block_of_place p (cut size f) ≡ stored_block x.new
    cut_new x less from z true l e =
        let y : from_to (Some (f.block p)) None ≡ x = cc in let h : size ≤ p * 4096 = grind (arith, nat_tests) in
        lost_block (omega (arith, h)) ∙ ap (λ (y : PageChange). stored_block y.new) y
    cut_new x less from z false l e =
        let y : from_to (Some (f.block p)) (Some (f.counter + 1, cut_page (size - p * 4096) (f.block p))) ≡ x = cc in let h : p * 4096 < size = grind (arith, nat_tests) in
        split_block h less (omega (arith, h, from)) z ∙ ap (λ (y : PageChange). stored_block y.new) y

    -- what it drafts is cut
    cut_tests : (lost : Bool) → nat_le (blocks_of size) p ≡ lost → size < f.size → size / 4096 ≤ p → (f.version p == 0) ≡ false → is_cut_at size f p ≡ true
    cut_tests true l less from z = ap (λ b. not b && (nat_le (blocks_of size) p || is_split size f.size p)) z ∙ ap (λ b. b || is_split size f.size p) l
    cut_tests false l less from z =
        let h : p < blocks_of size = grind (arith, nat_tests) in let e : p ≡ size / 4096 = omega (arith, h, from) in let b : nat_lt size f.size ≡ true = grind (arith, nat_tests) in
        ap (λ b. not b && (nat_le (blocks_of size) p || is_split size f.size p)) z ∙ ap (λ b. b || is_split size f.size p) l ∙ ap (λ x. x && (p == size / 4096)) b ∙ eq-eqb p (size / 4096) e

    -- a change is of a place of the range that was no hole
    cut_of : (x : PageChange) → cut_at p ≡ Some x → (size < f.size) × (size / 4096 ≤ p) × ((f.version p == 0) ≡ false) × (drafted_page false (nat_le size (p * 4096)) ≡ Some x)
    cut_of x e = by (nat_lt size f.size) refl (nat_lt p (size / 4096)) refl (nat_lt p (blocks_of f.size)) (f.version p == 0) refl e where
      by : (a : Bool) → nat_lt size f.size ≡ a → (b : Bool) → nat_lt p (size / 4096) ≡ b → (c : Bool) (z : Bool) → (f.version p == 0) ≡ z → cond (a && (not b && c)) (drafted_page z (nat_le size (p * 4096))) None ≡ Some x
          → (size < f.size) × (size / 4096 ≤ p) × ((f.version p == 0) ≡ false) × (drafted_page false (nat_le size (p * 4096)) ≡ Some x)
      by true k false l true false z h = (grind (arith, nat_tests), grind (arith, nat_tests), z, h)
      by true k false l true true z h = absurd (cc)
      by true k false l false v z h = absurd (cc)
      by true k true l c v z h = absurd (cc)
      by false k b l c v z h = absurd (cc)

    cut_picked : (x : PageChange) → cut_at p ≡ Some x → is_cut_at size f p ≡ true
    cut_picked x e = let o = cut_of x e in cut_tests (nat_le (blocks_of size) p) refl o.0 o.1 o.2

    cut_says : (x : PageChange) → cut_at p ≡ Some x → block_of_place p (cut size f) ≡ stored_block x.new
    cut_says x e = let o = cut_of x e in cut_new x o.0 o.1 o.2 (nat_le size (p * 4096)) refl o.3

    cut_old : (x : PageChange) → cut_at p ≡ Some x → x.old ≡ page_in p f
    cut_old x e = let o = cut_of x e in old_of (nat_le size (p * 4096)) o.3 ∙ ap (λ z. cond z None (Some (f.block p))) (sym o.2) where
      old_of : (lost : Bool) → drafted_page false lost ≡ Some x → x.old ≡ Some (f.block p)
      old_of true h = let y : from_to (Some (f.block p)) None ≡ x = cc in ap (λ (y : PageChange). y.old) (sym y)
      old_of false h = let y : from_to (Some (f.block p)) (Some (f.counter + 1, cut_page (size - p * 4096) (f.block p))) ≡ x = cc in ap (λ (y : PageChange). y.old) (sym y)

    -- of a place that is cut it says something
    cut_drafted : (age : ℕ) → IsCounted age f → is_cut_at size f p ≡ true → cut_at p ≡ None → ⊥
    cut_drafted age c h e =
        let w = cut_ways size f p h in
        let o = stood size f age p c w.0 in
        let r : (size < f.size) × (size / 4096 ≤ p) = elim w.1 [ inl l ↦ (omega (arith, l, o), omega (arith, l)) | inr s ↦ (s.0, (let q = s.1 in omega (arith, q))) ] in
        let a : nat_lt size f.size ≡ true = (let g = r.0 in grind (arith, nat_tests)) in
        let b : nat_lt p (size / 4096) ≡ false = (let g = r.1 in grind (arith, nat_tests)) in
        let k : nat_lt p (blocks_of f.size) ≡ true = grind (arith, nat_tests) in
        let z : (f.version p == 0) ≡ false = ne_eqb (f.version p) 0 w.0 in
        let d = sym (ap (λ x. cond (x && in_range (size / 4096) (blocks_of f.size) p) (page_cut size f p None) None) a ∙ ap (λ x. cond (not x && nat_lt p (blocks_of f.size)) (page_cut size f p None) None) b
        ∙ ap (λ x. cond x (page_cut size f p None) None) k ∙ ap (λ x. drafted_page x (nat_le size (p * 4096))) z) ∙ e in absurd (cc)

    cut_rest : (age : ℕ) → IsCounted age f → cut_at p ≡ None → is_cut_at size f p ≡ false
    cut_rest age c e = by (is_cut_at size f p) refl where
      by : (b : Bool) → is_cut_at size f p ≡ b → b ≡ false
      by true h = absurd (cut_drafted age c h e)
      by false h = refl

pub resizes_change_pages : ResizesChangePages
resizes_change_pages order t path size i f d c b p q begun begin a some says =
    let s = begun.pictured.sound in
    let at = by_file_id t (cut size) a.names i f a.inside s a.leads in
    let drawn = says (shown order t) (shown order t) f (pictured_file order t i f d c begun.pictured at.was) begin.shows in
    let w = resizes_change_blocks order t path size i f s begun.accepted a some in
    let is = cut_is size f (id_of i) p q begin.empty drawn in
    at_places i (cut_at size f) q is order t (Resize path size) p b f (is_cut_at size f) begin w.0 (λ k. blocks_stand order t i k f s at.was) (λ k x h. new k x h (cases_eq f.size size)) (cut_old size f) (cut_picked size f)
    (λ k h. cut_rest size f k t.age (file_counted t i f s at.was) h)
  where
    -- nothing is drafted where the length stays
    unsized : (k : ℕ) (x : PageChange) → f.size ≡ size → cut_at size f k ≡ Some x → ⊥
    unsized k x e h = let z : nat_lt size f.size ≡ false = grind (arith, nat_tests) in absurd (let r = sym (ap (λ y. cond (y && in_range (size / 4096) (blocks_of f.size) k) (page_cut size f k None) None) z) ∙ h in cc)

    new : (k : ℕ) (x : PageChange) → cut_at size f k ≡ Some x → (f.size ≡ size) ⊎ (f.size ≢ size) → shown order (stepped t (Resize path size)) (Block (id_of i) k) ≡ stored_block x.new
    new k x h (inl same) = absurd (unsized k x same h)
    new k x h (inr other) =
        let s = begun.pictured.sound in
        let e = resized_step t path i f a size begun.accepted some other in
        let at = by_file_id t (cut size) a.names i f a.inside s a.leads in
        ap (λ v. shown order v (Block (id_of i) k)) e ∙ blocks_stand order (filed (cut size) a.names t) i k (cut size f) (subst IsSound e (sound_kept t (Resize path size) s)) at.is ∙ cut_says size f k x h

-- ---- rows

pub rows_keep_pages : RowsKeepPages
rows_keep_pages order t request p b s o begin =
    let same = rows_keep_blocks order t request s o in let u = shown order (stepped t request) in
    let none : (n : Name) (x : PageChange) → change_of p n ≡ Some x → ⊥ = λ n x h. absurd (let e = begin.empty n in cc) in
    let changes : ChangesTo (shown order t) u p = record { changed = λ n x h. absurd (none n x h); others = λ n k h. kept same n k } in
    let shows : (e : Paged) → IsLanded p b e → Shows u e = λ e l. apply_shows (shown order t) u p b e begin.shows begin.kept changes l in
    (record { changes = changes; blocks = λ n x h. absurd (none n x h); differs = λ n x h. absurd (none n x h); was = λ n x h. absurd (none n x h); shows = shows }, shows b (λ n. sym (ap (λ x. landed_page x (held_page b n)) (begin.empty n)))) where
      kept : SameBlocks (shown order t) (shown order (stepped t request)) → (n : Name) → IsBlock n → shown order (stepped t request) n ≡ shown order t n
      kept same (Entry id) k = absurd k
      kept same (Part g l j) k = absurd k
      kept same (Block g p) k = same g p
