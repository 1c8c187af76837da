-- What the definitions hold of, and what near by they don't.
use Rattle.std.proofs.Common.{◌≡◌, ◌≢◌, inr, ℕ, ◌+◌, ◌<◌, ◌≤◌, List, [], ◌∷◌, Bool, true, false, ◌||◌, ◌&&◌, cond, Option, Some, None, refl, ◌∙◌, ap, arith, sym, subst, IsSome}
use Rattle.std.specs.Prelude.{◌==◌, codes, nat_lt, not, IsSomeAnd}
use Rattle.std.specs.List.{IsDistinct}
use Rattle.std.proofs.lemmas.Bool.{eqb-true}
use Rattle.std.proofs.lemmas.Bool.Decides.{nat_tests}
use Rattle.iris_name.specs.declared.name.FileId.{FileId}
use Rattle.iris_name.specs.declared.name.Hash32.{Hash32}
use Rattle.iris_name.specs.declared.name.Name.{Name}
use Rattle.iris_name.specs.declared.name.Name.TheVariants.{Entry, Part, Block}
use Rattle.iris_name.specs.declared.request.Request.TheVariants.{Mkdir, Create, Write, Rename}
use Rattle.iris_name.specs.Names.{same_name}
use Rattle.iris_name.specs.Paths.{names_of}
use Rattle.sha2.specs.Sha256.{sha256}
use Rattle.iris_node.specs.declared.node.Body.TheVariants.{Dir}
use Rattle.iris_node.specs.declared.node.Link.{Link}
use Rattle.iris_node.specs.declared.node.Node.TheVariants as node
use Rattle.iris_node.specs.Trees.{Shown}
use Rattle.iris_node.specs.Unfolded.{Unfolded, Even, Stored, id_of}
use Rattle.iris_rows.specs.Changes.{after_requests, stepped, row_moved}
use Rattle.iris_records.specs.Records.{spelled}
use Rattle.iris_records.specs.Shown.{shown}
use Rattle.iris_rows.specs.Sound.{IsSound}
use Rattle.iris_rows.specs.FileChanges.{is_touched}
use Rattle.iris_rows.specs.Rows.{File, Rows, End, Row, Table, Taken, Found, Here, root_row, met, empty_table, empty_file, zeros}
use Rattle.iris_shape.specs.FoldLaws.{with_range_set}
use Rattle.iris_forest.proofs.Ids.{taken_eq}
use Rattle.iris_blocks.specs.declared.draft.PageChange.{PageChange}
use Rattle.iris_blocks.specs.Changes.{PageDrafted, from_to}
use Rattle.iris_blocks.specs.Laws.{ChangesEach}
use Rattle.iris_blocks.specs.Paged.{Paged, ArePagesSound, Shows, held_page}
use Rattle.iris_plain.specs.Checks.{blocks_of}
use Rattle.iris_files.specs.Cuts.{page_cut}
use Rattle.iris_files.specs.Pages.{AreOldsResident, is_block_in, page_written, place_of}
use Rattle.iris_files.specs.Refiles.{Filed}
use Rattle.iris_cache.specs.Resident.{Resident}
use Rattle.iris_cache.specs.declared.held.Held.{Held}
use Rattle.iris_cache.specs.Drafted.{Drafted, taken_away}
use Rattle.iris_cache.specs.Pictures.{Pictures}
use Rattle.iris_rows.proofs.SoundStep.{sound_kept, sound_empty}
use Rattle.iris_plan_laws.specs.Begun.{IsAtFile, IsPictured, PlanBegins}
use Rattle.iris_plan_laws.specs.Blocks.{SameBlocks, ChangesBlocks, AreAmong, is_cut_at, IsOfRows}
use Rattle.iris_plan_laws.specs.Fetches.{IsLinkedAbsent, CollidesIn}
use Rattle.iris_plan_laws.specs.FileChanges.{emptied_past}
use Rattle.iris_plan_laws.specs.Makes.{making}
use Rattle.iris_plan_laws.specs.PageChanges.{PagesBegin, PagesGoThrough, IsLanded, page_shown, SaysPagesWritten, SaysPagesResized}
use Rattle.iris_plan_laws.specs.Moves.{in_hand, left_below}
use Rattle.iris_plan_laws.specs.Steps.{IsEmptyContent}
use Rattle.iris_plan_laws.specs.Takes.{TakesOut, PutsIn}
use Rattle.iris_plan_laws.proofs.AcceptedRequests.{IsMove, accepted_move, moved_step}
use Rattle.iris_plan_laws.proofs.BlocksOfRows.{rows_keep_blocks}
use Rattle.iris_plan_laws.proofs.MovedRow.{HalvesOfMove, halves_of_move}
use Rattle.iris_plan_laws.proofs.ChangedPages.{pages_change_each}
use Rattle.iris_plan_laws.proofs.PagesOfSteps.{rows_keep_pages}

-- ---- new content

a_directory : IsEmptyContent None
a_directory = tt

no_bytes : IsEmptyContent (Some empty_file)
no_bytes = refl

one_byte : IsEmptyContent (Some (record { size = 1; counter = 0; version = λ p. 0; block = λ p. zeros })) → ⊥
one_byte h = let e : 1 ≡ 0 = ap (λ (f : File). f.size) h in absurd (omega (arith, e))

makings : (path : List ℕ) → (making true path ≡ Mkdir path) × (making false path ≡ Create path)
makings path = (refl, refl)

-- ---- where a path leads

abbrev written : Table
written = after_requests empty_table (Create (codes "/f") ∷ Write (codes "/f") 5000 (255 ∷ []) ∷ Mkdir (codes "/d") ∷ [])

abbrev file_of_row : Option File → File
file_of_row None = empty_file
file_of_row (Some f) = f

-- the file that names lead to, or an empty one
abbrev file_at_end : Found → File
file_at_end (Here row) = file_of_row row.file
file_at_end f = empty_file

at_file : IsAtFile written (codes "/f") 2 (file_at_end (met written (codes "f" ∷ [])))
unfolding names_of
at_file = record { names = codes "f" ∷ []; spelled = refl; inside = End; leads = refl }

some_names : (a b : List (List ℕ)) → Some a ≡ Some b → a ≡ b
some_names a b e = cc

-- a directory is no file
at_directory : (i : ℕ) (f : File) → IsAtFile written (codes "/") i f → ⊥
unfolding names_of
at_directory i f h =
    let e = some_names [] h.names h.spelled in
    let l : Here (root_row written) ≡ Here (record { id = i; file = Some f; inside = h.inside }) = ap (met written) e ∙ h.leads in
    let q = ap (λ (z : Taken). z.file) (taken_eq (root_row written) (record { id = i; file = Some f; inside = h.inside }) l) in absurd (cc)

-- ---- places that a change picks

-- a file of three blocks, whose second is a hole
abbrev version : ℕ → ℕ
version p = cond (p == 0) 1 (cond (p == 2) 3 0)

abbrev three : File
three = record { size = 10000; counter = 3; version = version; block = λ p. zeros }

-- cut inside the second block, which is a hole: only the third is lost
cut_in_hole : (is_cut_at 5000 three 0 ≡ false) × (is_cut_at 5000 three 1 ≡ false) × (is_cut_at 5000 three 2 ≡ true) × (is_cut_at 5000 three 3 ≡ false)
cut_in_hole = (refl, refl, refl, refl)

-- at the end of the first block it stays, and a byte less splits it
cut_at_edge : (is_cut_at 4096 three 0 ≡ false) × (is_cut_at 4095 three 0 ≡ true) × (is_cut_at 10000 three 2 ≡ false) × (is_cut_at 9999 three 2 ≡ true) × (is_cut_at 20000 three 2 ≡ false)
cut_at_edge = (refl, refl, refl, refl, refl)

-- the longest write at the end of a block touches 65 places
touches_most : (is_touched 4095 262144 0 ≡ true) × (is_touched 4095 262144 64 ≡ true) × (is_touched 4095 262144 65 ≡ false) × (is_touched 4096 262144 0 ≡ false) × (is_touched 4096 262144 64 ≡ true)
touches_most = (refl, refl, refl, refl, refl)

few_apart : AreAmong 3 (λ p. (p == 4) || (p == 6))
few_apart = (4, λ p e. (by p (p == 4) refl (p == 6) refl e)) where
  by : (p : ℕ) (a : Bool) → (p == 4) ≡ a → (b : Bool) → (p == 6) ≡ b → (a || b) ≡ true → (4 ≤ p) × (p < 4 + 3)
  by p true x b y e = let k : p ≡ 4 = grind (arith, nat_tests) in (omega (arith, k), omega (arith, k))
  by p false x true y e = let k : p ≡ 6 = grind (arith, nat_tests) in (omega (arith, k), omega (arith, k))
  by p false x false y e = absurd (cc)

too_far_apart : AreAmong 2 (λ p. (p == 4) || (p == 6)) → ⊥
too_far_apart h = let a = h.1 4 refl in let b = h.1 6 refl in absurd (let x = a.0 in let y = b.1 in omega (arith, x, y))

-- ---- blocks

-- a table with one block in this version
abbrev of_version : ℕ → Shown
of_version v (Entry id) = None
of_version v (Part file level index) = None
of_version v (Block file place) = cond (place == 7) (Some (Stored v zeros)) None

same : SameBlocks (of_version 1) (of_version 1)
same file place = refl

abbrev stored_version : Option Unfolded → ℕ
stored_version (Some (Stored v bytes)) = v
stored_version o = 0

other_version : SameBlocks (of_version 1) (of_version 2) → ⊥
other_version h = let e : 2 ≡ 1 = ap stored_version (h (id_of 3) 7) in absurd (omega (arith, e))

-- a change of another file's block is none of this file's alone
not_alone : ChangesBlocks (of_version 1) (of_version 2) (id_of 3) (λ p. p == 7) → ⊥
not_alone h = let e : 2 ≡ 1 = ap stored_version (h.others (id_of 4) 7 (λ q. (let k : 4 ≡ 3 = ap (λ (z : FileId). z.0) q in absurd (omega (arith, k))))) in absurd (omega (arith, e))

-- ---- a row in hand

abbrev leaf : Rows → Rows
leaf next = Row 3 (98 ∷ []) (Some empty_file) End next

abbrev outer : Rows
outer = Row 2 (97 ∷ []) None (leaf End) End

-- the row is missing below the directory where it stood, and nowhere else
missing : (left_below ((97 ∷ []) ∷ []) ((97 ∷ []) ∷ (98 ∷ []) ∷ []) (leaf End) ≡ End) × (left_below [] ((97 ∷ []) ∷ (98 ∷ []) ∷ []) outer ≡ Row 2 (97 ∷ []) None End End)
    × (left_below ((99 ∷ []) ∷ []) ((97 ∷ []) ∷ (98 ∷ []) ∷ []) (leaf End) ≡ leaf End)
missing = (refl, refl, refl)

hand_is : (in_hand ((97 ∷ []) ∷ (98 ∷ []) ∷ []) (record { id = 3; file = Some empty_file; inside = End }) (record { visible = outer; trash = End; hand = End; next = 4; age = 2 })).hand ≡ leaf End
hand_is = refl

-- ---- the file between the two steps of a cut

between : ((emptied_past 5000 three).size ≡ 10000) × ((emptied_past 5000 three).counter ≡ 3) × ((emptied_past 5000 three).version 0 ≡ 1) × ((emptied_past 5000 three).version 2 ≡ 0) × ((emptied_past 4096 three).version 0 ≡ 1)
    × ((emptied_past 0 three).version 0 ≡ 0)
unfolding with_range_set
between = (refl, refl, refl, refl, refl, refl)

of_rows : IsOfRows (Rename (codes "/a") (codes "/b"))
of_rows = tt

of_bytes : IsOfRows (Write (codes "/f") 0 []) → ⊥
of_bytes h = h

-- ---- how a plan begins

abbrev no_nodes : Resident
no_nodes = record { nodes = []; room = [] }

abbrev no_changes : Drafted
no_changes = record { changes = [] }

-- an empty cache pictures each table
pictures_all : (t : Shown) → Pictures t no_nodes
pictures_all t = record {
  nodes = λ n h e. absurd (cc);
  hashes = λ n m h x e. absurd (cc);
  parents = λ n p h e. absurd (cc);
  tied = λ n p h e. absurd (cc);
  rising = λ n p h g e. absurd (cc);
}

is_pictured : (order : List ℕ) → IsPictured order empty_table no_changes no_nodes
is_pictured order = record { sound = sound_empty; pictures = pictures_all (shown order empty_table); empty = λ n. refl }

-- with a change the draft isn't empty
with_a_change : (order : List ℕ) (c : Resident) → IsPictured order empty_table (record { changes = (Entry (id_of 2), taken_away) ∷ [] }) c → ⊥
with_a_change order c h = let e = h.empty (Entry (id_of 2)) in absurd (cc)

begins : (order : List ℕ) → PlanBegins order empty_table (Mkdir (codes "/a")) no_changes no_nodes
unfolding names_of
begins order = record { pictured = is_pictured order; accepted = refl }

-- the root is there already
begins_no_root : (order : List ℕ) (d : Drafted) (c : Resident) → PlanBegins order empty_table (Mkdir (codes "/")) d c → ⊥
unfolding names_of
begins_no_root order d c h = let e = h.accepted in absurd (cc)

-- ---- a row taken out, and put in

abbrev making_two : Table
making_two = after_requests empty_table (Mkdir (codes "/a") ∷ Create (codes "/a/f") ∷ [])

two_sound : IsSound making_two
two_sound = sound_kept (stepped empty_table (Mkdir (codes "/a"))) (Create (codes "/a/f")) (sound_kept empty_table (Mkdir (codes "/a")) sound_empty)

is_move : IsMove making_two (codes "a" ∷ codes "f" ∷ []) (codes "g" ∷ [])
unfolding names_of
is_move = accepted_move making_two (codes "/a/f") (codes "/g") (codes "a" ∷ codes "f" ∷ []) (codes "g" ∷ []) refl refl refl

moved_sound : IsSound (row_moved (codes "a" ∷ codes "f" ∷ []) (codes "g" ∷ []) making_two (Here is_move.row))
unfolding names_of
moved_sound =
    subst IsSound (moved_step making_two (codes "/a/f") (codes "/g") (codes "a" ∷ codes "f" ∷ []) (codes "g" ∷ []) is_move.row refl refl refl is_move.here) (sound_kept making_two (Rename (codes "/a/f") (codes "/g")) two_sound)

halves : HalvesOfMove making_two (codes "a" ∷ codes "f" ∷ []) (codes "g" ∷ []) is_move.row
halves = halves_of_move making_two (codes "a") (codes "f" ∷ []) (codes "g" ∷ []) is_move two_sound moved_sound

taken : TakesOut making_two (in_hand (codes "a" ∷ codes "f" ∷ []) is_move.row making_two) (codes "a" ∷ []) (codes "f") halves.out halves.rows is_move.row
taken = halves.takes

-- nothing is taken out where nothing is in hand
not_taken : (t : Table) (names : List (List ℕ)) (name : List ℕ) (i : ℕ) (rows : Rows) (row : Taken) → TakesOut t t names name i rows row → ⊥
not_taken t names name i rows row h = let e : End ≡ Row row.id name row.file row.inside End = sym h.empty ∙ h.hand in absurd (cc)

-- nor put in
not_put : (t : Table) (names : List (List ℕ)) (name label : List ℕ) (i : ℕ) (rows : Rows) (row : Taken) → PutsIn t t names name label i rows row → ⊥
not_put t names name label i rows row h = let e : End ≡ Row row.id name row.file row.inside End = sym h.empty ∙ h.hand in absurd (cc)

-- ---- drafts of pages

abbrev no_pages : PageDrafted
no_pages = record { changes = [] }

abbrev one_page : PageDrafted
one_page = record { changes = (Block (id_of 2) 0, from_to None (Some (1, zeros))) ∷ [] }

abbrev no_blocks : Paged
no_blocks = record { pages = []; room = [] }

blocks_kept : ArePagesSound no_blocks
unfolding IsDistinct
blocks_kept = record { once = tt; blocks = λ n h e. absurd (cc); empty = λ n e. absurd (cc); few = omega arith }

pages_begin : (order : List ℕ) → PagesBegin order empty_table no_pages no_blocks
pages_begin order = record { kept = blocks_kept; shows = λ n h e. absurd (cc); empty = λ n. refl }

-- a draft with a page has begun already
with_a_page : (order : List ℕ) → PagesBegin order empty_table one_page no_blocks → ⊥
with_a_page order h = let e = h.empty (Block (id_of 2) 0) in absurd (cc)

landed : IsLanded no_pages no_blocks no_blocks
landed n = refl

-- the page isn't there yet
not_landed : IsLanded one_page no_blocks no_blocks → ⊥
not_landed h = let e = h (Block (id_of 2) 0) in absurd (cc)

pages_through : (order : List ℕ) → PagesGoThrough order empty_table (Mkdir (codes "/a")) no_pages no_blocks
pages_through order = (rows_keep_pages order empty_table (Mkdir (codes "/a")) no_pages no_blocks sound_empty tt (pages_begin order)).0

-- a new directory gives no block a page
page_of_nothing : (order : List ℕ) → PagesGoThrough order empty_table (Mkdir (codes "/a")) one_page no_blocks → ⊥
unfolding shown
page_of_nothing order h =
    let a = h.changes.changed (Block (id_of 2) 0) (from_to None (Some (1, zeros))) refl in
    let b = rows_keep_blocks order empty_table (Mkdir (codes "/a")) sound_empty tt (id_of 2) 0 in
    let e : None ≡ Some (Stored 1 zeros) = sym b ∙ a in absurd (cc)

-- nor is an entry a block
page_of_an_entry : (order : List ℕ) → PagesGoThrough order empty_table (Mkdir (codes "/a")) (record { changes = (Entry (id_of 2), from_to None None) ∷ [] }) no_blocks → ⊥
page_of_an_entry order h = h.blocks (Entry (id_of 2)) (from_to None None) refl

-- a hole needs no resident block, and an old page does
olds_of_holes : AreOldsResident one_page no_blocks
olds_of_holes q change c old = by (same_name q (Block (id_of 2) 0)) c where
  by : (a : Bool) → cond a (Some (from_to None (Some (1, zeros)))) None ≡ Some change → IsSome (held_page no_blocks q)
  by true e = absurd (let k : from_to None (Some (1, zeros)) ≡ change = cc in let o : IsSome (from_to None (Some (1, zeros))).old = subst (λ (y : PageChange). IsSome y.old) (sym k) old in cc)
  by false e = absurd (cc)

old_absent : AreOldsResident (record { changes = (Block (id_of 2) 0, from_to (Some zeros) None) ∷ [] }) no_blocks → ⊥
old_absent h = let e = h (Block (id_of 2) 0) (from_to (Some zeros) None) refl refl in absurd (cc)

-- so a new directory changes each of no blocks
each_of_none : (order : List ℕ) → ChangesEach (shown order empty_table) (shown order (stepped empty_table (Mkdir (codes "/a")))) no_pages no_blocks
each_of_none order = pages_change_each order empty_table (Mkdir (codes "/a")) no_pages no_blocks sound_empty (pages_through order) (λ q change c. absurd (cc))

-- what is no block has no page, nor has a hole
pages_shown : (page_shown (Some (Stored 1 zeros)) ≡ Some zeros) × (page_shown (Some (Even 1)) ≡ None) × (page_shown None ≡ None)
pages_shown = (refl, refl, refl)

-- a write of a byte at the start of a file changes its first page
abbrev first_written : File → ℕ → Option PageChange
first_written f p = Some (page_written 0 (7 ∷ []) f p)

written_so : (d : Drafted) (c : Resident) (b : Paged) → ((old new : Shown) (f : File) → Filed old new (id_of 2) f d c → f ≡ three)
    → SaysPagesWritten (id_of 2) 0 (7 ∷ []) d c b no_pages (record { changes = (Block (id_of 2) 0, page_written 0 (7 ∷ []) three 0) ∷ [] })
written_so d c b one old new f h s (Entry id) = refl
written_so d c b one old new f h s (Part g l j) = refl
written_so d c b one old new f h s (Block g p) = by (g.0 == 2) (p == 0) refl ∙ ap (λ r. cond ((g.0 == 2) && r) (first_written f p) None) (at_start p) where
  at_start : (p : ℕ) → (p == 0) ≡ (not (nat_lt p 0) && nat_lt p 1)
  at_start p = let a : nat_lt p 0 ≡ false = grind (arith, nat_tests) in let k : nat_lt p 1 ≡ (p == 0) = grind (arith, nat_tests) in cc

  by : (a z : Bool) → (p == 0) ≡ z → cond (a && z) (first_written three 0) None ≡ cond (a && z) (first_written f p) None
  by true true e = ap (first_written three) (sym (eqb-true p 0 e)) ∙ ap (λ k. first_written k p) (sym (one old new f h))
  by true false e = refl
  by false z e = refl

-- it says something of the place that it touches
written_silently : (old new : Shown) (f : File) (d : Drafted) (c : Resident) (b : Paged) → Filed old new (id_of 2) f d c → Shows new b → SaysPagesWritten (id_of 2) 0 (7 ∷ []) d c b no_pages no_pages → ⊥
written_silently old new f d c b h s says = let e = says old new f h s (Block (id_of 2) 0) in absurd (cc)

-- a file that is filled up needs no page
filled_silently : (d : Drafted) (c : Resident) (b : Paged) → ((old new : Shown) (f : File) → Filed old new (id_of 2) f d c → nat_lt 4096 f.size ≡ false) → SaysPagesResized (id_of 2) 4096 d c b no_pages no_pages
filled_silently d c b short old new f h s n = ap (λ a. cond (a && is_block_in (id_of 2) 1 (blocks_of f.size) n) (page_cut 4096 f (place_of n) None) None) (sym (short old new f h))

-- one that loses a block says so
cut_silently : (old new : Shown) (d : Drafted) (c : Resident) (b : Paged) → Filed old new (id_of 2) three d c → Shows new b → SaysPagesResized (id_of 2) 4096 d c b no_pages no_pages → ⊥
cut_silently old new d c b h s says = let e = says old new three h s (Block (id_of 2) 2) in absurd (cc)

-- ---- a fetched node

-- the visible root, resident, with a hash of directory 2, which is absent
abbrev link_to_two : Link
link_to_two = record { id = id_of 2; hash = record { 0 = 7 ∷ [] }; blocks = 0 }

abbrev root_held : Held
root_held = record {
  parent = None;
  node = node.Entry (record { id = id_of 0; name = []; left = None; right = None; body = Dir (Some link_to_two) });
  pins = 0;
  dirty = false;
  settled = true;
  out = None;
  touched = false;
  kids = 0;
}

abbrev one_node : Resident
one_node = record { nodes = (Entry (id_of 0), root_held) ∷ []; room = [] }

is_linked : IsLinkedAbsent one_node (Entry (id_of 0)) (Entry (id_of 2)) (record { 0 = 7 ∷ [] })
is_linked = record { absent = refl; parent = root_held; resident = refl; holds = inr (inr (refl, refl)) }

-- a resident node isn't absent, and a parent that is absent holds nothing
resident_is_none : (p : Name) (x : Hash32) → IsLinkedAbsent one_node p (Entry (id_of 0)) x → ⊥
resident_is_none p x h = let e = h.absent in absurd (cc)

no_parent : (p n : Name) (x : Hash32) → IsLinkedAbsent no_nodes p n x → ⊥
no_parent p n x h = let e = h.resident in absurd (cc)

-- a record is no collision with itself, and nothing collides with a name that isn't live
no_collision : (order key : List ℕ) (t : Table) (n : Name) (u : Unfolded) → shown order t n ≡ Some u → CollidesIn order key t n (spelled key n u) → ⊥
no_collision order key t n u e h = (subst (λ o. IsSomeAnd o (λ w. (spelled key n u ≢ spelled key n w) × (sha256 (spelled key n u) ≡ sha256 (spelled key n w)))) e h).0 refl

no_live_name : (order key : List ℕ) (t : Table) (n : Name) (bytes : List ℕ) → shown order t n ≡ None → CollidesIn order key t n bytes → ⊥
no_live_name order key t n bytes e h = subst (λ o. IsSomeAnd o (λ u. (bytes ≢ spelled key n u) × (sha256 bytes ≡ sha256 (spelled key n u)))) e h

-- other bytes of its hash are one
a_collision : (order key : List ℕ) (t : Table) (n : Name) (u : Unfolded) (bytes : List ℕ) → shown order t n ≡ Some u → bytes ≢ spelled key n u → sha256 bytes ≡ sha256 (spelled key n u) → CollidesIn order key t n bytes
a_collision order key t n u bytes e a b = subst (λ o. IsSomeAnd o (λ w. (bytes ≢ spelled key n w) × (sha256 bytes ≡ sha256 (spelled key n w)))) (sym e) (a, b)
