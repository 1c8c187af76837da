-- The resident blocks go through a request: what it makes of them is what its plan leaves in a draft of pages.
use Rattle.std.specs.Prelude.{◌≡◌, ◌≢◌, ◌&&◌, ◌+◌, ◌-◌, ◌/◌, ◌<◌, ℕ, List, length, Option, Some, None, cond, nat_lt}
use Rattle.iris_name.specs.declared.name.FileId.{FileId}
use Rattle.iris_name.specs.declared.name.Name.{Name}
use Rattle.iris_name.specs.declared.request.Request.{Request}
use Rattle.iris_name.specs.declared.request.Request.TheVariants.{Write, Resize}
use Rattle.iris_node.specs.Trees.{Shown}
use Rattle.iris_node.specs.Unfolded.{Unfolded, Stored, id_of}
use Rattle.iris_cache.specs.Drafted.{Drafted}
use Rattle.iris_cache.specs.Resident.{Resident}
use Rattle.iris_blocks.specs.declared.draft.PageChange.{PageChange}
use Rattle.iris_blocks.specs.Changes.{PageDrafted, change_of, landed_page}
use Rattle.iris_blocks.specs.Laws.{ChangesEach, ChangesTo}
use Rattle.iris_blocks.specs.Paged.{Paged, ArePagesSound, IsBlock, Shows, held_page}
use Rattle.iris_plain.specs.Checks.{blocks_of}
use Rattle.iris_rows.specs.Changes.{stepped}
use Rattle.iris_rows.specs.Rows.{File, Table}
use Rattle.iris_rows.specs.Sound.{IsSound}
use Rattle.iris_records.specs.Shown.{shown}
use Rattle.iris_files.specs.Cuts.{page_cut}
use Rattle.iris_files.specs.Pages.{AreOldsResident, is_block_in, page_written, place_of}
use Rattle.iris_files.specs.Refiles.{Filed}
use Rattle.iris_plan_laws.specs.Begun.{PlanBegins, IsAtFile}
use Rattle.iris_plan_laws.specs.Blocks.{IsOfRows}

-- The resident blocks show a table, and the draft of pages is empty.
pub record PagesBegin (order : List ℕ) (t : Table) (p : PageDrafted) (b : Paged) : Type 0 where
  pub kept : ArePagesSound b
  pub shows : Shows (shown order t) b
  pub empty : (n : Name) → change_of p n ≡ None

-- the resident blocks once a draft of pages is made
abbrev pub IsLanded : PageDrafted → Paged → Paged → Type 0
IsLanded p b e = (n : Name) → held_page e n ≡ landed_page (change_of p n) (held_page b n)

-- the page of what stands for a block, none where it is a hole
abbrev pub page_shown : Option Unfolded → Option (List ℕ)
page_shown (Some (Stored version page)) = Some page
page_shown _ = None

-- The draft of pages changes the blocks that the request changes, and none besides, and tells the page that each was. Once it is made, the resident blocks show the table after the request.
pub record PagesGoThrough (order : List ℕ) (t : Table) (request : Request) (p : PageDrafted) (b : Paged) : Type 0 where
  pub changes : ChangesTo (shown order t) (shown order (stepped t request)) p
  pub blocks : (n : Name) (change : PageChange) → change_of p n ≡ Some change → IsBlock n
  pub differs : (n : Name) (change : PageChange) → change_of p n ≡ Some change → shown order (stepped t request) n ≢ shown order t n
  pub was : (n : Name) (change : PageChange) → change_of p n ≡ Some change → change.old ≡ page_shown (shown order t n)
  pub shows : (e : Paged) → IsLanded p b e → Shows (shown order (stepped t request)) e

-- what the plan that writes says of the draft of pages at its end
abbrev pub SaysPagesWritten : FileId → ℕ → List ℕ → Drafted → Resident → Paged → PageDrafted → PageDrafted → Type 0
SaysPagesWritten file offset bytes d c b p q = (old new : Shown) → (f : File) → Filed old new file f d c → Shows new b
    → (n : Name) → change_of q n ≡ cond (is_block_in file (offset / 4096) ((offset + length bytes - 1) / 4096 + 1) n) (Some (page_written offset bytes f (place_of n))) (change_of p n)

-- what a plan writes goes through the blocks
abbrev pub WritesChangePages : Type 0
WritesChangePages = (order : List ℕ) (t : Table) (path : List ℕ) (offset : ℕ) (bytes : List ℕ) (i : ℕ) (f : File) (d : Drafted) (c : Resident) (b : Paged) (p q : PageDrafted)
    → PlanBegins order t (Write path offset bytes) d c → PagesBegin order t p b → IsAtFile t path i f → 0 < length bytes
    → SaysPagesWritten (id_of i) offset bytes d c b p q → PagesGoThrough order t (Write path offset bytes) q b

-- what the plan that cuts or fills says of the draft of pages at its end
abbrev pub SaysPagesResized : FileId → ℕ → Drafted → Resident → Paged → PageDrafted → PageDrafted → Type 0
SaysPagesResized file size d c b p q = (old new : Shown) → (f : File) → Filed old new file f d c → Shows new b
    → (n : Name) → change_of q n ≡ cond (nat_lt size f.size && is_block_in file (size / 4096) (blocks_of f.size) n) (page_cut size f (place_of n) (change_of p n)) (change_of p n)

-- what a plan cuts or fills up, to a length above 0, goes through the blocks
abbrev pub ResizesChangePages : Type 0
ResizesChangePages = (order : List ℕ) (t : Table) (path : List ℕ) (size i : ℕ) (f : File) (d : Drafted) (c : Resident) (b : Paged) (p q : PageDrafted)
    → PlanBegins order t (Resize path size) d c → PagesBegin order t p b → IsAtFile t path i f → 0 < size
    → SaysPagesResized (id_of i) size d c b p q → PagesGoThrough order t (Resize path size) q b

-- a request that makes or moves rows goes through the blocks with nothing drafted, and those that are resident show the table after it as they are
abbrev pub RowsKeepPages : Type 0
RowsKeepPages = (order : List ℕ) (t : Table) (request : Request) (p : PageDrafted) (b : Paged) → IsSound t → IsOfRows request → PagesBegin order t p b
    → PagesGoThrough order t request p b × Shows (shown order (stepped t request)) b

-- what goes through changes each block that it drafts, which was resident or a hole, where each is resident of which it has an old page
abbrev pub PagesChangeEach : Type 0
PagesChangeEach = (order : List ℕ) (t : Table) (request : Request) (p : PageDrafted) (b : Paged) → IsSound t → PagesGoThrough order t request p b → AreOldsResident p b
    → ChangesEach (shown order t) (shown order (stepped t request)) p b
