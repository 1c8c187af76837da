-- A draft over cache and resident blocks, once it is made, moves every name of the file system as an entered call does, as a
-- statement.
use Rattle.std.specs.Prelude.{◌≡◌, ◌∷◌, Bool, false, Option, IsSome, option_map}
use Rattle.iris_blocks.specs.Changes.{PageDrafted, change_of, landed_page}
use Rattle.iris_blocks.specs.Laws.{ChangesEach}
use Rattle.iris_blocks.specs.Paged.{Paged, held_page, IsBlock, Shows}
use Rattle.iris_cache.specs.Applied.{Lands}
use Rattle.iris_cache.specs.Drafted.{Drafted}
use Rattle.iris_cache.specs.Pictures.{Drafts}
use Rattle.iris_cache.specs.Resident.{Resident, held_node}
use Rattle.iris_invariant.specs.Agrees.{Out, Cell}
use Rattle.iris_invariant.specs.Cells.{cell_at, doomed_at, is_touched_at, touched_if, Tied, TiedPage}
use Rattle.iris_invariant.specs.Events.{Moved}
use Rattle.iris_mac.specs.declared.keys.Keys.{Keys}
use Rattle.iris_name.specs.declared.name.Name.{Name}
use Rattle.iris_name.specs.History.{Past, Stamped}
use Rattle.iris_node.specs.Trees.{Shown, IsNodeName}
use Rattle.iris_file_rules.specs.FileTable.{files}
use Rattle.iris_file_rules.specs.Rules.{shown_after}

-- Cache and resident blocks before, which picture and show the table, and what `apply` makes of each by drafts that lead to the
-- table after.
pub record AreDrafted (t u : Shown) (c e : Resident) (b f : Paged) : Type 0 where
  pub draft : Drafted
  pub pages : PageDrafted
  pub drafts : Drafts t u draft c
  pub lands : (q : Name) → Lands draft c e q
  pub shows : Shows t b
  pub changes : ChangesEach t u pages b
  pub landed : (q : Name) → held_page f q ≡ landed_page (change_of pages q) (held_page b q)

-- What is out is tied to what is held, and what is held isn't listed as doomed.
pub record FitsHeld (c : Resident) (b : Paged) (doomed : Name → Bool) (out : Name → Option Out) : Type 0 where
  pub nodes : (n : Name) → IsNodeName n → Tied (held_node c n) (out n) × (IsSome (held_node c n) → doomed n ≡ false)
  pub blocks : (n : Name) → IsBlock n → TiedPage (held_page b n) (out n) × (IsSome (held_page b n) → doomed n ≡ false)

-- the cell of each name before, and after
abbrev pub cell_before : Resident → Paged → (Name → Bool) → (Name → Option Out) → Name → Cell
cell_before c b doomed out n = cell_at n (held_node c n) (held_page b n) (doomed n) (out n)

abbrev pub cell_after : Resident → Resident → Paged → Paged → (Name → Bool) → (Name → Option Out) → Name → Cell
cell_after c e b f doomed out n = cell_at n (held_node e n) (held_page f n) (doomed_at n (held_node c n) (held_node e n) (held_page b n) (held_page f n) (doomed n))
    (option_map (touched_if (is_touched_at n (held_node c n) (held_node e n) (held_page b n) (held_page f n))) (out n))

abbrev pub DraftsMove : Type 0
DraftsMove = (keys : Keys) (past : Past) (x : Stamped) (c e : Resident) (b f : Paged) (doomed : Name → Bool) (out : Name → Option Out)
    → AreDrafted (shown_after keys past) (shown_after keys (x ∷ past)) c e b f → FitsHeld c b doomed out
    → (n : Name) → Moved (files keys) past x n (cell_before c b doomed out n) (cell_after c e b f doomed out n)
