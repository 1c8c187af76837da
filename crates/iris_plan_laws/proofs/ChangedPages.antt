-- What goes through changes each block that it drafts, since each that lives was resident.
use Rattle.std.proofs.Common.{◌≡◌, Option, Some, None, refl, sym, subst, IsSome}
use Rattle.iris_name.specs.declared.name.Name.{Name}
use Rattle.iris_name.specs.declared.name.Name.TheVariants.{Entry, Part, Block}
use Rattle.iris_node.specs.Unfolded.{Unfolded, Absent, Folder, Leaf, Even, Split, Stored}
use Rattle.iris_blocks.specs.declared.draft.PageChange.{PageChange}
use Rattle.iris_blocks.specs.Changes.{change_of}
use Rattle.iris_blocks.specs.Paged.{IsBlock, held_page}
use Rattle.iris_records.specs.Shown.{shown}
use Rattle.iris_table_laws.proofs.NodesInTrees.{IsStored}
use Rattle.iris_table_laws.proofs.TreeOfTable.{shown_stands}
use Rattle.iris_plan_laws.specs.PageChanges.{page_shown, PagesChangeEach}

-- a block that lives has a page
has_page : (u : Unfolded) → IsStored u → IsSome (page_shown (Some u))
has_page (Stored version bytes) s = refl
has_page Absent s = absurd s
has_page (Folder id name less more inside) s = absurd s
has_page (Leaf id name less more size counter versions) s = absurd s
has_page (Even version) s = absurd s
has_page (Split file level index low high) s = absurd s

pub pages_change_each : PagesChangeEach
pages_change_each order t request p b s g olds = record { to = g.changes; differs = g.differs; held = held } where
  page_there : (n : Name) → IsBlock n → IsSome (shown order t n) → IsSome (page_shown (shown order t n))
  page_there (Entry i) k live = absurd k
  page_there (Part f l i) k live = absurd k
  page_there (Block f q) k live = by (shown order t (Block f q)) refl live where
    by : (o : Option Unfolded) → shown order t (Block f q) ≡ o → IsSome o → IsSome (page_shown o)
    by None e live = live
    by (Some u) e live = has_page u (shown_stands order t (Block f q) u s.hand e)

  held : (n : Name) (change : PageChange) → change_of p n ≡ Some change → IsSome (shown order t n) → IsSome (held_page b n)
  held n change c live = olds n change c (subst IsSome (sym (g.was n change c)) (page_there n (g.blocks n change c) live))
