use Rattle.std.proofs.Common.{◌≤◌, ◌+◌, is_some}
use Rattle.iris_blocks.specs.Changes.{change_of}
use Rattle.iris_blocks.specs.Paged.{held_page}
use Rattle.iris_pool.specs.Filing.{is_page_held_after}
use Rattle.iris_pool.proofs.FiledNames.{FilesTo}
use Rattle.iris_pool.proofs.landing.file_pages.Given as goal

-- the first blocks are filed, and there is room for as many fewer
abbrev pub invariant-loop-i : goal.invariant-loop-i
invariant-loop-i l = record {
  files : FilesTo (λ q. is_some (held_page l.blocks q)) (λ q. is_page_held_after (change_of l.pages q) (is_some (held_page l.blocks q))) l.pages.changes l.i l.initial.desks l.desks;
  room : l.initial.desks.room ≤ l.desks.room + l.i;
}
