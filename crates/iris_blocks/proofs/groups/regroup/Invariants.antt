use Rattle.std.proofs.Common.{◌≡◌, ◌≤◌, length}
use Rattle.indexmap.specs.IndexMap.{IsUnique, spare, get}
use Rattle.iris_name.specs.Names.{same_name}
use Rattle.iris_name.specs.declared.name.Name.{Name}
use Rattle.iris_blocks.specs.Groups.{AreGroupedTo}
use Rattle.iris_blocks.proofs.groups.regroup.Given as goal

-- the groups stand as far as the entry at i, and nothing that is held has changed
abbrev pub invariant-loop-i : goal.invariant-loop-i
invariant-loop-i l = record {
  grouped : AreGroupedTo l.pages.entries l.ends l.i;
  same : (q : Name) → get same_name l.pages q ≡ get same_name l.initial.pages q;
  count : length l.pages.entries ≡ length l.initial.pages.entries;
  spare : spare l.initial.pages ≤ spare l.pages;
  unique : IsUnique same_name l.initial.pages → IsUnique same_name l.pages;
}
