-- Each step keeps all that is sound.
use Rattle.iris_name.specs.declared.request.Request.{Request}
use Rattle.iris_rows.specs.Rows.{Table, empty_table}
use Rattle.iris_rows.specs.Changes.{stepped}
use Rattle.iris_rows.specs.Sound.{IsSound, IsOrdered, IsTrash}
use Rattle.iris_rows.proofs.Steady.{Steady, steady}
use Rattle.iris_rows.proofs.SteadyStep.{steady_kept, steady_empty}
use Rattle.iris_rows.proofs.OrderedStep.{ordered_kept}
use Rattle.iris_rows.proofs.TrashNames.{trash_kept}
use Rattle.iris_rows.proofs.FileLengths.{Short, short_kept}

with_names : (t : Table) → Steady t → Short t → IsOrdered t.visible → IsTrash t.trash → IsSound t
with_names t s f o d = record { distinct = s.distinct; good = s.good; trash_good = s.trash_good; counted = s.counted; trash_counted = s.trash_counted; once = s.once; hand = s.hand; first = s.first; next = s.next; age = s.age; short = f.0; trash_short = f.1; ordered = o; trash_ordered = d }

-- the next table is sound
pub sound_kept : (t : Table) (r : Request) → IsSound t → IsSound (stepped t r)
sound_kept t r s = let k = steady t s in with_names (stepped t r) (steady_kept t r k) (short_kept t r (s.short, s.trash_short)) (ordered_kept t r k s.ordered) (trash_kept t r k s.ordered s.trash_ordered)

-- the table of the beginning is sound
pub sound_empty : IsSound empty_table
sound_empty = with_names empty_table steady_empty (tt, tt) tt tt
