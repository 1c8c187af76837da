-- What a step keeps by itself of all that is sound: all but the order of names.
use Rattle.std.proofs.Common.{◌≡◌, ◌+◌, ◌≤◌, ◌^◌}
use Rattle.iris_rows.specs.Rows.{End, Table}
use Rattle.iris_rows.specs.Sound.{IsDistinct, AreGood, IsCounted, AllFiles, AreOnce, IsSound}

pub record Steady (t : Table) : Type 0 where
  pub distinct : IsDistinct t.visible
  pub good : AreGood t.visible
  pub trash_good : AreGood t.trash
  pub counted : AllFiles (IsCounted t.age) t.visible
  pub trash_counted : AllFiles (IsCounted t.age) t.trash
  pub once : AreOnce t
  pub hand : t.hand ≡ End
  pub first : 2 ≤ t.next
  pub next : t.next ≤ t.age + 2
  pub age : t.age ≤ 2 ^ 40

pub steady : (t : Table) → IsSound t → Steady t
steady t s = record { distinct = s.distinct; good = s.good; trash_good = s.trash_good; counted = s.counted; trash_counted = s.trash_counted; once = s.once; hand = s.hand; first = s.first; next = s.next; age = s.age }
