-- The end of an insertion and of a removal: rows in their places, and then the counts above.
use Rattle.std.proofs.Common.{◌≡◌, ℕ, Bool, List, Option, Some, None}
use Rattle.std.specs.Prelude.{IsSome}
use Rattle.iris_name.specs.declared.name.FileId.{FileId}
use Rattle.iris_name.specs.declared.name.Name.TheVariants as name
use Rattle.iris_node.specs.Trees.{Shown, IsTree}
use Rattle.iris_shape.specs.Treap.{treap, rows_with, rows_without}
use Rattle.iris_cache.specs.Resident.{Resident}
use Rattle.iris_cache.specs.Drafted.{Drafted, seen}
use Rattle.iris_cache.specs.Pictures.{Drafts}
use Rattle.iris_treepaths.specs.Hands.{Holding}
use Rattle.iris_treepaths.specs.Lags.{Lags}
use Rattle.iris_treepaths.specs.Needs.{Listed, ListedInHand}
use Rattle.iris_treepaths.specs.Planted.{Planted}
use Rattle.iris_treepaths.specs.Rows.{Row, Rearranges, IsCountable, up}
use Rattle.iris_treepaths.specs.Ways.{Any, has_name}
use Rattle.iris_treepaths.proofs.Assembly.{moves_in, moves_out, assembled}

-- what the setting right of counts above a child ensures
abbrev pub SetsCounts : FileId → Drafted → Drafted → Resident → Type 0
SetsCounts child e f c = (old new made : Shown) (hand : Option Row) → IsTree new → IsTree made → IsCountable made → Lags old new made hand (name.Entry child) e c → Holding old made hand f c

pub inserted : (old new made : Shown) (key : List ℕ) (dir : FileId) (p : Row → Bool) (x : Row) (rows : List Row) (d e f : Drafted) (c : Resident) → ListedInHand key dir x d c old new rows → IsTree made → IsCountable made
    → Rearranges new made key dir rows (rows_with p x rows) → IsSome (seen d c (name.Entry dir)) → Planted old dir (treap (up key) rows) (treap (up key) (rows_with p x rows)) d e c → SetsCounts dir e f c → Drafts old made f c
inserted old new made key dir p x rows d e f c listed made_is countable rearranges there planted sets =
    sets old new made None listed.is made_is countable
    (assembled old new made (Some x) None key dir rows (rows_with p x rows) d e c listed.hand listed.is made_is listed.rows_are rearranges (moves_in p x rows rearranges.rows.distinct) there planted)

pub removed : (old new made : Shown) (key : List ℕ) (dir : FileId) (x : Row) (rows : List Row) (d e f : Drafted) (c : Resident) → Listed key dir d c old new rows → Any (λ r. r ≡ x) rows → IsTree made → IsCountable made
    → Rearranges new made key dir rows (rows_without (has_name x.name) rows) → IsSome (seen d c (name.Entry dir)) → Planted old dir (treap (up key) rows) (treap (up key) (rows_without (has_name x.name) rows)) d e c → SetsCounts dir e f c → Holding old made (Some x) f c
removed old new made key dir x rows d e f c listed in_rows made_is countable rearranges there planted sets =
    sets old new made (Some x) listed.is made_is countable
    (assembled old new made None (Some x) key dir rows (rows_without (has_name x.name) rows) d e c listed.drafts listed.is made_is listed.rows_are rearranges
    (moves_out x rows listed.rows_are.rising listed.rows_are.distinct in_rows) there planted)
