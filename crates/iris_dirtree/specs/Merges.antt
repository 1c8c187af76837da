-- The merge of two treaps that stand beside a row that is taken out.
use Rattle.std.specs.Prelude.{◌≡◌, ℕ, Bool, true, false, List, Option, Some, None}
use Rattle.iris_name.specs.Hmac.{priority}
use Rattle.iris_name.specs.declared.name.Name.{Name}
use Rattle.iris_node.specs.declared.node.Link.{Link}
use Rattle.iris_node.specs.Trees.{Shown}
use Rattle.iris_shape.specs.Treap.{Treap, merge, way}
use Rattle.iris_cache.specs.Resident.{Resident}
use Rattle.iris_cache.specs.Drafted.{Drafted}
use Rattle.iris_treepaths.specs.declared.paths.Crumb.{Crumb}
use Rattle.iris_dirtree.specs.declared.removing.Ranked.{Ranked}
use Rattle.iris_treepaths.specs.Crumbs.{Seated, LeadsToTop, AreCrumbs}
use Rattle.iris_dirtree.specs.Descents.{StandsBelow}
use Rattle.iris_treepaths.specs.Paths.{Frame, plug, IsAmong}
use Rattle.iris_treepaths.specs.Rows.{Row}

-- the link of a side, if there is one
abbrev pub ranked_link : Option Ranked → Option Link
ranked_link None = None
ranked_link (Some r) = Some r.link

-- its rank is the priority of the entry to which it leads, under an order key
abbrev pub IsRanked : List ℕ → Option Ranked → Type 0
IsRanked key None = Unit {0}
IsRanked key (Some r) = r.rank ≡ priority key r.link.id.0

-- On the way down two treaps that are to be merged to the treap u, crumbs were kept of the rows met, and links lead on.
pub record Merging (old new : Shown) (c : Resident) (home : Treap Row) (lasts : Name → Bool) (d : Drafted) (up : Row → Row → Bool) (met : List Row) (u : Treap Row) (kept : List Crumb) (less more : Option Link) : Type 0 where
  pub front : List Frame
  pub a : Treap Row
  pub b : Treap Row
  pub q : Name
  pub r : Name
  pub is : u ≡ plug front (merge up a b)
  pub crumbs : AreCrumbs old c home lasts d front kept
  pub left : StandsBelow old new c home lasts d q less a
  pub right : StandsBelow old new c home lasts d r more b
  pub met_less : (r : Row) → IsAmong r (way (λ _. true) a) → IsAmong r met
  pub met_more : (r : Row) → IsAmong r (way (λ _. false) b) → IsAmong r met

-- A link leads to what is left at the end, as a whole.
pub record IsMerged (old : Shown) (c : Resident) (home : Treap Row) (lasts : Name → Bool) (d : Drafted) (u : Treap Row) (kept : List Crumb) (link : Option Link) : Type 0 where
  pub front : List Frame
  pub rest : Treap Row
  pub q : Name
  pub is : u ≡ plug front rest
  pub crumbs : AreCrumbs old c home lasts d front kept
  pub leads : LeadsToTop old c link rest
  pub seated : Seated old c home lasts d q rest

-- a plan goes down two treaps that are to be merged, and meets these rows
pub record Merges (d : Drafted) (c : Resident) (up : Row → Row → Bool) (kept : List Crumb) (less more : Option Link) (old new : Shown) (met : List Row) : Type 0 where
  pub home : Treap Row
  pub lasts : Name → Bool
  pub u : Treap Row
  pub merging : Merging old new c home lasts d up met u kept less more
