-- The laws of cells, from the lemmas on nodes, pages and pins.
use Rattle.std.proofs.Common.{◌≡◌, refl}
use Rattle.iris_history.specs.Kept.{Kept}
use Rattle.iris_invariant.specs.CellLaws as l
use Rattle.iris_invariant.specs.Events.{Pinned, Inserted}
use Rattle.iris_invariant.proofs.Cache.{node_moved, finished_so, unknown_stays, tied_moved, tied_new}
use Rattle.iris_invariant.proofs.Drafts.{drafts_was, drafts_is, pictured_gone}
use Rattle.iris_invariant.proofs.Pins.{pinned_own, pinned_here, pinned_elsewhere, unpinned_is}

pub nodes_are_held : l.NodesAreHeld
nodes_are_held old new d c e n doomed ds lands pictures node listed = record {
  before = λ ne live. drafts_was old new d c e n ds node ne live;
  after = λ ne live. drafts_is old new d c e n ds node ne lands live;
  gone = λ g. pictured_gone new e n pictures g;
  listed = listed;
}

pub nodes_move : (k : Kept) → l.NodesMove k
nodes_move k past x n g h doomed out s t left = node_moved k past x n g h doomed out left s.before s.after s.gone s.listed t

pub nodes_end : l.NodesEnd
nodes_end = record { known = finished_so; unknown = unknown_stays }

pub nodes_stay_tied : l.NodesStayTied
nodes_stay_tied = record { moves = λ t u n g h out left tied. tied_moved (u n ≡ t n) g h out left tied; begins = tied_new }

pub nodes_bring : l.NodesBring
nodes_bring = record {
  inserted = λ who kids parent node doomed out pinned. Inserted refl refl refl refl (pinned_own who);
  pinned = λ who touched h doomed out. Pinned refl refl refl (pinned_here who h.pins) (λ w ne. pinned_elsewhere who w h.pins ne);
}

pub pages_bring : l.PagesBring
pages_bring = record {
  inserted = λ who version page doomed out pinned. Inserted refl refl refl refl (pinned_own who);
  pinned = λ who touched h doomed out. Pinned refl refl refl (pinned_here who h.pins) (λ w ne. pinned_elsewhere who w h.pins ne);
}

pub unpins_take_one : l.UnpinsTakeOne
unpins_take_one who w h p lw le = (unpinned_is who w h.pins lw le, unpinned_is who w p.pins lw le)
