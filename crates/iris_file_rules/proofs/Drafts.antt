-- A draft over cache and resident blocks moves every name as an entered call does, from the laws of each.
use Rattle.std.proofs.Common.{◌∷◌, Bool, Option, option_map}
use Rattle.iris_blocks.specs.Paged.{Paged, held_page, IsBlock}
use Rattle.iris_cache.proofs.Applying.{apply-keeps, apply-marks}
use Rattle.iris_cache.specs.Resident.{Resident, held_node}
use Rattle.iris_invariant.proofs.CellLaws.{nodes_are_held, nodes_move}
use Rattle.iris_invariant.proofs.Pages.{pages_are_held, pages_mark, pages_move}
use Rattle.iris_invariant.specs.Agrees.{Out}
use Rattle.iris_invariant.specs.Cells.{cell_of, cell_of_page, redoomed, held_touched, page_touched, touched_if}
use Rattle.iris_invariant.specs.Events.{Moved}
use Rattle.iris_mac.specs.declared.keys.Keys.{Keys}
use Rattle.iris_name.specs.declared.name.Name.{Name}
use Rattle.iris_name.specs.declared.name.Name.TheVariants.{Entry, Part, Block}
use Rattle.iris_name.specs.History.{Past, Stamped}
use Rattle.iris_node.specs.Trees.{IsNodeName}
use Rattle.iris_file_rules.specs.DraftLaws.{AreDrafted, FitsHeld, DraftsMove}
use Rattle.iris_file_rules.specs.FileTable.{files}
use Rattle.iris_file_rules.specs.Rules.{shown_after}
use Rattle.iris_file_rules.specs.TableLaws.{IsWellFormed}
use Rattle.iris_file_rules.proofs.SoundTables.{well_formed}

module _ (keys : Keys) (past : Past) (x : Stamped) (c e : Resident) (b f : Paged) (doomed : Name → Bool) (out : Name → Option Out)
    (g : AreDrafted (shown_after keys past) (shown_after keys (x ∷ past)) c e b f) (fit : FitsHeld c b doomed out) where
  before : IsWellFormed (shown_after keys past)
  before = well_formed keys past

  after : IsWellFormed (shown_after keys (x ∷ past))
  after = well_formed keys (x ∷ past)

  node_moves : (n : Name) → IsNodeName n
      → Moved (files keys) past x n (cell_of (held_node c n) (doomed n) (out n)) (cell_of (held_node e n) (redoomed (held_node c n) (held_node e n) (doomed n)) (option_map (touched_if (held_touched (held_node c n) (held_node e n))) (out n)))
  node_moves n is = nodes_move (files keys) past x n (held_node c n) (held_node e n) (doomed n) (out n)
      (nodes_are_held (shown_after keys past) (shown_after keys (x ∷ past)) g.draft c e n (doomed n) g.drafts (g.lands n)
      (apply-keeps (shown_after keys past) (shown_after keys (x ∷ past)) g.draft c e g.drafts before.tree after.tree before.formed after.formed g.lands) is (fit.nodes n is).1)
      (fit.nodes n is).0
      (apply-marks (shown_after keys past) (shown_after keys (x ∷ past)) g.draft c e g.drafts before.tree after.tree before.formed after.formed before.apart g.lands n is)

  block_moves : (n : Name) → IsBlock n
      → Moved (files keys) past x n (cell_of_page (held_page b n) (doomed n) (out n)) (cell_of_page (held_page f n) (redoomed (held_page b n) (held_page f n) (doomed n)) (option_map (touched_if (page_touched (held_page b n) (held_page f n))) (out n)))
  block_moves n is = pages_move (files keys) past x n (held_page b n) (held_page f n) (doomed n) (out n)
      (pages_are_held (shown_after keys past) (shown_after keys (x ∷ past)) g.pages b f n (doomed n) g.shows g.changes g.landed is (fit.blocks n is).1)
      (fit.blocks n is).0
      (pages_mark (shown_after keys past) (shown_after keys (x ∷ past)) g.pages b f g.changes g.landed n is)

pub drafts_move : DraftsMove
drafts_move keys past x c e b f doomed out g fit (Entry i) = node_moves keys past x c e b f doomed out g fit (Entry i) tt
drafts_move keys past x c e b f doomed out g fit (Part h l i) = node_moves keys past x c e b f doomed out g fit (Part h l i) tt
drafts_move keys past x c e b f doomed out g fit (Block h p) = block_moves keys past x c e b f doomed out g fit (Block h p) tt
