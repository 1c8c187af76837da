-- What the invariant sees of a name once drafts are made is what cache, blocks and desks make of it.
use Rattle.std.proofs.Common.{◌≡◌, Bool, Option, Some, None, refl, ap, ◌∙◌}
use Rattle.std.specs.Option.{option_map}
use Rattle.iris_blocks.specs.declared.held.PageHeld.{PageHeld}
use Rattle.iris_blocks.specs.Paged.{held_page}
use Rattle.iris_cache.specs.declared.held.Held.{Held}
use Rattle.iris_cache.specs.Resident.{held_node}
use Rattle.iris_desk.specs.AtDesks.{is_doomed}
use Rattle.iris_invariant.specs.Agrees.{Out}
use Rattle.iris_invariant.specs.Cells.{cell_of, cell_of_page, held_touched, page_touched, redoomed, touched_if}
use Rattle.iris_name.specs.declared.name.Name.TheVariants.{Entry, Part, Block}
use Rattle.iris_pool.specs.Landing.{CellsLand, SameButPins, SamePageButPins}
use Rattle.iris_pool.specs.View.{out_seen}

-- pins change nothing of a cell, of what is doomed and of what is touched
cell_same : (a g h : Option Held) (x : Bool) (o : Option Out) → SameButPins g h
    → cell_of h (redoomed a h x) (option_map (touched_if (held_touched a h)) o) ≡ cell_of g (redoomed a g x) (option_map (touched_if (held_touched a g)) o)
cell_same a None None x o s = refl
cell_same a None (Some h) x o s = absurd s
cell_same a (Some g) None x o s = absurd s
cell_same a (Some g) (Some h) x o s = ap (λ (k : Held). cell_of (Some k) (redoomed a (Some k) x) (option_map (touched_if (held_touched a (Some k))) o)) s ∙ by a where
  by : (a : Option Held) → cell_of (Some (record g { pins = h.pins })) (redoomed a (Some (record g { pins = h.pins })) x) (option_map (touched_if (held_touched a (Some (record g { pins = h.pins })))) o)
      ≡ cell_of (Some g) (redoomed a (Some g) x) (option_map (touched_if (held_touched a (Some g))) o)
  by None = refl
  by (Some b) = refl

page_cell_same : (a g h : Option PageHeld) (x : Bool) (o : Option Out) → SamePageButPins g h
    → cell_of_page h (redoomed a h x) (option_map (touched_if (page_touched a h)) o) ≡ cell_of_page g (redoomed a g x) (option_map (touched_if (page_touched a g)) o)
page_cell_same a None None x o s = refl
page_cell_same a None (Some h) x o s = absurd s
page_cell_same a (Some g) None x o s = absurd s
page_cell_same a (Some g) (Some h) x o s = ap (λ (k : PageHeld). cell_of_page (Some k) (redoomed a (Some k) x) (option_map (touched_if (page_touched a (Some k))) o)) s ∙ by a where
  by : (a : Option PageHeld) → cell_of_page (Some (record g { pins = h.pins })) (redoomed a (Some (record g { pins = h.pins })) x) (option_map (touched_if (page_touched a (Some (record g { pins = h.pins })))) o)
      ≡ cell_of_page (Some g) (redoomed a (Some g) x) (option_map (touched_if (page_touched a (Some g))) o)
  by None = refl
  by (Some b) = refl

pub cells_land : CellsLand
cells_land key d e p q l (Entry i) = (ap (λ x. cell_of (held_node q.nodes (Entry i)) x (out_seen key q.desks (Entry i))) (l.doomed (Entry i))
    ∙ ap (λ o. cell_of (held_node q.nodes (Entry i)) (redoomed (held_node p.nodes (Entry i)) (held_node q.nodes (Entry i)) (is_doomed p.desks (Entry i))) o) (l.out key (Entry i)))
    ∙ cell_same (held_node p.nodes (Entry i)) (held_node l.middle (Entry i)) (held_node q.nodes (Entry i)) (is_doomed p.desks (Entry i)) (out_seen key p.desks (Entry i)) (l.nodes (Entry i))
cells_land key d e p q l (Part f v i) = (ap (λ x. cell_of (held_node q.nodes (Part f v i)) x (out_seen key q.desks (Part f v i))) (l.doomed (Part f v i))
    ∙ ap (λ o. cell_of (held_node q.nodes (Part f v i)) (redoomed (held_node p.nodes (Part f v i)) (held_node q.nodes (Part f v i)) (is_doomed p.desks (Part f v i))) o) (l.out key (Part f v i)))
    ∙ cell_same (held_node p.nodes (Part f v i)) (held_node l.middle (Part f v i)) (held_node q.nodes (Part f v i)) (is_doomed p.desks (Part f v i)) (out_seen key p.desks (Part f v i)) (l.nodes (Part f v i))
cells_land key d e p q l (Block f s) = (ap (λ x. cell_of_page (held_page q.pages (Block f s)) x (out_seen key q.desks (Block f s))) (l.doomed (Block f s))
    ∙ ap (λ o. cell_of_page (held_page q.pages (Block f s)) (redoomed (held_page p.pages (Block f s)) (held_page q.pages (Block f s)) (is_doomed p.desks (Block f s))) o) (l.out key (Block f s)))
    ∙ page_cell_same (held_page p.pages (Block f s)) (held_page l.middle_pages (Block f s)) (held_page q.pages (Block f s)) (is_doomed p.desks (Block f s)) (out_seen key p.desks (Block f s)) (l.pages (Block f s))
