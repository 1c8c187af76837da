-- Drafts over cache and resident blocks that `drafts_move` speaks of, and near by what isn't one.
use Rattle.std.proofs.Common.{◌≡◌, [], ◌∷◌, Bool, false, true, Option, Some, None, refl, ◌∙◌, ap}
use Rattle.std.specs.Prelude.{option_map}
use Rattle.iris_mac.specs.declared.keys.Keys.{Keys}
use Rattle.iris_name.specs.declared.name.Name.{Name}
use Rattle.iris_name.specs.declared.name.Name.TheVariants.{Entry, Block}
use Rattle.iris_name.specs.declared.note.Note.TheVariants.{Dropped}
use Rattle.iris_name.specs.History.{Stamped}
use Rattle.iris_node.specs.Trees.{Shown}
use Rattle.iris_node.specs.Unfolded.{id_of}
use Rattle.iris_blocks.specs.declared.draft.PageChange.{PageChange}
use Rattle.iris_blocks.specs.declared.held.PageHeld.{PageHeld}
use Rattle.iris_blocks.specs.Changes.{PageDrafted, change_of, landed_page}
use Rattle.iris_blocks.specs.Paged.{Paged, Shows}
use Rattle.iris_cache.specs.Drafted.{Drafted}
use Rattle.iris_cache.specs.Held.{with_kids}
use Rattle.iris_cache.specs.Pictures.{Pictures}
use Rattle.iris_cache.specs.Resident.{Resident, held_node, children}
use Rattle.iris_cache.proofs.EmptyDraft.{draft_begins}
use Rattle.iris_invariant.specs.Agrees.{Out}
use Rattle.iris_invariant.specs.Events.{Moved}
use Rattle.iris_file_rules.specs.DraftLaws.{AreDrafted, FitsHeld, cell_before, cell_after}
use Rattle.iris_file_rules.specs.FileTable.{files}
use Rattle.iris_file_rules.specs.Rules.{shown_after}
use Rattle.iris_file_rules.specs.TableLaws.{IsWellFormed}
use Rattle.iris_file_rules.proofs.Drafts.{drafts_move}
use Rattle.iris_file_rules.proofs.SoundTables.{well_formed}

abbrev no_changes : Drafted
no_changes = record { changes = [] }

abbrev no_pages : PageDrafted
no_pages = record { changes = [] }

-- where nothing is drafted, cache and blocks stay as they are
nothing_drafted : (t : Shown) (c : Resident) (b : Paged) → IsWellFormed t → Pictures t c → ((q : Name) → held_node c q ≡ option_map (with_kids (children c q)) (held_node c q)) → Shows t b → AreDrafted t t c c b b
nothing_drafted t c b formed pictures kids shows = record {
  draft = no_changes;
  pages = no_pages;
  drafts = draft_begins t no_changes c pictures formed.tree formed.formed (λ n. refl);
  lands = λ q. record { marked = false; is = kids q; from = λ e. absurd (cc); all = λ n h. absurd h };
  shows = shows;
  changes = record {
    to = record { changed = λ n x h. absurd (cc); others = λ n k h. refl };
    differs = λ n x h. absurd (cc);
    held = λ n x h. absurd (cc);
  };
  landed = λ q. refl;
}

-- nothing is resident, and a discard was noted
abbrev no_nodes : Resident
no_nodes = record { nodes = []; room = [] }

abbrev no_blocks : Paged
no_blocks = record { pages = []; room = [] }

abbrev dropped : Stamped
dropped = record { note = Dropped 1 0 (Entry (id_of 2)) true; opened = 0 }

are_drafted : (keys : Keys) → AreDrafted (shown_after keys []) (shown_after keys (dropped ∷ [])) no_nodes no_nodes no_blocks no_blocks
are_drafted keys = nothing_drafted (shown_after keys []) no_nodes no_blocks (well_formed keys [])
    (record { nodes = λ n h e. absurd (cc); hashes = λ n m h x e. absurd (cc); parents = λ n p h e. absurd (cc); tied = λ n p h e. absurd (cc); rising = λ n p h g e. absurd (cc) })
    (λ q. refl) (λ n h e. absurd (cc))

fits_held : (doomed : Name → Bool) (out : Name → Option Out) → FitsHeld no_nodes no_blocks doomed out
fits_held doomed out = record {
  nodes = λ n k. (record { touched = λ g o e. absurd (cc); unknown = λ g o e. absurd (cc) }, λ s. absurd (cc));
  blocks = λ n k. (record { touched = λ g o e. absurd (cc); unknown = λ g o e. absurd (cc) }, λ s. absurd (cc));
}

-- so every name's cell moves as the law says
moves : (keys : Keys) (doomed : Name → Bool) (out : Name → Option Out) (n : Name)
    → Moved (files keys) [] dropped n (cell_before no_nodes no_blocks doomed out n) (cell_after no_nodes no_nodes no_blocks no_blocks doomed out n)
moves keys doomed out n = drafts_move keys [] dropped no_nodes no_nodes no_blocks no_blocks doomed out (are_drafted keys) (fits_held doomed out) n

-- a block can't go where the table stays
abbrev held : PageHeld
held = record { version = 3; page = []; pins = 0; dirty = false; out = None; touched = false }

abbrev one_block : Paged
one_block = record { pages = (Block (id_of 2) 7, held) ∷ []; room = [] }

lost_block : (t : Shown) (c e : Resident) → AreDrafted t t c e one_block no_blocks → ⊥
lost_block t c e g = by (change_of g.pages (Block (id_of 2) 7)) refl where
  by : (o : Option PageChange) → change_of g.pages (Block (id_of 2) 7) ≡ o → ⊥
  by None h = let l : None ≡ Some held = g.landed (Block (id_of 2) 7) ∙ ap (λ z. landed_page z (Some held)) h in absurd (cc)
  by (Some x) h = g.changes.differs (Block (id_of 2) 7) x h refl
