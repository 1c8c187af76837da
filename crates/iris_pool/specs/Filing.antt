-- What the walks over a draft, over all that is out and over all that is kept make of desks and pins.
use Rattle.std.specs.Prelude.{◌≡◌, ◌==◌, ◌&&◌, ◌||◌, ℕ, Bool, true, false, cond, Option, Some, None, is_some, List, [], map}
use Rattle.iris_blocks.specs.declared.draft.PageChange.{PageChange}
use Rattle.iris_blocks.specs.declared.held.PageHeld.{PageHeld}
use Rattle.iris_blocks.specs.Changes.{PageDrafted, change_of}
use Rattle.iris_blocks.specs.Paged.{Paged, held_page}
use Rattle.iris_cache.specs.declared.draft.Change.{Change}
use Rattle.iris_cache.specs.declared.held.Held.{Held}
use Rattle.iris_cache.specs.Drafted.{Drafted, drafted}
use Rattle.iris_cache.specs.Resident.{Resident, held_node, map_if}
use Rattle.iris_desk.specs.AtDesk.{DeskState}
use Rattle.iris_desk.specs.AtDesks.{DesksState, desk_at, asked_by, keeps_for, out_of, is_doomed}
use Rattle.iris_desk.specs.declared.out.Out.{Out}
use Rattle.iris_desk.specs.Laws.{AsksBy, BeginsFor}
use Rattle.iris_desk.specs.Outs.{touched_out}
use Rattle.iris_invariant.specs.Cells.{has_pin}
use Rattle.iris_name.specs.declared.name.Name.{Name}
use Rattle.iris_name.specs.declared.name.Name.TheVariants.{Entry, Part, Block}
use Rattle.iris_name.specs.declared.request.Request.{Request}
use Rattle.iris_name.specs.Names.{same_name}

-- whether a name is doomed that was held or not, and is held now or not: one that goes is, one that comes isn't any more
abbrev pub doomed_by : Bool → Bool → Bool → Bool
doomed_by false false doomed = doomed
doomed_by false true doomed = false
doomed_by true false doomed = true
doomed_by true true doomed = doomed

-- whether a name comes or goes
abbrev pub comes_or_goes : Bool → Bool → Bool
comes_or_goes false false = false
comes_or_goes false true = true
comes_or_goes true false = true
comes_or_goes true true = false

-- whether a name is held once a change is made, by whether it was
abbrev pub is_held_after : Option Change → Bool → Bool
is_held_after None was = was
is_held_after (Some change) was = is_some change.node

abbrev pub is_page_held_after : Option PageChange → Bool → Bool
is_page_held_after None was = was
is_page_held_after (Some change) was = is_some change.new

-- what is out for a name, touched where the test holds
abbrev pub touched_so : Bool → Option (ℕ × Out) → Option (ℕ × Out)
touched_so test out = map_if test (λ (p : ℕ × Out). (p.0, touched_out p.1)) out

-- Of each name the first tells whether it is doomed, by whether it was, and the second whether what is out for it is touched. All else
-- at the desks stays.
pub record FilesNames (dooms : Name → Bool → Bool) (touches : Name → Bool) (old new : DesksState) : Type 0 where
  pub doomed : (q : Name) → is_doomed new q ≡ dooms q (is_doomed old q)
  pub out : (q : Name) → out_of new q ≡ touched_so (touches q) (out_of old q)
  pub kept : (w : ℕ) (q : Name) → keeps_for new w q ≡ keeps_for old w q
  pub asked : (w : ℕ) → asked_by new w ≡ asked_by old w

-- one name is filed
abbrev pub FilesOne : Name → Bool → Bool → DesksState → DesksState → Type 0
FilesOne n was is old new = FilesNames (λ q doomed. cond (same_name n q) (doomed_by was is doomed) doomed) (λ q. same_name n q && comes_or_goes was is) old new

-- each name of a draft is filed
abbrev pub FilesNodes : Drafted → Resident → DesksState → DesksState → Type 0
FilesNodes d c old new = FilesNames
    (λ q. doomed_by (is_some (held_node c q)) (is_held_after (drafted d q) (is_some (held_node c q))))
    (λ q. comes_or_goes (is_some (held_node c q)) (is_held_after (drafted d q) (is_some (held_node c q)))) old new

abbrev pub FilesPages : PageDrafted → Paged → DesksState → DesksState → Type 0
FilesPages d b old new = FilesNames
    (λ q. doomed_by (is_some (held_page b q)) (is_page_held_after (change_of d q) (is_some (held_page b q))))
    (λ q. comes_or_goes (is_some (held_page b q)) (is_page_held_after (change_of d q) (is_some (held_page b q)))) old new

-- whether a name is held and touched there
abbrev pub touched_in : Option Held → Bool
touched_in None = false
touched_in (Some h) = h.touched

abbrev pub page_touched_in : Option PageHeld → Bool
page_touched_in None = false
page_touched_in (Some h) = h.touched

abbrev pub is_touched_in : Name → Option Held → Option PageHeld → Bool
is_touched_in (Entry i) h p = touched_in h
is_touched_in (Part f l i) h p = touched_in h
is_touched_in (Block f s) h p = page_touched_in p

abbrev pub is_touched_there : Resident → Paged → Name → Bool
is_touched_there c b n = is_touched_in n (held_node c n) (held_page b n)

-- whether this is out at a caller's desk
abbrev pub is_out_at : ℕ → Option (ℕ × Out) → Bool
is_out_at who None = false
is_out_at who (Some p) = p.0 == who

-- what is out for a name is touched where the name is touched where it is held
abbrev pub TouchesThere : Resident → Paged → DesksState → DesksState → Type 0
TouchesThere c b old new = FilesNames (λ q doomed. doomed) (is_touched_there c b) old new

-- the same at one desk
abbrev pub TouchesAt : ℕ → Resident → Paged → DesksState → DesksState → Type 0
TouchesAt who c b old new = FilesNames (λ q doomed. doomed) (λ q. is_touched_there c b q && is_out_at who (out_of old q)) old new

-- the names of what is out at a caller's desk, the oldest first
abbrev pub names_on_desk : Option DeskState → List Name
names_on_desk None = []
names_on_desk (Some desk) = map (λ o. o.name) desk.out

abbrev pub names_at : DesksState → ℕ → List Name
names_at d who = names_on_desk (desk_at d who)

-- what may be held of a name gets these callers' pins, and stays but for them
abbrev pub GetsPins : (ℕ → Bool) → Option Held → Option Held → Type 0
GetsPins keeps None None = Unit {0}
GetsPins keeps None (Some h) = ⊥
GetsPins keeps (Some g) None = ⊥
GetsPins keeps (Some g) (Some h) = (h ≡ record g { pins = h.pins }) × ((w : ℕ) → has_pin w h.pins ≡ (has_pin w g.pins || keeps w))

abbrev pub GetsPagePins : (ℕ → Bool) → Option PageHeld → Option PageHeld → Type 0
GetsPagePins keeps None None = Unit {0}
GetsPagePins keeps None (Some h) = ⊥
GetsPagePins keeps (Some g) None = ⊥
GetsPagePins keeps (Some g) (Some h) = (h ≡ record g { pins = h.pins }) × ((w : ℕ) → has_pin w h.pins ≡ (has_pin w g.pins || keeps w))

-- each name that is held gets the pins of those callers for which it is kept, and all else stays
pub record PinsKept (keeps : ℕ → Name → Bool) (c e : Resident) (b f : Paged) : Type 0 where
  pub nodes : (q : Name) → GetsPins (λ w. keeps w q) (held_node c q) (held_node e q)
  pub pages : (q : Name) → GetsPagePins (λ w. keeps w q) (held_page b q) (held_page f q)
  pub room : e.room ≡ c.room
  pub page_room : f.room ≡ b.room

-- a caller asks this, and then something begins for it: there are desks between the two
pub record AsksAndBegins (who : ℕ) (r : Request) (o : Out) (old new : DesksState) : Type 0 where
  pub middle : DesksState
  pub doomed : middle.doomed ≡ old.doomed
  pub asks : AsksBy who r old middle
  pub begins : BeginsFor who o middle new
