-- Blocks worked out by hand, which the definitions compute.
use Rattle.std.proofs.Common.{◌≡◌, ℕ, [], ◌∷◌, Bool, true, false, cond, Option, Some, None, refl, ap, IsSome}
use Rattle.iris_name.specs.Names.{same_name}
use Rattle.iris_node.specs.Trees.{Shown}
use Rattle.iris_node.specs.Unfolded.{Unfolded, Stored}
use Rattle.iris_blocks.specs.declared.draft.PageChange.{PageChange}
use Rattle.iris_blocks.specs.Laws.{ChangesEach, stored_block}
use Rattle.iris_name.specs.declared.name.FileId.{FileId}
use Rattle.iris_name.specs.declared.name.Name.TheVariants.{Block}
use Rattle.iris_cache.specs.declared.held.Stay.TheVariants as stay
use Rattle.iris_blocks.specs.declared.held.PageHeld.{PageHeld}
use Rattle.iris_blocks.specs.declared.groups.Group.TheVariants.{Waiting, Sent, Loose, Kept}
use Rattle.iris_blocks.specs.Held.{page_stay_of, finished_page, begun_page, renewed, arrived_page, newcomer_page}
use Rattle.iris_blocks.specs.Groups.{group_of, is_waiting}
use Rattle.iris_blocks.specs.Paged.{Paged, held_page, has_page_room, page_by, IsBlock}
use Rattle.iris_blocks.specs.Changes.{PageDrafted, from_to, landed_page, sets_page, change_of}

abbrev file : ℕ → FileId
file n = record { 0 = n }

-- a clean block that nothing keeps, and a dirty one
abbrev clean : PageHeld
clean = record { version = 3; page = []; pins = 0; dirty = false; out = None; touched = false }

abbrev dirty : PageHeld
dirty = record clean { dirty = true }

-- the first reason of three is told, and none where there is none
stays : (page_stay_of (record dirty { out = Some 4; pins = 1 }) ≡ Some stay.Out) × (page_stay_of (record dirty { pins = 1 }) ≡ Some stay.Dirty) × (page_stay_of (record clean { pins = 1 }) ≡ Some stay.Pinned) × (page_stay_of clean ≡ None)
stays = (refl, refl, refl, refl)

-- a block waits while it is dirty and nothing is out, also where it is pinned
waits : (is_waiting (record dirty { pins = 1 }) ≡ true) × (is_waiting (record dirty { out = Some 4 }) ≡ false) × (is_waiting clean ≡ false)
waits = (refl, refl, refl)

groups : (group_of (record dirty { pins = 1 }) ≡ Waiting) × (group_of (record dirty { out = Some 4 }) ≡ Sent) × (group_of clean ≡ Loose) × (group_of (record clean { pins = 1 }) ≡ Kept) × (group_of (record clean { out = Some 4 }) ≡ Kept)
groups = (refl, refl, refl, refl, refl)

-- a good end cleans, one that failed doesn't, nor one of a block that changed meanwhile
ends : ((finished_page true (begun_page 4 dirty)).dirty ≡ false) × ((finished_page false (begun_page 4 dirty)).dirty ≡ true) × ((finished_page true (renewed 5 [] (begun_page 4 dirty))).dirty ≡ true) × ((finished_page true clean).dirty ≡ false)
ends = (refl, refl, refl, refl)

-- a change touches a block only where something is out, and a new beginning forgets it
touches : ((renewed 5 [] clean).touched ≡ false) × ((renewed 5 [] (begun_page 4 clean)).touched ≡ true) × ((begun_page 2 (renewed 5 [] (begun_page 4 clean))).touched ≡ false)
touches = (refl, refl, refl)

-- what is fetched is pinned and clean; what comes by a draft is neither
comers : ((newcomer_page 5 [] 4).pins ≡ 16) × ((newcomer_page 5 [] 4).dirty ≡ false) × ((arrived_page 5 []).pins ≡ 0) × ((arrived_page 5 []).dirty ≡ true)
comers = (refl, refl, refl, refl)

-- one block in version 3, and room for another
abbrev one : Paged
one = record { pages = (Block (file 2) 7, clean) ∷ []; room = Block (file 2) 8 ∷ [] }

looked_up : (page_by 3 (held_page one (Block (file 2) 7)) ≡ Some []) × (page_by 2 (held_page one (Block (file 2) 7)) ≡ None) × (held_page one (Block (file 2) 8) ≡ None) × (held_page one (Block (file 3) 7) ≡ None)
looked_up = (refl, refl, refl, refl)

room : (has_page_room one (Block (file 2) 8) ≡ true) × (has_page_room one (Block (file 2) 7) ≡ false)
room = (refl, refl)

block : IsBlock (Block (file 2) 0)
block = tt

-- a draft in which place 7 becomes a hole, and 8 gets a page
abbrev two : PageDrafted
two = record { changes = (Block (file 2) 7, from_to (Some []) None) ∷ (Block (file 2) 8, from_to None (Some (4, []))) ∷ [] }

sets : (sets_page two (Block (file 2) 7) ≡ false) × (sets_page two (Block (file 2) 8) ≡ true) × (sets_page two (Block (file 2) 9) ≡ false)
sets = (refl, refl, refl)

lands : (landed_page (change_of two (Block (file 2) 7)) (Some clean) ≡ None) × (landed_page (change_of two (Block (file 2) 8)) None ≡ Some (arrived_page 4 [])) × (landed_page (change_of two (Block (file 2) 9)) (Some clean) ≡ Some clean)
lands = (refl, refl, refl)

-- the tables before it and after it
abbrev before : Shown
before n = cond (same_name n (Block (file 2) 7)) (Some (Stored 3 [])) None

abbrev after : Shown
after n = cond (same_name n (Block (file 2) 7)) None (cond (same_name n (Block (file 2) 8)) (Some (Stored 4 [])) None)

-- it changes each: 7 is resident, and 8 was a hole
abbrev change_by : Bool → Bool → Option PageChange
change_by a b = cond a (Some (from_to (Some []) None)) (cond b (Some (from_to None (Some (4, [])))) None)

abbrev after_by : Bool → Bool → Option Unfolded
after_by a b = cond a None (cond b (Some (Stored 4 [])) None)

changes_each : ChangesEach before after two one
changes_each = record {
  to = record {
    changed = λ n change. changed (same_name n (Block (file 2) 7)) (same_name n (Block (file 2) 8)) change;
    others = λ n block. others (same_name n (Block (file 2) 7)) (same_name n (Block (file 2) 8));
  };
  differs = λ n change. differs (same_name n (Block (file 2) 7)) (same_name n (Block (file 2) 8)) change;
  held = λ n change c. held (same_name n (Block (file 2) 7));
} where
  changed : (a b : Bool) (change : PageChange) → change_by a b ≡ Some change → after_by a b ≡ stored_block change.new
  changed true b change c = let e : from_to (Some []) None ≡ change = cc in ap (λ (y : PageChange). stored_block y.new) e
  changed false true change c = let e : from_to None (Some (4, [])) ≡ change = cc in ap (λ (y : PageChange). stored_block y.new) e
  changed false false change c = absurd (cc)

  others : (a b : Bool) → change_by a b ≡ None → after_by a b ≡ cond a (Some (Stored 3 [])) None
  others true b c = absurd (cc)
  others false true c = absurd (cc)
  others false false c = refl

  differs : (a b : Bool) (change : PageChange) → change_by a b ≡ Some change → after_by a b ≡ cond a (Some (Stored 3 [])) None → ⊥
  differs true b change c e = cc
  differs false true change c e = cc
  differs false false change c e = cc

  held : (a : Bool) → IsSome (cond a (Some (Stored 3 [])) None) → IsSome (cond a (Some clean) None)
  held true live = refl
  held false live = absurd (cc)

-- where 7 isn't resident it doesn't, nor where the table stays
not_resident : ChangesEach before after two (record { pages = []; room = [] }) → ⊥
not_resident h = let e = h.held (Block (file 2) 7) (from_to (Some []) None) refl refl in absurd (cc)

not_changed : (t : Shown) → ChangesEach t t two one → ⊥
not_changed t h = h.differs (Block (file 2) 7) (from_to (Some []) None) refl refl
