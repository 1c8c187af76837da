-- What a contract sees of all desks, and the words on them.
use Rattle.std.specs.Prelude.{ℕ, ◌≡◌, ◌≤◌, ◌==◌, Bool, false, if◌then◌else◌, List, length, map, All, Option, Some, slice_get, find}
use Rattle.std.specs.Option.{option_map, option_and_then, option_map_or}
use Rattle.std.specs.List.{list_any, count_by, flat_map, enumerate_from, IsDistinct}
use Rattle.iris_history.specs.Kept.{is_block}
use Rattle.iris_name.specs.Names.{same_name}
use Rattle.iris_name.specs.declared.name.Name.{Name}
use Rattle.iris_name.specs.declared.request.Request.{Request}
use Rattle.iris_desk.specs.declared.out.Out.{Out}
use Rattle.iris_desk.specs.Outs.{out_in}
use Rattle.iris_desk.specs.AtDesk.{DeskState, keeps_name, IsDeskSound}

-- the desks, one for each caller, the names that are doomed: deleted, and not yet discarded from the store, and how many names more are sure to be doomed with no memory
pub record DesksState : Type 0 where
  pub desks : List DeskState
  pub doomed : List Name
  pub room : ℕ

-- a caller's desk
abbrev pub desk_at : DesksState → ℕ → Option DeskState
desk_at d w = slice_get d.desks w

-- the request that a caller asks
abbrev pub asked_by : DesksState → ℕ → Option Request
asked_by d w = option_and_then (λ desk. desk.request) (desk_at d w)

-- whether a name is kept for a caller
abbrev pub keeps_for : DesksState → ℕ → Name → Bool
keeps_for d w n = option_map_or (λ desk. keeps_name desk n) (desk_at d w) false

-- what is out for a name at a caller's desk
abbrev pub out_for : DesksState → ℕ → Name → Option Out
out_for d w n = option_and_then (λ desk. out_in desk.out n) (desk_at d w)

-- all that is out, each with the number of its desk
abbrev pub all_out : DesksState → List (ℕ × Out)
all_out d = flat_map (λ p. map (λ o. (p.0, o)) p.1.out) (enumerate_from 0 d.desks)

-- what is out for a name, with the number of its desk
abbrev pub out_of : DesksState → Name → Option (ℕ × Out)
out_of d n = find (λ p. same_name n p.1.name) (all_out d)

-- whether a name is doomed
abbrev pub is_doomed : DesksState → Name → Bool
is_doomed d n = list_any (same_name n) d.doomed

-- a caller's desk becomes what f makes of it, and each other desk stays
abbrev pub ChangesDesk : DesksState → DesksState → ℕ → (DeskState → DeskState) → Type 0
ChangesDesk old new who f = (w : ℕ) → desk_at new w ≡ (if w == who then option_map f (desk_at old w) else desk_at old w)

-- What all desks keep.
pub record AreDesksSound (d : DesksState) : Type 0 where
  -- there is one for each caller
  pub seats : length d.desks ≡ 17
  pub each : All IsDeskSound d.desks
  -- a name is out at one desk at most
  pub apart : (n : Name) (w v : ℕ) (o p : Out) → out_for d w n ≡ Some o → out_for d v n ≡ Some p → w ≡ v
  -- each name is doomed once
  pub once : IsDistinct same_name d.doomed

-- What all desks keep in their fields: room for so many names more to doom, and how many of the doomed names are blocks.
pub record AreDesksKept (d : DesksState) (free blocks : ℕ) : Type 0 where
  pub sound : AreDesksSound d
  pub room : d.room ≤ free
  pub counted : count_by is_block d.doomed ≡ blocks
