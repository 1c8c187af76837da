-- The resident blocks in groups, one behind another: what waits to be put, what is dirty and out, what can go, and the rest.
use Rattle.std.specs.Prelude.{◌≡◌, ◌≢◌, ◌+◌, ◌≤◌, ◌<◌, ◌&&◌, ℕ, Bool, true, false, not, List, Some, is_some, nat_lt, length, slice_get, swap}
use Rattle.iris_name.specs.declared.name.Name.{Name}
use Rattle.iris_blocks.specs.declared.held.PageHeld.{PageHeld}
use Rattle.iris_blocks.specs.Paged.{Paged, ArePagesSound}
use Rattle.iris_blocks.specs.declared.groups.Ends.{Ends}
use Rattle.iris_blocks.specs.declared.groups.Group.{Group}
use Rattle.iris_blocks.specs.declared.groups.Group.TheVariants.{Waiting, Sent, Loose, Kept}

-- a block that a core may put now: it is dirty, and nothing is out for it
abbrev pub is_waiting : PageHeld → Bool
is_waiting h = h.dirty && not (is_some h.out)

-- the group by whether a block is dirty, out and pinned
abbrev pub group_by : Bool → Bool → Bool → Group
group_by true false pinned = Waiting
group_by true true pinned = Sent
group_by false false false = Loose
group_by false false true = Kept
group_by false true pinned = Kept

-- the group of a block
abbrev pub group_of : PageHeld → Group
group_of h = group_by h.dirty (is_some h.out) (nat_lt 0 h.pins)

-- whether a group is the first, one of the first two, one of the first three
abbrev pub is_first : Group → Bool
is_first Waiting = true
is_first Sent = false
is_first Loose = false
is_first Kept = false

abbrev pub is_in_two : Group → Bool
is_in_two Waiting = true
is_in_two Sent = true
is_in_two Loose = false
is_in_two Kept = false

abbrev pub is_in_three : Group → Bool
is_in_three Waiting = true
is_in_three Sent = true
is_in_three Loose = true
is_in_three Kept = false

-- The first `end` entries, and no others, are of groups that pass a test, with the one at `but` left out.
abbrev pub IsParted : (Group → Bool) → List (Name × PageHeld) → ℕ → ℕ → Type 0
IsParted test es end but = (k : ℕ) (e : Name × PageHeld) → k ≢ but → slice_get es k ≡ Some e → (k < end → test (group_of e.1) ≡ true) × (end ≤ k → test (group_of e.1) ≡ false)

-- The groups stand one behind another, with the entry at `but` left out.
pub record AreGroupedBut (es : List (Name × PageHeld)) (ends : Ends) (but : ℕ) : Type 0 where
  pub waiting : IsParted is_first es ends.waiting but
  pub dirty : IsParted is_in_two es ends.dirty but
  pub loose : IsParted is_in_three es ends.loose but
  pub first : ends.waiting ≤ ends.dirty
  pub second : ends.dirty ≤ ends.loose
  pub third : ends.loose ≤ length es

-- the groups stand one behind another: no entry is at the length
abbrev pub AreGrouped : List (Name × PageHeld) → Ends → Type 0
AreGrouped es ends = AreGroupedBut es ends (length es)

-- The entry at i leaves the first `end`, where it is one of them: it changes places with the last of them, and is at j then.
pub record Leaves (es : List (Name × PageHeld)) (end i : ℕ) (fs : List (Name × PageHeld)) (now j : ℕ) : Type 0 where
  pub inside : i < end → (now + 1 ≡ end) × (j ≡ now) × (fs ≡ swap es i j)
  pub outside : end ≤ i → (now ≡ end) × (j ≡ i) × (fs ≡ es)

-- The entry at i, behind the first `end`, becomes one of them, the last: it changes places with the next, and is at j then.
pub record JoinsIn (es : List (Name × PageHeld)) (end i : ℕ) (fs : List (Name × PageHeld)) (now j : ℕ) : Type 0 where
  pub more : now ≡ end + 1
  pub last : j ≡ end
  pub swapped : fs ≡ swap es i j

-- The first two groups stand where they belong, and so does the third as far as the entry at i.
pub record AreGroupedTo (es : List (Name × PageHeld)) (ends : Ends) (i : ℕ) : Type 0 where
  pub waiting : IsParted is_first es ends.waiting (length es)
  pub dirty : IsParted is_in_two es ends.dirty (length es)
  pub loose : (k : ℕ) (e : Name × PageHeld) → k < i → slice_get es k ≡ Some e → (k < ends.loose → is_in_three (group_of e.1) ≡ true) × (ends.loose ≤ k → is_in_three (group_of e.1) ≡ false)
  pub first : ends.waiting ≤ ends.dirty
  pub second : ends.dirty ≤ ends.loose
  pub third : ends.loose ≤ i
  pub within : i ≤ length es

-- What is kept in the fields besides: a place for each name with room, and the groups one behind another.
pub record ArePagesKept (b : Paged) (free : ℕ) (ends : Ends) : Type 0 where
  pub sound : ArePagesSound b
  pub places : length b.room ≤ free
  pub grouped : AreGrouped b.pages ends
