-- What is held of a resident node, and what befalls it.
use Rattle.std.specs.Prelude.{◌≤◌, ◌<◌, ◌^◌, ◌+◌, ◌-◌, ◌&&◌, ℕ, Bool, true, false, not, Option, Some, None, bit_or, bit_and, nat_lt, is_some}
use Rattle.iris_name.specs.Names.{same_name}
use Rattle.iris_name.specs.declared.name.Name.{Name}
use Rattle.iris_node.specs.declared.node.Node.{Node}
use Rattle.iris_cache.specs.declared.held.Held.{Held}
use Rattle.iris_cache.specs.declared.held.Stay.{Stay}
use Rattle.iris_cache.specs.declared.held.Stay.TheVariants as stay
use Rattle.iris_cache.specs.declared.held.Edit.{Edit}
use Rattle.iris_cache.specs.declared.held.Edit.TheVariants.{Pin, Unpin, Dirty, Begin, Finish, Settled, Moved, Kid, Orphan, Adopt}

-- a pinned node: that caller's bit is set
abbrev pub pinned_node : ℕ → Held → Held
pinned_node who h = record h { pins = bit_or h.pins (2 ^ who) }

-- a node without that caller's pin: its bit is cleared, and no other
abbrev pub unpinned_node : ℕ → Held → Held
unpinned_node who h = record h { pins = bit_and h.pins (2 ^ 32 - 1 - 2 ^ who) }

-- a dirty node
abbrev pub dirtied_node : Held → Held
dirtied_node h = record h { dirty = true }

-- a node for which a transfer or settling of that caller is out
abbrev pub begun_node : ℕ → Held → Held
begun_node who h = record h { out = Some who; touched = false }

-- A node for which nothing is out any more. Clean ends leave it dirty where it isn't settled or was touched.
abbrev pub finished_node : Bool → Held → Held
finished_node clean h = record h { out = None; dirty = h.dirty && not (clean && (h.settled && not h.touched)) }

-- a settled node
abbrev pub settled_so : Held → Held
settled_so h = record h { settled = true }

-- touched from now on where something is out
abbrev pub touched_after : Option ℕ → Bool → Bool
touched_after None t = t
touched_after (Some who) t = true

-- a node that changed, itself or below it: dirty, unsettled, and touched where something is out
abbrev pub moved_node : Held → Held
moved_node h = record h { dirty = true; settled = false; touched = touched_after h.out h.touched }

-- a node with this parent
abbrev pub with_parent : Option Name → Held → Held
with_parent parent h = record h { parent = parent }

-- what is held, with another node
abbrev pub with_node : Node → Held → Held
with_node node h = record h { node = node }

-- a node with that many resident children
abbrev pub with_kids : ℕ → Held → Held
with_kids n h = record h { kids = n }

-- a node with one child more, and with one less
abbrev pub kid_more : Held → Held
kid_more h = with_kids (h.kids + 1) h

abbrev pub kid_less : Held → Held
kid_less h = with_kids (h.kids - 1) h

-- whether a parent is that name
abbrev pub points : Option Name → Name → Bool
points None n = false
points (Some p) n = same_name p n

-- whether a node is a child of that name
abbrev pub is_child : Name → Held → Bool
is_child n h = points h.parent n

abbrev pub stay_by : Bool → Bool → Bool → Bool → Option Stay
stay_by true d k p = Some stay.Out
stay_by false true k p = Some stay.Dirty
stay_by false false true p = Some stay.HasKids
stay_by false false false true = Some stay.Pinned
stay_by false false false false = None

-- why a node stays: the first reason in the order of `Stay` that its fields show
abbrev pub stay_of : Held → Option Stay
stay_of h = stay_by (is_some h.out) h.dirty (nat_lt 0 h.kids) (nat_lt 0 h.pins)

-- a node that was fetched: clean, settled and pinned for the caller, with its resident children
abbrev pub newcomer_node : Option Name → Node → ℕ → ℕ → Held
newcomer_node parent node who kids = record { node = node; parent = parent; kids = kids; pins = 2 ^ who; dirty = false; settled = true; out = None; touched = false }

-- what each edit makes of a node
abbrev pub edited_node : Edit → Held → Held
edited_node (Pin who) h = pinned_node who h
edited_node (Unpin who) h = unpinned_node who h
edited_node Dirty h = dirtied_node h
edited_node (Begin who) h = begun_node who h
edited_node (Finish clean) h = finished_node clean h
edited_node Settled h = settled_so h
edited_node Moved h = moved_node h
edited_node Kid h = kid_more h
edited_node Orphan h = kid_less h
edited_node (Adopt parent) h = with_parent parent h

-- an edit that stays in the ranges of the fields
abbrev pub IsEdit : Edit → Held → Type 0
IsEdit (Pin who) h = who ≤ 16
IsEdit (Unpin who) h = who ≤ 16
IsEdit Dirty h = Unit {0}
IsEdit (Begin who) h = Unit {0}
IsEdit (Finish clean) h = Unit {0}
IsEdit Settled h = Unit {0}
IsEdit Moved h = Unit {0}
IsEdit Kid h = h.kids + 1 < 2 ^ 32
IsEdit Orphan h = 1 ≤ h.kids
IsEdit (Adopt parent) h = Unit {0}

-- an edit that leaves the parent and the children
abbrev pub IsFlag : Edit → Type 0
IsFlag (Pin who) = who ≤ 16
IsFlag (Unpin who) = who ≤ 16
IsFlag Dirty = Unit {0}
IsFlag (Begin who) = Unit {0}
IsFlag (Finish clean) = Unit {0}
IsFlag Settled = Unit {0}
IsFlag Moved = Unit {0}
IsFlag Kid = ⊥
IsFlag Orphan = ⊥
IsFlag (Adopt parent) = ⊥
