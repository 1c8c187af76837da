-- A table of one block that each write gives the next version, over which the examples of the core's events stand.
use Rattle.std.proofs.Common.{◌≡◌, ℕ, suc, ◌==◌, [], ◌∷◌, Bool, true, false, Option, Some, None, if◌then◌else◌}
use Rattle.iris_name.specs.declared.name.Name.{Name}
use Rattle.iris_name.specs.declared.name.Name.TheVariants.{Block}
use Rattle.iris_name.specs.declared.request.Request.{Request}
use Rattle.iris_name.specs.declared.request.Request.TheVariants.{Write}
use Rattle.iris_name.specs.Names.{same_name}
use Rattle.iris_history.specs.Kept.{Kept}
use Rattle.iris_history.specs.Legal.{Rules}
use Rattle.iris_invariant.specs.Agrees.{Cell, View}

abbrev pub block : Name
block = Block (record { 0 = 2 }) 0

-- each write gives the block the next version
abbrev pub stepped_count : ℕ → Request → ℕ
stepped_count t (Write path offset bytes) = suc t
stepped_count t _ = t

-- it is live from version 1 on
abbrev pub live : ℕ → Option ℕ
live ℕ.zero = None
live (suc t) = Some (suc t)

abbrev pub counter : Kept
counter = record { Table = ℕ; Unfolded = ℕ; start = 0; step = stepped_count; shown = λ t n. if same_name block n then live t else None; spelled = λ n u. u ∷ []; version = λ u. u; key = [] }

-- rules that allow all
abbrev pub any_reply : Rules
any_reply = record { replies = λ past request reply. Unit {0}; reaches = λ past request n. Unit {0}; waits = λ past request. Unit {0} }

-- a name of which nothing is kept
abbrev pub away : Cell
away = record { resident = false; dirty = false; doomed = false; settled = false; out = None }

-- a view in which one name is other than away, kept and pinned for caller 1 where the last test holds
abbrev pub view_of_block : Cell → Option Request → Bool → View
view_of_block c asked kept = record {
  cell = λ q. if same_name block q then c else away;
  asked = λ w. if w == 1 then asked else None;
  kept = λ w q. if w == 1 then (if same_name block q then kept else false) else false;
  pinned = λ w q. if w == 1 then (if same_name block q then kept else false) else false;
}

pub differ : true ≡ false → ⊥
differ e = cc
