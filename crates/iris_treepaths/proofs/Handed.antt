-- A row comes into hand, and is given up.
use Rattle.std.proofs.Common.{◌≡◌, inl, inr, Option, Some, None, ap, sym, ◌∙◌, true≢false, is_some}
use Rattle.iris_name.specs.declared.name.Name.{Name}
use Rattle.iris_node.specs.Trees.{Shown, node_name}
use Rattle.iris_cache.specs.Resident.{Resident}
use Rattle.iris_cache.specs.Drafted.{Drafted}
use Rattle.iris_cache.specs.Pictures.{Detached, IsBelowDetached, IsNoNode, DraftsBeside}
use Rattle.iris_treepaths.specs.Hands.{IsBelowHand}
use Rattle.iris_treepaths.specs.Rows.{Row, below_row}

-- what is detached may be another where nothing lies below either
pub beside_other : (old new : Shown) (from to : Option Detached) (d : Drafted) (c : Resident) → DraftsBeside old new from d c
    → ((p n : Name) → IsBelowDetached from p n → ⊥) → ((p n : Name) → IsBelowDetached to p n → ⊥) → IsNoNode to new → DraftsBeside old new to d c
beside_other old new from to d c p bare other out = record {
  before = p.before;
  nodes = p.nodes;
  hashes = p.hashes;
  parents = p.parents;
  tied = λ n q node s up. elim (p.tied n q node s up) [ inl x ↦ inl x | inr x ↦ absurd (bare q n x) ];
  hangs = λ n q node s below. absurd (other q n below);
  gone = p.gone;
  away = p.away;
  resident = p.resident;
  out = out;
}

-- nothing lies below nothing
pub none_below : (p n : Name) → IsBelowDetached None p n → ⊥
none_below p n h = h

pub bare_below : (x : Row) → node_name (below_row x.content) ≡ None → (p n : Name) → IsBelowHand (Some x) p n → ⊥
bare_below x bare p n h = true≢false (sym (ap is_some (sym bare ∙ h.1)))
