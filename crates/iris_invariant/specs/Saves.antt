-- What a saved state has of nodes, pages and doomed names, and the core that starts from it.
use Rattle.std.specs.Prelude.{ℕ, ◌≡◌, Bool, true, false, None, IsSome, IsNone}
use Rattle.iris_name.specs.declared.name.Name.{Name}
use Rattle.iris_name.specs.History.{Past}
use Rattle.iris_history.specs.Kept.{Kept, shown_in}
use Rattle.iris_history.specs.Status.{IsClean, IsDoomed, IsUnsure}
use Rattle.iris_invariant.specs.Agrees.{View}

-- What a saved state holds of one name: of a live one that isn't clean, or is unsure, its node or page; of a doomed one that it
-- is doomed.
pub data Saved (k : Kept) (n : Name) (past : Past) (held doomed : Bool) : Type 0 where
  Dirty : held ≡ true → doomed ≡ false → IsSome (shown_in k past n) → (IsClean k n past → ⊥) → Saved k n past held doomed
  Unsure : held ≡ true → doomed ≡ false → IsUnsure k n past → Saved k n past held doomed
  Clean : held ≡ false → doomed ≡ false → IsClean k n past → Saved k n past held doomed
  Doomed : held ≡ false → doomed ≡ true → IsDoomed k n past → Saved k n past held doomed
  Gone : held ≡ false → doomed ≡ false → IsNone (shown_in k past n) → (IsDoomed k n past → ⊥) → Saved k n past held doomed

-- a core just started: what the state holds is resident and dirty, and nothing is out or kept
pub record Started (held doomed : Name → Bool) (v : View) : Type 0 where
  pub resident : (n : Name) → (v.cell n).resident ≡ held n
  pub dirty : (n : Name) → (v.cell n).dirty ≡ held n
  pub doomed_ : (n : Name) → (v.cell n).doomed ≡ doomed n
  pub out : (n : Name) → (v.cell n).out ≡ None
  pub kept : (w : ℕ) (n : Name) → v.kept w n ≡ false
