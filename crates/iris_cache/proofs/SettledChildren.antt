-- Children that are settled, one by one.
use Rattle.std.proofs.Common.{◌≡◌, ◌≤◌, ℕ, true, List, length, Some}
use Rattle.std.specs.Map.{lookup}
use Rattle.iris_name.specs.Names.{same_name}
use Rattle.iris_name.specs.declared.name.Name.{Name}
use Rattle.iris_cache.specs.declared.held.Held.{Held}
use Rattle.iris_cache.proofs.EachHeld.{AreEach, each-all}

-- a node is settled, if it is a child of that name
abbrev pub IsFine : Name → Held → Type 0
IsFine n h = h.parent ≡ Some n → h.settled ≡ true

-- the first nodes are
abbrev pub AreFine : Name → List (Name × Held) → ℕ → Type 0
AreFine n es i = AreEach (IsFine n) es i

pub fine-all : (n : Name) (es : List (Name × Held)) (i : ℕ) → length es ≤ i → AreFine n es i → (q : Name) (h : Held) → lookup (same_name q) es ≡ Some h → IsFine n h
fine-all n es i le are q h at = each-all (IsFine n) es i le are q h at
