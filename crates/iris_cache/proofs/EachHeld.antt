-- What holds of each resident node, one by one.
use Rattle.std.proofs.Common.{◌≡◌, ◌<◌, ◌≤◌, ℕ, List, length, Some, arith}
use Rattle.std.specs.Prelude.{slice_get}
use Rattle.std.specs.Map.{lookup}
use Rattle.std.proofs.lemmas.Map.Entries.{place_from_lookup}
use Rattle.std.proofs.lemmas.Option.{slice_get_within}
use Rattle.iris_name.specs.Names.{same_name}
use Rattle.iris_name.specs.declared.name.Name.{Name}
use Rattle.iris_cache.specs.declared.held.Held.{Held}

-- it holds of the first i
abbrev pub AreEach : (Held → Type 0) → List (Name × Held) → ℕ → Type 0
AreEach P es i = (j : ℕ) (e : Name × Held) → j < i → slice_get es j ≡ Some e → P e.1

pub each-all : (P : Held → Type 0) (es : List (Name × Held)) (i : ℕ) → length es ≤ i → AreEach P es i → (q : Name) (h : Held) → lookup (same_name q) es ≡ Some h → P h
each-all P es i le are q h at =
    let p = place_from_lookup (same_name q) es h at in
    let w = slice_get_within es p.0 (p.1, h) p.2 in
    are p.0 (p.1, h) (omega (arith, w, le)) p.2
