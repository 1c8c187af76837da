-- What is held after a write through a borrow.
use Rattle.std.proofs.Common.{◌≡◌, Bool, true, false, cond, Option, Some, IsSome, refl, ap, ◌∙◌, subst}
use Rattle.std.specs.Map.{lookup}
use Rattle.std.specs.Option.{option_map}
use Rattle.std.specs.HashMap.{HashMap, WritesThrough}
use Rattle.iris_name.specs.Names.{same_name}
use Rattle.iris_name.specs.NameLaws.{same_name-true}
use Rattle.iris_name.specs.declared.name.Name.{Name}
use Rattle.iris_cache.specs.declared.held.Held.{Held}
use Rattle.iris_cache.specs.Resident.{map_if}

written-here : (g : Name → Option Held) (f : Held → Held) (n q : Name) (h w : Held) (b : Bool) → Some h ≡ g n → w ≡ f h → same_name n q ≡ b → cond b (Some w) (g q) ≡ map_if b f (g q)
written-here g f n q h w true look is e = ap Some is ∙ ap (option_map f) (look ∙ ap g (same_name-true n q e))
written-here g f n q h w false look is e = refl

pub wrote : {S : Type 0} (f : Held → Held) (m k : HashMap Name Held S) (n : Name) (h w : Held) → Some h ≡ lookup (same_name n) m.entries → w ≡ f h
    → WritesThrough same_name (same_name n) m w k → (q : Name)
    → lookup (same_name q) k.entries ≡ map_if (same_name n q) f (lookup (same_name q) m.entries)
wrote f m k n h w look is writes q = (writes.3 (subst IsSome look refl)).0 q ∙ written-here (λ p. lookup (same_name p) m.entries) f n q h w _ look is refl
