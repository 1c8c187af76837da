-- Pins that are taken off one name after another.
use Rattle.std.proofs.Common.{◌≡◌, ◌-◌, ◌^◌, ◌&&◌, ◌||◌, ℕ, Bool, true, false, Option, Some, None, refl, ◌∙◌, ap}
use Rattle.std.specs.Prelude.{bit_and}
use Rattle.std.specs.Int.Bits.{and_self}
use Rattle.std.proofs.lemmas.Nat.{and_assoc}
use Rattle.iris_blocks.specs.Held.{unpinned_page}
use Rattle.iris_cache.specs.Held.{unpinned_node}
use Rattle.iris_cache.specs.Resident.{map_if}

-- what is done twice is done once
abbrev pub IsOnce : {A : Type 0} → (A → A) → Type 0
IsOnce {A = A} f = (x : A) → f (f x) ≡ f x

twice : (pins mask : ℕ) → bit_and (bit_and pins mask) mask ≡ bit_and pins mask
twice pins mask = and_assoc mask pins mask ∙ ap (bit_and pins) (and_self mask)

pub unpinned_once : (who : ℕ) → IsOnce (unpinned_node who)
unpinned_once who h = ap (λ (pins : ℕ). record h { pins = pins }) (twice h.pins (2 ^ 32 - 1 - 2 ^ who))

pub unpinned_page_once : (who : ℕ) → IsOnce (unpinned_page who)
unpinned_page_once who h = ap (λ (pins : ℕ). record h { pins = pins }) (twice h.pins (2 ^ 32 - 1 - 2 ^ who))

-- one more name
pub once_more : {A : Type 0} (f : A → A) → IsOnce f → (kind before here : Bool) (x : Option A) → map_if (kind && here) f (map_if (kind && before) f x) ≡ map_if (kind && (before || here)) f x
once_more f once false before here x = refl
once_more f once true false here x = refl
once_more f once true true false x = refl
once_more f once true true true None = refl
once_more f once true true true (Some a) = ap Some (once a)
