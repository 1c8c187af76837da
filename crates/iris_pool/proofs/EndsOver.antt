-- Desks that are the same but for the doomed names look the same.
use Rattle.std.proofs.Common.{◌≡◌, ℕ, List, [], Bool, true, false, cond, ◌&&◌, ◌∙◌, ap}
use Rattle.iris_desk.specs.AtDesk.{DeskState}
use Rattle.iris_desk.specs.AtDesks.{DesksState, asked_by, keeps_for, out_of}
use Rattle.iris_desk.specs.Laws.{EndsFor}
use Rattle.iris_name.specs.declared.name.Name.{Name}

abbrev bare : List DeskState → DesksState
bare l = record { desks = l; doomed = []; room = 0 }

pub ends_over : (who : ℕ) (keep : Bool) (n : Name) (d e f : DesksState) → EndsFor who keep n d e → f.desks ≡ e.desks → EndsFor who keep n d f
ends_over who keep n d e f h same = record {
  out = λ q. ap (λ l. out_of (bare l) q) same ∙ h.out q;
  kept = λ w q. ap (λ l. keeps_for (bare l) w q) same ∙ h.kept w q;
  asked = λ w. ap (λ l. asked_by (bare l) w) same ∙ h.asked w;
}

-- a name that is doomed no longer, if so wanted, and every other
pub undoomed : (wanted same old new : Bool) → new ≡ cond (wanted && same) false old → same ≡ false → new ≡ old
undoomed true same old new e is = e ∙ ap (λ b. cond b false old) is
undoomed false same old new e is = e

pub undoomed_here : (wanted same old new : Bool) → new ≡ cond (wanted && same) false old → same ≡ true → new ≡ cond wanted false old
undoomed_here true same old new e is = e ∙ ap (λ b. cond b false old) is
undoomed_here false same old new e is = e
