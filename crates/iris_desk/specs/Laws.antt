-- What each call does, by look-up of a name or a caller.
use Rattle.std.specs.Prelude.{ℕ, ◌≡◌, ◌≤◌, ◌==◌, ◌&&◌, ◌↔◌, Bool, true, false, if◌then◌else◌, Some, None, Contains}
use Rattle.std.specs.Option.{option_map}
use Rattle.iris_name.specs.Names.{same_name}
use Rattle.iris_name.specs.declared.name.Name.{Name}
use Rattle.iris_name.specs.declared.request.Request.{Request}
use Rattle.iris_desk.specs.declared.out.Out.{Out}
use Rattle.iris_desk.specs.Outs.{touched_out}
use Rattle.iris_desk.specs.AtDesk.{DeskState, asked_desk, entered_desk, begun_desk, ended_desk, touched_desk}
use Rattle.iris_desk.specs.AtDesks.{DesksState, desk_at, asked_by, keeps_for, out_for, out_of, ChangesDesk, AreDesksSound}

-- a request is asked by a caller
pub record AsksBy (who : ℕ) (r : Request) (old new : DesksState) : Type 0 where
  pub out : (q : Name) → out_of new q ≡ out_of old q
  pub kept : (w : ℕ) (q : Name) → keeps_for new w q ≡ keeps_for old w q
  pub asked : (w : ℕ) → asked_by new w ≡ (if w == who then Some r else asked_by old w)

-- a caller's request is handed out, and no name is kept for it
pub record EntersBy (who : ℕ) (old new : DesksState) : Type 0 where
  pub out : (q : Name) → out_of new q ≡ out_of old q
  pub kept : (w : ℕ) (q : Name) → keeps_for new w q ≡ (if w == who then false else keeps_for old w q)
  pub asked : (w : ℕ) → asked_by new w ≡ (if w == who then None else asked_by old w)

-- something begins for a caller
pub record BeginsFor (who : ℕ) (o : Out) (old new : DesksState) : Type 0 where
  pub out : (q : Name) → out_of new q ≡ (if same_name o.name q then Some (who, o) else out_of old q)
  pub kept : (w : ℕ) (q : Name) → keeps_for new w q ≡ keeps_for old w q
  pub asked : (w : ℕ) → asked_by new w ≡ asked_by old w

-- what is out for a name ends; with `keep` the name is kept for the caller
pub record EndsFor (who : ℕ) (keep : Bool) (n : Name) (old new : DesksState) : Type 0 where
  pub out : (q : Name) → out_of new q ≡ (if same_name n q then None else out_of old q)
  pub kept : (w : ℕ) (q : Name) → keeps_for new w q ≡ (if keep && ((w == who) && same_name n q) then true else keeps_for old w q)
  pub asked : (w : ℕ) → asked_by new w ≡ asked_by old w

-- what is out for a name is touched
pub record TouchesOut (n : Name) (old new : DesksState) : Type 0 where
  pub out : (q : Name) → out_of new q ≡ (if same_name n q then option_map (λ p. (p.0, touched_out p.1)) (out_of old q) else out_of old q)
  pub kept : (w : ℕ) (q : Name) → keeps_for new w q ≡ keeps_for old w q
  pub asked : (w : ℕ) → asked_by new w ≡ asked_by old w

-- Something is out for a name at a desk exactly where that desk has it.
abbrev pub OutIsAtItsDesk : Type 0
OutIsAtItsDesk = (d : DesksState) (n : Name) (w : ℕ) (o : Out) → AreDesksSound d → (out_of d n ≡ Some (w, o)) ↔ (out_for d w n ≡ Some o)

-- What stands in a desk's list is what is out for its name, and the other way round.
abbrev pub ListedIsOut : Type 0
ListedIsOut = (d : DesksState) (w : ℕ) (desk : DeskState) (o : Out) → AreDesksSound d → desk_at d w ≡ Some desk → Contains desk.out o ↔ (out_of d o.name ≡ Some (w, o))

abbrev pub AskLooksUp : Type 0
AskLooksUp = (who : ℕ) (r : Request) (old new : DesksState) → AreDesksSound old → who ≤ 16 → ChangesDesk old new who (asked_desk r) → AsksBy who r old new

abbrev pub EnterLooksUp : Type 0
EnterLooksUp = (who : ℕ) (old new : DesksState) → AreDesksSound old → ChangesDesk old new who entered_desk → EntersBy who old new

abbrev pub BeginLooksUp : Type 0
BeginLooksUp = (who : ℕ) (o : Out) (old new : DesksState) → AreDesksSound old → who ≤ 16 → out_of old o.name ≡ None → ChangesDesk old new who (begun_desk o) → BeginsFor who o old new

abbrev pub EndLooksUp : Type 0
EndLooksUp = (who : ℕ) (keep : Bool) (n : Name) (o : Out) (old new : DesksState) → AreDesksSound old → out_for old who n ≡ Some o → ChangesDesk old new who (ended_desk keep n) → EndsFor who keep n old new

abbrev pub TouchLooksUp : Type 0
TouchLooksUp = (n : Name) (old new : DesksState) → AreDesksSound old → ((w : ℕ) → desk_at new w ≡ option_map (touched_desk n) (desk_at old w)) → TouchesOut n old new
