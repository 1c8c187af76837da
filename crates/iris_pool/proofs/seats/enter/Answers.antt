use Rattle.std.proofs.Common.{◌≡◌, ◌<◌, ℕ, Option, Some, None, length, refl, arith, true, false}
use Rattle.std.specs.Option.{option_map_or}
use Rattle.std.proofs.lemmas.Option.{slice_get_within}
use Rattle.iris_desk.specs.AtDesk.{DeskState, keeps_name}
use Rattle.iris_desk.specs.AtDesks.{DesksState, desk_at, keeps_for}
use Rattle.iris_desk.proofs.LookingUp.{enter_looks}
use Rattle.iris_name.specs.declared.name.Name.{Name}
use Rattle.iris_pool.proofs.seats.enter.Goals as goal

pub returns-clause-enters : goal.returns-clause-enters
returns-clause-enters c = enter_looks c.args.who c.args.desks.now c.enter.new.self c.sound.ensures c.enter.ensures.desks

-- a name is kept at a desk
at_a_desk : (d : DesksState) (w : ℕ) (n : Name) → keeps_for d w n ≡ true → w < length d.desks
at_a_desk d w n on = by (desk_at d w) refl on where
  by : (z : Option DeskState) → desk_at d w ≡ z → option_map_or (λ desk. keeps_name desk n) z false ≡ true → w < length d.desks
  by None e f = absurd (cc)
  by (Some desk) e f = slice_get_within d.desks w desk e

pub returns-clause-callers : goal.returns-clause-callers
returns-clause-callers c = λ w n on.
    let lt = at_a_desk c.args.desks.now w n on in
    let seats = c.sound.ensures.seats in
    omega (arith, lt, seats)
