use Rattle.std.proofs.Common.{sym, subst, Bool, ◌&&◌}
use Rattle.iris_desk.proofs.LookingUp.{touch_looks}
use Rattle.iris_name.specs.Names.{same_name}
use Rattle.iris_pool.specs.Filing.{FilesNames}
use Rattle.iris_pool.proofs.FiledNames.{files_touched, names_stay}
use Rattle.iris_pool.proofs.landing.touch_where.Goals as goal

pub returns-then-touched-clause-files : goal.returns-then-touched-clause-files
returns-then-touched-clause-files c =
    let n = c.args.name.now in
    let a = c.args.desks.now in
    let b = c.touch.new.self in
    subst (λ (t : Bool). FilesNames (λ q x. x) (λ q. t && same_name n q) a b) (sym c.if-touched.true) (files_touched n a b c.touch.ensures.doomed (touch_looks n a b c.sound.ensures c.touch.ensures.desks))

pub returns-then-touched-clause-names : goal.returns-then-touched-clause-names
returns-then-touched-clause-names c = names_stay c.args.name.now c.args.desks.now c.touch.new.self c.touch.ensures.desks
