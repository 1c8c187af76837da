use Rattle.std.proofs.Common.{◌≡◌, false, cond, sym, subst}
use Rattle.iris_desk.proofs.LookingUp.{touch_looks}
use Rattle.iris_name.specs.Names.{same_name}
use Rattle.iris_pool.specs.Filing.{FilesNames, doomed_by}
use Rattle.iris_pool.proofs.FiledNames.{differ, doomed_so, filed_other, files_touched, undoomed_so}
use Rattle.iris_pool.proofs.landing.file_change.Goals as goal
use Rattle.iris_pool.proofs.landing.file_change.Goals.{then-is, else-is}

pub returns-clause-files : goal.returns-clause-files
returns-clause-files c =
    let n = c.args.name.now in
    let a = c.args.desks.now in
    let b = c.if-is.desks in
    let e = c.touch.new.self in
    let was = c.args.was in
    let is = c.args.is in
    let apart : was ≡ is → ⊥ = differ was is c.if-was-is.false in
    let marked : FilesNames (λ q x. cond (same_name n q) (doomed_by was is x) x) (λ q. false) a b = elim c.if-is.branch [
      | then-is w ↦ subst (FilesNames (λ q x. cond (same_name n q) (doomed_by was is x) x) (λ q. false) a) (sym w.desks-is) (undoomed_so n was is a w.undoom.new.self apart w.if-is.true w.undoom.ensures.desks w.undoom.ensures.doomed)
      | else-is w ↦ subst (FilesNames (λ q x. cond (same_name n q) (doomed_by was is x) x) (λ q. false) a) (sym w.desks-is) (doomed_so n was is a w.doom_in_room.new.self apart w.if-is.false w.doom_in_room.ensures.desks w.doom_in_room.ensures.doomed)
    ] in
    filed_other n was is a b e apart marked (files_touched n b e c.touch.ensures.doomed (touch_looks n b e c.sound.ensures c.touch.ensures.desks))
