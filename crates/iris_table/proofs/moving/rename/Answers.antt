use Rattle.std.proofs.Common.{◌∙◌, ◌-◌, ap, subst, length, ℕ, List}
use Rattle.iris_plain.specs.Routes.{parent}
use Rattle.iris_table.specs.Stops.{stop, IsRun}
use Rattle.iris_table.proofs.DirectoryRows.{last_is}
use Rattle.iris_table.proofs.RowTakenOut.{left_gone, moved_ok, must_stand, dir_stays, front_parent}
use Rattle.iris_table.proofs.moving.rename.Goals as goal

pub put_at-requires-clause-parent : goal.put_at-requires-clause-parent
put_at-requires-clause-parent c = dir_stays c.args.visible.now.items c.lift.new.items.items c.args.olds.now (parent c.args.news.now) c.requires.old_named c.requires.distinct
    (left_gone c.args.visible.now.items c.lift.new.items.items c.args.olds.now c.in-Standing.place c.requires.old_named (c.in-Standing.ensures.value ∙ ap (stop 0 c.args.olds.now) c.as_slice.ensures.value) c.in_ok-run-in-Standing.ensures.left)
    (front_parent c.args.olds.now c.args.news.now c.requires.new_named c.requires.ahead) c.requires.parent

pub put_at-requires-clause-run : goal.put_at-requires-clause-run
put_at-requires-clause-run c = let Q : List ℕ → Type 0 = λ n. IsRun (length c.args.news.now - 1) n c.in_ok-run-in-Standing.run'.items in
    subst Q (c.in_ok-name-in-Standing.ensures ∙ c.index-news-depth.is ∙ last_is c.args.news.now c.index-news-depth.result c.requires.new_named) c.in_ok-run-in-Standing.ensures.run

pub returns-in_ok-run-in-Standing-clause-ok : goal.returns-in_ok-run-in-Standing-clause-ok
returns-in_ok-run-in-Standing-clause-ok c = moved_ok c.args.visible.now.items c.lift.new.items.items c.args.olds.now c.in-Standing.place c.requires.old_named (c.in-Standing.ensures.value ∙ ap (stop 0 c.args.olds.now) c.as_slice.ensures.value) c.in_ok-run-in-Standing.ensures.left
    c.args.news.now c.put_at.new.items.items c.in_ok-run-in-Standing.run'.items c.in_ok-run-in-Standing.ensures.row c.put_at.ensures.rows

pub returns-in_default : goal.returns-in_default
returns-in_default c = absurd (must_stand c.args.visible.now.items c.args.olds.now c.resolve.result c.requires.old_named (c.resolve.ensures.value ∙ ap (stop 0 c.args.olds.now) c.as_slice.ensures.value) c.in_default.not-Standing c.requires.there)
