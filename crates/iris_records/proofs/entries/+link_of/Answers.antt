use Rattle.std.proofs.Common.{refl, ap, ◌∙◌, arith}
use Rattle.iris_records.specs.Unmade.{unmade_treap}
use Rattle.iris_records.proofs.TreapRecords.{if_ok, on_ok, over_is, places_over, nodes_less, nodes_more, empty_link, empty_puts, over_puts, over_link}
use Rattle.iris_records.proofs.FoldsAndShapes.{unmade_empty}
use Rattle.iris_records.proofs.entries.+link_of.Goals as goal

pub link_of-requires : goal.link_of-requires
link_of-requires t c =
    let e = over_is c.args.shape.now _ _ c.in-Over.less c.get.result.now c.in-Over.row c.in-Over.is refl c.get.ensures in
    let d = c.decreases in let f = nodes_more c.in-Over.row _ _ _ e in
    (omega (arith, d, f), (c.requires.level, (places_over _ c.in-Over.row _ _ _ e c.requires.places).2))

pub link_of-requires-in-Over : goal.link_of-requires-in-Over
link_of-requires-in-Over t c =
    let e = over_is c.args.shape.now _ _ c.get-in-Over.result.now c.in-Over.more c.in-Over.row c.in-Over.is c.get-in-Over.ensures refl in
    let d = c.decreases in let f = nodes_less c.in-Over.row _ _ _ e in
    (omega (arith, d, f), (c.requires.level, (places_over _ c.in-Over.row _ _ _ e c.requires.places).1))

pub put_entry-requires-clause-place : goal.put_entry-requires-clause-place
put_entry-requires-clause-place t c =
    (places_over _ c.in-Over.row _ _ _ (over_is c.args.shape.now _ _ c.in-Over.less c.in-Over.more c.in-Over.row c.in-Over.is refl refl) c.requires.places).0

pub returns-in-Empty-clause-link : goal.returns-in-Empty-clause-link
returns-in-Empty-clause-link t c = λ owns v. empty_link owns _ (ap unmade_treap c.in-Empty.is ∙ unmade_empty)

pub returns-in-Empty-clause-puts : goal.returns-in-Empty-clause-puts
returns-in-Empty-clause-puts t c = λ owns key v. empty_puts owns key _ c.args.shelf.now (ap unmade_treap c.in-Empty.is ∙ unmade_empty)

pub returns-in_ok-left-in-Over-clause-link : goal.returns-in_ok-left-in-Over-clause-link
returns-in_ok-left-in-Over-clause-link t c =
    let e = over_is c.args.shape.now _ _ c.get-in-Over.result.now c.get.result.now c.in-Over.row c.in-Over.is c.get-in-Over.ensures c.get.ensures in
    if_ok c.put_entry.result _ _ (λ l h owns v. over_link owns c.in-Over.row _ _ _ l e (h owns _ _ v (c.in_ok-left-in-Over.ensures.link owns v) (c.in_ok-right-in-Over.ensures.link owns v))) c.put_entry.ensures.link

pub returns-in_ok-left-in-Over-clause-puts : goal.returns-in_ok-left-in-Over-clause-puts
returns-in_ok-left-in-Over-clause-puts t c =
    let e = over_is c.args.shape.now _ _ c.get-in-Over.result.now c.get.result.now c.in-Over.row c.in-Over.is c.get-in-Over.ensures c.get.ensures in
    on_ok c.put_entry.result _ _ (λ h owns key v. over_puts owns key c.in-Over.row _ _ _ _ _ _ _ e (c.in_ok-right-in-Over.ensures.puts owns key v) (c.in_ok-left-in-Over.ensures.puts owns key v)
    (h owns _ _ key v (c.in_ok-left-in-Over.ensures.link owns v) (c.in_ok-right-in-Over.ensures.link owns v))) c.put_entry.ensures.puts
