use Rattle.std.proofs.Common.{◌≡◌, ◌∙◌, [], ap, sym, subst, true, false, Some}
use Rattle.std.specs.List.{list_any}
use Rattle.iris_desk.specs.declared.out.Doing.TheVariants.{Get}
use Rattle.iris_invariant.specs.Agrees.{Out}
use Rattle.iris_invariant.specs.Events.{Brought}
use Rattle.iris_name.specs.declared.name.Name.{Name}
use Rattle.iris_name.specs.declared.name.Name.TheVariants.{Block}
use Rattle.iris_name.specs.Names.{same_name}
use Rattle.iris_pool.specs.Changes.{HoldsAlike, IsDoing, PageComes}
use Rattle.iris_pool.specs.Pool.{PoolState, IsAbsentIn}
use Rattle.iris_pool.specs.View.{out_seen, pool_view}
use Rattle.iris_pool.proofs.Bringing.{PageBrings}
use Rattle.iris_pool.proofs.Brought.{Keeps, kept_event, kept_pool}
use Rattle.iris_pool.proofs.Keeping.{page_come, page_keeps, page_room, page_stays}
use Rattle.iris_pool.proofs.pool.Pool.keep_page.Goals as goal

pub bring_page-requires-clause-place : goal.bring_page-requires-clause-place
bring_page-requires-clause-place c = λ none off.
    let n : Name = Block c.args.file c.args.place in
    let p : PoolState = record { nodes = c.self.inside.cache; pages = c.self.inside.blocks; desks = c.self.inside.desks } in
    let doing = subst (λ (v : PoolState). IsDoing v.desks c.args.who n Get) (sym c.self.view_is) c.requires.out in
    ap (list_any (same_name n)) c.finish_page.ensures.places
    ∙ page_room p c.finish_page.new.blocks c.args.who c.args.file c.args.place c.end-out.result c.self.invariant doing c.end-out.ensures.out (c.finish_page.ensures.pages n) none off

abbrev before : goal.Joined-out → PoolState
before c = record { nodes = c.self.inside.cache; pages = c.self.inside.blocks; desks = c.self.inside.desks }

abbrev after : goal.Joined-out → PoolState
after c = record { nodes = c.self.inside.cache; pages = c.bring_page.new.blocks; desks = c.end-out.new.desks }

abbrev name : goal.Joined-out → Name
name c = Block c.args.file c.args.place

brings : (c : goal.Joined-out) → PageBrings c.args.who (name c) c.end-out.result.touched c.args.version c.args.page c.self.inside.blocks c.finish_page.new.blocks c.bring_page.new.blocks
brings c = record {
  ended = c.finish_page.ensures.pages;
  pinned = c.bring_page.ensures.pinned;
  passed = c.bring_page.ensures.passed;
  comes = c.bring_page.ensures.comes;
}

keeps : (c : goal.Joined-out) → Keeps c.args.who (name c) c.end-out.result.touched (before c) (after c)
keeps c = page_keeps c.args.who c.args.file c.args.place c.end-out.result c.args.version c.args.page (before c) c.finish_page.new.blocks c.bring_page.new.blocks c.end-out.new.desks (brings c)
    (λ m ne. c.bring_page.ensures.places m ne ∙ ap (list_any (same_name m)) c.finish_page.ensures.places)
    c.end-out.ensures.ends
    (λ m. ap (list_any (same_name m)) c.end-out.ensures.doomed)

pub invariant_of-self : goal.invariant_of-self
invariant_of-self c = kept_pool c.args.who (name c) c.end-out.result (before c) (after c) c.end-out.ensures.out (keeps c) c.self.invariant

pub returns-clause-brought : goal.returns-clause-brought
returns-clause-brought c = λ key.
    subst (λ (v : PoolState). (o : Out) → out_seen key v.desks (name c) ≡ Some o → Brought (name c) o (pool_view key v) (pool_view key (after c))) c.self.view_is
    (kept_event c.args.who (name c) c.end-out.result (before c) (after c) c.end-out.ensures.out (keeps c) key)

pub returns-clause-comes : goal.returns-clause-comes
returns-clause-comes c =
    subst (λ (v : PoolState). (o : Out) → IsAbsentIn v (name c) → out_seen [] v.desks (name c) ≡ Some o → o.touched ≡ false → PageComes v (after c) c.args.who (name c) c.args.version c.args.page) c.self.view_is
    (λ o absent seen off. page_come c.args.who c.args.file c.args.place c.end-out.result c.args.version c.args.page (before c) c.finish_page.new.blocks c.bring_page.new.blocks c.end-out.new.desks (brings c) o c.end-out.ensures.out absent seen off)

pub returns-clause-stays : goal.returns-clause-stays
returns-clause-stays c =
    subst (λ (v : PoolState). (o : Out) → out_seen [] v.desks (name c) ≡ Some o → (IsAbsentIn v (name c) → o.touched ≡ true) → HoldsAlike v (after c)) c.self.view_is
    (λ o seen on. page_stays c.args.who c.args.file c.args.place c.end-out.result c.args.version c.args.page (before c) c.finish_page.new.blocks c.bring_page.new.blocks c.end-out.new.desks (brings c) o c.end-out.ensures.out seen on)
