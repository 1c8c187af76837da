use Rattle.std.proofs.Common.{◌≡◌, ◌<◌, ◌∙◌, ap, subst, arith, true, false}
use Rattle.std.specs.Prelude.{IsSomeAnd, IfSome, slice_get}
use Rattle.iris_name.specs.declared.name.Name.TheVariants as name
use Rattle.iris_blocks.specs.Groups.{is_waiting}
use Rattle.iris_blocks.specs.Paged.{Paged, held_page}
use Rattle.iris_blocks.proofs.Regrouping.{waiting_here, waiting_none, found_at}
use Rattle.iris_blocks.proofs.blocks.Blocks.dirty_block.Goals as goal

pub returns-then-self-eq0-clause-none : goal.returns-then-self-eq0-clause-none
returns-then-self-eq0-clause-none c = λ q.
    subst (λ (r : Paged). IfSome (held_page r q) (λ h. is_waiting h ≡ false)) c.self.view_is (waiting_none c.self.inside.pages.entries c.self.inside.ends c.self.invariant.grouped c.if-self-eq0.true q)

pub returns-clause-some : goal.returns-clause-some
returns-clause-some c =
    let r = c.at-place.result in
    let at = ap (λ (p : Paged). slice_get p.pages 0) c.self.view_is ∙ c.at-place.ensures in
    let some : 0 < c.self.inside.ends.waiting = let f = c.if-self-eq0.false in omega (arith, f) in
    subst (λ (p : Paged). IsSomeAnd (held_page p (name.Block r.0 r.1)) (λ h. is_waiting h ≡ true)) c.self.view_is
    (found_at (λ h. is_waiting h ≡ true) c.self.inside.pages.entries 0 (name.Block r.0 r.1) r.2.now c.self.invariant.sound.once at
    (waiting_here c.self.inside.pages.entries c.self.inside.ends (name.Block r.0 r.1, r.2.now) c.self.invariant.grouped some at))
