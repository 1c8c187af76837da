use Rattle.std.proofs.Common.{◌≡◌, ◌<◌, ◌∙◌, ap, subst, arith, None}
use Rattle.std.specs.Prelude.{IsSome, IsSomeAnd, IfSome, slice_get}
use Rattle.iris_name.specs.declared.name.Name.TheVariants as name
use Rattle.iris_blocks.specs.Held.{page_stay_of}
use Rattle.iris_blocks.specs.Paged.{Paged, held_page}
use Rattle.iris_blocks.proofs.Regrouping.{loose_here, loose_none, found_at}
use Rattle.iris_blocks.proofs.blocks.Blocks.can_go.Goals as goal

pub returns-then-self-clause-none : goal.returns-then-self-clause-none
returns-then-self-clause-none c = λ q.
    subst (λ (r : Paged). IfSome (held_page r q) (λ h. IsSome (page_stay_of h))) c.self.view_is (loose_none c.self.inside.pages.entries c.self.inside.ends c.self.invariant.grouped c.if-self.true q)

pub returns-clause-some : goal.returns-clause-some
returns-clause-some c =
    let r = c.at-place.result in
    let at = ap (λ (p : Paged). slice_get p.pages c.self.inside.ends.dirty) c.self.view_is ∙ c.at-place.ensures in
    let g = c.self.invariant.grouped in
    let two = g.second in
    let some : c.self.inside.ends.dirty < c.self.inside.ends.loose = let f = c.if-self.false in omega (arith, f, two) in
    subst (λ (p : Paged). IsSomeAnd (held_page p (name.Block r.0 r.1)) (λ h. page_stay_of h ≡ None)) c.self.view_is
    (found_at (λ h. page_stay_of h ≡ None) c.self.inside.pages.entries c.self.inside.ends.dirty (name.Block r.0 r.1) r.2.now c.self.invariant.sound.once at
    (loose_here c.self.inside.pages.entries c.self.inside.ends (name.Block r.0 r.1, r.2.now) c.self.invariant.grouped some at))
