use Rattle.std.proofs.Common.{sym, subst, ◌∙◌}
use Rattle.iris_blocks.specs.Paged.{held_page}
use Rattle.iris_cache.specs.Resident.{held_node}
use Rattle.iris_name.specs.declared.name.Name.TheVariants.{Block}
use Rattle.iris_pool.specs.Filing.{PinsKept}
use Rattle.iris_pool.proofs.Lookups.{found_is, no_node, no_page, none_is}
use Rattle.iris_pool.proofs.PinnedNames.{pin_of, pins_a_node, pins_a_page, pins_nothing}
use Rattle.iris_pool.proofs.landing.pin.Goals as goal

pub returns-then-is_some : goal.returns-then-is_some
returns-then-is_some c =
    let n = Block c.in-Block.file c.in-Block.place in
    let e = c.args.cache.now in
    let b = c.args.blocks.now in
    subst (λ m. PinsKept (pin_of m c.args.who) e e b c.pin.new.self) (sym c.in-Block.is)
    (pins_a_page e b c.pin.new.self n c.args.who c.pin.ensures.pages c.pin.ensures.room (no_node e n c.sound.ensures tt))

pub returns-else-is_some : goal.returns-else-is_some
returns-else-is_some c =
    let n = Block c.in-Block.file c.in-Block.place in
    let e = c.args.cache.now in
    let b = c.args.blocks.now in
    subst (λ m. PinsKept (pin_of m c.args.who) e e b b) (sym c.in-Block.is)
    (pins_nothing e b n c.args.who (no_node e n c.sound.ensures tt) (none_is (held_page b n) (sym (found_is c.held.result (held_page b n) c.is_some.result c.is_some.ensures c.held.ensures) ∙ c.if-is_some.false)))

pub returns-then-is_some-2 : goal.returns-then-is_some-2
returns-then-is_some-2 c =
    let n = c.args.name.now in
    let e = c.args.cache.now in
    let b = c.args.blocks.now in
    pins_a_node e c.pin-then-is_some-2.new.self b n c.args.who c.pin-then-is_some-2.ensures.nodes c.pin-then-is_some-2.ensures.room
    (no_page e b n c.sound.ensures c.sound-2.ensures (sym (found_is c.find.result (held_node e n) c.is_some-in-Entry.result c.is_some-in-Entry.ensures c.find.ensures) ∙ c.if-is_some-2.true))
