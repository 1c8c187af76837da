use Rattle.std.proofs.Common.{cond, Some, ap, ◌∙◌, arith}
use Rattle.iris_name.specs.Names.{same_name}
use Rattle.iris_records.specs.Records.{looked}
use Rattle.iris_records.proofs.RecordsByName.{lesser_within, put_set, put_insert}
use Rattle.iris_records.proofs.shelf.Shelf.put.Goals as goal

pub invariant_of-self : goal.invariant_of-self
invariant_of-self c =
    (put_set c.self.inside.records.items _ _ c.args.name c.args.bytes _ c.count_before-at.ensures c.as_slice.ensures.value c.if-is_at.ensures c.as_slice-2.ensures.value c.self.invariant).order

pub insert-requires : goal.insert-requires
insert-requires c =
    let h = lesser_within c.args.name c.as_slice.result.now in let e = c.count_before-at.ensures in let a = c.as_slice.ensures.len in omega (arith, h, e, a)

pub invariant_of-self-in-Continue-1 : goal.invariant_of-self-in-Continue-1
invariant_of-self-in-Continue-1 c =
    (put_insert _ c.self.inside.records.items _ _ c.args.name c.args.bytes _ c.count_before-at.ensures c.as_slice.ensures.value c.if-is_at.ensures c.as_slice-2.ensures.value c.in_ok-insert.ensures.items c.self.invariant).order

pub returns-then-is_at : goal.returns-then-is_at
returns-then-is_at c = λ n.
    (put_set c.self.inside.records.items _ _ c.args.name c.args.bytes _ c.count_before-at.ensures c.as_slice.ensures.value c.if-is_at.ensures c.as_slice-2.ensures.value c.self.invariant).each n
    ∙ ap (λ z. cond (same_name n c.args.name) (Some c.args.bytes) (looked n z)) c.self.view_is

pub returns-in_ok-insert : goal.returns-in_ok-insert
returns-in_ok-insert c = λ n.
    (put_insert _ c.self.inside.records.items _ _ c.args.name c.args.bytes _ c.count_before-at.ensures c.as_slice.ensures.value c.if-is_at.ensures c.as_slice-2.ensures.value c.in_ok-insert.ensures.items c.self.invariant).each n
    ∙ ap (λ z. cond (same_name n c.args.name) (Some c.args.bytes) (looked n z)) c.self.view_is
