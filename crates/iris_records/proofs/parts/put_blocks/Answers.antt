use Rattle.std.proofs.Common.{◌≡◌, ap, subst, sym, ◌∙◌, length, arith}
use Rattle.std.specs.Prelude.{slice_get, Some}
use Rattle.iris_rows.specs.Places.{IsPlace, file_of}
use Rattle.iris_records.specs.Pieces.{Adds, blocks_below}
use Rattle.iris_records.proofs.BlockRecords.{blocks_begin, blocks_next, blocks_end, got}
use Rattle.iris_records.proofs.parts.put_blocks.Goals as goal

pub loop-i-init : goal.loop-i-init
loop-i-init c = blocks_begin c.args.keys.now.block c.args.file.0 (file_of c.args.row.now) c.args.shelf.now

pub put_block-requires : goal.put_block-requires
put_block-requires c =
    let e = got c.places-places.result.now c.loop-i.i c.index-places-i.result c.loop-i-test.true c.index-places-i.is in
    let f : slice_get c.args.row.now.places c.loop-i.i ≡ Some c.index-places-i.result = ap (λ z. slice_get z c.loop-i.i) (sym c.places-places.ensures.places) ∙ e in
    subst IsPlace f (c.places-places.ensures.kept.holes c.loop-i.i)

pub loop-i-preserved : goal.loop-i-preserved
loop-i-preserved c =
    let e = got c.places-places.result.now c.loop-i.i c.index-places-i.result c.loop-i-test.true c.index-places-i.is in
    let f : slice_get c.args.row.now.places c.loop-i.i ≡ Some c.index-places-i.result = ap (λ z. slice_get z c.loop-i.i) (sym c.places-places.ensures.places) ∙ e in
    blocks_next c.args.keys.now.block c.args.file.0 c.args.row.now c.loop-i.i c.index-places-i.result c.args.shelf.now c.loop-i.shelf _ f c.loop-i.invariant c.in_ok-put_block.ensures

pub returns : goal.returns
returns c =
    let l : length c.args.row.now.places ≡ c.loop-i.i = (let a = c.loop-i.auto.i-end in let b = c.loop-i-test.false in let e = ap length c.places-places.ensures.places in omega (arith, a, b, e)) in
    blocks_end c.args.keys.now.block c.args.file.0 c.args.row.now c.args.shelf.now c.loop-i.shelf (subst (λ z. Adds c.args.keys.now.block (λ n. blocks_below z n c.args.file.0 (file_of c.args.row.now)) c.args.shelf.now c.loop-i.shelf) (sym l) c.loop-i.invariant)
