use Rattle.std.proofs.Common.{ℕ, List, take, drop, ◌%◌, ◌/◌, ◌∙◌, ap}
use Rattle.std.proofs.lemmas.Result.{IfOk-weaker}
use Rattle.iris_rows.specs.declared.places.Place.{Place}
use Rattle.iris_rows.specs.View.{content, joined}
use Rattle.iris_rows.specs.Places.{StoredPlaces, file_of, block_at}
use Rattle.iris_rows.proofs.KeptPlaces.{pages_of}
use Rattle.iris_rows.proofs.KeptFiles.{fit_read}
use Rattle.iris_rows.proofs.file.FileRow.read.Goals as goal

pub returns : goal.returns
returns c = let f : StoredPlaces = record { size = c.self.inside.size; counter = c.self.inside.counter; places = c.self.inside.places.items } in
    let e = ap (λ (b : List ℕ). take c.min-count.result (drop (c.args.offset % 4096) b))
    (c.of-2.ensures ∙ c.in_ok-bytes.ensures ∙ ap (λ (ps : List Place). joined (block_at ps) (c.args.offset / 4096) c.blocks_of-blocks.result) c.as_slice.ensures.value)
    ∙ fit_read (file_of f) c.args.offset c.args.count c.min-count.result c.blocks_of-blocks.result (pages_of c.self.inside.places.items c.self.invariant.holes) c.if-offset-self.false c.min-count.ensures c.blocks_of-blocks.ensures
    ∙ ap (λ (g : StoredPlaces). take c.args.count (drop c.args.offset (content (file_of g)))) c.self.view_is in
    IfOk-weaker c.piece-2.result _ _ (λ x p. p ∙ e) c.piece-2.ensures
