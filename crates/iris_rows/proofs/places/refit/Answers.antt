use Rattle.std.proofs.Common.{◌≡◌, ◌+◌, List, sym, ◌∙◌, ap, subst, take, length}
use Rattle.std.proofs.lemmas.Result.{on_ok_weaker}
use Rattle.iris_plain.specs.Checks.{blocks_of}
use Rattle.iris_rows.specs.declared.places.Place.{Place}
use Rattle.iris_rows.specs.Places.{ArePlacesKept, file_of, split_places}
use Rattle.iris_rows.proofs.KeptPlaces.{sliced}
use Rattle.iris_rows.proofs.KeptFiles.{fit_down, kept_down, fits_up, keeps_up}
use Rattle.iris_rows.proofs.places.refit.Goals as goal

cut_down : (c : goal.After-truncate) → c.truncate.new.self.items ≡ take (blocks_of c.args.size) (split_places c.args.size (c.args.counter + 1) c.args.places.now.items)
cut_down c =
    let long : length c.split.new.places ≡ c.args.places.now.len = c.split.auto.places ∙ c.as_mut_slice.ensures.len in
    let whole = sliced c.args.places.now.len c.split.new.places c.args.places.now.items long in
    c.truncate.ensures.items ∙ (λ i. take (c.blocks_of-blocks.ensures i) ((whole ∙ c.in_ok-split.ensures.ok ∙ ap (split_places c.args.size (c.args.counter + 1)) c.as_mut_slice.ensures.value) i))

pub returns-in_ok-split-clause-ok : goal.returns-in_ok-split-clause-ok
returns-in_ok-split-clause-ok c = ap (λ (ps : List Place). file_of (record { size = c.args.size; counter = c.args.counter + 1; places = ps })) (cut_down c)
    ∙ fit_down c.args.old c.args.size c.args.counter c.args.places.now.items c.if-size-old.true c.requires.kept

pub returns-in_ok-split-clause-kept : goal.returns-in_ok-split-clause-kept
returns-in_ok-split-clause-kept c = let P : List Place → Type 0 = λ ps. ArePlacesKept (record { size = c.args.size; counter = c.args.counter + 1; places = ps }) in
    subst P (sym (cut_down c)) (kept_down c.args.old c.args.size c.args.counter c.args.places.now.items c.if-size-old.true c.requires.kept)

pub returns-else-size-old-clause-ok : goal.returns-else-size-old-clause-ok
returns-else-size-old-clause-ok c = on_ok_weaker c.extend.result
    (fits_up c.args.old c.args.size c.args.counter c.args.places.now.items c.extend.new.places.items c.blocks_of-blocks.result c.blocks_of-blocks.ensures c.if-size-old.false c.requires.kept)
    c.extend.ensures.ok

pub returns-else-size-old-clause-kept : goal.returns-else-size-old-clause-kept
returns-else-size-old-clause-kept c = on_ok_weaker c.extend.result
    (keeps_up c.args.old c.args.size c.args.counter c.args.places.now.items c.extend.new.places.items c.blocks_of-blocks.result c.blocks_of-blocks.ensures c.if-size-old.false c.requires.kept c.requires.room)
    c.extend.ensures.ok
