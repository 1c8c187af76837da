use Rattle.std.proofs.Common.{◌≡◌, List, length, ◌∙◌, ap}
use Rattle.iris_rows.specs.declared.places.Place.{Place}
use Rattle.iris_rows.specs.Places.{StoredPlaces, file_of}
use Rattle.iris_rows.specs.FileChanges.{freed}
use Rattle.iris_rows.proofs.KeptPlaces.{sliced}
use Rattle.iris_rows.proofs.KeptFiles.{fit_free}
use Rattle.iris_rows.proofs.file.FileRow.free.Goals as goal

pub returns : goal.returns
returns c = let long : length c.free.new.places ≡ c.self.inside.places.len = c.free.auto.places ∙ c.as_mut_slice.ensures.len in
    ap (λ (ps : List Place). file_of (record { size = c.self.inside.size; counter = c.self.inside.counter; places = ps })) (sliced c.self.inside.places.len c.free.new.places c.self.inside.places.items long)
    ∙ fit_free c.self.inside.size c.self.inside.counter c.as_mut_slice.result.now c.free.new.places c.free.ensures.versions c.free.ensures.blocks
    ∙ ap (λ (ps : List Place). freed (file_of (record { size = c.self.inside.size; counter = c.self.inside.counter; places = ps }))) c.as_mut_slice.ensures.value
    ∙ ap (λ (f : StoredPlaces). freed (file_of f)) c.self.view_is
